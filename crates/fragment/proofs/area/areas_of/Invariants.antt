-- The areas of the fragments so far.
use Rattle.std.proofs.Common.{◌≡◌, take}
use Rattle.fragment.specs.Index.{areas_of}
use Rattle.fragment.proofs.area.areas_of.Given as goal

abbrev pub invariant-loop-fragment : goal.invariant-loop-fragment
invariant-loop-fragment l = l.areas.items ≡ areas_of (take l.fragment-index l.fragments)
