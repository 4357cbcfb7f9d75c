-- The first pixels so far are those of the fragments so far.
use Rattle.std.proofs.Common.{◌≡◌}
use Rattle.mask_rules.specs.Found.{none_found}
use Rattle.mask_rules.specs.Placements.{line_of}
use Rattle.mask_rules.proofs.FoundLaws.{all_found, each_from}
use Rattle.mask_rules.proofs.search.first_found.Given as goal

abbrev pub invariant-loop-k : goal.invariant-loop-k
invariant-loop-k l =
    l.first ≡ each_from (all_found l.fn.rules l.fn.outline.fragments.now (line_of l.fn.outline) l.fn.outline.moved) none_found l.yielded
