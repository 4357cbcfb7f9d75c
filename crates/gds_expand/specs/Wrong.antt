-- The wrong reference of the lowest offset.
use Rattle.std.specs.Prelude.{◌≡◌, ℕ, ◌<◌, ◌≤◌, nat_lt, Bool, Option, Some, None, IsSome, List, Contains, if◌then◌else◌}
use Rattle.gds_model.specs.declared.elements.Element.{Element}
use Rattle.gds_model.specs.declared.elements.Element.TheVariants.{Shape as shape, Reference as reference}
use Rattle.gds_model.specs.declared.elements.Structure.{Structure}
use Rattle.gds_model.specs.declared.place_fault.PlaceFault.{PlaceFault}
use Rattle.gds_model.specs.declared.reference.Reference.{Reference}
use Rattle.gds_model.specs.PlaceFaults.{reference_fault}
use Rattle.gds_model.specs.Reach.{elements_at}
use Rattle.gds_expand.specs.declared.wrong.Wrong.{Wrong}
use Rattle.structure_graph.specs.Graph.{IsMarked}

-- of two wrong references the one of the lower offset
abbrev pub lower : Option Wrong → ℕ → Option PlaceFault → Option Wrong
lower best offset None = best
lower None offset (Some fault) = Some (record { offset = offset; fault = fault })
lower (Some old) offset (Some fault) = if nat_lt offset old.offset then Some (record { offset = offset; fault = fault }) else Some old

abbrev pub lower_by : List Structure → Option Wrong → Element → Option Wrong
lower_by library best (shape s) = best
lower_by library best (reference r) = lower best r.offset (reference_fault library r)

-- this is the wrong one of the lowest offset among these references, or none of them is wrong
abbrev pub IsLowest : List Structure → (Reference → Type 0) → Option Wrong → Type 0
IsLowest library Q None = (q : Reference) → Q q → reference_fault library q ≡ None
IsLowest library Q (Some wrong) = (r : Reference) × Q r × (r.offset ≡ wrong.offset) × (reference_fault library r ≡ Some wrong.fault)
    × ((q : Reference) → Q q → IsSome (reference_fault library q) → wrong.offset ≤ q.offset)

-- a reference of a marked structure whose number is lower than this
abbrev pub IsMarkedBelow : List Structure → List Bool → ℕ → Reference → Type 0
IsMarkedBelow library marks n r = (s : ℕ) × (s < n) × IsMarked marks s × Contains (elements_at library s) (reference r)
