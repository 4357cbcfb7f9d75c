-- A set of pixels has one list of canonical rectangles at most.
use Rattle.std.proofs.Common.{◌≡◌, inl, inr, ℤ, Bool, List, arith}
use Rattle.std.proofs.lemmas.Int.{ints}
use Rattle.opc_base.specs.declared.plane.Rect.{Rect}
use Rattle.opc_base.specs.Canonical.{IsCanonical, StartsBefore}
use Rattle.opc_base.proofs.ListsInOrder.{same_if_ordered}

starts_once : (r s : Rect) → StartsBefore r s → ¬ StartsBefore s r
starts_once r s first second = elim first [
  | inl low ↦ elim second [
    | inl high ↦ omega (arith, ints)
    | inr level ↦ (let same = level.0 in omega (arith, ints))
  ]
  | inr level ↦ (let same = level.0 in let left = level.1 in elim second [
    | inl high ↦ omega (arith, ints)
    | inr other ↦ (let right = other.1 in omega (arith, ints))
  ])
]

pub canonical_is_unique : (inside : ℤ → ℤ → Bool) (rects others : List Rect)
    → IsCanonical inside rects → IsCanonical inside others → rects ≡ others
canonical_is_unique inside rects others first second =
    same_if_ordered StartsBefore starts_once rects others first.sorted second.sorted
    (λ r at. second.complete r (first.stacks r at)) (λ r at. first.complete r (second.stacks r at))
