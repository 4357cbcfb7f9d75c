-- The stretches that a move leaves as they are, and how near all of them keep to the target.
use Rattle.std.proofs.Common.{◌≡◌, ◌≢◌, ◌⊎◌, inl, inr, ℕ, ◌<◌, ◌≤◌, ℤ, pos, ◌+ℤ◌, ◌-ℤ◌, ◌≤ℤ◌, Bool, true, false, not, List, length, get_or, set, get_or-set_other, get_or-set_same, nat_lt, refl, sym, ◌∙◌, ap, subst, arith}
use Rattle.std.proofs.lemmas.Int.{ints}
use Rattle.std.proofs.lemmas.Bool.Decides.{eqb_tells}
use Rattle.std.proofs.lemmas.List.{get_or_past}
use borrow.Author.Tests.{ltb-true, ltb-false}
use Rattle.opc_base.specs.declared.plane.Side.{Side}
use Rattle.opc_base.specs.declared.plane.Side.TheVariants.{Left, Right, Down, Up}
use Rattle.outline_model.specs.declared.fragment.Join.{Join}
use Rattle.outline_model.specs.declared.fragment.Join.TheVariants.{Cut, Corner}
use Rattle.outline_model.specs.declared.fragment.Fragment.{Fragment}
use Rattle.outline_model.specs.Limits.{IsFragmentList}
use Rattle.outline_model.specs.Near.{IsWithinReach, KeepNear}
use Rattle.mask_rules.specs.Placements.{IsNearOffset}
use Rattle.outline_model.specs.Outline.{IsOutline, DiffersOnlyAt, fragment_at, side_of, outward, lines, end_at, start_join, start_place, finish_join, finish_place, joined, next, previous}
use Rattle.outline_model.proofs.Walk.{stands, previous_of_next}
use Rattle.outline_model.proofs.RuleLocality.{start_as_before, finish_as_before}
use Rattle.outline_model.proofs.Reach.{vertical_within, horizontal_within}
use Rattle.mask_rules.specs.Stretches.{walked, stretch_at, Spans, pixel_at}
use Rattle.mask_rules.proofs.StretchIs.{stretch-own, stretch-cut, stretch-corner}
use Rattle.mask_rules.proofs.Drawn.{upright_piece, level_piece}

same_or_turned : (a b : Bool) → (a ≡ b) ⊎ (a ≡ not b)
same_or_turned true true = inl refl
same_or_turned true false = inr refl
same_or_turned false true = inr refl
same_or_turned false false = inl refl

-- Only the moved fragment and those before and after it give other stretches than before.
pub stretch-same : (fs : List Fragment) (line line' : ℕ → ℤ) (i k : ℕ) (v : Bool) → IsOutline fs → DiffersOnlyAt i line line' → k < length fs
    → k ≢ previous fs i → k ≢ i → k ≢ next fs i → stretch_at fs line' v k ≡ stretch_at fs line v k
stretch-same fs line line' i k v outline others below not_before not_it not_after = elim (same_or_turned (stands fs k) v) [
  | inl own ↦
      stretch-own fs line' v k own
      ∙ ap (λ t. walked v t (end_at line' (start_join (fragment_at fs k)) (start_place (fragment_at fs k))) (end_at line' (finish_join (fragment_at fs k)) (finish_place (fragment_at fs k)))) (others k not_it)
      ∙ ap (λ t. walked v (line k) t (end_at line' (finish_join (fragment_at fs k)) (finish_place (fragment_at fs k)))) (start_as_before fs line line' i k outline others below not_after)
      ∙ ap (λ t. walked v (line k) (end_at line (start_join (fragment_at fs k)) (start_place (fragment_at fs k))) t) (finish_as_before fs line line' i k outline others below not_before)
      ∙ sym (stretch-own fs line v k own)
  | inr flat ↦ by flat (finish_join (fragment_at fs k)) refl
]
  where
    other : (j : ℕ) → joined (finish_join (fragment_at fs k)) ≡ j → line' j ≡ line j
    other j e = others j (λ here. not_before (sym (previous_of_next fs outline k below) ∙ ap (previous fs) (e ∙ here)))

    by : stands fs k ≡ not v → (t : Join) → finish_join (fragment_at fs k) ≡ t → stretch_at fs line' v k ≡ stretch_at fs line v k
    by flat (Cut j) e =
        stretch-cut fs line' v k j outline below flat e
        ∙ ap (λ t. walked v (finish_place (fragment_at fs k)) t (line' j)) (others k not_it)
        ∙ ap (λ t. walked v (finish_place (fragment_at fs k)) (line k) t) (other j (ap joined e))
        ∙ sym (stretch-cut fs line v k j outline below flat e)
    by flat (Corner j) e =
        stretch-corner fs line' v k j outline below flat e
        ∙ ap (λ t. walked v t (line' k) (line' k)) (other j (ap joined e))
        ∙ ap (λ t. walked v (line j) t t) (others k not_it)
        ∙ sym (stretch-corner fs line v k j outline below flat e)

-- ---- near the target

pub stretch_within : (fs : List Fragment) (line : ℕ → ℤ) (reach : ℤ) (v : Bool) (k : ℕ) (t : ℤ) → IsFragmentList fs → pos 0 ≤ℤ reach → KeepNear fs line reach → k < length fs
    → Spans (stretch_at fs line v k) t
    → IsWithinReach (fragment_at fs k) reach (pixel_at v (stretch_at fs line v k).at t).x (pixel_at v (stretch_at fs line v k).at t).y
stretch_within fs line reach true k t fragments least near below spans =
    let some = fragments.some k below in
    vertical_within fs line reach k (stretch_at fs line true k).at t fragments.outline near least below (omega (arith, ints))
    (elim (upright_piece fs line k t spans) [ inl h ↦ inl h.1 | inr h ↦ inr h.1 ])
stretch_within fs line reach false k t fragments least near below spans =
    let some = fragments.some k below in
    horizontal_within fs line reach k t (stretch_at fs line false k).at fragments.outline near least below (omega (arith, ints))
    (elim (level_piece fs line k t spans) [ inl h ↦ inl h.1 | inr h ↦ inr h.1 ])

outward_near : (reach : ℤ) (side : Side) (edge o : ℤ) → IsNearOffset reach o
    → ((edge -ℤ reach) ≤ℤ (edge +ℤ outward side o)) × ((edge +ℤ outward side o) ≤ℤ (edge +ℤ reach))
outward_near reach Left edge o within = let a = within.0 in let b = within.1 in (omega (arith, ints), omega (arith, ints))
outward_near reach Right edge o within = let a = within.0 in let b = within.1 in (omega (arith, ints), omega (arith, ints))
outward_near reach Down edge o within = let a = within.0 in let b = within.1 in (omega (arith, ints), omega (arith, ints))
outward_near reach Up edge o within = let a = within.0 in let b = within.1 in (omega (arith, ints), omega (arith, ints))

offset_within : (fs : List Fragment) (offsets : List ℤ) (i : ℕ) (to reach : ℤ) → length offsets ≡ length fs → i < length fs → pos 0 ≤ℤ reach
    → ((k : ℕ) → k < length fs → IsNearOffset reach (get_or offsets k (pos 0))) → IsNearOffset reach to
    → (k : ℕ) → IsNearOffset reach (get_or (set offsets i to) k (pos 0))
offset_within fs offsets i to reach one_each below least near to_near k = elim (eqb_tells k i) [
  | inl w ↦
      let inside : i < length offsets = subst (λ n. i < n) (sym one_each) below in
      subst (IsNearOffset reach) (sym (get_or-set_same {A = ℤ} offsets i to (pos 0) inside) ∙ ap (λ m. get_or (set offsets i to) m (pos 0)) (sym w.1)) to_near
  | inr w ↦ subst (IsNearOffset reach) (sym (get_or-set_other {A = ℤ} offsets i k to (pos 0) w.1)) (by (nat_lt k (length fs)) refl)
]
  where
    by : (t : Bool) → nat_lt k (length fs) ≡ t → IsNearOffset reach (get_or offsets k (pos 0))
    by true e = near k (ltb-true k (length fs) e)
    by false e =
        let past : length offsets ≤ k = subst (λ n. n ≤ k) (sym one_each) (ltb-false k (length fs) e) in
        subst (IsNearOffset reach) (sym (get_or_past offsets k (pos 0) past)) (omega (arith, ints), omega (arith, ints))

pub keep_near : (fs : List Fragment) (offsets : List ℤ) (i : ℕ) (to reach : ℤ) → length offsets ≡ length fs → i < length fs → pos 0 ≤ℤ reach
    → ((k : ℕ) → k < length fs → IsNearOffset reach (get_or offsets k (pos 0))) → IsNearOffset reach to
    → KeepNear fs (lines fs (set offsets i to)) reach
keep_near fs offsets i to reach one_each below least near to_near k =
    outward_near reach (side_of fs k) (fragment_at fs k).edge (get_or (set offsets i to) k (pos 0))
    (offset_within fs offsets i to reach one_each below least near to_near k)
