-- The offsets decide the first broken rule and its place.
use Rattle.std.proofs.Common.{◌≡◌, ℕ, ℤ, List, inl, inr, refl, sym, ap, ◌∙◌, subst, arith, ⊎_elim}
use Rattle.std.proofs.lemmas.Bool.{cases_lt}
use Rattle.std.proofs.lemmas.Int.{ints, by_lt_z}
use Rattle.opc_base.specs.declared.plane.Pix.{Pix}
use Rattle.opc_base.specs.declared.rules.MaskRules.{MaskRules}
use Rattle.opc_base.specs.declared.broken.Broken.{Broken}
use Rattle.opc_base.specs.declared.broken.RuleName.{RuleName}
use Rattle.opc_base.specs.declared.broken.RuleName.TheVariants.{M0, M1, M2, M3, M4, M5}
use Rattle.opc_base.specs.declared.broken.Place.{Place}
use Rattle.opc_base.specs.declared.broken.Place.TheVariants.{Pixel, Fragment as FragmentNumber}
use Rattle.outline_model.specs.declared.fragment.Fragment.{Fragment}
use Rattle.outline_model.specs.Rules.{Breaks, ComesBefore, IsFirstBroken, rank}

same_rank : (r s : RuleName) → rank r ≡ rank s → r ≡ s
same_rank M0 M0 same = refl
same_rank M1 M1 same = refl
same_rank M2 M2 same = refl
same_rank M3 M3 same = refl
same_rank M4 M4 same = refl
same_rank M5 M5 same = refl
same_rank r s same = absurd (omega arith)

same_rule : (rules : MaskRules) (fs : List Fragment) (offsets : List ℤ) (r s : RuleName) (p q : Place) → IsFirstBroken rules fs offsets r p → IsFirstBroken rules fs offsets s q → r ≡ s
same_rule rules fs offsets r s p q first second = same_rank r s (⊎_elim
    (λ less. absurd (second.rules_before r p less first.broken))
    (λ not_less. ⊎_elim (λ more. absurd (first.rules_before s q more second.broken)) (λ not_more. omega arith) (cases_lt (rank s) (rank r)))
    (cases_lt (rank r) (rank s)))

-- no rule is broken both at pixels and at fragments
not_both : (rules : MaskRules) (fs : List Fragment) (offsets : List ℤ) (r : RuleName) (k : ℕ) (p : Pix) → Breaks rules fs offsets r (FragmentNumber k) → ¬ Breaks rules fs offsets r (Pixel p)
not_both rules fs offsets M0 k p at_fragment at_pixel = at_fragment
not_both rules fs offsets M1 k p at_fragment at_pixel = at_fragment
not_both rules fs offsets M2 k p at_fragment at_pixel = at_fragment
not_both rules fs offsets M3 k p at_fragment at_pixel = at_fragment
not_both rules fs offsets M4 k p at_fragment at_pixel = at_pixel
not_both rules fs offsets M5 k p at_fragment at_pixel = at_pixel

same_pixel : (p q : Pix) → ¬ ComesBefore (Pixel p) (Pixel q) → ¬ ComesBefore (Pixel q) (Pixel p) → p ≡ q
same_pixel p q not_before not_after =
    let row : p.y ≡ q.y =
    by_lt_z p.y q.y (λ less. absurd (not_before (inl less)))
    (λ not_less. by_lt_z q.y p.y (λ more. absurd (not_after (inl more))) (λ not_more. omega (arith, ints))) in
    let column : p.x ≡ q.x =
    by_lt_z p.x q.x (λ less. absurd (not_before (inr (row, less))))
    (λ not_less. by_lt_z q.x p.x (λ more. absurd (not_after (inr (sym row, more)))) (λ not_more. omega (arith, ints))) in
    ap (λ z. let at : Pix = record { x = z; y = p.y } in at) column ∙ ap (λ z. let at : Pix = record { x = q.x; y = z } in at) row

same_place : (rules : MaskRules) (fs : List Fragment) (offsets : List ℤ) (r : RuleName) (p q : Place) → Breaks rules fs offsets r p → Breaks rules fs offsets r q →
    ¬ ComesBefore p q → ¬ ComesBefore q p → p ≡ q
same_place rules fs offsets r (Pixel p) (Pixel q) at_p at_q not_before not_after = ap Pixel (same_pixel p q not_before not_after)
same_place rules fs offsets r (Pixel p) (FragmentNumber k) at_p at_q not_before not_after = absurd (not_both rules fs offsets r k p at_q at_p)
same_place rules fs offsets r (FragmentNumber j) (Pixel q) at_p at_q not_before not_after = absurd (not_both rules fs offsets r j q at_p at_q)
same_place rules fs offsets r (FragmentNumber j) (FragmentNumber k) at_p at_q not_before not_after = ap FragmentNumber (⊎_elim
    (λ less. absurd (not_before less))
    (λ not_less. ⊎_elim (λ more. absurd (not_after more)) (λ not_more. omega arith) (cases_lt k j))
    (cases_lt j k))

pub IsFirstBroken-unique : (rules : MaskRules) (fs : List Fragment) (offsets : List ℤ) (b c : Broken) → IsFirstBroken rules fs offsets b.rule b.at → IsFirstBroken rules fs offsets c.rule c.at → b ≡ c
IsFirstBroken-unique rules fs offsets b c first second =
    let rule : b.rule ≡ c.rule = same_rule rules fs offsets b.rule c.rule b.at c.at first second in
    let also : IsFirstBroken rules fs offsets b.rule c.at = subst (λ (r : RuleName). IsFirstBroken rules fs offsets r c.at) (sym rule) second in
    let place : b.at ≡ c.at = same_place rules fs offsets b.rule b.at c.at first.broken also.broken
    (λ before. also.places_before b.at before first.broken) (λ after. first.places_before c.at after also.broken) in
    ap (λ r. let one : Broken = record { rule = r; at = b.at } in one) rule ∙ ap (λ z. let one : Broken = record { rule = c.rule; at = z } in one) place
