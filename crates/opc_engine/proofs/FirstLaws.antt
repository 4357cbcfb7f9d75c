-- A target has one first broken rule.
use Rattle.std.proofs.Common.{◌≡◌, ◌⊎◌, inl, inr, ℕ, zero, suc, ◌<◌, refl, ap, sym, ◌∙◌, subst, arith, ⊎_elim}
use Rattle.std.proofs.lemmas.Bool.{cases_lt}
use Rattle.std.proofs.lemmas.Int.{by_lt_z, ints}
use Rattle.opc_base.specs.Plane.{PixelSet}
use Rattle.opc_base.specs.declared.broken.Broken.{Broken}
use Rattle.opc_base.specs.declared.broken.Place.{Place}
use Rattle.opc_base.specs.declared.broken.Place.TheVariants.{Pixel, Fragment as FragmentNumber}
use Rattle.opc_base.specs.declared.broken.RuleName.{RuleName}
use Rattle.opc_base.specs.declared.broken.RuleName.TheVariants.{M0, M1, M2, M3, M4, M5}
use Rattle.opc_base.specs.declared.plane.Pix.{Pix}
use Rattle.opc_base.specs.declared.rules.MaskRules.{MaskRules}
use Rattle.outline_model.specs.Rules.{ComesBefore, rank}
use Rattle.mask_rules.specs.TargetRules.{BreaksTarget, IsFirstBrokenOf}

-- a rule by its rank
abbrev of_rank : ℕ → RuleName
of_rank zero = M5
of_rank (suc zero) = M4
of_rank (suc (suc zero)) = M0
of_rank (suc (suc (suc zero))) = M1
of_rank (suc (suc (suc (suc zero)))) = M2
of_rank (suc (suc (suc (suc (suc n))))) = M3

rank_back : (r : RuleName) → of_rank (rank r) ≡ r
rank_back M0 = refl
rank_back M1 = refl
rank_back M2 = refl
rank_back M3 = refl
rank_back M4 = refl
rank_back M5 = refl

rank_one : (r s : RuleName) → rank r ≡ rank s → r ≡ s
rank_one r s is = sym (rank_back r) ∙ ap of_rank is ∙ rank_back s

-- ---- places

abbrev Either : Place → Place → Type 0
Either p q = ComesBefore p q ⊎ ((p ≡ q) ⊎ ComesBefore q p)

pix_one : (p q : Pix) → p.x ≡ q.x → p.y ≡ q.y → p ≡ q
pix_one p q a b = λ i. record { x = a i; y = b i }

pixels_by : (p q : Pix) → Either (Pixel p) (Pixel q)
pixels_by p q =
    by_lt_z p.y q.y (λ low. inl (inl low)) (λ y_least.
    by_lt_z q.y p.y (λ high. inr (inr (inl high))) (λ y_most.
    let y : p.y ≡ q.y = omega (arith, ints, y_least, y_most) in
    by_lt_z p.x q.x (λ left. inl (inr (y, left))) (λ x_least.
    by_lt_z q.x p.x (λ right. inr (inr (inr (sym y, right)))) (λ x_most.
    inr (inl (ap Pixel (pix_one p q (omega (arith, ints, x_least, x_most)) y)))))))

-- ---- the first broken rule

module _ (Wrong : RuleName → Place → Type 0) (kinds : (rule : RuleName) (p q : Place) → Wrong rule p → Wrong rule q → Either p q) where
  record IsFirst (rule : RuleName) (place : Place) : Type 0 where
    broken : Wrong rule place
    rules_before : (r : RuleName) (p : Place) → rank r < rank rule → ¬ Wrong r p
    places_before : (p : Place) → ComesBefore p place → ¬ Wrong rule p

  same_rank : (r s : RuleName) (p q : Place) → IsFirst r p → IsFirst s q → rank r ≡ rank s
  same_rank r s p q a b =
      ⊎_elim (λ less. absurd (b.rules_before r p less a.broken)) (λ least. ⊎_elim (λ more. absurd (a.rules_before s q more b.broken)) (λ most. omega arith) (cases_lt (rank s) (rank r))) (cases_lt (rank r) (rank s))

  same_place : (r : RuleName) (p q : Place) → IsFirst r p → IsFirst r q → p ≡ q
  same_place r p q a b = elim (kinds r p q a.broken b.broken) [
    | inl before ↦ absurd (b.places_before p before a.broken)
    | inr later ↦ elim later [ inl same ↦ same | inr after ↦ absurd (a.places_before q after b.broken) ]
  ]

  first_one : (r s : RuleName) (p q : Place) → IsFirst r p → IsFirst s q → (r ≡ s) × (p ≡ q)
  first_one r s p q a b =
      let same = rank_one r s (same_rank r s p q a b) in
      let P : RuleName → Type 0 = λ x. IsFirst x p in
      (same, same_place s p q (subst P same a) b)

broken_one : (a b : Broken) → a.rule ≡ b.rule → a.at ≡ b.at → a ≡ b
broken_one a b r p = λ i. record { rule = r i; at = p i }

target_kinds : (rules : MaskRules) (pixels : PixelSet) (rule : RuleName) (p q : Place) → BreaksTarget rules pixels rule p → BreaksTarget rules pixels rule q → Either p q
target_kinds rules pixels rule (Pixel p) (Pixel q) a b = pixels_by p q
target_kinds rules pixels rule (Pixel p) (FragmentNumber k) a b = absurd b
target_kinds rules pixels rule (FragmentNumber k) q a b = absurd a

pub target_broken_one : (rules : MaskRules) (pixels : PixelSet) (a b : Broken) → IsFirstBrokenOf rules pixels a → IsFirstBrokenOf rules pixels b → a ≡ b
target_broken_one rules pixels a b x y =
    let one = first_one (BreaksTarget rules pixels) (target_kinds rules pixels) a.rule b.rule a.at b.at
    (record { broken = x.broken; rules_before = x.rules_before; places_before = x.places_before })
    (record { broken = y.broken; rules_before = y.rules_before; places_before = y.places_before }) in
    broken_one a b one.0 one.1
