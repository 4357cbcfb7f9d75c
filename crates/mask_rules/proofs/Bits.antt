-- Signed numbers that fit 32 bits, as the code sees them.
use Rattle.std.proofs.Common.{◌≡◌, ◌≢◌, inl, inr, ℤ, Bool, true, false, nat_eq, w32, to_z, of_z, SFits, refl, sym, ◌∙◌, ap}
use Rattle.std.specs.Ordering.{int_eq}
use Rattle.std.proofs.lemmas.Int.{to_z-of_z}
use Rattle.std.proofs.lemmas.Bool.Decides.{Decides-int_eq, eqb_tells}
use Rattle.opc_base.specs.declared.plane.Rect.{Rect}
use Rattle.mask_rules.specs.Stretches.{rect_at}

-- `==` on the bits is that of the numbers
pub bits_eq : (a b : ℤ) → SFits w32 a → SFits w32 b → nat_eq (of_z w32 a) (of_z w32 b) ≡ int_eq a b
bits_eq a b a_fits b_fits = elim (eqb_tells (of_z w32 a) (of_z w32 b)) [
  | inl w ↦
      let same : a ≡ b = sym (to_z-of_z w32 a a_fits) ∙ ap (to_z w32) w.1 ∙ to_z-of_z w32 b b_fits in
      w.0 ∙ sym ((Decides-int_eq a b).1 same)
  | inr w ↦ w.0 ∙ sym (by (int_eq a b) refl w.1)
]
  where
    by : (t : Bool) → int_eq a b ≡ t → of_z w32 a ≢ of_z w32 b → t ≡ false
    by true e apart = absurd (apart (ap (of_z w32) ((Decides-int_eq a b).0 e)))
    by false e apart = refl

-- a rectangle that is given by equal places
pub rect_is : (v : Bool) (r : Rect) (a b c d a' b' c' d' : ℤ) → r ≡ rect_at v a b c d → a ≡ a' → b ≡ b' → c ≡ c' → d ≡ d' → r ≡ rect_at v a' b' c' d'
rect_is v r a b c d a' b' c' d' e f g h i =
    e ∙ ap (λ t. rect_at v t b c d) f ∙ ap (λ t. rect_at v a' t c d) g ∙ ap (λ t. rect_at v a' b' t d) h ∙ ap (λ t. rect_at v a' b' c' t) i
