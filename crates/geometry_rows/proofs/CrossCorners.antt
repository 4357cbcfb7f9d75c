-- The eight corners of two bars that overlap give a set of pixels.
use Rattle.std.proofs.Common.{◌≡◌, ◌⊎◌, inl, inr, ℤ, pos, negsuc, ◌+ℤ◌, ◌≤ℤ◌, int_le, Bool, true, false, ◌&&◌, if◌then◌else◌, List, [], ◌∷◌, All, refl, ◌∙◌, ap, arith}
use Rattle.std.proofs.lemmas.Int.{ints}
use Rattle.std.proofs.lemmas.List.Elements.{All-from_recursion}
use Rattle.opc_base.specs.declared.plane.Corner.{Corner}
use Rattle.opc_base.specs.Corners.{quadrant_sum}
use Rattle.opc_base.specs.Sums.{sum_each}
use Rattle.rect_union.specs.CornerSets.{AreCornersOfSet, IsCornerWithin, corner}

abbrev pub corners : List Corner
corners =
    corner (pos 0) (pos 0) (pos 1) ∷ corner (pos 10) (pos 0) (negsuc 0) ∷ corner (pos 10) (pos 2) (pos 1) ∷ corner (pos 12) (pos 2) (negsuc 0)
    ∷ corner (pos 0) (pos 4) (negsuc 0) ∷ corner (pos 5) (pos 4) (pos 1) ∷ corner (pos 5) (pos 8) (negsuc 0) ∷ corner (pos 12) (pos 8) (pos 1) ∷ []

-- how many of four places a coordinate has passed
data Passed : Type 0 where
  none : Passed
  one : Passed
  two : Passed
  three : Passed
  four : Passed

abbrev first : Passed → Bool
first none = false
first _ = true

abbrev second : Passed → Bool
second none = false
second one = false
second _ = true

abbrev third : Passed → Bool
third three = true
third four = true
third _ = false

abbrev fourth : Passed → Bool
fourth four = true
fourth _ = false

record Passes (a b c d : Bool) : Type 0 where
  passed : Passed
  at_first : a ≡ first passed
  at_second : b ≡ second passed
  at_third : c ≡ third passed
  at_fourth : d ≡ fourth passed

passes : (a b c d : Bool) → (b ≡ true → a ≡ true) → (c ≡ true → b ≡ true) → (d ≡ true → c ≡ true) → Passes a b c d
passes false false false false p q r = record { passed = none; at_first = refl; at_second = refl; at_third = refl; at_fourth = refl }
passes true false false false p q r = record { passed = one; at_first = refl; at_second = refl; at_third = refl; at_fourth = refl }
passes true true false false p q r = record { passed = two; at_first = refl; at_second = refl; at_third = refl; at_fourth = refl }
passes true true true false p q r = record { passed = three; at_first = refl; at_second = refl; at_third = refl; at_fourth = refl }
passes true true true true p q r = record { passed = four; at_first = refl; at_second = refl; at_third = refl; at_fourth = refl }
passes false true c d p q r = absurd (let wrong : false ≡ true = p refl in let no : ⊥ = cc in no)
passes a false true d p q r = absurd (let wrong : false ≡ true = q refl in let no : ⊥ = cc in no)
passes a b false true p q r = absurd (let wrong : false ≡ true = r refl in let no : ⊥ = cc in no)

further : (a b x : ℤ) → a ≤ℤ b → int_le b x ≡ true → int_le a x ≡ true
further a b x below past = grind (arith, ints)

across : (x : ℤ) → Passes (int_le (pos 0) x) (int_le (pos 5) x) (int_le (pos 10) x) (int_le (pos 12) x)
across x =
    passes _ _ _ _ (further (pos 0) (pos 5) x (omega (arith, ints))) (further (pos 5) (pos 10) x (omega (arith, ints)))
    (further (pos 10) (pos 12) x (omega (arith, ints)))

upward : (y : ℤ) → Passes (int_le (pos 0) y) (int_le (pos 2) y) (int_le (pos 4) y) (int_le (pos 8) y)
upward y =
    passes _ _ _ _ (further (pos 0) (pos 2) y (omega (arith, ints))) (further (pos 2) (pos 4) y (omega (arith, ints)))
    (further (pos 4) (pos 8) y (omega (arith, ints)))

-- the sum of the signs, by what has been passed
abbrev part : Bool → Bool → ℤ → ℤ
part a b sign = if a && b then sign else pos 0

abbrev sum : (a b c d e f g h : Bool) → ℤ
sum a b c d e f g h =
    part a e (pos 1) +ℤ (part c e (negsuc 0) +ℤ (part c f (pos 1) +ℤ (part d f (negsuc 0)
    +ℤ (part a g (negsuc 0) +ℤ (part b g (pos 1) +ℤ (part b h (negsuc 0) +ℤ (part d h (pos 1) +ℤ pos 0)))))))

abbrev sum_passed : Passed → Passed → ℤ
sum_passed p q = sum (first p) (second p) (third p) (fourth p) (first q) (second q) (third q) (fourth q)

bit : (p q : Passed) → (sum_passed p q ≡ pos 0) ⊎ (sum_passed p q ≡ pos 1)
bit none q = inl refl
bit one none = inl refl
bit one one = inr refl
bit one two = inr refl
bit one three = inl refl
bit one four = inl refl
bit two none = inl refl
bit two one = inr refl
bit two two = inr refl
bit two three = inr refl
bit two four = inl refl
bit three none = inl refl
bit three one = inl refl
bit three two = inr refl
bit three three = inr refl
bit three four = inl refl
bit four none = inl refl
bit four one = inl refl
bit four two = inl refl
bit four three = inl refl
bit four four = inl refl

right_of_all : (q : Passed) → sum_passed four q ≡ pos 0
right_of_all none = refl
right_of_all _ = refl

above_all : (p : Passed) → sum_passed p four ≡ pos 0
above_all none = refl
above_all _ = refl

sum_by : (x y : ℤ) (p : Passes (int_le (pos 0) x) (int_le (pos 5) x) (int_le (pos 10) x) (int_le (pos 12) x))
    (q : Passes (int_le (pos 0) y) (int_le (pos 2) y) (int_le (pos 4) y) (int_le (pos 8) y)) → quadrant_sum corners x y ≡ sum_passed p.passed q.passed
unfolding sum_each
sum_by x y p q =
    rw (p.at_first, p.at_second, p.at_third, p.at_fourth, q.at_first, q.at_second, q.at_third, q.at_fourth) refl

sum_is : (x y : ℤ) → quadrant_sum corners x y ≡ sum_passed (across x).passed (upward y).passed
sum_is x y = sum_by x y (across x) (upward y)

far_right : (p : Passed) → true ≡ fourth p → p ≡ four
far_right four e = refl
far_right _ e = absurd (let no : ⊥ = cc in no)

at_bit : (z w : ℤ) → z ≡ w → (w ≡ pos 0) ⊎ (w ≡ pos 1) → (z ≡ pos 0) ⊎ (z ≡ pos 1)
at_bit z w e (inl nothing) = inl (e ∙ nothing)
at_bit z w e (inr whole) = inr (e ∙ whole)

past : (a x : ℤ) → a ≤ℤ x → true ≡ int_le a x
past a x below = grind (arith, ints)

within : All (IsCornerWithin 1048576) corners
within = All-from_recursion (IsCornerWithin 1048576) corners ((omega arith, omega arith), ((omega arith, omega arith), ((omega arith, omega arith), ((omega arith, omega arith), ((omega arith, omega arith), ((omega arith, omega arith), ((omega arith, omega arith), ((omega arith, omega arith), tt))))))))

pub are_corners : AreCornersOfSet corners
are_corners = record {
  bits = λ x y. at_bit _ _ (sum_is x y) (bit (across x).passed (upward y).passed);
  within = within;
  none_right = λ x y right. (
      let all = far_right (across x).passed (past (pos 12) x (omega (arith, ints)) ∙ (across x).at_fourth) in
      sum_is x y ∙ ap (λ p. sum_passed p (upward y).passed) all ∙ right_of_all (upward y).passed);
  none_above = λ x y above. (
      let all = far_right (upward y).passed (past (pos 8) y (omega (arith, ints)) ∙ (upward y).at_fourth) in
      sum_is x y ∙ ap (λ q. sum_passed (across x).passed q) all ∙ above_all (across x).passed);
}
