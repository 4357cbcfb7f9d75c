-- Sums of integers over the numbers below a bound.
use Rattle.std.proofs.Common.{◌≡◌, ◌≢◌, inl, inr, ℕ, zero, suc, ◌<◌, ℤ, pos, ◌+ℤ◌, ◌-ℤ◌, ◌==◌, if◌then◌else◌, refl, sym, ◌∙◌, ap, arith}
use Rattle.std.proofs.lemmas.Int.{ints}
use Rattle.std.proofs.lemmas.Bool.Decides.{eqb_tells}
use Rattle.outline_model.specs.Outline.{total}

pub total-equal : (n : ℕ) (f g : ℕ → ℤ) → ((k : ℕ) → k < n → f k ≡ g k) → total n f ≡ total n g
total-equal zero f g same = refl
total-equal (suc n) f g same =
    let before : total n f ≡ total n g = total-equal n f g (λ k h. same k (omega arith)) in
    let last : f n ≡ g n = same n (omega arith) in omega (arith, ints)

pub total-zero : (n : ℕ) (f : ℕ → ℤ) → ((k : ℕ) → k < n → f k ≡ pos 0) → total n f ≡ pos 0
total-zero zero f none = refl
total-zero (suc n) f none =
    let before : total n f ≡ pos 0 = total-zero n f (λ k h. none k (omega arith)) in
    let last : f n ≡ pos 0 = none n (omega arith) in omega (arith, ints)

pub total-add : (n : ℕ) (f g : ℕ → ℤ) → total n (λ k. f k +ℤ g k) ≡ total n f +ℤ total n g
total-add zero f g = refl
total-add (suc n) f g =
    let before : total n (λ k. f k +ℤ g k) ≡ total n f +ℤ total n g = total-add n f g in omega (arith, ints)

pub total-sub : (n : ℕ) (f g : ℕ → ℤ) → total n (λ k. f k -ℤ g k) ≡ total n f -ℤ total n g
total-sub zero f g = refl
total-sub (suc n) f g =
    let before : total n (λ k. f k -ℤ g k) ≡ total n f -ℤ total n g = total-sub n f g in omega (arith, ints)

-- two sums that differ in one term alone
pub total-one : (n : ℕ) (f g : ℕ → ℤ) (i : ℕ) → i < n → ((k : ℕ) → k < n → k ≢ i → f k ≡ g k)
    → total n f ≡ total n g +ℤ (f i -ℤ g i)
total-one zero f g i below same = absurd (omega arith)
total-one (suc n) f g i below same =
    elim (eqb_tells i n) [
      | inl w ↦
          let here : i ≡ n = w.1 in
          let before : total n f ≡ total n g = total-equal n f g (λ k h. same k (omega arith) (omega arith)) in
          let at_f : f i ≡ f n = ap f here in
          let at_g : g i ≡ g n = ap g here in omega (arith, ints)
      | inr w ↦
          let apart : i ≢ n = w.1 in
          let before : total n f ≡ total n g +ℤ (f i -ℤ g i) = total-one n f g i (omega arith) (λ k h. same k (omega arith)) in
          let last : f n ≡ g n = same n (omega arith) (omega arith) in omega (arith, ints)
    ]

-- a value where the numbers are equal, and else 0
abbrev pub at_equal : ℕ → ℕ → ℤ → ℤ
at_equal i j value = if i == j then value else pos 0

at_equal-same : (i j : ℕ) (value : ℤ) → i ≡ j → at_equal i j value ≡ value
at_equal-same i j value e = grind (arith, eqb_tells)

at_equal-other : (i j : ℕ) (value : ℤ) → i ≢ j → at_equal i j value ≡ pos 0
at_equal-other i j value e = grind (arith, eqb_tells)

-- the two tests agree
at_equal-swap : (i j a b : ℕ) (value : ℤ) → (i ≡ j → a ≡ b) → (a ≡ b → i ≡ j) → at_equal i j value ≡ at_equal a b value
at_equal-swap i j a b value there back =
    elim (eqb_tells i j) [
      | inl w ↦ at_equal-same i j value w.1 ∙ sym (at_equal-same a b value (there w.1))
      | inr w ↦ at_equal-other i j value w.1 ∙ sym (at_equal-other a b value (λ e. w.1 (back e)))
    ]

pub total-at_equal : (n j : ℕ) (f : ℕ → ℤ) → j < n → total n (λ k. at_equal k j (f k)) ≡ f j
total-at_equal n j f below =
    let one = total-one n (λ k. at_equal k j (f k)) (λ k. pos 0) j below (λ k h apart. at_equal-other k j (f k) apart) in
    let none : total n (λ k. pos 0) ≡ pos 0 = total-zero n (λ k. pos 0) (λ k h. refl) in
    let here : at_equal j j (f j) ≡ f j = at_equal-same j j (f j) refl in omega (arith, ints)

-- the order of two sums
total-exchange : (n m : ℕ) (f : ℕ → ℕ → ℤ) → total n (λ i. total m (f i)) ≡ total m (λ j. total n (λ i. f i j))
total-exchange zero m f = sym (total-zero m (λ j. pos 0) (λ j h. refl))
total-exchange (suc n) m f =
    let before : total n (λ i. total m (f i)) ≡ total m (λ j. total n (λ i. f i j)) = total-exchange n m f in
    let split : total m (λ j. total n (λ i. f i j) +ℤ f n j) ≡ total m (λ j. total n (λ i. f i j)) +ℤ total m (f n)
    = total-add m (λ j. total n (λ i. f i j)) (f n) in omega (arith, ints)

-- A sum taken in another order, that of `to`, whose inverse is `back`.
pub total-permuted : (n : ℕ) (f : ℕ → ℤ) (to back : ℕ → ℕ)
    → ((i : ℕ) → i < n → to i < n) → ((i : ℕ) → i < n → back (to i) ≡ i)
    → ((i : ℕ) → i < n → to (back i) ≡ i) → ((i : ℕ) → i < n → back i < n)
    → total n (λ i. f (to i)) ≡ total n f
total-permuted n f to back to_in back_to to_back back_in =
    total-equal n (λ i. f (to i)) (λ i. total n (λ j. at_equal j (to i) (f j)))
    (λ i h. sym (total-at_equal n (to i) f (to_in i h)))
    ∙ total-exchange n n (λ i j. at_equal j (to i) (f j))
    ∙ total-equal n (λ j. total n (λ i. at_equal j (to i) (f j))) f (λ j h.
    total-equal n (λ i. at_equal j (to i) (f j)) (λ i. at_equal i (back j) (f j)) (λ i g.
    at_equal-swap j (to i) i (back j) (f j)
    (λ e. sym (back_to i g) ∙ ap back (sym e)) (λ e. sym (to_back j h) ∙ ap to (sym e)))
    ∙ total-at_equal n (back j) (λ i. f j) (back_in j h))
