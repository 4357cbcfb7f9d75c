-- Laws of the sums.
use Rattle.std.proofs.Common.{length, take, get_or, ◌++◌, ◌≡◌, ℕ, zero, suc, ◌+◌, ◌*◌, ◌<◌, ℤ, pos, ◌+ℤ◌, ◌-ℤ◌, ◌*ℤ◌, neg_ℤ, List, [], ◌∷◌, refl, ap, ap₂, ◌∙◌, sym, arith, add-one, add-zero, add-suc, ◌-◌, ◌≤◌, ◌≤ℤ◌, ◌<ℤ◌, int_le, unsigned_abs, if◌then◌else◌}
use Rattle.std.proofs.Math.Path.{fun_ext}
use Rattle.std.proofs.Math.IntN.{*ℤ-zero, +ℤ_idr}
use borrow.Author.Differences.{up, down, sum_is_lem}
use Rattle.std.proofs.lemmas.Int.{ints}
use Rattle.std.proofs.lemmas.List.{take_more}
use Rattle.opc_base.specs.Sums.{sum_range, sum_within, sum_window, sum_each}

pub sum_range-add : (f g : ℤ → ℤ) (a : ℤ) (n : ℕ) → sum_range (λ i. f i +ℤ g i) a n ≡ sum_range f a n +ℤ sum_range g a n
unfolding sum_range
sum_range-add f g a zero = refl
sum_range-add f g a (suc n) = omega (arith, ints, sum_range-add f g a n)

pub sum_range-sub : (f g : ℤ → ℤ) (a : ℤ) (n : ℕ) → sum_range (λ i. f i -ℤ g i) a n ≡ sum_range f a n -ℤ sum_range g a n
unfolding sum_range
sum_range-sub f g a zero = refl
sum_range-sub f g a (suc n) = omega (arith, ints, sum_range-sub f g a n)

-- two functions that agree on the range have one sum
pub sum_range-same : (f g : ℤ → ℤ) (a : ℤ) (n : ℕ) → ((k : ℕ) → k < n → f (a +ℤ pos k) ≡ g (a +ℤ pos k)) → sum_range f a n ≡ sum_range g a n
unfolding sum_range
sum_range-same f g a zero same = refl
sum_range-same f g a (suc n) same = ap₂ (λ s t. s +ℤ t) (sum_range-same f g a n (λ k below. same k (omega arith))) (same n (omega arith))

pub sum_window-add : (r : ℕ) (g h : ℤ → ℤ → ℤ) → sum_window r (λ u v. g u v +ℤ h u v) ≡ sum_window r g +ℤ sum_window r h
sum_window-add r g h =
    ap (sum_within r) (fun_ext (λ v. sum_range-add (λ u. g u v) (λ u. h u v) (neg_ℤ (pos r)) (2 * r + 1)))
    ∙ sum_range-add (λ v. sum_within r (λ u. g u v)) (λ v. sum_within r (λ u. h u v)) (neg_ℤ (pos r)) (2 * r + 1)

pub sum_window-sub : (r : ℕ) (g h : ℤ → ℤ → ℤ) → sum_window r (λ u v. g u v -ℤ h u v) ≡ sum_window r g -ℤ sum_window r h
sum_window-sub r g h =
    ap (sum_within r) (fun_ext (λ v. sum_range-sub (λ u. g u v) (λ u. h u v) (neg_ℤ (pos r)) (2 * r + 1)))
    ∙ sum_range-sub (λ v. sum_within r (λ u. g u v)) (λ v. sum_within r (λ u. h u v)) (neg_ℤ (pos r)) (2 * r + 1)

-- the sum of the function that is 0 everywhere
pub sum_range-zero : (a : ℤ) (n : ℕ) → sum_range (λ i. pos 0) a n ≡ pos 0
unfolding sum_range
sum_range-zero a zero = refl
sum_range-zero a (suc n) = omega (arith, ints, sum_range-zero a n)

pub sum_window-zero : (r : ℕ) → sum_window r (λ u v. pos 0) ≡ pos 0
sum_window-zero r =
    ap (sum_within r) (fun_ext (λ v. sum_range-zero (neg_ℤ (pos r)) (2 * r + 1))) ∙ sum_range-zero (neg_ℤ (pos r)) (2 * r + 1)

pub sum_window-same : (r : ℕ) (g h : ℤ → ℤ → ℤ) → ((u v : ℤ) → g u v ≡ h u v) → sum_window r g ≡ sum_window r h
sum_window-same r g h same = ap (sum_window r) (fun_ext (λ u. fun_ext (same u)))

-- ---- products
pub mul-add : (a b c : ℤ) → a *ℤ (b +ℤ c) ≡ a *ℤ b +ℤ a *ℤ c
mul-add a b c = omega (arith, ints, ap (λ n. up a * n) (sum_is_lem b c), ap (λ n. down a * n) (sum_is_lem b c))

pub sum_range-scale : (s : ℤ) (f : ℤ → ℤ) (a : ℤ) (n : ℕ) → sum_range (λ i. s *ℤ f i) a n ≡ s *ℤ sum_range f a n
unfolding sum_range
sum_range-scale s f a zero = sym (*ℤ-zero s)
sum_range-scale s f a (suc n) =
    ap (λ t. t +ℤ s *ℤ f (a +ℤ pos n)) (sum_range-scale s f a n) ∙ sym (mul-add s (sum_range f a n) (f (a +ℤ pos n)))

pub sum_window-scale : (r : ℕ) (s : ℤ) (g : ℤ → ℤ → ℤ) → sum_window r (λ u v. s *ℤ g u v) ≡ s *ℤ sum_window r g
sum_window-scale r s g =
    ap (sum_within r) (fun_ext (λ v. sum_range-scale s (λ u. g u v) (neg_ℤ (pos r)) (2 * r + 1)))
    ∙ sum_range-scale s (λ v. sum_within r (λ u. g u v)) (neg_ℤ (pos r)) (2 * r + 1)

-- a sum over a list and a sum over the window change places
pub sum_window-sum_each : {A : Type 0} (r : ℕ) (g : A → ℤ → ℤ → ℤ) (xs : List A) →
    sum_window r (λ u v. sum_each (λ x. g x u v) xs) ≡ sum_each (λ x. sum_window r (g x)) xs
unfolding sum_each
sum_window-sum_each r g [] = sum_window-zero r
sum_window-sum_each r g (x ∷ xs) =
    sum_window-add r (g x) (λ u v. sum_each (λ x. g x u v) xs) ∙ ap (λ s. sum_window r (g x) +ℤ s) (sum_window-sum_each r g xs)

pub sum_each-same : {A : Type 0} (f g : A → ℤ) (xs : List A) → ((x : A) → f x ≡ g x) → sum_each f xs ≡ sum_each g xs
sum_each-same f g xs same = ap (λ h. sum_each h xs) (fun_ext same)

pub sum_each-scale : {A : Type 0} (s : ℤ) (f : A → ℤ) (xs : List A) → sum_each (λ x. s *ℤ f x) xs ≡ s *ℤ sum_each f xs
unfolding sum_each
sum_each-scale s f [] = sym (*ℤ-zero s)
sum_each-scale s f (x ∷ xs) = ap (λ t. s *ℤ f x +ℤ t) (sum_each-scale s f xs) ∙ sym (mul-add s (f x) (sum_each f xs))

-- ---- the steps of a loop
pub sum_range-next : (f : ℤ → ℤ) (a : ℤ) (n : ℕ) → sum_range f a (n + 1) ≡ sum_range f a n +ℤ f (a +ℤ pos n)
unfolding sum_range
sum_range-next f a n = rw add-one

-- the sum so far and one more term
pub sum_range_step : (f : ℤ → ℤ) (a : ℤ) (n : ℕ) (sum term next : ℤ) → sum ≡ sum_range f a n → term ≡ f (a +ℤ pos n) →
    next ≡ sum +ℤ term → next ≡ sum_range f a (n + 1)
sum_range_step f a n sum term next so_far here added = added ∙ ap₂ (λ s t. s +ℤ t) so_far here ∙ sym (sum_range-next f a n)

-- before the first term
pub sum_range_start : (f : ℤ → ℤ) (a : ℤ) → pos 0 ≡ sum_range f a 0
unfolding sum_range
sum_range_start f a = refl

-- ---- ranges
pub sum_range-split : (f : ℤ → ℤ) (a : ℤ) (m n : ℕ) → sum_range f a (m + n) ≡ sum_range f a m +ℤ sum_range f (a +ℤ pos m) n
unfolding sum_range
sum_range-split f a m zero = rw (add-zero) (omega (arith, ints))
sum_range-split f a m (suc n) =
    let place : a +ℤ pos (m + n) ≡ a +ℤ pos m +ℤ pos n = omega (arith, ints) in
    rw (add-suc, place) (omega (arith, ints, sum_range-split f a m n))

taken : (i j e : ℤ) → i ≤ℤ j → (if int_le i j then e else pos 0) ≡ e
taken i j e below = grind (arith, ints)

left_out : (i j e : ℤ) → j <ℤ i → (if int_le i j then e else pos 0) ≡ pos 0
left_out i j e above = grind (arith, ints)

-- the terms up to a place within the range
pub sum_range-upto : (f : ℤ → ℤ) (a : ℤ) (m n : ℕ) → m < n →
    sum_range (λ i. if int_le i (a +ℤ pos m) then f i else pos 0) a n ≡ sum_range f a (m + 1)
sum_range-upto f a m n below =
    let upto : ℤ → ℤ = λ i. if int_le i (a +ℤ pos m) then f i else pos 0 in
    let rest : ℤ = a +ℤ pos (m + 1) in
    let whole : n ≡ m + 1 + (n - (m + 1)) = omega arith in
    let first : sum_range upto a (m + 1) ≡ sum_range f a (m + 1) =
    sum_range-same upto f a (m + 1) (λ k here. taken (a +ℤ pos k) (a +ℤ pos m) (f (a +ℤ pos k)) (omega (arith, ints))) in
    let second : sum_range upto rest (n - (m + 1)) ≡ pos 0 =
    sum_range-same upto (λ i. pos 0) rest (n - (m + 1)) (λ k here. left_out (rest +ℤ pos k) (a +ℤ pos m) (f (rest +ℤ pos k)) (omega (arith, ints)))
    ∙ sum_range-zero rest (n - (m + 1)) in
    rw whole (sum_range-split upto a (m + 1) (n - (m + 1)) ∙ ap₂ (λ s t. s +ℤ t) first second ∙ +ℤ_idr (sum_range f a (m + 1)))

-- functions that agree from -r to r have one sum
pub sum_within-same : (r : ℕ) (f g : ℤ → ℤ) → ((u : ℤ) → neg_ℤ (pos r) ≤ℤ u → u ≤ℤ pos r → f u ≡ g u) → sum_within r f ≡ sum_within r g
sum_within-same r f g same = sum_range-same f g (neg_ℤ (pos r)) (2 * r + 1) (λ k below. same (neg_ℤ (pos r) +ℤ pos k) (omega (arith, ints)) (omega (arith, ints)))

pub sum_window-same_within : (r : ℕ) (g h : ℤ → ℤ → ℤ) →
    ((u v : ℤ) → neg_ℤ (pos r) ≤ℤ u → u ≤ℤ pos r → neg_ℤ (pos r) ≤ℤ v → v ≤ℤ pos r → g u v ≡ h u v) → sum_window r g ≡ sum_window r h
sum_window-same_within r g h same =
    sum_within-same r (λ v. sum_within r (λ u. g u v)) (λ v. sum_within r (λ u. h u v))
    (λ v low_v high_v. sum_within-same r (λ u. g u v) (λ u. h u v) (λ u low_u high_u. same u v low_u high_u low_v high_v))

-- a sum of n terms of absolute value at most m
pub sum_range-bound : (f : ℤ → ℤ) (a : ℤ) (n m : ℕ) → ((i : ℤ) → unsigned_abs (f i) ≤ m) → unsigned_abs (sum_range f a n) ≤ m * n
unfolding sum_range
sum_range-bound f a zero m small = omega arith
sum_range-bound f a (suc n) m small = omega (arith, ints, sum_range-bound f a n m small, small (a +ℤ pos n))

pub sum_each-push : {A : Type 0} (f : A → ℤ) (xs : List A) (x : A) → sum_each f (xs ++ x ∷ []) ≡ sum_each f xs +ℤ f x
unfolding sum_each
sum_each-push f [] x = omega (arith, ints)
sum_each-push f (y ∷ xs) x = omega (arith, ints, sum_each-push f xs x)

-- one more item of a list
pub sum_each-more : {A : Type 0} (f : A → ℤ) (xs : List A) (i : ℕ) (d : A) → i < length xs →
    sum_each f (take (i + 1) xs) ≡ sum_each f (take i xs) +ℤ f (get_or xs i d)
sum_each-more f xs i d below = ap (sum_each f) (take_more xs i d below) ∙ sum_each-push f (take i xs) (get_or xs i d)

-- before the first item
pub sum_each_start : {A : Type 0} (f : A → ℤ) → pos 0 ≡ sum_each f []
unfolding sum_each
sum_each_start f = refl

-- the sum so far and one more item
pub sum_each_step : {A : Type 0} (f : A → ℤ) (xs : List A) (i : ℕ) (d : A) (sum term next : ℤ) → i < length xs →
    sum ≡ sum_each f (take i xs) → term ≡ f (get_or xs i d) → next ≡ sum +ℤ term → next ≡ sum_each f (take (i + 1) xs)
sum_each_step f xs i d sum term next below so_far here added = added ∙ ap₂ (λ s t. s +ℤ t) so_far here ∙ sym (sum_each-more f xs i d below)
