-- Laws of sums, and of counts that are not 0.
use Rattle.std.proofs.Common.{◌≡◌, ◌≢◌, inl, inr, ℕ, zero, suc, ◌+◌, ◌-◌, ◌<◌, ◌≤◌, ℤ, pos, ◌+ℤ◌, int_eq, Bool, false, not, ◌||◌, if◌then◌else◌, List, [], ◌∷◌, ◌++◌, length, get_or, take, set, length-set, get_or-set_other, refl, sym, ◌∙◌, ap, ap₂, subst, arith, nat_lt}
use Rattle.std.proofs.lemmas.Int.{ints}
use Rattle.std.proofs.lemmas.List.{take_more}
use Rattle.std.proofs.lemmas.Bool.Decides.{eqb_tells}
use Rattle.opc_base.specs.Sums.{sum_each}
use Rattle.rect_union.specs.Sums.{any_set, count_set, one_if_set}
use Rattle.rect_union.specs.Windings.{count_at}
use Rattle.std.proofs.lemmas.Grind.{get_or-set_at}

pub sum_each-push : {A : Type 0} (f : A → ℤ) (xs : List A) (x : A) → sum_each f (xs ++ x ∷ []) ≡ sum_each f xs +ℤ f x
unfolding sum_each
sum_each-push f [] x = omega (arith, ints)
sum_each-push f (y ∷ xs) x = omega (arith, ints, sum_each-push f xs x)

pub sum_each-append : {A : Type 0} (f : A → ℤ) (xs ys : List A) → sum_each f (xs ++ ys) ≡ sum_each f xs +ℤ sum_each f ys
unfolding sum_each
sum_each-append f [] ys = omega (arith, ints)
sum_each-append f (x ∷ xs) ys = omega (arith, ints, sum_each-append f xs ys)

-- one more item of a list
pub sum_each-more : {A : Type 0} (f : A → ℤ) (xs : List A) (i : ℕ) (d : A) → i < length xs →
    sum_each f (take (i + 1) xs) ≡ sum_each f (take i xs) +ℤ f (get_or xs i d)
sum_each-more f xs i d below = ap (sum_each f) (take_more xs i d below) ∙ sum_each-push f (take i xs) (get_or xs i d)

pub sum_each-nil : {A : Type 0} (f : A → ℤ) → sum_each f [] ≡ pos 0
unfolding sum_each
sum_each-nil f = refl

-- two functions that agree on the items
pub sum_each-same : {A : Type 0} (f g : A → ℤ) (xs : List A) → ((k : ℕ) (d : A) → k < length xs → f (get_or xs k d) ≡ g (get_or xs k d)) →
    sum_each f xs ≡ sum_each g xs
unfolding sum_each
sum_each-same f g [] same = refl
sum_each-same f g (x ∷ xs) same = ap₂ (λ a b. a +ℤ b) (same 0 x (omega arith)) (sum_each-same f g xs (λ k d below. same (suc k) d (omega arith)))

pub any_set-same : (n : ℕ) (f g : ℕ → ℤ) → ((k : ℕ) → k < n → f k ≡ g k) → any_set n f ≡ any_set n g
unfolding any_set
any_set-same zero f g same = refl
any_set-same (suc n) f g same = ap₂ (λ a b. a || not (int_eq b (pos 0))) (any_set-same n f g (λ k below. same k (omega arith))) (same n (omega arith))

pub any_set-zero : (n : ℕ) (f : ℕ → ℤ) → ((k : ℕ) → k < n → f k ≡ pos 0) → any_set n f ≡ false
unfolding any_set
any_set-zero zero f none = refl
any_set-zero (suc n) f none = ap₂ (λ a b. a || not (int_eq b (pos 0))) (any_set-zero n f (λ k below. none k (omega arith))) (none n (omega arith))

pub count_set-same : (n : ℕ) (f g : ℕ → ℤ) → ((k : ℕ) → k < n → f k ≡ g k) → count_set n f ≡ count_set n g
unfolding count_set
count_set-same zero f g same = refl
count_set-same (suc n) f g same = ap₂ (λ a b. a + (if int_eq b (pos 0) then 0 else 1)) (count_set-same n f g (λ k below. same k (omega arith))) (same n (omega arith))

pub count_set-zero : (n : ℕ) (f : ℕ → ℤ) → ((k : ℕ) → k < n → f k ≡ pos 0) → count_set n f ≡ 0
unfolding count_set
count_set-zero zero f none = refl
count_set-zero (suc n) f none = ap₂ (λ a b. a + (if int_eq b (pos 0) then 0 else 1)) (count_set-zero n f (λ k below. none k (omega arith))) (none n (omega arith))

at_most_one : (z : ℤ) → (if int_eq z (pos 0) then 0 else 1) ≤ 1
at_most_one z = grind arith

pub count_set-le : (n : ℕ) (f : ℕ → ℤ) → count_set n f ≤ n
unfolding count_set
count_set-le zero f = omega arith
count_set-le (suc n) f = omega (arith, count_set-le n f, at_most_one (f n))

some_more : (count : ℕ) (any : Bool) (z : ℤ) → any ≡ nat_lt 0 count → (any || not (int_eq z (pos 0))) ≡ nat_lt 0 (count + (if int_eq z (pos 0) then 0 else 1))
some_more count any z is = grind arith

pub any_set-count_set : (n : ℕ) (f : ℕ → ℤ) → any_set n f ≡ nat_lt 0 (count_set n f)
unfolding any_set count_set
any_set-count_set zero f = refl
any_set-count_set (suc n) f = some_more (count_set n f) (any_set n f) (f n) (any_set-count_set n f)

-- counts that differ for one owner alone
pub count_set-one : (n : ℕ) (f g : ℕ → ℤ) (i : ℕ) → i < n → ((k : ℕ) → k < n → k ≢ i → f k ≡ g k) →
    count_set n f + one_if_set (g i) ≡ count_set n g + one_if_set (f i)
unfolding count_set
count_set-one zero f g i below same = absurd (omega arith)
count_set-one (suc n) f g i below same =
    elim (eqb_tells i n) [
      | inl w ↦ (let here : i ≡ n = w.1 in
          let before : count_set n f ≡ count_set n g = count_set-same n f g (λ k h. same k (omega arith) (omega arith)) in
          let at_f : f i ≡ f n = ap f here in let at_g : g i ≡ g n = ap g here in
          rw (at_f, at_g) (omega arith))
      | inr w ↦ (let apart : i ≢ n = w.1 in
          let before = count_set-one n f g i (omega arith) (λ k h. same k (omega arith)) in
          let last : f n ≡ g n = same n (omega arith) (λ e. apart (sym e)) in
          rw last (omega arith))
    ]

-- the counts that are not 0 after one of them has changed
pub count_set-set : (counts : List ℤ) (owner : ℕ) (after : ℤ) → owner < length counts →
    count_set (length (set counts owner after)) (count_at (set counts owner after)) + one_if_set (count_at counts owner)
    ≡ count_set (length counts) (count_at counts) + one_if_set after
count_set-set counts owner after below =
    let there : count_at (set counts owner after) owner ≡ after = get_or-set_at counts owner owner after (pos 0) refl below in
    rw (length-set counts owner after)
    (subst (λ (z : ℤ). count_set (length counts) (count_at (set counts owner after)) + one_if_set (count_at counts owner)
    ≡ count_set (length counts) (count_at counts) + one_if_set z) there
    (count_set-one (length counts) (count_at (set counts owner after)) (count_at counts) owner below
    (λ k in_list apart. get_or-set_other counts owner k after (pos 0) apart)))

-- the count of those that are not 0, as `add` keeps it
pub counted_after : (covering before after old new was is : ℕ) → covering ≡ old → before ≡ was → after ≡ is → new + was ≡ old + is
    → (covering + after) - before ≡ new
counted_after covering before after old new was is counted before_is after_is changed = omega arith

pub set_within : (covering before after old new was is : ℕ) → covering ≡ old → before ≡ was → after ≡ is → new + was ≡ old + is
    → before ≤ covering + after
set_within covering before after old new was is counted before_is after_is changed = omega arith
