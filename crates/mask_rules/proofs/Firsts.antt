-- The first of the pixels of which something holds.
use Rattle.std.proofs.Common.{◌≡◌, ◌≢◌, ◌⊎◌, inl, inr, ℕ, zero, suc, Bool, true, false, ◌&&◌, ◌||◌, if◌then◌else◌, Option, Some, None, List, [], ◌∷◌, ◌++◌, int_lt, refl, sym, ◌∙◌, ap, subst, arith}
use Rattle.std.specs.Prelude.{Contains}
use Rattle.std.specs.Ordering.{int_eq}
use Rattle.std.specs.List.{fold}
use Rattle.std.proofs.lemmas.Int.{ints}
use Rattle.std.proofs.lemmas.Bool.Decides.{Decides-int_eq}
use Rattle.opc_base.specs.declared.plane.Pix.{Pix}
use Rattle.outline_model.proofs.Steps.{int_eq-false}
use Rattle.mask_rules.specs.First.{comes_before, earlier, IsUpTo, ReachesUpTo, IsFirst}

pub IsUpTo-refl : (p : Pix) → IsUpTo p p
IsUpTo-refl p = inr (refl, omega (arith, ints))

pub IsUpTo-trans : (p q r : Pix) → IsUpTo p q → IsUpTo q r → IsUpTo p r
IsUpTo-trans p q r first second = elim first [
  | inl below ↦ elim second [
    | inl h ↦ inl (omega (arith, ints))
    | inr h ↦ (let same = h.0 in inl (omega (arith, ints)))
  ]
  | inr level ↦ (let same = level.0 in let left = level.1 in elim second [
    | inl h ↦ inl (omega (arith, ints))
    | inr h ↦ (let same_too = h.0 in let left_too = h.1 in inr (same ∙ same_too, omega (arith, ints)))
  ])
]

pub ReachesUpTo-trans : (first : Option Pix) (q r : Pix) → ReachesUpTo first q → IsUpTo q r → ReachesUpTo first r
ReachesUpTo-trans None q r reaches up = absurd reaches
ReachesUpTo-trans (Some p) q r reaches up = IsUpTo-trans p q r reaches up

comes_before-cases : (p q : Pix) (a b c : Bool) → int_lt p.y q.y ≡ a → int_eq p.y q.y ≡ b → int_lt p.x q.x ≡ c
    → (a || (b && c) ≡ true → IsUpTo p q) × (a || (b && c) ≡ false → IsUpTo q p)
comes_before-cases p q true b c e f g = (λ h. inl (omega (arith, ints)), λ h. absurd (cc h))
comes_before-cases p q false true true e f g = (λ h. inr ((Decides-int_eq p.y q.y).0 f, omega (arith, ints)), λ h. absurd (cc h))
comes_before-cases p q false true false e f g = (λ h. absurd (cc h), λ h. inr (sym ((Decides-int_eq p.y q.y).0 f), omega (arith, ints)))
comes_before-cases p q false false c e f g =
    let apart : p.y ≢ q.y = int_eq-false p.y q.y f in
    (λ h. absurd (cc h), λ h. inl (omega (arith, ints)))

pub comes_before-true : (p q : Pix) → comes_before p q ≡ true → IsUpTo p q
comes_before-true p q = (comes_before-cases p q (int_lt p.y q.y) (int_eq p.y q.y) (int_lt p.x q.x) refl refl refl).0

pub comes_before-false : (p q : Pix) → comes_before p q ≡ false → IsUpTo q p
comes_before-false p q = (comes_before-cases p q (int_lt p.y q.y) (int_eq p.y q.y) (int_lt p.x q.x) refl refl refl).1

none_is_not : (p : Pix) → ¬ (None ≡ Some p)
none_is_not p e = cc

some_is : (p q : Pix) → Some p ≡ Some q → p ≡ q
some_is p q e = cc

pub IsFirst-none : (F : Pix → Type 0) → ((p : Pix) → ¬ F p) → IsFirst F None
IsFirst-none F none = record { is_one = λ p e. absurd (none_is_not p e); before_all = none }

pub IsFirst-earlier : (F G : Pix → Type 0) (a b : Option Pix) → IsFirst F a → IsFirst G b → IsFirst (λ p. F p ⊎ G p) (earlier a b)
IsFirst-earlier F G None None f g = record {
  is_one = λ p e. absurd (none_is_not p e);
  before_all = λ q h. elim h [ inl l ↦ f.before_all q l | inr r ↦ g.before_all q r ];
}
IsFirst-earlier F G None (Some s) f g = record {
  is_one = λ p e. inr (g.is_one p e);
  before_all = λ q h. elim h [ inl l ↦ absurd (f.before_all q l) | inr r ↦ g.before_all q r ];
}
IsFirst-earlier F G (Some s) None f g = record {
  is_one = λ p e. inl (f.is_one p e);
  before_all = λ q h. elim h [ inl l ↦ f.before_all q l | inr r ↦ absurd (g.before_all q r) ];
}
IsFirst-earlier F G (Some s) (Some t) f g = by (comes_before t s) refl
  where
    by : (b : Bool) → comes_before t s ≡ b → IsFirst (λ p. F p ⊎ G p) (Some (if b then t else s))
    by true e = record {
      is_one = λ p h. inr (g.is_one p h);
      before_all = λ q h. elim h [
        | inl l ↦ IsUpTo-trans t s q (comes_before-true t s e) (f.before_all q l)
        | inr r ↦ g.before_all q r
      ];
    }
    by false e = record {
      is_one = λ p h. inl (f.is_one p h);
      before_all = λ q h. elim h [
        | inl l ↦ f.before_all q l
        | inr r ↦ IsUpTo-trans s t q (comes_before-false t s e) (g.before_all q r)
      ];
    }

-- Of each that has the second fact, one that has the first fact is not after it, and those that have the first have the second.
pub IsFirst-cover : (F G : Pix → Type 0) (a : Option Pix) → ((p : Pix) → F p → G p) → ((q : Pix) → G q → (p : Pix) × F p × IsUpTo p q)
    → IsFirst F a → IsFirst G a
IsFirst-cover F G a there back first = record {
  is_one = λ p e. there p (first.is_one p e);
  before_all = λ q h.
      let found = back q h in ReachesUpTo-trans a found.0 q (first.before_all found.0 found.1) found.2;
}

pub IsFirst-same : (F G : Pix → Type 0) (a : Option Pix) → ((p : Pix) → F p → G p) → ((p : Pix) → G p → F p) → IsFirst F a → IsFirst G a
IsFirst-same F G a there back = IsFirst-cover F G a there (λ q h. (q, back q h, IsUpTo-refl q))

pub IsFirst-one : (a : Option Pix) → IsFirst (λ p. a ≡ Some p) a
IsFirst-one a = record {
  is_one = λ p e. e;
  before_all = λ q e. subst (λ o. ReachesUpTo o q) (sym e) (IsUpTo-refl q);
}

-- ---- over a list

contains_head : (x : ℕ) (xs : List ℕ) → Contains (x ∷ xs) x
contains_head x xs = (0, omega arith, refl)

contains_tail : (x z : ℕ) (xs : List ℕ) → Contains xs z → Contains (x ∷ xs) z
contains_tail x z xs at = (suc at.0, (let below = at.1 in omega arith), at.2)

head_or_tail : (x z : ℕ) (xs : List ℕ) → Contains (x ∷ xs) z → (x ≡ z) ⊎ Contains xs z
head_or_tail x z xs (zero, below, is) = inl is
head_or_tail x z xs (suc k, below, is) = inr (k, omega arith, is)

none_in_empty : (z : ℕ) → ¬ Contains [] z
none_in_empty z at = let below = at.1 in omega arith

abbrev pub first_from : (ℕ → Option Pix) → Option Pix → List ℕ → Option Pix
first_from f a xs = fold (λ best k. earlier best (f k)) a xs

pub first_from-append : (f : ℕ → Option Pix) (a : Option Pix) (xs : List ℕ) (y : ℕ) → first_from f a (xs ++ y ∷ []) ≡ earlier (first_from f a xs) (f y)
first_from-append f a [] y = refl
first_from-append f a (x ∷ xs) y = first_from-append f (earlier a (f x)) xs y

IsFirst-from : (F : Pix → Type 0) (f : ℕ → Option Pix) (a : Option Pix) (xs : List ℕ) → IsFirst F a
    → IsFirst (λ p. F p ⊎ ((k : ℕ) × Contains xs k × (f k ≡ Some p))) (first_from f a xs)
IsFirst-from F f a [] first = IsFirst-same F _ a (λ p h. inl h)
    (λ p h. elim h [ inl l ↦ l | inr r ↦ absurd (none_in_empty r.0 r.1) ]) first
IsFirst-from F f a (x ∷ xs) first =
    IsFirst-same (λ p. (F p ⊎ (f x ≡ Some p)) ⊎ ((k : ℕ) × Contains xs k × (f k ≡ Some p))) _ (first_from f (earlier a (f x)) xs)
    (λ p h. elim h [
      | inl l ↦ elim l [ inl was ↦ inl was | inr here ↦ inr (x, contains_head x xs, here) ]
      | inr r ↦ inr (r.0, contains_tail x r.0 xs r.1, r.2)
    ])
    (λ p h. elim h [
      | inl was ↦ inl (inl was)
      | inr r ↦ elim (head_or_tail x r.0 xs r.1) [
        | inl same ↦ inl (inr (ap f same ∙ r.2))
        | inr later ↦ inr (r.0, later, r.2)
      ]
    ])
    (IsFirst-from (λ p. F p ⊎ (f x ≡ Some p)) f (earlier a (f x)) xs
    (IsFirst-earlier F (λ p. f x ≡ Some p) a (f x) first (IsFirst-one (f x))))

-- the first of what a list's numbers give
pub IsFirst-list : (f : ℕ → Option Pix) (xs : List ℕ) → IsFirst (λ p. (k : ℕ) × Contains xs k × (f k ≡ Some p)) (first_from f None xs)
IsFirst-list f xs = IsFirst-same (λ p. ⊥ ⊎ ((k : ℕ) × Contains xs k × (f k ≡ Some p))) _ (first_from f None xs)
    (λ p h. elim h [ inl l ↦ absurd l | inr r ↦ r ]) (λ p h. inr h)
    (IsFirst-from (λ p. ⊥) f None xs (IsFirst-none (λ p. ⊥) (λ p h. h)))
