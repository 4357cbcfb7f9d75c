-- Slices that rise, front and back.
use Rattle.std.proofs.Common.{slice_set, take, drop, ◌≡◌, ℕ, ◌+◌, ◌-◌, ◌<◌, ◌≤◌, ℤ, pos, ◌+ℤ◌, List, ◌++◌, length, get_or, ap, ap₂, ◌∙◌, sym, refl, arith, ⊎_elim, length-append}
use Rattle.std.proofs.lemmas.Int.{ints}
use borrow.Rule.Slice.PartMut.{post_of, put_mid, same_len_mid}
use Rattle.std.proofs.lemmas.List.{length-take, length-drop, get_or-take, get_or-drop, get_or_append_left, get_or-append_right, get_or-append-add, length-set, get_or-set_same, get_or-set_other}
use Rattle.std.proofs.lemmas.Bool.{cases_lt}
use Rattle.opc_base.specs.Changes.{RisesBy, CanRise, RisesBetween}

-- a slice that is split rises as its parts do
pub RisesBy-append : (change : ℕ → ℤ) (base up : ℕ) (all xs ys xs' ys' : List ℤ) → all ≡ xs ++ ys → up ≡ base + length xs →
    RisesBy change base xs xs' → RisesBy change up ys ys' → RisesBy change base all (xs' ++ ys')
RisesBy-append change base up all xs ys xs' ys' split place front back = record {
  same_length = omega (arith, ap length split, length-append xs ys, length-append xs' ys', front.same_length, back.same_length);
  each = λ i below. rw split (⊎_elim
      (λ before. get_or_append_left xs' ys' (pos 0) i (omega (arith, front.same_length)) ∙ front.each i before
      ∙ ap (λ x. x +ℤ change (base + i)) (sym (get_or_append_left xs ys (pos 0) i before)))
      (λ after. get_or-append_right xs' ys' (length xs) i (pos 0) front.same_length after
      ∙ back.each (i - length xs) (omega (arith, ap length split, length-append xs ys))
      ∙ ap₂ (λ x n. x +ℤ change n) (sym (get_or-append_right xs ys (length xs) i (pos 0) refl after)) (omega arith))
      (cases_lt i (length xs)));
}

pub CanRise-front : (change : ℕ → ℤ) (base : ℕ) (all xs ys : List ℤ) → all ≡ xs ++ ys → CanRise change base all → CanRise change base xs
CanRise-front change base all xs ys split can = record {
  fits = λ i below. rw (← get_or_append_left xs ys (pos 0) i below, ← split) (can.fits i (omega (arith, ap length split, length-append xs ys)));
}

pub CanRise-back : (change : ℕ → ℤ) (base up : ℕ) (all xs ys : List ℤ) → all ≡ xs ++ ys → up ≡ base + length xs →
    CanRise change base all → CanRise change up ys
CanRise-back change base up all xs ys split place can = record {
  fits = λ i below.
      let place_is : base + (length xs + i) ≡ up + i = omega arith in
      rw (← get_or-append-add xs ys i (pos 0), ← split, ← place_is) (can.fits (length xs + i) (omega (arith, ap length split, length-append xs ys)));
}

-- ---- a slice that rises from left to right
pub RisesBetween-none : (change : ℕ → ℤ) (base at : ℕ) (xs : List ℤ) → RisesBetween change base at at xs xs
RisesBetween-none change base at xs = record {
  same_length = refl;
  inside = λ i from below within. absurd (omega arith);
  before = λ i below. refl;
  after = λ i from. refl;
}

pub RisesBetween-join : (change : ℕ → ℤ) (base low middle high : ℕ) (xs ys zs : List ℤ) → low ≤ middle → middle ≤ high →
    RisesBetween change base low middle xs ys → RisesBetween change base middle high ys zs → RisesBetween change base low high xs zs
RisesBetween-join change base low middle high xs ys zs up upper first second = record {
  same_length = second.same_length ∙ first.same_length;
  inside = λ i from below within. ⊎_elim
      (λ early. second.before i early ∙ first.inside i from early within)
      (λ late. second.inside i late below (omega (arith, first.same_length)) ∙ ap (λ x. x +ℤ change (base + i)) (first.after i late))
      (cases_lt i middle);
  before = λ i below. second.before i (omega arith) ∙ first.before i below;
  after = λ i from. second.after i from ∙ first.after i (omega arith);
}

-- all of it
pub RisesBy-between : (change : ℕ → ℤ) (base high : ℕ) (xs ys : List ℤ) → length xs ≤ high → RisesBetween change base 0 high xs ys → RisesBy change base xs ys
RisesBy-between change base high xs ys whole rises = record {
  same_length = rises.same_length;
  each = λ i below. rises.inside i (omega arith) (omega arith) below;
}

-- one number
pub RisesBetween-set : (change : ℕ → ℤ) (base i : ℕ) (xs : List ℤ) (y : ℤ) → i < length xs → y ≡ get_or xs i (pos 0) +ℤ change (base + i) →
    RisesBetween change base i (i + 1) xs (slice_set xs i y)
RisesBetween-set change base i xs y within value = record {
  same_length = length-set xs i y;
  inside = λ j from below in_xs.
      let same : j ≡ i = omega arith in
      rw same (get_or-set_same xs i y (pos 0) within ∙ value);
  before = λ j below. get_or-set_other xs i j y (pos 0) (omega arith);
  after = λ j from. get_or-set_other xs i j y (pos 0) (omega arith);
}

-- changes that agree at the slice's places
pub RisesBy-same : (change other : ℕ → ℤ) (base : ℕ) (xs ys : List ℤ) → ((i : ℕ) → i < length xs → change (base + i) ≡ other (base + i)) →
    RisesBy change base xs ys → RisesBy other base xs ys
RisesBy-same change other base xs ys same rises = record {
  same_length = rises.same_length;
  each = λ i below. rises.each i below ∙ ap (λ x. get_or xs i (pos 0) +ℤ x) (same i below);
}

-- a part of a slice that is lent and comes back
pub RisesBetween-part : (change : ℕ → ℤ) (base a k n : ℕ) (xs ys : List ℤ) → k ≡ n → a + n ≤ length xs →
    RisesBy change (base + a) (take k (drop a xs)) ys → RisesBetween change base a (a + n) xs (put_mid a k xs ys)
RisesBetween-part change base a k n xs ys k_is room rises =
    let front : length (take a xs) ≡ a = simp length-take (omega arith) in
    let middle : length (take k (drop a xs)) ≡ n = simp (length-take, length-drop) (omega arith) in
    let own : length ys ≡ n = rises.same_length ∙ middle in
    record {
      same_length = same_len_mid a k xs ys rises.same_length;
      inside = λ i from below in_xs.
          let place : base + a + (i - a) ≡ base + i = omega arith in
          let at : a + (i - a) ≡ i = omega arith in
          get_or-append_right (take a xs) (ys ++ post_of a k xs) a i (pos 0) front from
          ∙ get_or_append_left ys (post_of a k xs) (pos 0) (i - a) (omega (arith, own))
          ∙ rises.each (i - a) (omega (arith, middle))
          ∙ ap₂ (λ x p. x +ℤ change p) (get_or-take k (drop a xs) (i - a) (pos 0) (omega arith) ∙ get_or-drop a xs (i - a) (pos 0) ∙ ap (λ j. get_or xs j (pos 0)) at) place;
      before = λ i below.
          get_or_append_left (take a xs) (ys ++ post_of a k xs) (pos 0) i (omega (arith, front)) ∙ get_or-take a xs i (pos 0) below;
      after = λ i from.
          get_or-append_right (take a xs) (ys ++ post_of a k xs) a i (pos 0) front (omega arith)
          ∙ get_or-append_right ys (post_of a k xs) n (i - a) (pos 0) own (omega arith)
          ∙ get_or-drop k (drop a xs) (i - a - n) (pos 0) ∙ get_or-drop a xs (k + (i - a - n)) (pos 0) ∙ ap (λ j. get_or xs j (pos 0)) (omega arith);
    }

-- numbers that are small, and those of a part of the slice
pub RisesBy-add : (change more : ℕ → ℤ) (base : ℕ) (xs ys zs : List ℤ) → RisesBy change base xs ys → RisesBy more base ys zs →
    RisesBy (λ n. change n +ℤ more n) base xs zs
RisesBy-add change more base xs ys zs first second = record {
  same_length = second.same_length ∙ first.same_length;
  each = λ i below. second.each i (omega (arith, first.same_length)) ∙ ap (λ x. x +ℤ more (base + i)) (first.each i below) ∙ omega (arith, ints);
}

pub RisesBy-none : (change : ℕ → ℤ) (base : ℕ) (xs : List ℤ) → ((n : ℕ) → change n ≡ pos 0) → RisesBy change base xs xs
RisesBy-none change base xs none = record { same_length = refl; each = λ i below. rw (none (base + i)) (omega (arith, ints)) }

-- the same slice, whose places are counted from elsewhere
pub RisesBy-moved : (change other : ℕ → ℤ) (base at : ℕ) (xs ys : List ℤ) → ((i : ℕ) → i < length xs → change (base + i) ≡ other (at + i)) →
    RisesBy change base xs ys → RisesBy other at xs ys
RisesBy-moved change other base at xs ys same rises = record {
  same_length = rises.same_length;
  each = λ i below. rises.each i below ∙ ap (λ x. get_or xs i (pos 0) +ℤ x) (same i below);
}

-- a slice that stays, where nothing is added at its places
pub RisesBy-zero : (change : ℕ → ℤ) (base : ℕ) (xs : List ℤ) → ((i : ℕ) → i < length xs → change (base + i) ≡ pos 0) → RisesBy change base xs xs
RisesBy-zero change base xs none = record { same_length = refl; each = λ i below. rw (none i below) (omega (arith, ints)) }
