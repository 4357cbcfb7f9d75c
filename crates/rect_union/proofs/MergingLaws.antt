-- Sorted quadrants, merged point by point, are the corners of the set that they sum to.
use Rattle.std.proofs.Common.{◌≡◌, ◌≢◌, ◌⊎◌, inl, inr, ℕ, zero, suc, ◌+◌, ◌<◌, ◌≤◌, ℤ, pos, ◌+ℤ◌, ◌≤ℤ◌, ◌<ℤ◌, int_eq, unsigned_abs, Bool, true, false, ◌&&◌, if◌then◌else◌, List, [], ◌∷◌, length, get_or, map, take_all, refl, sym, ◌∙◌, ap, ap₂, subst, arith}
use Rattle.std.specs.Prelude.{AllPairs, Contains}
use Rattle.std.proofs.lemmas.Int.{ints, by_lt_z}
use Rattle.std.proofs.lemmas.List.{length-map, get_or-map, get_or_default}
use Rattle.std.proofs.lemmas.List.Elements.{All-push, All-map}
use Rattle.std.proofs.lemmas.List.Quantifiers.{all_pairs_push}
use Rattle.std.proofs.lemmas.List.Sums.{sum_by_more, sum_by-take-le}
use Rattle.opc_base.specs.declared.plane.Pix.{Pix}
use Rattle.opc_base.specs.Sums.{sum_each}
use Rattle.opc_base.specs.Plane.{PixelSet}
use Rattle.opc_base.specs.Corners.{sign_at}
use Rattle.opc_base.specs.Target.{IsCornerOf}
use Rattle.rect_union.specs.declared.quadrants.Quadrant.{Quadrant}
use Rattle.rect_union.specs.CornerCount.{HasCornerCount}
use Rattle.rect_union.specs.Merging.{AreCornersIn, AreMerged, EndsPoint, GoesOn, IsAtPointOf, IsBefore, IsMergingTo, PushesSigned, Settles, sign_there, signs_there, with_sign}
use Rattle.rect_union.specs.Quadrants.{AreInRows, quadrant_weight}
use Rattle.rect_union.proofs.LowerSides.{known}
use Rattle.rect_union.proofs.SumLaws.{sum_each-more, sum_each-nil, sum_each-push}

-- ---- the loop

nothing_there : (here : Bool) → (if here then pos 0 else pos 0) ≡ pos 0
nothing_there true = refl
nothing_there false = refl

pub merging_starts : (quadrants : List Quadrant) → IsMergingTo quadrants 0 (pos 0) []
merging_starts quadrants = record {
  ascending = λ i j d before below. absurd (omega arith);
  signed = λ k d below. absurd (omega arith);
  passed = λ d within k e below. absurd (omega arith);
  sums = λ d x y.
      let none = sum_each-nil (λ (q : Quadrant). sign_there q x y) in
      let zero = nothing_there (int_eq (get_or quadrants 0 d).column.x x && int_eq (get_or quadrants 0 d).y y) in omega (arith, ints);
  done = λ all. refl;
  small = omega (arith, ints);
}

-- the sum at a point that two quadrants share
added_there : (here : Bool) (a b : ℤ) → (if here then a +ℤ b else pos 0) ≡ (if here then a else pos 0) +ℤ (if here then b else pos 0)
added_there true a b = refl
added_there false a b = refl

moved_there : (a b : Quadrant) (sign x y : ℤ) → IsAtPointOf a b → sign_there (with_sign a sign) x y ≡ sign_there (with_sign b sign) x y
moved_there a b sign x y same = rw (same.0, same.1) refl

before_moves : (p a b : Quadrant) → IsBefore p b → IsAtPointOf a b → IsBefore p a
before_moves p a b (inl less) same = inl (let level = same.0 in omega (arith, ints))
before_moves p a b (inr (level, left)) same = inr (level ∙ sym same.0, (let across = same.1 in omega (arith, ints)))

before_later : (p q r : Quadrant) → IsBefore p q → (q.y <ℤ r.y) ⊎ ((q.y ≡ r.y) × (q.column.x ≤ℤ r.column.x)) → IsBefore p r
before_later p q r (inl less) (inl more) = inl (omega (arith, ints))
before_later p q r (inl less) (inr (level, right)) = inl (omega (arith, ints))
before_later p q r (inr (level, left)) (inl more) = inl (omega (arith, ints))
before_later p q r (inr (level, left)) (inr (again, right)) = inr (level ∙ again, omega (arith, ints))

strictly_later : (q r : Quadrant) → (q.y <ℤ r.y) ⊎ ((q.y ≡ r.y) × (q.column.x ≤ℤ r.column.x)) → (IsAtPointOf r q → ⊥) → IsBefore q r
strictly_later q r (inl less) other = inl less
strictly_later q r (inr (level, right)) other = inr (level, by_lt_z q.column.x r.column.x (λ less. less) (λ most. absurd (other (sym level, omega (arith, ints)))))

next_is_later : (quadrants : List Quadrant) (i : ℕ) (d : Quadrant) → AreInRows quadrants → i + 1 < length quadrants
    → ((get_or quadrants i d).y <ℤ (get_or quadrants (i + 1) d).y) ⊎ (((get_or quadrants i d).y ≡ (get_or quadrants (i + 1) d).y) × ((get_or quadrants i d).column.x ≤ℤ (get_or quadrants (i + 1) d).column.x))
next_is_later quadrants i d rows below = rows i (i + 1) d (omega arith) below

merging_goes_on : (quadrants : List Quadrant) (i : ℕ) (sign after : ℤ) (merged : List Quadrant) (d : Quadrant) → AreInRows quadrants → i < length quadrants
    → after ≡ sign +ℤ (get_or quadrants i d).column.sign → IsMergingTo quadrants i sign merged → GoesOn quadrants i → IsMergingTo quadrants (i + 1) after merged
merging_goes_on quadrants i sign after merged d rows at sum so_far on = record {
  ascending = so_far.ascending;
  signed = so_far.signed;
  passed = λ e within k f below. before_moves (get_or merged k f) (get_or quadrants (i + 1) e) (get_or quadrants i d) (so_far.passed d at k f below) (on.1 e d);
  sums = λ e x y.
      let old = so_far.sums d x y in
      let more = sum_each-more (λ (q : Quadrant). sign_there q x y) quadrants i d at in
      let moved = moved_there (get_or quadrants (i + 1) e) (get_or quadrants i d) after x y (on.1 e d) in
      let added = added_there (int_eq (get_or quadrants i d).column.x x && int_eq (get_or quadrants i d).y y) sign (get_or quadrants i d).column.sign in
      let both = ap (λ z. sign_there (with_sign (get_or quadrants i d) z) x y) sum in omega (arith, ints);
  done = λ all. absurd (let next = on.0 in omega arith);
  small =
      let more = sum_by_more (λ (q : Quadrant). unsigned_abs q.column.sign) quadrants i d at in
      let old = so_far.small in omega (arith, ints);
}

-- a point is left with this list
merging_leaves : (quadrants : List Quadrant) (i : ℕ) (sign after : ℤ) (merged new : List Quadrant) (d : Quadrant) → AreInRows quadrants → i < length quadrants
    → after ≡ sign +ℤ (get_or quadrants i d).column.sign → IsMergingTo quadrants i sign merged → EndsPoint quadrants i
    → PushesSigned merged new (get_or quadrants i d) after → IsMergingTo quadrants (i + 1) (pos 0) new
merging_leaves quadrants i sign after merged new d rows at sum so_far ends (inl (some, is)) =
    let q : Quadrant = get_or quadrants i d in
    let m : Quadrant = with_sign (get_or quadrants i d) after in
    subst (IsMergingTo quadrants (i + 1) (pos 0)) (sym is)
    (record {
      ascending = all_pairs_push IsBefore merged m so_far.ascending (λ k e below. so_far.passed d at k e below);
      signed = All-push (λ (q : Quadrant). q.column.sign ≢ pos 0) merged m so_far.signed some;
      passed = λ e within. All-push (λ (p : Quadrant). IsBefore p (get_or quadrants (i + 1) e)) merged m
          (λ k f below. subst (IsBefore (get_or merged k f)) (get_or_default quadrants (i + 1) d e within)
          (before_later (get_or merged k f) (get_or quadrants i d) (get_or quadrants (i + 1) d) (so_far.passed d at k f below) (next_is_later quadrants i d rows within)))
          (subst (λ (r : Quadrant). IsBefore m r) (get_or_default quadrants (i + 1) d e within)
          (strictly_later (get_or quadrants i d) (get_or quadrants (i + 1) d) (next_is_later quadrants i d rows within) (λ same. ends d d within same)));
      sums = λ e x y.
          let old = so_far.sums d x y in
          let more = sum_each-more (λ (q : Quadrant). sign_there q x y) quadrants i d at in
          let pushed = sum_each-push (λ (q : Quadrant). sign_there q x y) merged m in
          let none = nothing_there (int_eq (get_or quadrants (i + 1) e).column.x x && int_eq (get_or quadrants (i + 1) e).y y) in
          let added = added_there (int_eq (get_or quadrants i d).column.x x && int_eq (get_or quadrants i d).y y) sign (get_or quadrants i d).column.sign in
          let both = ap (λ z. sign_there (with_sign (get_or quadrants i d) z) x y) sum in omega (arith, ints);
      done = λ all. refl;
      small = omega (arith, ints);
    })
merging_leaves quadrants i sign after merged new d rows at sum so_far ends (inr (none_left, is)) =
    subst (IsMergingTo quadrants (i + 1) (pos 0)) (sym is)
    (record {
      ascending = so_far.ascending;
      signed = so_far.signed;
      passed = λ e within k f below. subst (IsBefore (get_or merged k f)) (get_or_default quadrants (i + 1) d e within)
          (before_later (get_or merged k f) (get_or quadrants i d) (get_or quadrants (i + 1) d) (so_far.passed d at k f below) (next_is_later quadrants i d rows within));
      sums = λ e x y.
          let old = so_far.sums d x y in
          let more = sum_each-more (λ (q : Quadrant). sign_there q x y) quadrants i d at in
          let none = nothing_there (int_eq (get_or quadrants (i + 1) e).column.x x && int_eq (get_or quadrants (i + 1) e).y y) in
          let here = nothing_there (int_eq (get_or quadrants i d).column.x x && int_eq (get_or quadrants i d).y y) in
          let added = added_there (int_eq (get_or quadrants i d).column.x x && int_eq (get_or quadrants i d).y y) sign (get_or quadrants i d).column.sign in
          let both = ap (λ z. sign_there (with_sign (get_or quadrants i d) z) x y) (sym sum ∙ none_left) in omega (arith, ints);
      done = λ all. refl;
      small = omega (arith, ints);
    })

pub merging_step : (quadrants : List Quadrant) (i : ℕ) (sign after left : ℤ) (merged new : List Quadrant) (d : Quadrant) → AreInRows quadrants → i < length quadrants
    → after ≡ sign +ℤ (get_or quadrants i d).column.sign → IsMergingTo quadrants i sign merged → Settles merged new quadrants i after left
    → IsMergingTo quadrants (i + 1) left new
merging_step quadrants i sign after left merged new d rows at sum so_far (inl (ends, none, pushes)) =
    subst (λ z. IsMergingTo quadrants (i + 1) z new) (sym none) (merging_leaves quadrants i sign after merged new d rows at sum so_far ends (pushes d))
merging_step quadrants i sign after left merged new d rows at sum so_far (inr (on, kept, same)) =
    subst (λ z. IsMergingTo quadrants (i + 1) z new) (sym kept) (subst (IsMergingTo quadrants (i + 1) after) (sym same)
    (merging_goes_on quadrants i sign after merged d rows at sum so_far on))

pub merging_ends : (quadrants : List Quadrant) (i : ℕ) (sign : ℤ) (merged : List Quadrant) (d : Quadrant) → length quadrants ≤ i → IsMergingTo quadrants i sign merged → AreMerged quadrants merged
merging_ends quadrants i sign merged d all so_far = record {
  ascending = so_far.ascending;
  signed = so_far.signed;
  sums = λ x y.
      let whole = so_far.sums d x y in
      let none = nothing_there (int_eq (get_or quadrants i d).column.x x && int_eq (get_or quadrants i d).y y) in
      let zero = ap (λ z. sign_there (with_sign (get_or quadrants i d) z) x y) (so_far.done all) in
      let taken = ap (λ (l : List Quadrant). signs_there l x y) (take_all i quadrants all) in omega (arith, ints);
}

-- the next sum fits
pub merging_fits : (quadrants : List Quadrant) (i bound : ℕ) (sign : ℤ) (merged : List Quadrant) (d : Quadrant) → i < length quadrants → quadrant_weight quadrants < bound
    → IsMergingTo quadrants i sign merged → unsigned_abs (sign +ℤ (get_or quadrants i d).column.sign) < bound
merging_fits quadrants i bound sign merged d at small so_far =
    let more = sum_by_more (λ (q : Quadrant). unsigned_abs q.column.sign) quadrants i d at in
    let within = sum_by-take-le (λ (q : Quadrant). unsigned_abs q.column.sign) quadrants (i + 1) in
    let old = so_far.small in omega (arith, ints)

-- ---- the corners

apart_there : (p q : Quadrant) → IsBefore p q → (int_eq p.column.x q.column.x && int_eq p.y q.y) ≡ false
apart_there p q (inl less) = grind (arith, ints)
apart_there p q (inr (level, left)) = grind (arith, ints)

apart_back : (p q : Quadrant) → IsBefore p q → (int_eq q.column.x p.column.x && int_eq q.y p.y) ≡ false
apart_back p q (inl less) = grind (arith, ints)
apart_back p q (inr (level, left)) = grind (arith, ints)

none_there : (x y : ℤ) (quadrants : List Quadrant) → ((k : ℕ) (d : Quadrant) → k < length quadrants → sign_there (get_or quadrants k d) x y ≡ pos 0) → signs_there quadrants x y ≡ pos 0
unfolding sum_each
none_there x y [] none = refl
none_there x y (q ∷ quadrants) none =
    let here : sign_there q x y ≡ pos 0 = none 0 q (omega arith) in
    let rest = none_there x y quadrants (λ k d below. none (suc k) d (omega arith)) in omega (arith, ints)

own_sign : (q : Quadrant) → sign_there q q.column.x q.y ≡ q.column.sign
own_sign q = grind (arith, ints)

-- at the point of each one the sum is its sign
pub sign_of : (merged : List Quadrant) (k : ℕ) (d : Quadrant) → AllPairs IsBefore merged → k < length merged
    → signs_there merged (get_or merged k d).column.x (get_or merged k d).y ≡ (get_or merged k d).column.sign
unfolding sum_each
sign_of [] k d ascending below = absurd (omega arith)
sign_of (q ∷ merged) zero d ascending below =
    let rest = none_there q.column.x q.y merged (λ k e below. ap (λ (b : Bool). if b then (get_or merged k e).column.sign else pos 0)
    (apart_back q (get_or merged k e) (ascending 0 (suc k) e (omega arith) (omega arith)))) in
    let own = own_sign q in omega (arith, ints)
sign_of (q ∷ merged) (suc k) d ascending below =
    let rest = sign_of merged k d (λ i j e before within. ascending (suc i) (suc j) e (omega arith) (omega arith)) (omega arith) in
    let none = ap (λ (b : Bool). if b then q.column.sign else pos 0) (apart_there q (get_or merged k d) (ascending 0 (suc k) d (omega arith) (omega arith))) in
    omega (arith, ints)

abbrev place_of : Quadrant → Pix
place_of q = record { x = q.column.x; y = q.y }

at_place : (q : Quadrant) (x y : ℤ) → (int_eq q.column.x x && int_eq q.y y) ≡ true → place_of q ≡ record { x = x; y = y }
at_place q x y is =
    let across : q.column.x ≡ x = grind (arith, ints) in let up : q.y ≡ y = grind (arith, ints) in
    let make : ℤ → ℤ → Pix = λ a b. record { x = a; y = b } in ap₂ make across up

has_place : (quadrants : List Quadrant) (x y : ℤ) → signs_there quadrants x y ≢ pos 0 → Contains (map place_of quadrants) (record { x = x; y = y })
unfolding sum_each
has_place [] x y some = absurd (some refl)
has_place (q ∷ quadrants) x y some = elim (known (int_eq q.column.x x && int_eq q.y y)) [
  | inl here ↦ (0, omega arith, at_place q x y here)
  | inr off ↦ (
      let none = ap (λ (b : Bool). if b then q.column.sign else pos 0) off in
      let rest = has_place quadrants x y (λ is. some (omega (arith, ints))) in
      (suc rest.0, (let below = rest.1 in omega arith), rest.2))
]

distinct_places : (p q : Quadrant) → IsBefore p q → place_of p ≢ place_of q
distinct_places p q (inl less) same = let up = ap (λ (r : Pix). r.y) same in omega (arith, ints)
distinct_places p q (inr (level, left)) same = let across = ap (λ (r : Pix). r.x) same in omega (arith, ints)

pub corners_merged : (pixels : PixelSet) (quadrants merged : List Quadrant) → AreMerged quadrants merged
    → ((x y : ℤ) → sign_at pixels x y ≡ signs_there quadrants x y) → AreCornersIn pixels merged
corners_merged pixels quadrants merged are signs = record {
  ascending = are.ascending;
  signed = are.signed;
  signs = λ x y. signs x y ∙ sym (are.sums x y);
}

pub corners_counted : (pixels : PixelSet) (merged : List Quadrant) → AreCornersIn pixels merged → HasCornerCount pixels (length merged)
corners_counted pixels merged are =
    let size : length (map place_of merged) ≡ length merged = length-map merged place_of in
    record {
      points = map place_of merged;
      distinct = record {
        distinct = λ i j d before below.
            let q : Quadrant = record { y = d.y; column = record { x = d.x; owner = 0; sign = pos 0 } } in
            let first = get_or-map place_of merged i q d (omega arith) in
            let second = get_or-map place_of merged j q d (omega arith) in
            λ same. distinct_places (get_or merged i q) (get_or merged j q) (are.ascending i j q before (omega arith)) (sym first ∙ same ∙ second);
        corners = All-map (IsCornerOf pixels) place_of merged (λ k d below none.
            are.signed k d below (sym (sign_of merged k d are.ascending below)
            ∙ sym (are.signs (get_or merged k d).column.x (get_or merged k d).y) ∙ none));
      };
      complete = λ x y corner. has_place merged x y (λ none. corner (are.signs x y ∙ none));
      counted = size;
    }

-- the corner at a point whose sign is not 0
pub corner_there : (pixels : PixelSet) (merged : List Quadrant) (x y : ℤ) (d : Quadrant) → AreCornersIn pixels merged → sign_at pixels x y ≢ pos 0
    → (k : ℕ) × (k < length merged) × ((get_or merged k d).column.x ≡ x) × ((get_or merged k d).y ≡ y) × ((get_or merged k d).column.sign ≡ sign_at pixels x y)
corner_there pixels merged x y d are some =
    let at = has_place merged x y (λ none. some (are.signs x y ∙ none)) in
    let size : length (map place_of merged) ≡ length merged = length-map merged place_of in
    let inside = at.1 in
    let below : at.0 < length merged = omega arith in
    let is : place_of (get_or merged at.0 d) ≡ record { x = x; y = y } = sym (get_or-map place_of merged at.0 d (record { x = x; y = y }) below) ∙ at.2 in
    let across : (get_or merged at.0 d).column.x ≡ x = ap (λ (p : Pix). p.x) is in
    let up : (get_or merged at.0 d).y ≡ y = ap (λ (p : Pix). p.y) is in (
      at.0,
      below,
      across,
      up,
      sym (sign_of merged at.0 d are.ascending below) ∙ ap₂ (λ a b. signs_there merged a b) across up ∙ sym (are.signs x y),
    )
