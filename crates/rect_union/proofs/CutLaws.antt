-- Laws of quadrants that are moved into a strip.
use Rattle.std.proofs.Common.{◌≡◌, ◌⊎◌, inl, inr, ℕ, zero, suc, ◌+◌, ◌^◌, ◌<◌, ◌≤◌, SFits, ℤ, pos, ◌+ℤ◌, ◌≤ℤ◌, ◌<ℤ◌, int_le, int_lt, unsigned_abs, Bool, true, false, ◌&&◌, ◌==◌, if◌then◌else◌, List, [], ◌∷◌, ◌++◌, length, get_or, take_all, refl, sym, ◌∙◌, ap, subst, arith}
use Rattle.std.specs.Int.{w128, int_max}
use Rattle.std.proofs.lemmas.Int.{ints, by_lt_z, clamps, fits_signed_from_abs}
use Rattle.std.proofs.lemmas.List.{get_or_default}
use Rattle.std.proofs.lemmas.List.Elements.{All-push}
use Rattle.std.proofs.lemmas.List.Quantifiers.{all_pairs_push}
use Rattle.std.proofs.lemmas.List.Sums.{sum_by-append, sum_by_more, sum_by_more_le}
use Rattle.opc_base.specs.declared.plane.Rect.{Rect}
use Rattle.opc_base.specs.Plane.{cover}
use Rattle.opc_base.specs.Sums.{sum_each}
use Rattle.rect_union.specs.declared.quadrants.Quadrant.{Quadrant}
use Rattle.rect_union.specs.Cuts.{AddsQuadrant, AreInLimit, AreSwept, Follows, IsAtPlaceOf, IsCut, IsCutTo, column_in, quadrant_in, tested_sum}
use Rattle.rect_union.specs.Quadrants.{AreInRows, column_part, column_total, is_wound, owner_part, quadrant_weight, row_total, winding}
use Rattle.rect_union.specs.Strips.{IsInLimit}
use Rattle.rect_union.proofs.MergeLaws.{abs_sum, all_of_take, at_of_take, front_of, front_pairs, last_of, last_pairs}
use Rattle.rect_union.proofs.SumLaws.{any_set-same, any_set-zero, sum_each-more, sum_each-nil, sum_each-push, sum_each-same}

-- ---- one more quadrant

weight_push : (quadrants : List Quadrant) (q : Quadrant) → quadrant_weight (quadrants ++ q ∷ []) ≡ quadrant_weight quadrants + unsigned_abs q.column.sign
weight_push quadrants q =
    let split : quadrant_weight (quadrants ++ q ∷ []) ≡ quadrant_weight quadrants + (0 + unsigned_abs q.column.sign) =
    sum_by-append (λ (q : Quadrant). unsigned_abs q.column.sign) quadrants (q ∷ []) in
    omega arith

two_signs : (test other : Bool) (a b : ℤ) → test ≡ other → (if test then a +ℤ b else pos 0) ≡ (if test then a else pos 0) +ℤ (if other then b else pos 0)
two_signs test other a b same = grind (arith, ints)

no_sign : (test other : Bool) (a b : ℤ) → test ≡ other → a +ℤ b ≡ pos 0 → (if test then a else pos 0) +ℤ (if other then b else pos 0) ≡ pos 0
no_sign test other a b same none = grind (arith, ints)

follows_on : (p q r : Quadrant) → Follows p q → Follows q r → Follows p r
follows_on p q r first second = elim first [
  | inl less ↦ elim second [ inl more ↦ inl (omega (arith, ints)) | inr level ↦ inl (let same = level.0 in omega (arith, ints)) ]
  | inr level ↦ elim second [
    | inl more ↦ inl (let same = level.0 in omega (arith, ints))
    | inr again ↦ inr (level.0 ∙ again.0, (let a = level.1 in let b = again.1 in omega (arith, ints)))
  ]
]

pub adds_last : (quadrants : List Quadrant) (q : Quadrant) → AddsQuadrant quadrants (quadrants ++ q ∷ []) q
adds_last quadrants q = record {
  sums = λ test. sum_each-push (λ (p : Quadrant). if test p.y p.column.x p.column.owner then p.column.sign else pos 0) quadrants q;
  weight = let sum = weight_push quadrants q in omega arith;
  order = λ order before. all_pairs_push Follows quadrants q order before;
  before = λ r before here. All-push (λ p. Follows p r) quadrants q before here;
  owners = λ n here below. All-push (λ (p : Quadrant). p.column.owner < n) quadrants q below here;
}

abbrev pub both_of : Quadrant → ℤ → Quadrant
both_of a sign = record { y = a.y; column = record { x = a.column.x; owner = a.column.owner; sign = sign } }

pub adds_pair : (old front : List Quadrant) (a b : Quadrant) → old ≡ front ++ a ∷ [] → IsAtPlaceOf a b
    → AddsQuadrant old (front ++ both_of a (a.column.sign +ℤ b.column.sign) ∷ []) b
adds_pair old front a b is place =
    let same_y : a.y ≡ b.y = place.0 in let same_x : a.column.x ≡ b.column.x = place.1 in let same_owner : a.column.owner ≡ b.column.owner = place.2 in
    let c : Quadrant = both_of a (a.column.sign +ℤ b.column.sign) in
    subst (λ (l : List Quadrant). AddsQuadrant l (front ++ both_of a (a.column.sign +ℤ b.column.sign) ∷ []) b) (sym is)
    (record {
      sums = λ test.
          let f : Quadrant → ℤ = λ (p : Quadrant). if test p.y p.column.x p.column.owner then p.column.sign else pos 0 in
          let new = sum_each-push f front c in let first = sum_each-push f front a in
          let both = two_signs (test a.y a.column.x a.column.owner) (test b.y b.column.x b.column.owner) a.column.sign b.column.sign (rw (same_y, same_x, same_owner)) in
          omega (arith, ints);
      weight =
          let new = weight_push front c in let first = weight_push front a in
          let sum = abs_sum a.column.sign b.column.sign in omega arith;
      order = λ order before. all_pairs_push Follows front c (front_pairs Follows front a order) (last_pairs Follows front a order);
      before = λ r before here. All-push (λ p. Follows p r) front c (front_of (λ p. Follows p r) front a before) (last_of (λ p. Follows p r) front a before);
      owners = λ n here below. All-push (λ (p : Quadrant). p.column.owner < n) front c (front_of (λ (p : Quadrant). p.column.owner < n) front a below)
          (last_of (λ (p : Quadrant). p.column.owner < n) front a below);
    })

pub adds_none : (old front : List Quadrant) (a b : Quadrant) → old ≡ front ++ a ∷ [] → IsAtPlaceOf a b → a.column.sign +ℤ b.column.sign ≡ pos 0
    → AddsQuadrant old front b
adds_none old front a b is place none =
    let same_y : a.y ≡ b.y = place.0 in let same_x : a.column.x ≡ b.column.x = place.1 in let same_owner : a.column.owner ≡ b.column.owner = place.2 in
    subst (λ (l : List Quadrant). AddsQuadrant l front b) (sym is)
    (record {
      sums = λ test.
          let f : Quadrant → ℤ = λ (p : Quadrant). if test p.y p.column.x p.column.owner then p.column.sign else pos 0 in
          let first = sum_each-push f front a in
          let both = no_sign (test a.y a.column.x a.column.owner) (test b.y b.column.x b.column.owner) a.column.sign b.column.sign (rw (same_y, same_x, same_owner)) none in
          omega (arith, ints);
      weight = let first = weight_push front a in omega arith;
      order = λ order before. front_pairs Follows front a order;
      before = λ r before here. front_of (λ p. Follows p r) front a before;
      owners = λ n here below. front_of (λ (p : Quadrant). p.column.owner < n) front a below;
    })

pub pair_fits : (quadrants front : List Quadrant) (a b : Quadrant) → quadrants ≡ front ++ a ∷ [] → quadrant_weight quadrants + unsigned_abs b.column.sign < 2 ^ 126
    → SFits w128 (a.column.sign +ℤ b.column.sign)
pair_fits quadrants front a b is small =
    let split : quadrant_weight quadrants ≡ quadrant_weight front + unsigned_abs a.column.sign = ap quadrant_weight is ∙ weight_push front a in
    let sum = abs_sum a.column.sign b.column.sign in
    fits_signed_from_abs w128 (a.column.sign +ℤ b.column.sign) (omega arith)

-- ---- the loop over the quadrants

in_order : (a b left right : ℤ) → a ≤ℤ b → column_in left right a ≤ℤ column_in left right b
in_order a b left right up = omega (arith, ints, clamps)

moved_follows : (p q : Quadrant) (left right : ℤ) → Follows p q → Follows (quadrant_in left right p) (quadrant_in left right q)
moved_follows p q left right follows = elim follows [
  | inl less ↦ inl less
  | inr level ↦ inr (level.0, in_order p.column.x q.column.x left right level.1)
]

pub cut_starts : (quadrants : List Quadrant) (left right : ℤ) → IsCutTo quadrants left right 0 []
cut_starts quadrants left right = record {
  cut = record {
    sums = λ test.
        sum_each-nil (λ (q : Quadrant). if test q.y q.column.x q.column.owner then q.column.sign else pos 0)
        ∙ sym (sum_each-nil (λ (q : Quadrant). if test q.y (column_in left right q.column.x) q.column.owner then q.column.sign else pos 0));
    weight = omega arith;
    order = λ i j d before below. absurd (omega arith);
    owners = λ n _ k d below. absurd (omega arith);
  };
  before = λ d _ k e below. absurd (omega arith);
}

pub cut_fits : (quadrants seen : List Quadrant) (left right : ℤ) (i : ℕ) (d : Quadrant) → quadrant_weight quadrants < 2 ^ 126 → i < length quadrants
    → IsCutTo quadrants left right i seen → quadrant_weight seen + unsigned_abs (get_or quadrants i d).column.sign < 2 ^ 126
cut_fits quadrants seen left right i d small at so_far =
    let light = so_far.cut.weight in
    let here = sum_by_more_le (λ (q : Quadrant). unsigned_abs q.column.sign) quadrants i d at in omega arith

pub cut_step : (quadrants seen new : List Quadrant) (left right : ℤ) (i : ℕ) (d : Quadrant) → AreInRows quadrants → i < length quadrants
    → IsCutTo quadrants left right i seen → AddsQuadrant seen new (quadrant_in left right (get_or quadrants i d)) → IsCutTo quadrants left right (i + 1) new
cut_step quadrants seen new left right i d order at so_far adds =
    let q : Quadrant = get_or quadrants i d in
    record {
      cut = record {
        sums = λ test.
            let moved : Quadrant → ℤ = λ (q : Quadrant). if test q.y (column_in left right q.column.x) q.column.owner then q.column.sign else pos 0 in
            let added = adds.sums test in let old = so_far.cut.sums test in let more = sum_each-more moved quadrants i d at in omega (arith, ints);
        weight =
            let added = adds.weight in let old = so_far.cut.weight in
            let more = sum_by_more (λ (q : Quadrant). unsigned_abs q.column.sign) quadrants i d at in omega arith;
        order = adds.order so_far.cut.order (so_far.before d at);
        owners = λ n below. adds.owners n (at_of_take (λ (q : Quadrant). q.column.owner < n) quadrants i d at below)
            (so_far.cut.owners n (all_of_take (λ (q : Quadrant). q.column.owner < n) quadrants i below));
      };
      before = λ e below.
          let next : Follows (get_or quadrants i d) (get_or quadrants (i + 1) e) =
          subst (λ (p : Quadrant). Follows p (get_or quadrants (i + 1) e)) (get_or_default quadrants i e d at) (order i (i + 1) e (omega arith) below) in
          let moved : Follows (quadrant_in left right (get_or quadrants i d)) (quadrant_in left right (get_or quadrants (i + 1) e)) =
          moved_follows (get_or quadrants i d) (get_or quadrants (i + 1) e) left right next in
          adds.before (quadrant_in left right (get_or quadrants (i + 1) e))
          (λ k f in_list. follows_on (get_or seen k f) (quadrant_in left right (get_or quadrants i d)) (quadrant_in left right (get_or quadrants (i + 1) e))
          (so_far.before d at k f in_list) moved)
          moved;
    }

pub cut_ends : (quadrants seen : List Quadrant) (left right : ℤ) (i : ℕ) → length quadrants ≤ i → IsCutTo quadrants left right i seen → IsCut quadrants left right seen
cut_ends quadrants seen left right i all so_far =
    subst (λ (l : List Quadrant). IsCut l left right seen) (take_all i quadrants all) so_far.cut

-- ---- what the strip has of each count

nested : (row own : Bool) (sign : ℤ) → (if row then (if own then sign else pos 0) else pos 0) ≡ (if row && own then sign else pos 0)
nested true own sign = refl
nested false own sign = refl

winding_tested : (quadrants : List Quadrant) (owner : ℕ) (x y : ℤ)
    → winding quadrants owner x y ≡ tested_sum (λ b a o. int_le b y && ((o == owner) && int_le a x)) quadrants
winding_tested quadrants owner x y =
    sum_each-same (λ q. if int_le q.y y then column_part owner x q.column else pos 0)
    (λ q. if int_le q.y y && ((q.column.owner == owner) && int_le q.column.x x) then q.column.sign else pos 0) quadrants
    (λ k d _. nested (int_le (get_or quadrants k d).y y) (((get_or quadrants k d).column.owner == owner) && int_le (get_or quadrants k d).column.x x) (get_or quadrants k d).column.sign)

row_tested : (quadrants : List Quadrant) (owner : ℕ) (y : ℤ) → row_total quadrants owner y ≡ tested_sum (λ b a o. int_le b y && (o == owner)) quadrants
row_tested quadrants owner y =
    sum_each-same (λ q. if int_le q.y y then owner_part owner q.column else pos 0)
    (λ q. if int_le q.y y && (q.column.owner == owner) then q.column.sign else pos 0) quadrants
    (λ k d _. nested (int_le (get_or quadrants k d).y y) ((get_or quadrants k d).column.owner == owner) (get_or quadrants k d).column.sign)

sum_zero : (f : Quadrant → ℤ) (quadrants : List Quadrant) → ((k : ℕ) (d : Quadrant) → k < length quadrants → f (get_or quadrants k d) ≡ pos 0) → sum_each f quadrants ≡ pos 0
unfolding sum_each
sum_zero f [] none = refl
sum_zero f (q ∷ quadrants) none =
    let here : f q ≡ pos 0 = none 0 q (omega arith) in
    let rest = sum_zero f quadrants (λ k d below. none (suc k) d (omega arith)) in omega (arith, ints)

is_left : (a x left right : ℤ) → left <ℤ right → x <ℤ left → int_le (column_in left right a) x ≡ false
is_left a x left right wide out = grind (arith, ints, clamps)

is_inside : (a x left right : ℤ) → left ≤ℤ x → x <ℤ right → int_le (column_in left right a) x ≡ int_le a x
is_inside a x left right from to = grind (arith, ints, clamps)

is_right : (a x left right : ℤ) → left <ℤ right → right ≤ℤ x → int_le (column_in left right a) x ≡ true
is_right a x left right wide out = grind (arith, ints, clamps)

left_part : (row own here : Bool) (sign : ℤ) → here ≡ false → (if row && (own && here) then sign else pos 0) ≡ pos 0
left_part row own here sign out = grind arith

inside_part : (row own here there : Bool) (sign : ℤ) → here ≡ there → (if row && (own && here) then sign else pos 0) ≡ (if row && (own && there) then sign else pos 0)
inside_part row own here there sign same = grind arith

right_part : (row own here : Bool) (sign : ℤ) → here ≡ true → (if row && (own && here) then sign else pos 0) ≡ (if row && own then sign else pos 0)
right_part row own here sign out = grind arith

left_column : (own here : Bool) (sign : ℤ) → here ≡ false → (if own && here then sign else pos 0) ≡ pos 0
left_column own here sign out = grind arith

same_column : (own here there : Bool) (sign : ℤ) → here ≡ there → (if own && here then sign else pos 0) ≡ (if own && there then sign else pos 0)
same_column own here there sign same = grind arith

-- left of the strip
winding_left : (quadrants seen : List Quadrant) (owner : ℕ) (left right x y : ℤ) → IsCut quadrants left right seen → left <ℤ right → x <ℤ left → winding seen owner x y ≡ pos 0
winding_left quadrants seen owner left right x y cut wide out =
    winding_tested seen owner x y
    ∙ cut.sums (λ b a o. int_le b y && ((o == owner) && int_le a x))
    ∙ sum_zero (λ q. if int_le q.y y && ((q.column.owner == owner) && int_le (column_in left right q.column.x) x) then q.column.sign else pos 0) quadrants
    (λ k d _. left_part (int_le (get_or quadrants k d).y y) ((get_or quadrants k d).column.owner == owner) (int_le (column_in left right (get_or quadrants k d).column.x) x)
    (get_or quadrants k d).column.sign (is_left (get_or quadrants k d).column.x x left right wide out))

winding_inside : (quadrants seen : List Quadrant) (owner : ℕ) (left right x y : ℤ) → IsCut quadrants left right seen → left ≤ℤ x → x <ℤ right
    → winding seen owner x y ≡ winding quadrants owner x y
winding_inside quadrants seen owner left right x y cut from to =
    winding_tested seen owner x y
    ∙ cut.sums (λ b a o. int_le b y && ((o == owner) && int_le a x))
    ∙ sum_each-same (λ q. if int_le q.y y && ((q.column.owner == owner) && int_le (column_in left right q.column.x) x) then q.column.sign else pos 0)
    (λ q. if int_le q.y y && ((q.column.owner == owner) && int_le q.column.x x) then q.column.sign else pos 0) quadrants
    (λ k d _. inside_part (int_le (get_or quadrants k d).y y) ((get_or quadrants k d).column.owner == owner) (int_le (column_in left right (get_or quadrants k d).column.x) x)
    (int_le (get_or quadrants k d).column.x x) (get_or quadrants k d).column.sign (is_inside (get_or quadrants k d).column.x x left right from to))
    ∙ sym (winding_tested quadrants owner x y)

winding_right : (quadrants seen : List Quadrant) (owner : ℕ) (left right x y : ℤ) → IsCut quadrants left right seen → left <ℤ right → right ≤ℤ x
    → winding seen owner x y ≡ row_total quadrants owner y
winding_right quadrants seen owner left right x y cut wide out =
    winding_tested seen owner x y
    ∙ cut.sums (λ b a o. int_le b y && ((o == owner) && int_le a x))
    ∙ sum_each-same (λ q. if int_le q.y y && ((q.column.owner == owner) && int_le (column_in left right q.column.x) x) then q.column.sign else pos 0)
    (λ q. if int_le q.y y && (q.column.owner == owner) then q.column.sign else pos 0) quadrants
    (λ k d _. right_part (int_le (get_or quadrants k d).y y) ((get_or quadrants k d).column.owner == owner) (int_le (column_in left right (get_or quadrants k d).column.x) x)
    (get_or quadrants k d).column.sign (is_right (get_or quadrants k d).column.x x left right wide out))
    ∙ sym (row_tested quadrants owner y)

-- ---- nothing is left far right and far up

column_left : (quadrants seen : List Quadrant) (owner : ℕ) (left right x : ℤ) → IsCut quadrants left right seen → left <ℤ right → x <ℤ left → column_total seen owner x ≡ pos 0
column_left quadrants seen owner left right x cut wide out =
    cut.sums (λ b a o. (o == owner) && int_le a x)
    ∙ sum_zero (λ q. if (q.column.owner == owner) && int_le (column_in left right q.column.x) x then q.column.sign else pos 0) quadrants
    (λ k d _. left_column ((get_or quadrants k d).column.owner == owner) (int_le (column_in left right (get_or quadrants k d).column.x) x)
    (get_or quadrants k d).column.sign (is_left (get_or quadrants k d).column.x x left right wide out))

column_inside : (quadrants seen : List Quadrant) (owner : ℕ) (left right x : ℤ) → IsCut quadrants left right seen → left ≤ℤ x → x <ℤ right
    → column_total seen owner x ≡ column_total quadrants owner x
column_inside quadrants seen owner left right x cut from to =
    cut.sums (λ b a o. (o == owner) && int_le a x)
    ∙ sum_each-same (λ q. if (q.column.owner == owner) && int_le (column_in left right q.column.x) x then q.column.sign else pos 0)
    (λ q. column_part owner x q.column) quadrants
    (λ k d _. same_column ((get_or quadrants k d).column.owner == owner) (int_le (column_in left right (get_or quadrants k d).column.x) x)
    (int_le (get_or quadrants k d).column.x x) (get_or quadrants k d).column.sign (is_inside (get_or quadrants k d).column.x x left right from to))

further : (q : Quadrant) (quadrants : List Quadrant) (most : ℤ) → ((k : ℕ) (d : Quadrant) → k < length quadrants → (get_or quadrants k d).column.x ≤ℤ most)
    → (k : ℕ) (d : Quadrant) → k < length (q ∷ quadrants) → (get_or (q ∷ quadrants) k d).column.x ≤ℤ int_max q.column.x most
further q quadrants most all zero d below = omega (arith, ints, clamps)
further q quadrants most all (suc k) d below = (let here = all k d (omega arith) in omega (arith, ints, clamps))

-- a number that no quadrant begins right of
furthest : (quadrants : List Quadrant) → (most : ℤ) × ((k : ℕ) (d : Quadrant) → k < length quadrants → (get_or quadrants k d).column.x ≤ℤ most)
furthest [] = (pos 0, λ k d below. absurd (omega arith))
furthest (q ∷ quadrants) = (let rest = furthest quadrants in (int_max q.column.x rest.0, further q quadrants rest.0 rest.1))

is_up_to : (a x : ℤ) → a ≤ℤ x → int_le a x ≡ true
is_up_to a x up = grind (arith, ints)

-- right of the strip each quadrant counts, as it does far right of all
column_right : (quadrants seen : List Quadrant) (owner : ℕ) (left right x : ℤ) → IsCut quadrants left right seen → left <ℤ right → right ≤ℤ x
    → ((z : ℤ) → column_total quadrants owner z ≡ pos 0) → column_total seen owner x ≡ pos 0
column_right quadrants seen owner left right x cut wide out closed =
    let far = furthest quadrants in
    cut.sums (λ b a o. (o == owner) && int_le a x)
    ∙ sum_each-same (λ q. if (q.column.owner == owner) && int_le (column_in left right q.column.x) x then q.column.sign else pos 0)
    (λ q. column_part owner far.0 q.column) quadrants
    (λ k d below. same_column ((get_or quadrants k d).column.owner == owner) (int_le (column_in left right (get_or quadrants k d).column.x) x)
    (int_le (get_or quadrants k d).column.x far.0) (get_or quadrants k d).column.sign
    (is_right (get_or quadrants k d).column.x x left right wide out ∙ sym (is_up_to (get_or quadrants k d).column.x far.0 (far.1 k d below))))
    ∙ closed far.0

pub cut_swept : (n : ℕ) (quadrants seen : List Quadrant) (left right : ℤ) → left <ℤ right → AreSwept n quadrants → IsCut quadrants left right seen → AreSwept n seen
cut_swept n quadrants seen left right wide swept cut = record {
  order = cut.order;
  owners = cut.owners n swept.owners;
  small = let light = cut.weight in let small = swept.small in omega arith;
  closed_right = λ owner y.
      row_tested seen owner y ∙ cut.sums (λ b a o. int_le b y && (o == owner)) ∙ sym (row_tested quadrants owner y) ∙ swept.closed_right owner y;
  closed_above = λ owner x. by_lt_z x left
      (λ out. column_left quadrants seen owner left right x cut wide out)
      (λ from. by_lt_z x right
      (λ to. column_inside quadrants seen owner left right x cut from to ∙ swept.closed_above owner x)
      (λ out. column_right quadrants seen owner left right x cut wide out (swept.closed_above owner)));
}

-- ---- what is covered

out_of_strip : (left right x : ℤ) (seen wound : Bool) → (x <ℤ left) ⊎ (right ≤ℤ x) → seen ≡ false → seen ≡ (int_le left x && int_lt x right && wound)
out_of_strip left right x seen wound (inl out) none = grind (arith, ints)
out_of_strip left right x seen wound (inr out) none = grind (arith, ints)

in_strip : (left right x : ℤ) (seen wound : Bool) → left ≤ℤ x → x <ℤ right → seen ≡ wound → seen ≡ (int_le left x && int_lt x right && wound)
in_strip left right x seen wound from to same = grind (arith, ints)

pub cut_wound : (n : ℕ) (quadrants seen : List Quadrant) (left right x y : ℤ) → left <ℤ right → AreSwept n quadrants → IsCut quadrants left right seen
    → is_wound n seen x y ≡ (int_le left x && int_lt x right && is_wound n quadrants x y)
cut_wound n quadrants seen left right x y wide swept cut =
    by_lt_z x left
    (λ out. out_of_strip left right x (is_wound n seen x y) (is_wound n quadrants x y) (inl out)
    (any_set-zero n (λ owner. winding seen owner x y) (λ owner _. winding_left quadrants seen owner left right x y cut wide out)))
    (λ from. by_lt_z x right
    (λ to. in_strip left right x (is_wound n seen x y) (is_wound n quadrants x y) from to
    (any_set-same n (λ owner. winding seen owner x y) (λ owner. winding quadrants owner x y) (λ owner _. winding_inside quadrants seen owner left right x y cut from to)))
    (λ out. out_of_strip left right x (is_wound n seen x y) (is_wound n quadrants x y) (inr out)
    (any_set-zero n (λ owner. winding seen owner x y) (λ owner _. winding_right quadrants seen owner left right x y cut wide out ∙ swept.closed_right owner y))))

last_of_and : (a b : Bool) → (a && b) ≡ true → b ≡ true
last_of_and true b is = is
last_of_and false b is = absurd (cc)

-- the strip's rectangles lie within the limit
pub strip_inside : (limit n : ℕ) (quadrants : List Quadrant) (rects : List Rect) (left right : ℤ) → AreInLimit limit n quadrants
    → ((x y : ℤ) → cover rects x y ≡ (int_le left x && int_lt x right && is_wound n quadrants x y)) → (x y : ℤ) → cover rects x y ≡ true → IsInLimit limit x y
strip_inside limit n quadrants rects left right near pixels x y on =
    near x y (last_of_and (int_le left x && int_lt x right) (is_wound n quadrants x y) (sym (pixels x y) ∙ on))

pub strip_between : (left right x : ℤ) (rects wound : Bool) → left ≤ℤ x → x <ℤ right → rects ≡ (int_le left x && int_lt x right && wound) → rects ≡ wound
strip_between left right x rects wound from to is = grind (arith, ints)
