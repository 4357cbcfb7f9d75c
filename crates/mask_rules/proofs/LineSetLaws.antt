-- The rows and columns of a set within the field.
use Rattle.std.proofs.Common.{◌≡◌, ◌⊎◌, inl, inr, ℕ, ◌≤◌, ℤ, pos, negsuc, neg_ℤ, ◌+ℤ◌, ◌-ℤ◌, ◌≤ℤ◌, ◌<ℤ◌, int_eq, int_le, int_lt, Bool, true, false, not, ◌&&◌, if◌then◌else◌, List, [], ◌∷◌, length, get_or, take, take_all, refl, sym, ◌∙◌, ap, arith}
use Rattle.std.specs.Prelude.{All}
use Rattle.std.proofs.lemmas.Int.{ints}
use Rattle.opc_base.specs.declared.plane.Corner.{Corner}
use Rattle.opc_base.specs.declared.plane.Pix.{Pix}
use Rattle.opc_base.specs.declared.plane.Rect.{Rect}
use Rattle.opc_base.specs.Canonical.{AreCanonical, IsSolid}
use Rattle.opc_base.specs.Corners.{quadrant_sum}
use Rattle.opc_base.specs.Plane.{IsRectWithin, PixelSet, cover, indicator, outside, rect_cover}
use Rattle.opc_base.specs.Runs.{IsRun}
use Rattle.opc_base.specs.Sums.{sum_each}
use Rattle.rect_union.specs.CornerSets.{AreCornersOfSet, IsCornerWithin, corner_set, rect_sign}
use Rattle.rect_union.specs.Outlines.{rect_count}
use Rattle.rect_union.specs.Strips.{IsInLimit}
use Rattle.rect_union.proofs.RectCornerLaws.{count_is_cover}
use Rattle.rect_union.proofs.SumLaws.{sum_each-same}
use Rattle.rect_union.proofs.WithinLaws.{rects_within}
use Rattle.mask_rules.specs.LineSets.{LiesInShortLine, across, field, field_rect, field_sign, line_set, sign_of, turned, turned_rect}
use Rattle.mask_rules.specs.ShortLines.{LiesInside}

-- ---- the field

field_at : (x y : ℤ) → IsInLimit 1048576 x y → field x y ≡ true
field_at x y inside = let left = inside.left in let right = inside.right in let low = inside.low in let high = inside.high in grind (arith, ints)

in_field : (x y : ℤ) → field x y ≡ true → IsInLimit 1048576 x y
in_field x y is = record { left = grind (arith, ints); right = grind (arith, ints); low = grind (arith, ints); high = grind (arith, ints) }

covered_in_field : (turn : Bool) (rects : List Rect) → All (IsRectWithin 1048576) rects → (x y : ℤ) → turned turn (cover rects) x y ≡ true → field x y ≡ true
covered_in_field false rects within x y is = field_at x y (rects_within 1048576 rects x y within is)
covered_in_field true rects within x y is =
    let inside = rects_within 1048576 rects y x within is in
    field_at x y (record { left = inside.low; right = inside.high; low = inside.left; high = inside.right })

left_of_and : (a b : Bool) → a && b ≡ true → a ≡ true
left_of_and true b is = refl
left_of_and false b is = is

right_of_and : (a b : Bool) → a && b ≡ true → b ≡ true
right_of_and true b is = is
right_of_and false b is = absurd (cc)

both_of : (a b : Bool) → a ≡ true → b ≡ true → a && b ≡ true
both_of a b p q = rw (p, q) refl

false_right : (a b : Bool) → a ≡ true → a && b ≡ false → b ≡ false
false_right true b p is = is
false_right false b p is = absurd (cc)

false_both : (a b : Bool) → b ≡ false → a && b ≡ false
false_both true b is = is
false_both false b is = refl

true_if_not : (b : Bool) → not b ≡ false → b ≡ true
true_if_not true is = refl
true_if_not false is = absurd (cc)

line_in_field : (turn out : Bool) (rects : List Rect) → All (IsRectWithin 1048576) rects → (x y : ℤ) → line_set turn out (cover rects) x y ≡ true → field x y ≡ true
line_in_field turn false rects within x y is = covered_in_field turn rects within x y is
line_in_field turn true rects within x y is = left_of_and (field x y) (not (turned turn (cover rects) x y)) is

-- ---- the sums of the corners

turned_tests : (a b c d : Bool) → (if a && b && c && d then pos 1 else pos 0) ≡ (if c && d && a && b then pos 1 else pos 0)
turned_tests true true c d = grind arith
turned_tests true false c d = grind arith
turned_tests false b c d = grind arith

turned_sum : (turn : Bool) (rects : List Rect) → AreCanonical rects → (x y : ℤ)
    → sum_each (λ r. rect_sign (pos 1) (turned_rect turn r) x y) rects ≡ indicator (turned turn (cover rects)) x y
turned_sum false rects canonical x y = count_is_cover rects canonical x y
turned_sum true rects canonical x y =
    sum_each-same (λ r. rect_sign (pos 1) (turned_rect true r) x y) (λ r. rect_count r y x) rects
    (λ k d below. turned_tests (int_le (get_or rects k d).y0 x) (int_lt x (get_or rects k d).y1) (int_le (get_or rects k d).x0 y) (int_lt y (get_or rects k d).x1))
    ∙ count_is_cover rects canonical y x

opposite : (b : Bool) (rest other : ℤ) → rest ≡ neg_ℤ other → (if b then negsuc 0 else pos 0) +ℤ rest ≡ neg_ℤ ((if b then pos 1 else pos 0) +ℤ other)
opposite true rest other is = omega (arith, ints)
opposite false rest other is = omega (arith, ints)

opposite_sum : (turn : Bool) (rects : List Rect) (x y : ℤ) → sum_each (λ r. rect_sign (negsuc 0) (turned_rect turn r) x y) rects ≡ neg_ℤ (sum_each (λ r. rect_sign (pos 1) (turned_rect turn r) x y) rects)
unfolding sum_each
opposite_sum turn [] x y = refl
opposite_sum turn (r ∷ rects) x y =
    opposite (rect_cover (turned_rect turn r) x y) (sum_each (λ r. rect_sign (negsuc 0) (turned_rect turn r) x y) rects) (sum_each (λ r. rect_sign (pos 1) (turned_rect turn r) x y) rects)
    (opposite_sum turn rects x y)

field_less : (f t : Bool) → (t ≡ true → f ≡ true) → (if f then pos 1 else pos 0) +ℤ neg_ℤ (if t then pos 1 else pos 0) ≡ (if f && not t then pos 1 else pos 0)
field_less true true inside = refl
field_less true false inside = refl
field_less false true inside = (let never = inside refl in absurd (cc))
field_less false false inside = refl

zero_and : (z : ℤ) → pos 0 +ℤ z ≡ z
zero_and z = omega (arith, ints)

pub line_sum : (turn out : Bool) (rects : List Rect) → AreCanonical rects → All (IsRectWithin 1048576) rects → (x y : ℤ)
    → field_sign out x y +ℤ sum_each (λ r. rect_sign (sign_of out) (turned_rect turn r) x y) rects ≡ indicator (line_set turn out (cover rects)) x y
line_sum turn false rects canonical within x y =
    zero_and (sum_each (λ r. rect_sign (pos 1) (turned_rect turn r) x y) rects) ∙ turned_sum turn rects canonical x y
line_sum turn true rects canonical within x y =
    ap (λ z. field_sign true x y +ℤ z) (opposite_sum turn rects x y ∙ ap neg_ℤ (turned_sum turn rects canonical x y))
    ∙ field_less (field x y) (turned turn (cover rects) x y) (covered_in_field turn rects within x y)

-- all rectangles have added their corners
pub lines_summed : (turn out : Bool) (rects : List Rect) (corners : List Corner) (i : ℕ) → AreCanonical rects → All (IsRectWithin 1048576) rects → length rects ≤ i
    → ((x y : ℤ) → quadrant_sum corners x y ≡ field_sign out x y +ℤ sum_each (λ r. rect_sign (sign_of out) (turned_rect turn r) x y) (take i rects))
    → (x y : ℤ) → quadrant_sum corners x y ≡ indicator (line_set turn out (cover rects)) x y
lines_summed turn out rects corners i canonical within all sums x y =
    sums x y
    ∙ ap (λ (l : List Rect). field_sign out x y +ℤ sum_each (λ r. rect_sign (sign_of out) (turned_rect turn r) x y) l) (take_all i rects all)
    ∙ line_sum turn out rects canonical within x y

pub no_field : (out : Bool) (x y : ℤ) → out ≡ false → pos 0 ≡ field_sign out x y
no_field true x y is = absurd (cc)
no_field false x y is = refl

pub whole_field : (out : Bool) (x y : ℤ) → out ≡ true → rect_sign (pos 1) field_rect x y ≡ field_sign out x y
whole_field true x y is = refl
whole_field false x y is = absurd (cc)

bit : (b : Bool) → ((if b then pos 1 else pos 0) ≡ pos 0) ⊎ ((if b then pos 1 else pos 0) ≡ pos 1)
bit true = inr refl
bit false = inl refl

bit_test : (b : Bool) → int_eq (if b then pos 1 else pos 0) (pos 1) ≡ b
bit_test true = refl
bit_test false = refl

off_unless : (b : Bool) → (b ≡ true → ⊥) → b ≡ false
off_unless true never = absurd (never refl)
off_unless false never = refl

-- corners that sum to the line set
pub corners_of_lines : (turn out : Bool) (rects : List Rect) (corners : List Corner) → All (IsRectWithin 1048576) rects → All (IsCornerWithin 1048576) corners
    → ((x y : ℤ) → quadrant_sum corners x y ≡ indicator (line_set turn out (cover rects)) x y) → AreCornersOfSet corners
corners_of_lines turn out rects corners within near sums = record {
  bits = λ x y. elim (bit (line_set turn out (cover rects) x y)) [ inl none ↦ inl (sums x y ∙ none) | inr one ↦ inr (sums x y ∙ one) ];
  within = near;
  none_right = λ x y far. sums x y ∙ ap (λ (b : Bool). if b then pos 1 else pos 0)
      (off_unless (line_set turn out (cover rects) x y) (λ is. let inside = in_field x y (line_in_field turn out rects within x y is) in let right = inside.right in omega (arith, ints)));
  none_above = λ x y far. sums x y ∙ ap (λ (b : Bool). if b then pos 1 else pos 0)
      (off_unless (line_set turn out (cover rects) x y) (λ is. let inside = in_field x y (line_in_field turn out rects within x y is) in let high = inside.high in omega (arith, ints)));
}

pub pixels_of_lines : (turn out : Bool) (rects : List Rect) (corners : List Corner)
    → ((x y : ℤ) → quadrant_sum corners x y ≡ indicator (line_set turn out (cover rects)) x y)
    → (x y : ℤ) → corner_set corners x y ≡ line_set turn out (cover rects) x y
pixels_of_lines turn out rects corners sums x y = ap (λ z. int_eq z (pos 1)) (sums x y) ∙ bit_test (line_set turn out (cover rects) x y)

pub turned_solid : (turn : Bool) (r : Rect) → IsSolid r → IsSolid (turned_rect turn r)
turned_solid false r solid = solid
turned_solid true r solid = record { wide = solid.high; high = solid.wide }

pub turned_within : (turn : Bool) (r : Rect) → IsRectWithin 1048576 r → IsRectWithin 1048576 (turned_rect turn r)
turned_within false r near = near
turned_within true r near = (near.1, near.0, near.3, near.2)

pub sign_of_is : (out : Bool) → (sign_of out ≡ pos 1) ⊎ (sign_of out ≡ negsuc 0)
sign_of_is false = inl refl
sign_of_is true = inr refl

pub field_solid : IsSolid field_rect
field_solid = record { wide = omega (arith, ints); high = omega (arith, ints) }

pub field_within : IsRectWithin 1048576 field_rect
field_within = (omega (arith, ints), omega (arith, ints), omega (arith, ints), omega (arith, ints))

-- ---- runs inside the limit

turned_outside : (turn : Bool) (pixels : PixelSet) (x y : ℤ) → turned turn (outside pixels) x y ≡ not (turned turn pixels x y)
turned_outside false pixels x y = refl
turned_outside true pixels x y = refl

run_same : (f g : ℤ → Bool) (first past : ℤ) → ((t : ℤ) → f t ≡ g t) → IsRun f first past → IsRun g first past
run_same f g first past same run = record {
  some = run.some;
  all = λ t from to. sym (same t) ∙ run.all t from to;
  before = sym (same (first -ℤ pos 1)) ∙ run.before;
  after = sym (same past) ∙ run.after;
}

-- in a row of the field, the runs of what is not in the set
outer_run : (turn : Bool) (pixels : PixelSet) (y first past : ℤ) → neg_ℤ (pos 1048576) <ℤ first → past <ℤ pos 1048576
    → IsRun (λ s. line_set turn true pixels s y) first past → IsRun (λ s. turned turn (outside pixels) s y) first past
outer_run turn pixels y first past left right run =
    let some = run.some in
    let start = in_field first y (left_of_and (field first y) (not (turned turn pixels first y)) (run.all first (omega (arith, ints)) some)) in
    let low = start.low in let high = start.high in
    let at : (x : ℤ) → neg_ℤ (pos 1048576) ≤ℤ x → x <ℤ pos 1048576 → field x y ≡ true = λ x from to. field_at x y (record { left = from; right = to; low = start.low; high = start.high }) in
    record {
      some = run.some;
      all = λ t from to. turned_outside turn pixels t y ∙ right_of_and (field t y) (not (turned turn pixels t y)) (run.all t from to);
      before = turned_outside turn pixels (first -ℤ pos 1) y ∙ false_right (field (first -ℤ pos 1) y) (not (turned turn pixels (first -ℤ pos 1) y))
          (at (first -ℤ pos 1) (omega (arith, ints)) (omega (arith, ints))) run.before;
      after = turned_outside turn pixels past y ∙ false_right (field past y) (not (turned turn pixels past y)) (at past (omega (arith, ints)) right) run.after;
    }

record EndsInField (first past y : ℤ) : Type 0 where
  pub left : IsInLimit 1048576 (first -ℤ pos 1) y
  pub right : IsInLimit 1048576 past y

ends_in_field : (turn : Bool) (pixels : PixelSet) (y first past : ℤ) → ((x y : ℤ) → turned turn pixels x y ≡ true → field x y ≡ true)
    → IsRun (λ s. turned turn (outside pixels) s y) first past → EndsInField first past y
ends_in_field turn pixels y first past inside run = record {
  left = in_field (first -ℤ pos 1) y (inside (first -ℤ pos 1) y (true_if_not (turned turn pixels (first -ℤ pos 1) y) (sym (turned_outside turn pixels (first -ℤ pos 1) y) ∙ run.before)));
  right = in_field past y (inside past y (true_if_not (turned turn pixels past y) (sym (turned_outside turn pixels past y) ∙ run.after)));
}

inner_run : (turn : Bool) (pixels : PixelSet) (y first past : ℤ) → EndsInField first past y
    → IsRun (λ s. turned turn (outside pixels) s y) first past → IsRun (λ s. line_set turn true pixels s y) first past
inner_run turn pixels y first past ends run =
    let a = ends.left.left in let b = ends.right.right in
    record {
      some = run.some;
      all = λ t from to. both_of (field t y) (not (turned turn pixels t y))
          (field_at t y (record { left = omega (arith, ints); right = omega (arith, ints); low = ends.left.low; high = ends.left.high }))
          (sym (turned_outside turn pixels t y) ∙ run.all t from to);
      before = false_both (field (first -ℤ pos 1) y) (not (turned turn pixels (first -ℤ pos 1) y)) (sym (turned_outside turn pixels (first -ℤ pos 1) y) ∙ run.before);
      after = false_both (field past y) (not (turned turn pixels past y)) (sym (turned_outside turn pixels past y) ∙ run.after);
    }

pub short_if_inside : (turn out : Bool) (rects lines : List Rect) (least : ℤ) → ((x y : ℤ) → cover lines x y ≡ line_set turn out (cover rects) x y)
    → (p : Pix) → LiesInside turn out least lines p → LiesInShortLine turn out (cover rects) least p
short_if_inside turn false rects lines least same p inside = record {
  first = inside.first;
  past = inside.past;
  run = run_same (λ s. cover lines s (across turn p)) (λ s. turned turn (cover rects) s (across turn p)) inside.first inside.past (λ s. same s (across turn p)) inside.run;
  from = inside.from;
  to = inside.to;
  short = inside.short;
}
short_if_inside turn true rects lines least same p inside = record {
  first = inside.first;
  past = inside.past;
  run = outer_run turn (cover rects) (across turn p) inside.first inside.past inside.ends.0 inside.ends.1
      (run_same (λ s. cover lines s (across turn p)) (λ s. line_set turn true (cover rects) s (across turn p)) inside.first inside.past (λ s. same s (across turn p)) inside.run);
  from = inside.from;
  to = inside.to;
  short = inside.short;
}

pub inside_if_short : (turn out : Bool) (rects lines : List Rect) (least : ℤ) → All (IsRectWithin 1048576) rects → ((x y : ℤ) → cover lines x y ≡ line_set turn out (cover rects) x y)
    → (p : Pix) → LiesInShortLine turn out (cover rects) least p → LiesInside turn out least lines p
inside_if_short turn false rects lines least within same p lies = record {
  first = lies.first;
  past = lies.past;
  run = run_same (λ s. turned turn (cover rects) s (across turn p)) (λ s. cover lines s (across turn p)) lies.first lies.past (λ s. sym (same s (across turn p))) lies.run;
  from = lies.from;
  to = lies.to;
  short = lies.short;
  ends = tt;
}
inside_if_short turn true rects lines least within same p lies =
    let ends = ends_in_field turn (cover rects) (across turn p) lies.first lies.past (covered_in_field turn rects within) lies.run in
    let a = ends.left.left in let b = ends.right.right in
    record {
      first = lies.first;
      past = lies.past;
      run = run_same (λ s. line_set turn true (cover rects) s (across turn p)) (λ s. cover lines s (across turn p)) lies.first lies.past (λ s. sym (same s (across turn p)))
          (inner_run turn (cover rects) (across turn p) lies.first lies.past ends lies.run);
      from = lies.from;
      to = lies.to;
      short = lies.short;
      ends = (omega (arith, ints), omega (arith, ints));
    }
