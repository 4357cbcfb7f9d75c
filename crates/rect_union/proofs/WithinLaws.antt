-- Placed outlines cover pixels within their limit alone.
use Rattle.std.proofs.Common.{◌≡◌, ◌≢◌, inl, inr, ℕ, suc, ◌<◌, ◌≤◌, ℤ, pos, neg_ℤ, ◌-ℤ◌, ◌≤ℤ◌, ◌<ℤ◌, int_eq, int_le, Bool, true, false, not, ◌||◌, ◌&&◌, if◌then◌else◌, List, [], ◌∷◌, length, get_or, refl, sym, ◌∙◌, ap, arith}
use Rattle.std.specs.Prelude.{All}
use Rattle.std.proofs.lemmas.Int.{ints, by_lt_z}
use Rattle.std.proofs.lemmas.List.Folds.{list_any_at}
use Rattle.opc_base.specs.declared.plane.Corner.{Corner}
use Rattle.opc_base.specs.declared.plane.Pix.{Pix}
use Rattle.opc_base.specs.declared.plane.Rect.{Rect}
use Rattle.opc_base.specs.declared.outline.Outline.{Outline}
use Rattle.opc_base.specs.declared.outline.Outline.TheVariants.{Polygon, Path}
use Rattle.opc_base.specs.Plane.{IsRectWithin, cover, rect_cover}
use Rattle.opc_base.specs.Canonical.{AreCanonical, IsSolid}
use Rattle.opc_base.specs.Cover.{IsPlaced, IsPolygon, crossings, crossings_from, last_from, outline_cover, step}
use Rattle.opc_base.specs.Target.{target}
use Rattle.opc_base.specs.Corners.{quadrant_sum}
use Rattle.opc_base.specs.Sums.{sum_each}
use Rattle.rect_union.specs.CornerSets.{AreCornersOfSet, IsCornerWithin, corner_set}
use Rattle.rect_union.specs.Strips.{IsInLimit}
use Rattle.rect_union.proofs.LowerSides.{known}
use Rattle.rect_union.proofs.SumLaws.{sum_each-same}

-- ---- polygons

skipped : (a x z : ℤ) → x <ℤ a → (if int_le a x then z else pos 0) ≡ pos 0
skipped a x z right = grind (arith, ints)

taken : (a x z : ℤ) → a ≤ℤ x → (if int_le a x then z else pos 0) ≡ z
taken a x z left = grind (arith, ints)

no_difference : (b : Bool) (s t : ℤ) → s ≡ t → (if b then s -ℤ t else pos 0) ≡ pos 0
no_difference true s t same = omega (arith, ints)
no_difference false s t same = refl

-- nothing is counted left of the walk
none_left : (p : Pix) (points : List Pix) (x y : ℤ) → ((k : ℕ) (d : Pix) → k < length (p ∷ points) → x <ℤ (get_or (p ∷ points) k d).x) → crossings_from p points x y ≡ pos 0
none_left p [] x y right = refl
none_left p (q ∷ points) x y right =
    let here = skipped p.x x (step q.y y -ℤ step p.y y) (right 0 p (omega arith)) in
    let rest = none_left q points x y (λ k d below. right (suc k) d (omega arith)) in omega (arith, ints)

-- right of it, its last step less its first
right_of : (p : Pix) (points : List Pix) (x y : ℤ) → ((k : ℕ) (d : Pix) → k < length (p ∷ points) → (get_or (p ∷ points) k d).x ≤ℤ x)
    → crossings_from p points x y ≡ step (last_from p points).y y -ℤ step p.y y
right_of p [] x y left = omega (arith, ints)
right_of p (q ∷ points) x y left =
    let here = taken p.x x (step q.y y -ℤ step p.y y) (left 0 p (omega arith)) in
    let rest = right_of q points x y (λ k d below. left (suc k) d (omega arith)) in omega (arith, ints)

-- nothing in a row that all points are above, or none is
none_level : (p : Pix) (points : List Pix) (x y z : ℤ) → ((k : ℕ) (d : Pix) → k < length (p ∷ points) → step (get_or (p ∷ points) k d).y y ≡ z) → crossings_from p points x y ≡ pos 0
none_level p [] x y z same = refl
none_level p (q ∷ points) x y z same =
    let here = no_difference (int_le p.x x) (step q.y y) (step p.y y) (same 1 q (omega arith) ∙ sym (same 0 p (omega arith))) in
    let rest = none_level q points x y z (λ k d below. same (suc k) d (omega arith)) in omega (arith, ints)

polygon_within : (points : List Pix) (x y : ℤ) → IsPolygon points → crossings points x y ≢ pos 0 → IsInLimit 1048000 x y
polygon_within [] x y polygon some = absurd polygon.closed
polygon_within (p ∷ points) x y polygon some = record {
  left = by_lt_z x (neg_ℤ (pos 1048000))
      (λ less. absurd (some (none_left p points x y (λ k d below. let near = (polygon.within k d below).0 in omega (arith, ints)))))
      (λ most. most);
  right = by_lt_z x (pos 1048000)
      (λ less. less)
      (λ most. absurd (some (right_of p points x y (λ k d below. let near = (polygon.within k d below).0 in omega (arith, ints))
      ∙ (let ends = ap (λ (q : Pix). step q.y y) polygon.closed in omega (arith, ints)))));
  low = by_lt_z y (neg_ℤ (pos 1048000))
      (λ less. absurd (some (none_level p points x y (pos 0) (λ k d below. let near = (polygon.within k d below).1 in
      skipped (get_or (p ∷ points) k d).y y (pos 1) (omega (arith, ints))))))
      (λ most. most);
  high = by_lt_z y (pos 1048000)
      (λ less. less)
      (λ most. absurd (some (none_level p points x y (pos 1) (λ k d below. let near = (polygon.within k d below).1 in
      taken (get_or (p ∷ points) k d).y y (pos 1) (omega (arith, ints))))));
}

-- ---- paths

rect_within : (limit : ℕ) (r : Rect) (x y : ℤ) → IsRectWithin limit r → rect_cover r x y ≡ true → IsInLimit limit x y
rect_within limit r x y near is =
    let a = near.0 in let b = near.1 in let c = near.2 in let d = near.3 in
    let from : r.x0 ≤ℤ x = grind (arith, ints) in let to : x <ℤ r.x1 = grind (arith, ints) in
    let bottom : r.y0 ≤ℤ y = grind (arith, ints) in let top : y <ℤ r.y1 = grind (arith, ints) in
    record { left = omega (arith, ints); right = omega (arith, ints); low = omega (arith, ints); high = omega (arith, ints) }

pub rects_within : (limit : ℕ) (rects : List Rect) (x y : ℤ) → All (IsRectWithin limit) rects → cover rects x y ≡ true → IsInLimit limit x y
rects_within limit [] x y near is = absurd (cc)
rects_within limit (r ∷ rects) x y near is = elim (known (rect_cover r x y)) [
  | inl here ↦ rect_within limit r x y (near 0 r (omega arith)) here
  | inr off ↦ rects_within limit rects x y (λ k d below. near (suc k) d (omega arith)) (ap (λ b. b || cover rects x y) (sym off) ∙ is)
]

-- ---- the target

not_zero : (z : ℤ) → not (int_eq z (pos 0)) ≡ true → z ≢ pos 0
not_zero z is none = (let zero = ap (λ t. not (int_eq t (pos 0))) none in let never : false ≡ true = sym zero ∙ is in cc)

outline_within : (o : Outline) (x y : ℤ) → IsPlaced o → outline_cover o x y ≡ true → IsInLimit 1048000 x y
outline_within (Polygon points) x y placed is = polygon_within points x y placed (not_zero (crossings points x y) is)
outline_within (Path rects) x y placed is = rects_within 1048000 rects x y placed.within is

target_within : (outlines : List Outline) (x y : ℤ) → All IsPlaced outlines → target outlines x y ≡ true → IsInLimit 1048000 x y
target_within [] x y placed is = absurd (cc)
target_within (o ∷ outlines) x y placed is = elim (known (outline_cover o x y)) [
  | inl here ↦ outline_within o x y (placed 0 o (omega arith)) here
  | inr off ↦ target_within outlines x y (λ k d below. placed (suc k) d (omega arith)) (ap (λ b. b || target outlines x y) (sym off) ∙ is)
]

inside : (r : Rect) (x y : ℤ) → r.x0 ≤ℤ x → x <ℤ r.x1 → r.y0 ≤ℤ y → y <ℤ r.y1 → rect_cover r x y ≡ true
inside r x y left right low high = grind (arith, ints)

-- rectangles lie within the limit of the pixels that they cover
pub rects_in_limit : (limit : ℕ) (rects : List Rect) → All IsSolid rects → ((x y : ℤ) → cover rects x y ≡ true → IsInLimit limit x y) → All (IsRectWithin limit) rects
rects_in_limit limit rects all_solid inside_limit k d below =
    let solid = all_solid k d below in let wide = solid.wide in let tall = solid.high in
    let covered : (x y : ℤ) → rect_cover (get_or rects k d) x y ≡ true → IsInLimit limit x y = λ x y is.
    inside_limit x y (list_any_at (λ r. rect_cover r x y) rects k d below is) in
    let first : IsInLimit limit (get_or rects k d).x0 (get_or rects k d).y0 = covered (get_or rects k d).x0 (get_or rects k d).y0
    (inside (get_or rects k d) (get_or rects k d).x0 (get_or rects k d).y0 (omega (arith, ints)) wide (omega (arith, ints)) tall) in
    let last : IsInLimit limit ((get_or rects k d).x1 -ℤ pos 1) ((get_or rects k d).y1 -ℤ pos 1) = covered ((get_or rects k d).x1 -ℤ pos 1) ((get_or rects k d).y1 -ℤ pos 1)
    (inside (get_or rects k d) ((get_or rects k d).x1 -ℤ pos 1) ((get_or rects k d).y1 -ℤ pos 1) (omega (arith, ints)) (omega (arith, ints)) (omega (arith, ints)) (omega (arith, ints))) in
    let a = first.left in let b = first.low in let e = first.right in let f = first.high in
    let g = last.left in let h = last.low in let i = last.right in let j = last.high in
    (omega (arith, ints), omega (arith, ints), omega (arith, ints), omega (arith, ints))

pub rects_are_within : (outlines : List Outline) (rects : List Rect) → All IsPlaced outlines → AreCanonical rects
    → ((x y : ℤ) → cover rects x y ≡ target outlines x y) → All (IsRectWithin 1048000) rects
rects_are_within outlines rects placed canonical pixels =
    rects_in_limit 1048000 rects canonical.solid (λ x y is. target_within outlines x y placed (sym (pixels x y) ∙ is))

-- ---- corners

left_part : (a x sign : ℤ) (other : Bool) → x <ℤ a → (if int_le a x && other then sign else pos 0) ≡ pos 0
left_part a x sign other right = grind (arith, ints)

low_part : (a x sign : ℤ) (other : Bool) → x <ℤ a → (if other && int_le a x then sign else pos 0) ≡ pos 0
low_part a x sign other right = grind (arith, ints)

right_part : (a x z sign : ℤ) (other : Bool) → a ≤ℤ x → a ≤ℤ z → (if int_le a x && other then sign else pos 0) ≡ (if int_le a z && other then sign else pos 0)
right_part a x z sign other first second = grind (arith, ints)

high_part : (a x z sign : ℤ) (other : Bool) → a ≤ℤ x → a ≤ℤ z → (if other && int_le a x then sign else pos 0) ≡ (if other && int_le a z then sign else pos 0)
high_part a x z sign other first second = grind (arith, ints)

sum_of_none : (f : Corner → ℤ) (corners : List Corner) → ((k : ℕ) (d : Corner) → k < length corners → f (get_or corners k d) ≡ pos 0) → sum_each f corners ≡ pos 0
unfolding sum_each
sum_of_none f [] none = refl
sum_of_none f (c ∷ corners) none =
    let here : f c ≡ pos 0 = none 0 c (omega arith) in
    let rest = sum_of_none f corners (λ k d below. none (suc k) d (omega arith)) in omega (arith, ints)

not_one : (z : ℤ) → z ≡ pos 0 → int_eq z (pos 1) ≡ true → ⊥
not_one z none is = (let zero = ap (λ t. int_eq t (pos 1)) none in let never : false ≡ true = sym zero ∙ is in cc)

pub corners_cover_within : (limit : ℕ) (corners : List Corner) (x y : ℤ) → limit ≤ 1048576 → All (IsCornerWithin limit) corners → AreCornersOfSet corners
    → corner_set corners x y ≡ true → IsInLimit limit x y
corners_cover_within limit corners x y most near set is = record {
  left = by_lt_z x (neg_ℤ (pos limit))
      (λ less. absurd (not_one (quadrant_sum corners x y) (sum_of_none (λ c. if int_le c.x x && int_le c.y y then c.sign else pos 0) corners
      (λ k d below. let here = (near k d below).0 in left_part (get_or corners k d).x x (get_or corners k d).sign (int_le (get_or corners k d).y y) (omega (arith, ints)))) is))
      (λ most. most);
  right = by_lt_z x (pos limit)
      (λ less. less)
      (λ far. absurd (not_one (quadrant_sum corners x y)
      (sum_each-same (λ c. if int_le c.x x && int_le c.y y then c.sign else pos 0) (λ c. if int_le c.x (pos 1048576) && int_le c.y y then c.sign else pos 0) corners
      (λ k d below. let here = (near k d below).0 in right_part (get_or corners k d).x x (pos 1048576) (get_or corners k d).sign (int_le (get_or corners k d).y y) (omega (arith, ints)) (omega (arith, ints)))
      ∙ set.none_right (pos 1048576) y (omega (arith, ints))) is));
  low = by_lt_z y (neg_ℤ (pos limit))
      (λ less. absurd (not_one (quadrant_sum corners x y) (sum_of_none (λ c. if int_le c.x x && int_le c.y y then c.sign else pos 0) corners
      (λ k d below. let here = (near k d below).1 in low_part (get_or corners k d).y y (get_or corners k d).sign (int_le (get_or corners k d).x x) (omega (arith, ints)))) is))
      (λ most. most);
  high = by_lt_z y (pos limit)
      (λ less. less)
      (λ far. absurd (not_one (quadrant_sum corners x y)
      (sum_each-same (λ c. if int_le c.x x && int_le c.y y then c.sign else pos 0) (λ c. if int_le c.x x && int_le c.y (pos 1048576) then c.sign else pos 0) corners
      (λ k d below. let here = (near k d below).1 in high_part (get_or corners k d).y y (pos 1048576) (get_or corners k d).sign (int_le (get_or corners k d).x x) (omega (arith, ints)) (omega (arith, ints)))
      ∙ set.none_above x (pos 1048576) (omega (arith, ints))) is));
}

pub corner_rects_within : (limit : ℕ) (corners : List Corner) (rects : List Rect) → AreCornersOfSet corners → AreCanonical rects
    → ((x y : ℤ) → cover rects x y ≡ corner_set corners x y) → limit ≤ 1048576 → All (IsCornerWithin limit) corners → All (IsRectWithin limit) rects
corner_rects_within limit corners rects set canonical pixels most near =
    rects_in_limit limit rects canonical.solid (λ x y is. corners_cover_within limit corners x y most near set (sym (pixels x y) ∙ is))

-- ---- a greater limit

pub within_more : (few more : ℕ) (rects : List Rect) → few ≤ more → All (IsRectWithin few) rects → All (IsRectWithin more) rects
within_more few more rects most within k d below =
    let near = within k d below in
    let a = near.0 in let b = near.1 in let c = near.2 in let e = near.3 in
    (omega arith, omega arith, omega arith, omega arith)
