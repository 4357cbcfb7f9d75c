-- Signed corners as quadrants of one owner.
use Rattle.std.proofs.Common.{◌≡◌, ◌⊎◌, inl, inr, ℕ, suc, ◌*◌, ◌<◌, ◌≤◌, ℤ, pos, ◌+ℤ◌, ◌≤ℤ◌, int_eq, int_le, unsigned_abs, Bool, true, false, not, ◌&&◌, ◌==◌, if◌then◌else◌, List, [], ◌∷◌, length, get_or, map, refl, sym, ◌∙◌, ap, ap₂, subst, arith}
use Rattle.std.proofs.lemmas.Int.{ints}
use Rattle.std.proofs.lemmas.Bool.Decides.{eqb_tells}
use Rattle.std.proofs.lemmas.List.Elements.{All-map}
use Rattle.std.proofs.lemmas.List.Sums.{sum_by-append}
use Rattle.std.proofs.lemmas.List.Sorted.{All-permutation, sum_by-IsPermutation, length_permutation}
use Rattle.std.specs.List.Sorted.{IsPermutation}
use Rattle.opc_base.specs.declared.plane.Corner.{Corner}
use Rattle.rect_union.specs.declared.quadrants.Quadrant.{Quadrant}
use Rattle.rect_union.specs.Sums.{any_set}
use Rattle.opc_base.specs.Sums.{sum_each}
use Rattle.rect_union.specs.CornerSets.{AreCornersOfSet}
use Rattle.rect_union.specs.Corners.{AreQuadrantsOfCorners, HaveSmallSigns, corner_quadrant}
use Rattle.opc_base.specs.Corners.{point_sum, quadrant_sum}
use Rattle.rect_union.specs.Merging.{sign_there, signs_there}
use Rattle.rect_union.specs.Quadrants.{HaveQuadrantOwnersBelow, column_part, owner_part, quadrant_weight, winding}
use Rattle.rect_union.proofs.QuadrantLaws.{sum_each-IsPermutation}
use Rattle.rect_union.proofs.SumLaws.{any_set-same}

-- the sum over the quadrants, where each counts what its corner does
sum_each-corners : (f : Quadrant → ℤ) (g : Corner → ℤ) (corners : List Corner)
    → ((k : ℕ) (d : Corner) → k < length corners → f (corner_quadrant (get_or corners k d)) ≡ g (get_or corners k d))
    → sum_each f (map corner_quadrant corners) ≡ sum_each g corners
unfolding sum_each
sum_each-corners f g [] same = refl
sum_each-corners f g (c ∷ corners) same =
    ap₂ (λ a b. a +ℤ b) (same 0 c (omega arith)) (sum_each-corners f g corners (λ k d below. same (suc k) d (omega arith)))

sum_each-none : (f : Quadrant → ℤ) (corners : List Corner) → ((c : Corner) → f (corner_quadrant c) ≡ pos 0) → sum_each f (map corner_quadrant corners) ≡ pos 0
unfolding sum_each
sum_each-none f [] none = refl
sum_each-none f (c ∷ corners) none = ap₂ (λ a b. a +ℤ b) (none c) (sum_each-none f corners none)

own_corner : (right up : Bool) (sign : ℤ) → (if up then (if (0 == 0) && right then sign else pos 0) else pos 0) ≡ (if right && up then sign else pos 0)
own_corner right up sign = grind (arith, eqb_tells)

in_row : (limit at : ℤ) (own up : Bool) (sign : ℤ) → at ≤ℤ limit → own ≡ true → (if up then (if own then sign else pos 0) else pos 0) ≡ (if int_le at limit && up then sign else pos 0)
in_row limit at own up sign within is = grind (arith, ints)

in_column : (limit at : ℤ) (own right : Bool) (sign : ℤ) → at ≤ℤ limit → own ≡ true → (if own && right then sign else pos 0) ≡ (if right && int_le at limit then sign else pos 0)
in_column limit at own right sign within is = grind (arith, ints)

other_row : (own up : Bool) (sign : ℤ) → own ≡ false → (if up then (if own then sign else pos 0) else pos 0) ≡ pos 0
other_row own up sign is = grind arith

other_column : (own right : Bool) (sign : ℤ) → own ≡ false → (if own && right then sign else pos 0) ≡ pos 0
other_column own right sign is = grind arith

one_or_none : (z : ℤ) → (z ≡ pos 0) ⊎ (z ≡ pos 1) → not (int_eq z (pos 0)) ≡ int_eq z (pos 1)
one_or_none z (inl is) = rw is refl
one_or_none z (inr is) = rw is refl

one_owner : (f : ℕ → ℤ) (z : ℤ) → (z ≡ pos 0) ⊎ (z ≡ pos 1) → f 0 ≡ z → any_set 1 f ≡ int_eq z (pos 1)
unfolding any_set
one_owner f z bit is = ap (λ a. not (int_eq a (pos 0))) is ∙ one_or_none z bit

small_weight : (corners : List Corner) → HaveSmallSigns corners → quadrant_weight (map corner_quadrant corners) ≤ 128 * length (map corner_quadrant corners)
small_weight [] small = omega arith
small_weight (c ∷ corners) small =
    let split = sum_by-append (λ (q : Quadrant). unsigned_abs q.column.sign) (corner_quadrant c ∷ []) (map corner_quadrant corners) in
    let here : unsigned_abs c.sign ≤ 128 = small 0 c (omega arith) in
    let rest = small_weight corners (λ k d below. small (suc k) d (omega arith)) in
    omega arith

one_owner_below : (corners : List Corner) → HaveQuadrantOwnersBelow 1 (map corner_quadrant corners)
one_owner_below corners = All-map (λ (q : Quadrant). q.column.owner < 1) corner_quadrant corners (λ k d below. omega arith)

corners_are : (corners : List Corner) → AreCornersOfSet corners → HaveSmallSigns corners → AreQuadrantsOfCorners corners (map corner_quadrant corners)
corners_are corners set small = record {
  covers = λ x y. one_owner (λ owner. winding (map corner_quadrant corners) owner x y) (quadrant_sum corners x y) (set.bits x y)
      (sum_each-corners (λ q. if int_le q.y y then column_part 0 x q.column else pos 0) (λ c. if int_le c.x x && int_le c.y y then c.sign else pos 0) corners
      (λ k d below. own_corner (int_le (get_or corners k d).x x) (int_le (get_or corners k d).y y) (get_or corners k d).sign));
  rows = λ owner y. elim (eqb_tells 0 owner) [
    | inl w ↦ sum_each-corners (λ q. if int_le q.y y then owner_part owner q.column else pos 0) (λ c. if int_le c.x (pos 1048576) && int_le c.y y then c.sign else pos 0) corners
        (λ k d below. in_row (pos 1048576) (get_or corners k d).x (0 == owner) (int_le (get_or corners k d).y y) (get_or corners k d).sign (let near = (set.within k d below).0 in omega (arith, ints)) w.0)
        ∙ set.none_right (pos 1048576) y (omega (arith, ints))
    | inr w ↦ sum_each-none (λ q. if int_le q.y y then owner_part owner q.column else pos 0) corners (λ c. other_row (0 == owner) (int_le c.y y) c.sign w.0)
  ];
  columns = λ owner x. elim (eqb_tells 0 owner) [
    | inl w ↦ sum_each-corners (λ q. column_part owner x q.column) (λ c. if int_le c.x x && int_le c.y (pos 1048576) then c.sign else pos 0) corners
        (λ k d below. in_column (pos 1048576) (get_or corners k d).y (0 == owner) (int_le (get_or corners k d).x x) (get_or corners k d).sign (let near = (set.within k d below).1 in omega (arith, ints)) w.0)
        ∙ set.none_above x (pos 1048576) (omega (arith, ints))
    | inr w ↦ sum_each-none (λ q. column_part owner x q.column) corners (λ c. other_column (0 == owner) (int_le c.x x) c.sign w.0)
  ];
  owners = one_owner_below corners;
  small = small_weight corners small;
}

-- the quadrants in any order
pub corners_sorted : (corners : List Corner) (from to : List Quadrant) → AreCornersOfSet corners → HaveSmallSigns corners → from ≡ map corner_quadrant corners → IsPermutation from to
    → AreQuadrantsOfCorners corners to
corners_sorted corners from to set small is same =
    let are : AreQuadrantsOfCorners corners from = subst (AreQuadrantsOfCorners corners) (sym is) (corners_are corners set small) in
    record {
      covers = λ x y. any_set-same 1 (λ owner. winding to owner x y) (λ owner. winding from owner x y)
          (λ owner _. sum_each-IsPermutation (λ q. if int_le q.y y then column_part owner x q.column else pos 0) from to same) ∙ are.covers x y;
      rows = λ owner y. sum_each-IsPermutation (λ q. if int_le q.y y then owner_part owner q.column else pos 0) from to same ∙ are.rows owner y;
      columns = λ owner x. sum_each-IsPermutation (λ q. column_part owner x q.column) from to same ∙ are.columns owner x;
      owners = All-permutation (λ (q : Quadrant). q.column.owner < 1) from to same are.owners;
      small = let kept = sum_by-IsPermutation (λ (q : Quadrant). unsigned_abs q.column.sign) from to same in let count = length_permutation from to same in let old = are.small in omega arith;
    }

-- sorted, they weigh no more, and have the same signs at each point
pub sorted_weight : (corners : List Corner) (from to : List Quadrant) → from ≡ map corner_quadrant corners → HaveSmallSigns corners → IsPermutation from to
    → quadrant_weight to ≤ 128 * length to
sorted_weight corners from to is small same =
    let kept = sum_by-IsPermutation (λ (q : Quadrant). unsigned_abs q.column.sign) from to same in
    let count = length_permutation from to same in
    let old : quadrant_weight from ≤ 128 * length from = subst (λ (l : List Quadrant). quadrant_weight l ≤ 128 * length l) (sym is) (small_weight corners small) in
    omega arith

pub sorted_signs : (corners : List Corner) (from to : List Quadrant) → from ≡ map corner_quadrant corners → IsPermutation from to
    → (x y : ℤ) → signs_there to x y ≡ point_sum corners x y
sorted_signs corners from to is same x y =
    sum_each-IsPermutation (λ q. sign_there q x y) from to same
    ∙ ap (λ (l : List Quadrant). signs_there l x y) is
    ∙ sum_each-corners (λ q. sign_there q x y) (λ c. if int_eq c.x x && int_eq c.y y then c.sign else pos 0) corners (λ k d below. refl)
