-- The quadrants of all outlines wind round the pixels that some outline covers.
use Rattle.std.proofs.Common.{◌≡◌, ◌≢◌, inl, inr, ℕ, zero, suc, ◌+◌, ◌<◌, ◌≤◌, ℤ, pos, ◌+ℤ◌, ◌≤ℤ◌, int_eq, int_le, unsigned_abs, Bool, true, false, not, ◌||◌, ◌==◌, if◌then◌else◌, List, [], ◌∷◌, ◌++◌, length, length-take, get_or, take, take_all, refl, sym, ◌∙◌, ap, ap₂, arith}
use Rattle.std.proofs.lemmas.Int.{ints}
use Rattle.std.proofs.lemmas.Bool.Decides.{eqb_tells}
use Rattle.std.proofs.lemmas.List.{take_more}
use Rattle.std.proofs.lemmas.List.Folds.{list_any_more}
use Rattle.std.specs.List.{list_any}
use Rattle.opc_base.specs.declared.plane.Rect.{Rect}
use Rattle.opc_base.specs.declared.outline.Outline.{Outline}
use Rattle.opc_base.specs.declared.outline.Outline.TheVariants.{Polygon, Path}
use Rattle.rect_union.specs.declared.quadrants.Quadrant.{Quadrant}
use Rattle.rect_union.specs.Sums.{any_set}
use Rattle.opc_base.specs.Sums.{sum_each}
use Rattle.rect_union.specs.Outlines.{AddsCount, AddsPath, path_count}
use Rattle.opc_base.specs.Plane.{cover, rect_cover}
use Rattle.rect_union.specs.Quadrants.{column_part, is_wound, owner_part, winding}
use Rattle.rect_union.specs.Target.{AreQuadrantsOf, count_of, outline_count}
use Rattle.opc_base.specs.Cover.{outline_cover}
use Rattle.opc_base.specs.Target.{target}
use Rattle.std.specs.List.Sorted.{IsPermutation}
use Rattle.std.proofs.lemmas.List.Sorted.{All-permutation, sum_by-IsPermutation, length_permutation}
use Rattle.rect_union.proofs.QuadrantLaws.{sum_each-IsPermutation}
use Rattle.rect_union.proofs.SumLaws.{any_set-same, sum_each-nil}

-- ---- the count of each outline

own_count : (a b : ℕ) (count : ℤ) → a ≡ b → count ≡ pos 0 +ℤ (if a == b then count else pos 0)
own_count a b count same = grind (arith, ints, eqb_tells)

other_count : (a b : ℕ) (count rest : ℤ) → a ≢ b → rest ≡ rest +ℤ (if a == b then count else pos 0)
other_count a b count rest apart = grind (arith, ints, eqb_tells)

same_test : (a b : ℕ) (count rest whole : ℤ) → whole ≡ rest +ℤ (if a == b then count else pos 0) → whole ≡ rest +ℤ (if suc a == suc b then count else pos 0)
same_test a b count rest whole is = elim (eqb_tells a b) [
  | inl w ↦ (let same : a ≡ b = w.1 in let both : suc a ≡ suc b = ap suc same in
      let old = own_count a b count same in let new = own_count (suc a) (suc b) count both in omega (arith, ints))
  | inr w ↦ (let apart : suc a ≢ suc b = (let differ : a ≢ b = w.1 in λ same. differ (omega arith)) in
      let old = other_count a b count rest w.1 in let new = other_count (suc a) (suc b) count rest apart in omega (arith, ints))
]

count_of-push : (outlines : List Outline) (o : Outline) (k : ℕ) (x y : ℤ)
    → count_of (outlines ++ o ∷ []) k x y ≡ count_of outlines k x y +ℤ (if length outlines == k then outline_count o x y else pos 0)
count_of-push [] o zero x y = own_count 0 0 (outline_count o x y) refl
count_of-push [] o (suc k) x y = other_count 0 (suc k) (outline_count o x y) (pos 0) (λ same. omega arith)
count_of-push (p ∷ outlines) o zero x y = other_count (suc (length outlines)) 0 (outline_count o x y) (outline_count p x y) (λ same. omega arith)
count_of-push (p ∷ outlines) o (suc k) x y =
    same_test (length outlines) k (outline_count o x y) (count_of outlines k x y) (count_of (outlines ++ o ∷ []) k x y) (count_of-push outlines o k x y)

count_of-at : (outlines : List Outline) (k : ℕ) (d : Outline) (x y : ℤ) → k < length outlines → count_of outlines k x y ≡ outline_count (get_or outlines k d) x y
count_of-at [] k d x y below = absurd (omega arith)
count_of-at (o ∷ outlines) zero d x y below = refl
count_of-at (o ∷ outlines) (suc k) d x y below = count_of-at outlines k d x y (omega arith)

pub quadrants_start : AreQuadrantsOf [] []
quadrants_start = record {
  windings = λ owner x y. sum_each-nil (λ (q : Quadrant). if int_le q.y y then column_part owner x q.column else pos 0);
  rows = λ owner y. sum_each-nil (λ (q : Quadrant). if int_le q.y y then owner_part owner q.column else pos 0);
  columns = λ owner x. sum_each-nil (λ (q : Quadrant). column_part owner x q.column);
  owners = λ n _ k d below. absurd (omega arith);
  small = omega arith;
}

zero_part : (own : Bool) → (if own then pos 0 else pos 0) ≡ pos 0
zero_part own = grind arith

pub quadrants_step : (outlines : List Outline) (old new : List Quadrant) (i : ℕ) (d : Outline) → i < length outlines
    → AreQuadrantsOf (take i outlines) old
    → AddsCount old new i (outline_count (get_or outlines i d)) (λ y. pos 0)
    → AreQuadrantsOf (take (i + 1) outlines) new
quadrants_step outlines old new i d at so_far adds =
    let o : Outline = get_or outlines i d in
    let size : length (take i outlines) ≡ i = simp length-take (omega arith) in
    let more : take (i + 1) outlines ≡ take i outlines ++ get_or outlines i d ∷ [] = take_more outlines i d at in
    record {
      windings = λ owner x y.
          let pushed : count_of (take (i + 1) outlines) owner x y ≡ count_of (take i outlines) owner x y +ℤ (if i == owner then outline_count (get_or outlines i d) x y else pos 0) =
          ap (λ (l : List Outline). count_of l owner x y) more ∙ count_of-push (take i outlines) (get_or outlines i d) owner x y
          ∙ ap (λ n. count_of (take i outlines) owner x y +ℤ (if n == owner then outline_count (get_or outlines i d) x y else pos 0)) size in
          let new = adds.windings owner x y in let old = so_far.windings owner x y in omega (arith, ints);
      rows = λ owner y. let new = adds.rows owner y in let old = so_far.rows owner y in let none = zero_part (i == owner) in omega (arith, ints);
      columns = λ owner x. adds.columns owner x ∙ so_far.columns owner x;
      owners = λ n most.
          let bound = simp length-take at most in
          adds.owners n (omega arith) (so_far.owners n (simp length-take (omega arith)));
      small = adds.small so_far.small;
    }

-- ---- the target

zero_plus : (z : ℤ) → pos 0 +ℤ z ≡ z
zero_plus z = omega (arith, ints)

rect_up : (here : Bool) → pos 0 ≤ℤ (if here then pos 1 else pos 0)
rect_up here = grind (arith, ints)

one_more : (i : ℕ) → i + 1 ≡ suc i
one_more i = omega arith

some_rect : (here : Bool) (rest : ℤ) (others : Bool) → pos 0 ≤ℤ rest → not (int_eq rest (pos 0)) ≡ others
    → not (int_eq ((if here then pos 1 else pos 0) +ℤ rest) (pos 0)) ≡ (here || others)
some_rect true rest others up is = grind (arith, ints)
some_rect false rest others up is = ap (λ z. not (int_eq z (pos 0))) (zero_plus rest) ∙ is

path_count-up : (rects : List Rect) (x y : ℤ) → pos 0 ≤ℤ path_count rects x y
unfolding sum_each
path_count-up [] x y = omega (arith, ints)
path_count-up (r ∷ rects) x y = let rest = path_count-up rects x y in let here = rect_up (rect_cover r x y) in omega (arith, ints)

path_set : (rects : List Rect) (x y : ℤ) → not (int_eq (path_count rects x y) (pos 0)) ≡ cover rects x y
unfolding sum_each
path_set [] x y = refl
path_set (r ∷ rects) x y = some_rect (rect_cover r x y) (path_count rects x y) (cover rects x y) (path_count-up rects x y) (path_set rects x y)

outline_set : (o : Outline) (x y : ℤ) → not (int_eq (outline_count o x y) (pos 0)) ≡ outline_cover o x y
outline_set (Polygon points) x y = refl
outline_set (Path rects) x y = path_set rects x y

some_outline : (outlines : List Outline) (i : ℕ) (x y : ℤ) → i ≤ length outlines
    → any_set i (λ k. count_of outlines k x y) ≡ list_any (λ o. outline_cover o x y) (take i outlines)
unfolding any_set
some_outline outlines zero x y within = refl
some_outline [] (suc i) x y within = absurd (omega arith)
some_outline (p ∷ outlines) (suc i) x y within =
    ap₂ (λ a b. a || b) (some_outline (p ∷ outlines) i x y (omega arith))
    (ap (λ z. not (int_eq z (pos 0))) (count_of-at (p ∷ outlines) i p x y (omega arith)) ∙ outline_set (get_or (p ∷ outlines) i p) x y)
    ∙ sym (list_any_more (λ o. outline_cover o x y) (p ∷ outlines) i p (omega arith))
    ∙ ap (λ n. list_any (λ o. outline_cover o x y) (take n (p ∷ outlines))) (one_more i)

pub is_wound-target : (outlines : List Outline) (quadrants : List Quadrant) (x y : ℤ) → AreQuadrantsOf outlines quadrants
    → is_wound (length outlines) quadrants x y ≡ target outlines x y
is_wound-target outlines quadrants x y are =
    any_set-same (length outlines) (λ k. winding quadrants k x y) (λ k. count_of outlines k x y) (λ k _. are.windings k x y)
    ∙ some_outline outlines (length outlines) x y (omega arith)
    ∙ ap (list_any (λ o. outline_cover o x y)) (take_all (length outlines) outlines (omega arith))

-- the quadrants in another order
pub quadrants_sorted : (outlines : List Outline) (from to : List Quadrant) → IsPermutation from to → AreQuadrantsOf outlines from → AreQuadrantsOf outlines to
quadrants_sorted outlines from to same are = record {
  windings = λ owner x y. sum_each-IsPermutation (λ q. if int_le q.y y then column_part owner x q.column else pos 0) from to same ∙ are.windings owner x y;
  rows = λ owner y. sum_each-IsPermutation (λ q. if int_le q.y y then owner_part owner q.column else pos 0) from to same ∙ are.rows owner y;
  columns = λ owner x. sum_each-IsPermutation (λ q. column_part owner x q.column) from to same ∙ are.columns owner x;
  owners = λ n most. All-permutation (λ (q : Quadrant). q.column.owner < n) from to same (are.owners n most);
  small = let kept = sum_by-IsPermutation (λ (q : Quadrant). unsigned_abs q.column.sign) from to same in let count = length_permutation from to same in let old = are.small in omega arith;
}

-- ---- the quadrants of one path

pub path_sorted : (rects : List Rect) (from to : List Quadrant) → AddsPath [] from 0 rects → IsPermutation from to → AreQuadrantsOf (Path rects ∷ []) to
path_sorted rects from to adds same =
    quadrants_sorted (Path rects ∷ []) from to same (quadrants_step (Path rects ∷ []) [] from 0 (Path rects) (omega arith) quadrants_start adds)

or_nothing : (b : Bool) → (b || false) ≡ b
or_nothing b = grind arith

pub path_wound : (rects : List Rect) (quadrants : List Quadrant) (x y : ℤ) → AreQuadrantsOf (Path rects ∷ []) quadrants → is_wound 1 quadrants x y ≡ cover rects x y
path_wound rects quadrants x y are = is_wound-target (Path rects ∷ []) quadrants x y are ∙ or_nothing (cover rects x y)
