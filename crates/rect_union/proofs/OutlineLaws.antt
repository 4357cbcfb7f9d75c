-- Laws of the quadrants of outlines.
use Rattle.std.proofs.Common.{◌≡◌, ℕ, zero, suc, ◌+◌, ◌-◌, ◌<◌, ◌≤◌, ℤ, pos, negsuc, ◌+ℤ◌, ◌-ℤ◌, int_le, int_lt, ◌<ℤ◌, unsigned_abs, Bool, true, false, ◌&&◌, ◌==◌, if◌then◌else◌, List, [], ◌∷◌, ◌++◌, length, length-append, get_or, take, refl, sym, ◌∙◌, ap, subst, arith}
use Rattle.std.proofs.lemmas.Int.{ints}
use Rattle.std.proofs.Math.Path.{fun_ext}
use Rattle.std.proofs.lemmas.List.{take_more}
use Rattle.std.proofs.lemmas.List.Elements.{All-push}
use Rattle.std.proofs.lemmas.List.Sums.{sum_by-append}
use Rattle.opc_base.specs.declared.plane.Pix.{Pix}
use Rattle.rect_union.specs.declared.quadrants.Quadrant.{Quadrant}
use Rattle.rect_union.specs.Quadrants.{column_part, owner_part, quadrant_weight}
use Rattle.opc_base.specs.declared.plane.Rect.{Rect}
use Rattle.opc_base.specs.Canonical.{IsSolid}
use Rattle.rect_union.specs.Outlines.{AddsCount, AddsPath, AddsPolygon, path_count, rect_count, far_count, quadrant_of}
use Rattle.opc_base.specs.Cover.{IsPolygon, crossing, crossings, crossings_from, last_from, step}
use Rattle.rect_union.proofs.SumLaws.{sum_each-push, sum_each-more, sum_each-nil}

weight_push : (quadrants : List Quadrant) (q : Quadrant) → quadrant_weight (quadrants ++ q ∷ []) ≡ quadrant_weight quadrants + unsigned_abs q.column.sign
weight_push quadrants q =
    let split : quadrant_weight (quadrants ++ q ∷ []) ≡ quadrant_weight quadrants + (0 + unsigned_abs q.column.sign) =
    sum_by-append (λ (q : Quadrant). unsigned_abs q.column.sign) quadrants (q ∷ []) in
    omega arith

edge_parts : (own right up down : Bool) →
    (if up then (if own && right then pos 1 else pos 0) else pos 0) +ℤ (if down then (if own && right then negsuc 0 else pos 0) else pos 0)
    ≡ (if own then (if right then (if up then pos 1 else pos 0) -ℤ (if down then pos 1 else pos 0) else pos 0) else pos 0)
edge_parts own right up down = grind (arith, ints)

far_parts : (own up down : Bool) →
    (if up then (if own then pos 1 else pos 0) else pos 0) +ℤ (if down then (if own then negsuc 0 else pos 0) else pos 0)
    ≡ (if own then (if up then pos 1 else pos 0) -ℤ (if down then pos 1 else pos 0) else pos 0)
far_parts own up down = grind (arith, ints)

cancelling_parts : (own : Bool) → (if own then pos 1 else pos 0) +ℤ (if own then negsuc 0 else pos 0) ≡ pos 0
cancelling_parts own = grind (arith, ints)

-- a vertical edge
pub AddsCount-edge : (old : List Quadrant) (owner : ℕ) (from to : Pix) → from.x ≡ to.x
    → AddsCount old ((old ++ quadrant_of owner to (pos 1) ∷ []) ++ quadrant_of owner from (negsuc 0) ∷ []) owner (crossing from to) (λ y. step to.y y -ℤ step from.y y)
AddsCount-edge old owner from to upright =
    let up : Quadrant = quadrant_of owner to (pos 1) in
    let down : Quadrant = quadrant_of owner from (negsuc 0) in
    record {
      windings = λ other x y.
          let f : Quadrant → ℤ = λ q. if int_le q.y y then column_part other x q.column else pos 0 in
          let second = sum_each-push f (old ++ up ∷ []) down in let first = sum_each-push f old up in
          let parts = subst (λ (z : ℤ). (if int_le to.y y then (if (owner == other) && int_le z x then pos 1 else pos 0) else pos 0)
          +ℤ (if int_le from.y y then (if (owner == other) && int_le from.x x then negsuc 0 else pos 0) else pos 0)
          ≡ (if owner == other then crossing from to x y else pos 0)) upright
          (edge_parts (owner == other) (int_le from.x x) (int_le to.y y) (int_le from.y y)) in
          omega (arith, ints);
      rows = λ other y.
          let f : Quadrant → ℤ = λ q. if int_le q.y y then owner_part other q.column else pos 0 in
          let second = sum_each-push f (old ++ up ∷ []) down in let first = sum_each-push f old up in
          let parts = far_parts (owner == other) (int_le to.y y) (int_le from.y y) in omega (arith, ints);
      columns = λ other x.
          let f : Quadrant → ℤ = λ q. column_part other x q.column in
          let second = sum_each-push f (old ++ up ∷ []) down in let first = sum_each-push f old up in
          let parts = subst (λ (z : ℤ). (if (owner == other) && int_le z x then pos 1 else pos 0)
          +ℤ (if (owner == other) && int_le from.x x then negsuc 0 else pos 0) ≡ pos 0) upright
          (cancelling_parts ((owner == other) && int_le from.x x)) in
          omega (arith, ints);
      owners = λ n below all. All-push (λ (q : Quadrant). q.column.owner < n) (old ++ up ∷ []) down
          (All-push (λ (q : Quadrant). q.column.owner < n) old up all below) below;
      small = λ so_far. let second = weight_push (old ++ up ∷ []) down in let first = weight_push old up in
          omega (arith, ints, length-append {A = Quadrant} (old ++ up ∷ []) (down ∷ []), length-append {A = Quadrant} old (up ∷ []));
    }

level_count : (own right up : Bool) → (if own then (if right then (if up then pos 1 else pos 0) -ℤ (if up then pos 1 else pos 0) else pos 0) else pos 0) ≡ pos 0
level_count own right up = grind (arith, ints)

level_far : (own up : Bool) → (if own then (if up then pos 1 else pos 0) -ℤ (if up then pos 1 else pos 0) else pos 0) ≡ pos 0
level_far own up = grind (arith, ints)

-- a horizontal edge
pub AddsCount-level : (old : List Quadrant) (owner : ℕ) (from to : Pix) → from.y ≡ to.y
    → AddsCount old old owner (crossing from to) (λ y. step to.y y -ℤ step from.y y)
AddsCount-level old owner from to level = record {
  windings = λ other x y. rw level (let none = level_count (owner == other) (int_le from.x x) (int_le to.y y) in omega (arith, ints));
  rows = λ other y. rw level (let none = level_far (owner == other) (int_le to.y y) in omega (arith, ints));
  columns = λ other x. refl;
  owners = λ n below all. all;
  small = λ so_far. so_far;
}

-- ---- polygons

both_parts : (own : Bool) (a b c : ℤ) → c ≡ a +ℤ b → (if own then a else pos 0) +ℤ (if own then b else pos 0) ≡ (if own then c else pos 0)
both_parts own a b c is = grind (arith, ints)

AddsCount-then : (old mid new : List Quadrant) (owner : ℕ) (first second both : ℤ → ℤ → ℤ) (first_far second_far far : ℤ → ℤ)
    → AddsCount old mid owner first first_far → AddsCount mid new owner second second_far
    → ((x y : ℤ) → both x y ≡ first x y +ℤ second x y) → ((y : ℤ) → far y ≡ first_far y +ℤ second_far y)
    → AddsCount old new owner both far
AddsCount-then old mid new owner first second both first_far second_far far one two counts fars = record {
  windings = λ other x y.
      let a = one.windings other x y in let b = two.windings other x y in
      let parts = both_parts (owner == other) (first x y) (second x y) (both x y) (counts x y) in omega (arith, ints);
  rows = λ other y.
      let a = one.rows other y in let b = two.rows other y in
      let parts = both_parts (owner == other) (first_far y) (second_far y) (far y) (fars y) in omega (arith, ints);
  columns = λ other x. two.columns other x ∙ one.columns other x;
  owners = λ n below all. two.owners n below (one.owners n below all);
  small = λ so_far. two.small (one.small so_far);
}

crossings_from-push : (p : Pix) (points : List Pix) (q : Pix) (x y : ℤ)
    → crossings_from p (points ++ q ∷ []) x y ≡ crossings_from p points x y +ℤ crossing (last_from p points) q x y
crossings_from-push p [] q x y = omega (arith, ints)
crossings_from-push p (r ∷ points) q x y = let rest = crossings_from-push r points q x y in omega (arith, ints)

last_from-push : (p : Pix) (points : List Pix) (q : Pix) → last_from p (points ++ q ∷ []) ≡ q
last_from-push p [] q = refl
last_from-push p (r ∷ points) q = last_from-push r points q

pub last_from-take : (p : Pix) (points : List Pix) (j : ℕ) (d : Pix) → j ≤ length points → last_from p (take j points) ≡ get_or (p ∷ points) j d
last_from-take p points zero d within = refl
last_from-take p [] (suc j) d within = absurd (omega arith)
last_from-take p (r ∷ points) (suc j) d within = last_from-take r points j d (omega arith)

no_part : (own : Bool) → (if own then pos 0 else pos 0) ≡ pos 0
no_part own = grind arith

nothing_added : (old : List Quadrant) (owner : ℕ) (count : ℤ → ℤ → ℤ) (far : ℤ → ℤ) → ((x y : ℤ) → count x y ≡ pos 0) → ((y : ℤ) → far y ≡ pos 0)
    → AddsCount old old owner count far
nothing_added old owner count far none none_far = record {
  windings = λ other x y. rw (none x y) (let part = no_part (owner == other) in omega (arith, ints));
  rows = λ other y. rw (none_far y) (let part = no_part (owner == other) in omega (arith, ints));
  columns = λ other x. refl;
  owners = λ n below all. all;
  small = λ so_far. so_far;
}

no_far : (p : Pix) (y : ℤ) → step p.y y -ℤ step p.y y ≡ pos 0
no_far p y = omega (arith, ints)

-- a walk of one point at most
pub AddsPolygon-starts : (old : List Quadrant) (owner : ℕ) (points : List Pix) → AddsPolygon old old owner (take 1 points)
AddsPolygon-starts old owner [] = nothing_added old owner (crossings []) (far_count []) (λ x y. refl) (λ y. refl)
AddsPolygon-starts old owner (p ∷ points) = nothing_added old owner (crossings (p ∷ [])) (far_count (p ∷ [])) (λ x y. refl) (no_far p)

add_one_suc : (j : ℕ) → suc j + 1 ≡ suc (j + 1)
add_one_suc j = omega arith

-- one more point
walk_on : (old mid new : List Quadrant) (owner : ℕ) (p : Pix) (points : List Pix) (q : Pix)
    → AddsPolygon old mid owner (p ∷ points) → AddsCount mid new owner (crossing (last_from p points) q) (λ y. step q.y y -ℤ step (last_from p points).y y)
    → AddsPolygon old new owner (p ∷ (points ++ q ∷ []))
walk_on old mid new owner p points q one two =
    AddsCount-then old mid new owner (crossings (p ∷ points)) (crossing (last_from p points) q) (crossings (p ∷ (points ++ q ∷ [])))
    (far_count (p ∷ points)) (λ y. step q.y y -ℤ step (last_from p points).y y) (far_count (p ∷ (points ++ q ∷ [])))
    one two
    (λ x y. crossings_from-push p points q x y)
    (λ y. let ends : step (last_from p (points ++ q ∷ [])).y y ≡ step q.y y = ap (λ (r : Pix). step r.y y) (last_from-push p points q) in omega (arith, ints))

pub AddsPolygon-step : (old mid new : List Quadrant) (owner : ℕ) (points : List Pix) (i : ℕ) (d : Pix) → 1 ≤ i → i < length points
    → AddsPolygon old mid owner (take i points)
    → AddsCount mid new owner (crossing (get_or points (i - 1) d) (get_or points i d)) (λ y. step (get_or points i d).y y -ℤ step (get_or points (i - 1) d).y y)
    → AddsPolygon old new owner (take (i + 1) points)
AddsPolygon-step old mid new owner points zero d from at one two = absurd (omega arith)
AddsPolygon-step old mid new owner [] (suc j) d from at one two = absurd (omega arith)
AddsPolygon-step old mid new owner (p ∷ points) (suc j) d from at one two =
    let before : suc j - 1 ≡ j = omega arith in
    let last : last_from p (take j points) ≡ get_or (p ∷ points) j d = last_from-take p points j d (omega arith) in
    let edge = rw before at two in
    let more : take (j + 1) points ≡ take j points ++ get_or points j d ∷ [] = take_more points j d (omega arith) in
    let whole : take (suc j + 1) (p ∷ points) ≡ p ∷ (take j points ++ get_or points j d ∷ []) =
    ap (λ n. take n (p ∷ points)) (add_one_suc j) ∙ ap (λ l. p ∷ l) more in
    subst (AddsPolygon old new owner) (sym whole)
    (walk_on old mid new owner p (take j points) (get_or points j d) one
    (subst (λ (r : Pix). AddsCount mid new owner (crossing r (get_or points j d)) (λ y. step (get_or points j d).y y -ℤ step r.y y)) (sym last) edge))

-- far right a closed walk counts nothing
pub closed_polygon : (old new : List Quadrant) (owner : ℕ) (points : List Pix) → IsPolygon points → AddsPolygon old new owner points
    → AddsCount old new owner (crossings points) (λ y. pos 0)
closed_polygon old new owner [] polygon adds = absurd polygon.closed
closed_polygon old new owner (p ∷ points) polygon adds =
    let none : far_count (p ∷ points) ≡ (λ y. pos 0) = fun_ext (λ y. ap (λ (q : Pix). step q.y y -ℤ step p.y y) polygon.closed ∙ no_far p y) in
    subst (AddsCount old new owner (crossings (p ∷ points))) none adds

-- ---- rectangles

side_parts : (a b c d e f : Bool) → (b ≡ true → c ≡ false) → (b ≡ false → c ≡ true) → (e ≡ true → f ≡ false) → (e ≡ false → f ≡ true)
    → (c ≡ true → a ≡ true) → (f ≡ true → d ≡ true)
    → (if a && b && d && e then pos 1 else pos 0)
    ≡ (if a then (if d then pos 1 else pos 0) -ℤ (if f then pos 1 else pos 0) else pos 0)
    +ℤ (if c then (if f then pos 1 else pos 0) -ℤ (if d then pos 1 else pos 0) else pos 0)
side_parts a b c d e f g h i j k l = grind (arith, ints)

two_sides : (x0 x1 y0 y1 x y : ℤ) → x0 <ℤ x1 → y0 <ℤ y1
    → (if int_le x0 x && int_lt x x1 && int_le y0 y && int_lt y y1 then pos 1 else pos 0)
    ≡ (if int_le x0 x then step y0 y -ℤ step y1 y else pos 0) +ℤ (if int_le x1 x then step y1 y -ℤ step y0 y else pos 0)
two_sides x0 x1 y0 y1 x y wide high =
    side_parts (int_le x0 x) (int_lt x x1) (int_le x1 x) (int_le y0 y) (int_lt y y1) (int_le y1 y)
    (λ h. grind (arith, ints)) (λ h. grind (arith, ints)) (λ h. grind (arith, ints)) (λ h. grind (arith, ints)) (λ h. grind (arith, ints)) (λ h. grind (arith, ints))

-- the two sides of a rectangle
pub AddsCount-rect : (old mid new : List Quadrant) (owner : ℕ) (r : Rect) → IsSolid r
    → AddsCount old mid owner (crossing (record { x = r.x0; y = r.y1 }) (record { x = r.x0; y = r.y0 })) (λ y. step r.y0 y -ℤ step r.y1 y)
    → AddsCount mid new owner (crossing (record { x = r.x1; y = r.y0 }) (record { x = r.x1; y = r.y1 })) (λ y. step r.y1 y -ℤ step r.y0 y)
    → AddsCount old new owner (rect_count r) (λ y. pos 0)
AddsCount-rect old mid new owner r solid left right =
    AddsCount-then old mid new owner (crossing (record { x = r.x0; y = r.y1 }) (record { x = r.x0; y = r.y0 }))
    (crossing (record { x = r.x1; y = r.y0 }) (record { x = r.x1; y = r.y1 })) (rect_count r)
    (λ y. step r.y0 y -ℤ step r.y1 y) (λ y. step r.y1 y -ℤ step r.y0 y) (λ y. pos 0) left right
    (λ x y. two_sides r.x0 r.x1 r.y0 r.y1 x y solid.wide solid.high) (λ y. omega (arith, ints))

pub AddsPath-starts : (old : List Quadrant) (owner : ℕ) → AddsPath old old owner []
AddsPath-starts old owner = nothing_added old owner (path_count []) (λ y. pos 0) (λ x y. sum_each-nil (λ (r : Rect). rect_count r x y)) (λ y. refl)

pub AddsPath-step : (old mid new : List Quadrant) (owner : ℕ) (rects : List Rect) (i : ℕ) (d : Rect) → i < length rects
    → AddsPath old mid owner (take i rects) → AddsCount mid new owner (rect_count (get_or rects i d)) (λ y. pos 0)
    → AddsPath old new owner (take (i + 1) rects)
AddsPath-step old mid new owner rects i d at one two =
    AddsCount-then old mid new owner (path_count (take i rects)) (rect_count (get_or rects i d)) (path_count (take (i + 1) rects))
    (λ y. pos 0) (λ y. pos 0) (λ y. pos 0) one two
    (λ x y. sum_each-more (λ (r : Rect). rect_count r x y) rects i d at) (λ y. omega (arith, ints))
