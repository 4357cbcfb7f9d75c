-- Placed shapes in pixels: closed, rectilinear, on the grid and in range.
use Rattle.std.proofs.Common.{◌≡◌, ℕ, zero, suc, ◌+◌, ◌<◌, ◌≤◌, ◌⊎◌, inl, inr, ℤ, pos, negsuc, ◌+ℤ◌, ◌-ℤ◌, ◌*ℤ◌, ◌≤ℤ◌, ◌<ℤ◌, unsigned_abs, Bool, true, false, not, ◌&&◌, ◌||◌, if◌then◌else◌, List, [], ◌∷◌, length, get_or, map, All, Option, Some, None, is_some, int_lt, Result, Ok, Err, IfOk, IfErr, refl, ap, ap₂, sym, ◌∙◌, subst, arith, add-one, ◌^◌, FitsSigned, to_z, of_z, w32, w64}
use Rattle.std.specs.List.{list_any}
use Rattle.std.specs.Ordering.{int_eq}
use Rattle.std.specs.Int.RustNames.{int_div, int_rem}
use Rattle.std.proofs.Math.IntN.{suc_ℤ, suc_ℤ-*ℤ}
use Rattle.std.proofs.lemmas.Bool.Decides.{Decides-int_eq, nat_tests}
use Rattle.std.proofs.lemmas.Int.{fits_signed_from_abs, ints, quot-rem, quot_fits, quot_is, to_z-of_z, by_lt_z}
use Rattle.std.proofs.lemmas.List.Elements.{All-cons, All-map, All-nil, All-weaker, filter_passes}
use Rattle.opc_base.specs.Canonical.{IsSolid}
use Rattle.opc_base.specs.Cover.{AreRectangles, IsClosed, IsPolygon, IsRectilinear, IsStraight, last_from}
use Rattle.opc_base.specs.Plane.{IsPixWithin, IsRectWithin}
use Rattle.opc_base.specs.declared.plane.Pix.{Pix}
use Rattle.gds_model.specs.declared.place_fault.PlaceFault.{PlaceFault}
use Rattle.gds_model.specs.declared.position.DoubledRect.{DoubledRect}
use Rattle.gds_model.specs.declared.position.PathForm.{PathForm}
use Rattle.gds_model.specs.declared.position.Position.{Position}
use Rattle.gds_model.specs.declared.place_fault.PlaceFault.TheVariants.{NotClosed, NotRectilinear, RoundPath, OffGrid, OutOfRange, NoMemory}
use Rattle.gds_model.specs.declared.shape.ShapeKind.{ShapeKind}
use Rattle.gds_model.specs.declared.shape.ShapeKind.TheVariants.{Boundary, Path, Box}
use Rattle.opc_base.specs.declared.outline.Outline.TheVariants.{Polygon}
use Rattle.gds_expand.specs.Forms.{form_in}
use Rattle.gds_model.specs.Outlines.{form_of, outline_through, path_outline, pixel_at, pixels_in}
use Rattle.gds_model.specs.PlacedList.{Mapped}
use Rattle.gds_model.specs.PathRects.{end_extension, has_area, is_same_point, path_rects, rects_from, rects_through, straightened, merged}
use Rattle.gds_model.specs.PlaceFaults.{is_closed, is_far, is_off, is_rectilinear, is_rectilinear_after, is_round, last_after, of_point, of_rect, polygon_fault, rects_fault, wide_path_fault, fault_through, path_fault, shape_fault, first_fault}

-- ---- tests

equal_numbers : (a b : ℤ) → int_eq a b ≡ true → a ≡ b
equal_numbers a b e = (Decides-int_eq a b).0 e

both : (a b : Bool) → (a && b) ≡ true → (a ≡ true) × (b ≡ true)
both true true e = (refl, refl)
both true false e = absurd (let no : ⊥ = cc in no)
both false b e = absurd (let no : ⊥ = cc in no)

pub neither : (a b : Bool) → (a || b) ≡ false → (a ≡ false) × (b ≡ false)
neither true b e = absurd (let no : ⊥ = cc in no)
neither false true e = absurd (let no : ⊥ = cc in no)
neither false false e = (refl, refl)

one_of : (a b : Bool) → (a || b) ≡ true → (a ≡ true) ⊎ (b ≡ true)
one_of true b e = inl refl
one_of false true e = inr refl
one_of false false e = absurd (let no : ⊥ = cc in no)

pub none_passes : {A : Type 0} (p : A → Bool) (xs : List A) → list_any p xs ≡ false → All (λ x. p x ≡ false) xs
none_passes p [] e = All-nil (λ x. p x ≡ false)
none_passes p (x ∷ xs) e = let parts = neither (p x) (list_any p xs) e in All-cons (λ y. p y ≡ false) x xs parts.0 (none_passes p xs parts.1)

-- ---- polygons

last_of_pixels : (grid : ℤ) (p : Position) (rest : List Position) → last_from (pixel_at grid p) (map (pixel_at grid) rest) ≡ pixel_at grid (last_after p rest)
last_of_pixels grid p [] = refl
last_of_pixels grid p (q ∷ rest) = last_of_pixels grid q rest

same_point : (p q : Position) → is_same_point p q ≡ true → p ≡ q
same_point p q e =
    let parts = both (int_eq p.x q.x) (int_eq p.y q.y) e in
    let point : ℤ → ℤ → Position = λ x y. record { x = x; y = y } in
    ap (λ v. point v p.y) (equal_numbers p.x q.x parts.0) ∙ ap (λ v. point q.x v) (equal_numbers p.y q.y parts.1)

closed_pixels : (grid : ℤ) (points : List Position) → is_closed points ≡ true → IsClosed (map (pixel_at grid) points)
closed_pixels grid [] e = let no : ⊥ = cc in no
closed_pixels grid (p ∷ rest) e = last_of_pixels grid p rest ∙ ap (pixel_at grid) (sym (same_point p (last_after p rest) e))

straight_pixels : (grid : ℤ) (p q : Position) → (int_eq p.x q.x || int_eq p.y q.y) ≡ true → IsStraight (pixel_at grid p) (pixel_at grid q)
straight_pixels grid p q e = elim (one_of (int_eq p.x q.x) (int_eq p.y q.y) e) [
  | inl x ↦ inl (ap (λ v. int_div v grid) (equal_numbers p.x q.x x))
  | inr y ↦ inr (ap (λ v. int_div v grid) (equal_numbers p.y q.y y))
]

rectilinear_after : (grid : ℤ) (p : Position) (rest : List Position) → is_rectilinear_after p rest ≡ true → IsRectilinear (map (pixel_at grid) (p ∷ rest))
rectilinear_after grid p [] e = λ k d below. absurd (omega arith)
rectilinear_after grid p (q ∷ rest) e = λ k d below. each (rectilinear_after grid q rest parts.1) k d below
  where
    parts : ((int_eq p.x q.x || int_eq p.y q.y) ≡ true) × (is_rectilinear_after q rest ≡ true)
    parts = both (int_eq p.x q.x || int_eq p.y q.y) (is_rectilinear_after q rest) e

    each : IsRectilinear (map (pixel_at grid) (q ∷ rest)) → (k : ℕ) (d : Pix) → k + 1 < length (map (pixel_at grid) (p ∷ q ∷ rest)) →
        IsStraight (get_or (map (pixel_at grid) (p ∷ q ∷ rest)) k d) (get_or (map (pixel_at grid) (p ∷ q ∷ rest)) (k + 1) d)
    each later zero d below = straight_pixels grid p q parts.0
    each later (suc k) d below =
        let more : suc k + 1 ≡ suc (k + 1) = omega arith in
        let below' : k + 1 < length (map (pixel_at grid) (q ∷ rest)) = omega arith in
        subst (λ (n : ℕ). IsStraight (get_or (map (pixel_at grid) (q ∷ rest)) k d) (get_or (map (pixel_at grid) (p ∷ q ∷ rest)) n d)) (sym more)
        (later k d below')

rectilinear_pixels : (grid : ℤ) (points : List Position) → is_rectilinear points ≡ true → IsRectilinear (map (pixel_at grid) points)
rectilinear_pixels grid [] e = λ k d below. absurd (omega arith)
rectilinear_pixels grid (p ∷ rest) e = rectilinear_after grid p rest e

pub not_far : (unit n : ℤ) → is_far unit n ≡ false → unsigned_abs (int_div n unit) ≤ 1048000
not_far unit n e = grind (arith, nat_tests)

pub near_pixel : (grid : ℤ) (p : Position) → of_point (is_far grid) p ≡ false → IsPixWithin 1048000 (pixel_at grid p)
near_pixel grid p e = let parts = neither (is_far grid p.x) (is_far grid p.y) e in (not_far grid p.x parts.0, not_far grid p.y parts.1)

-- nothing is wrong with the polygon
pub record IsRightPolygon (grid : ℤ) (points : List Position) : Type 0 where
  pub closed : is_closed points ≡ true
  pub straight : is_rectilinear points ≡ true
  pub on_grid : list_any (of_point (is_off grid)) points ≡ false
  pub near : list_any (of_point (is_far grid)) points ≡ false

no_test : (a b c d : Bool) (v w x y : PlaceFault) →
    (if not a then Some v else if not b then Some w else if c then Some x else if d then Some y else None) ≡ None →
    (a ≡ true) × (b ≡ true) × (c ≡ false) × (d ≡ false)
no_test false b c d v w x y e = absurd (let no : ⊥ = cc in no)
no_test true false c d v w x y e = absurd (let no : ⊥ = cc in no)
no_test true true true d v w x y e = absurd (let no : ⊥ = cc in no)
no_test true true false true v w x y e = absurd (let no : ⊥ = cc in no)
no_test true true false false v w x y e = (refl, refl, refl, refl)

pub right_polygon : (grid : ℤ) (offset : ℕ) (points : List Position) → polygon_fault grid offset points ≡ None → IsRightPolygon grid points
right_polygon grid offset points e =
    let parts = no_test (is_closed points) (is_rectilinear points) (list_any (of_point (is_off grid)) points) (list_any (of_point (is_far grid)) points) _ _ _ _ e in
    record { closed = parts.0; straight = parts.1; on_grid = parts.2; near = parts.3 }

pub near_points : (grid : ℤ) (offset : ℕ) (points : List Position) → polygon_fault grid offset points ≡ None → All (λ p. of_point (is_far grid) p ≡ false) points
near_points grid offset points e = none_passes (of_point (is_far grid)) points (right_polygon grid offset points e).near

pub placed_polygon : (grid : ℤ) (offset : ℕ) (points : List Position) → polygon_fault grid offset points ≡ None → IsPolygon (map (pixel_at grid) points)
placed_polygon grid offset points e =
    let right = right_polygon grid offset points e in
    record {
      closed = closed_pixels grid points right.closed;
      straight = rectilinear_pixels grid points right.straight;
      within = All-map (IsPixWithin 1048000) (pixel_at grid) points
          (All-weaker (λ p. of_point (is_far grid) p ≡ false) (λ p. IsPixWithin 1048000 (pixel_at grid p)) (near_pixel grid) points (near_points grid offset points e));
    }

-- ---- rectangles

suc_is : (z : ℤ) → z +ℤ pos 1 ≡ suc_ℤ z
suc_is (pos n) = ap pos (add-one n)
suc_is (negsuc zero) = refl
suc_is (negsuc (suc n)) = omega (arith, ints)

more_units : (q u : ℤ) (m : ℕ) → pos 1 ≤ℤ u → (q *ℤ u) ≤ℤ ((q +ℤ pos m) *ℤ u)
more_units q u zero positive = let same : q +ℤ pos zero ≡ q = omega (arith, ints) in rw same (omega (arith, ints))
more_units q u (suc m) positive =
    let next : q +ℤ pos (suc m) ≡ suc_ℤ (q +ℤ pos m) = (let sum : q +ℤ pos (suc m) ≡ (q +ℤ pos m) +ℤ pos 1 = omega (arith, ints) in sum ∙ suc_is (q +ℤ pos m)) in
    let before = more_units q u m positive in
    rw (next, suc_ℤ-*ℤ (q +ℤ pos m) u) (omega (arith, ints, before))

quotients_in_order : (u a b : ℤ) → pos 1 ≤ℤ u → int_rem a u ≡ pos 0 → int_rem b u ≡ pos 0 → a <ℤ b → int_div a u <ℤ int_div b u
quotients_in_order u a b positive whole_a whole_b below =
    by_lt_z (int_div a u) (int_div b u) (λ h. h) (λ above.
    let m : ℕ = unsigned_abs (int_div a u -ℤ int_div b u) in
    let is : int_div a u ≡ int_div b u +ℤ pos m = omega (arith, ints) in
    let more : (int_div b u *ℤ u) ≤ℤ (int_div a u *ℤ u) = rw is (more_units (int_div b u) u m positive) in
    let here : int_div a u *ℤ u +ℤ int_rem a u ≡ a = quot-rem a u in
    let there : int_div b u *ℤ u +ℤ int_rem b u ≡ b = quot-rem b u in
    absurd (omega (arith, ints, more, here, there, whole_a, whole_b, below)))

pub unturned : (b : Bool) → not b ≡ false → b ≡ true
unturned true e = refl
unturned false e = absurd (let no : ⊥ = cc in no)

on_unit : (unit n : ℤ) → is_off unit n ≡ false → int_rem n unit ≡ pos 0
on_unit unit n e = equal_numbers (int_rem n unit) (pos 0) (unturned (int_eq (int_rem n unit) (pos 0)) e)

-- ---- first faults

abbrev pub first_of_two : Bool → Bool → Option PlaceFault → Option PlaceFault → Option PlaceFault
first_of_two a b x y = if a then x else if b then y else None

abbrev pub first_of_four : Bool → Bool → Bool → Bool → Option PlaceFault → Option PlaceFault → Option PlaceFault → Option PlaceFault → Option PlaceFault
first_of_four a b c d w x y z = if not a then w else if not b then x else first_of_two c d y z

pub rects_fault_is : (side : ℤ) (offset : ℕ) (rects : List DoubledRect) (off far : Bool) →
    list_any (of_rect (is_off side)) rects ≡ off → list_any (of_rect (is_far side)) rects ≡ far →
    rects_fault side offset rects ≡ first_of_two off far (Some (OffGrid offset)) (Some (OutOfRange offset))
rects_fault_is side offset rects off far p q = ap₂ (λ u v. first_of_two u v (Some (OffGrid offset)) (Some (OutOfRange offset))) p q

pub polygon_fault_is : (grid : ℤ) (offset : ℕ) (points : List Position) (closed straight off far : Bool) →
    is_closed points ≡ closed → is_rectilinear points ≡ straight →
    list_any (of_point (is_off grid)) points ≡ off → list_any (of_point (is_far grid)) points ≡ far →
    polygon_fault grid offset points ≡
    first_of_four closed straight off far (Some (NotClosed offset)) (Some (NotRectilinear offset)) (Some (OffGrid offset)) (Some (OutOfRange offset))
polygon_fault_is grid offset points closed straight off far p q r s =
    ap₂ (λ u v. first_of_four u v (list_any (of_point (is_off grid)) points) (list_any (of_point (is_far grid)) points)
    (Some (NotClosed offset)) (Some (NotRectilinear offset)) (Some (OffGrid offset)) (Some (OutOfRange offset))) p q
    ∙ ap₂ (λ u v. first_of_four closed straight u v (Some (NotClosed offset)) (Some (NotRectilinear offset)) (Some (OffGrid offset)) (Some (OutOfRange offset))) r s

pub wide_path_fault_is : (side : ℤ) (offset : ℕ) (form : PathForm) (points : List Position) (straight round : Bool) →
    is_rectilinear points ≡ straight → is_round form ≡ round →
    wide_path_fault side offset form points ≡
    (if not straight then Some (NotRectilinear offset) else if round then Some (RoundPath offset) else rects_fault side offset (path_rects form points))
wide_path_fault_is side offset form points straight round p q =
    ap₂ (λ u v. if not u then Some (NotRectilinear offset) else if v then Some (RoundPath offset) else rects_fault side offset (path_rects form points)) p q

-- ---- lists of shapes

pub first_fault-next : (grid : ℤ) (x : Mapped) (xs : List Mapped) → shape_fault grid x ≡ None → first_fault grid (x ∷ xs) ≡ first_fault grid xs
first_fault-next grid x xs e = ap (λ (o : Option PlaceFault). if is_some o then o else first_fault grid xs) e

pub first_fault-here : (grid : ℤ) (x : Mapped) (xs : List Mapped) (fault : PlaceFault) → shape_fault grid x ≡ Some fault → first_fault grid (x ∷ xs) ≡ Some fault
first_fault-here grid x xs fault e = ap (λ (o : Option PlaceFault). if is_some o then o else first_fault grid xs) e

-- ---- rectangles in pixels

no_rect_test : (a b : Bool) (x y : PlaceFault) → (if a then Some x else if b then Some y else None) ≡ None → (a ≡ false) × (b ≡ false)
no_rect_test true b x y e = absurd (let no : ⊥ = cc in no)
no_rect_test false true x y e = absurd (let no : ⊥ = cc in no)
no_rect_test false false x y e = (refl, refl)

pub near_rects : (side : ℤ) (offset : ℕ) (rects : List DoubledRect) → rects_fault side offset rects ≡ None → All (λ r. of_rect (is_far side) r ≡ false) rects
near_rects side offset rects e =
    none_passes (of_rect (is_far side)) rects (no_rect_test (list_any (of_rect (is_off side)) rects) (list_any (of_rect (is_far side)) rects) _ _ e).1

near_rect : (side : ℤ) (r : DoubledRect) → of_rect (is_far side) r ≡ false → IsRectWithin 1048000 (pixels_in side r)
near_rect side r e =
    let corners = neither (of_point (is_far side) (record { x = r.x0; y = r.y0 })) (of_point (is_far side) (record { x = r.x1; y = r.y1 })) e in
    let lower = near_pixel side (record { x = r.x0; y = r.y0 }) corners.0 in
    let upper = near_pixel side (record { x = r.x1; y = r.y1 }) corners.1 in
    (lower.0, lower.1, upper.0, upper.1)

in_order : (a b : ℤ) → int_lt a b ≡ true → a <ℤ b
in_order a b e = grind (arith, ints)

solid_rect : (side : ℤ) (r : DoubledRect) → pos 1 ≤ℤ side → has_area r ≡ true → of_rect (is_off side) r ≡ false → IsSolid (pixels_in side r)
solid_rect side r positive area e =
    let sides = both (int_lt r.x0 r.x1) (int_lt r.y0 r.y1) area in
    let corners = neither (of_point (is_off side) (record { x = r.x0; y = r.y0 })) (of_point (is_off side) (record { x = r.x1; y = r.y1 })) e in
    let lower = neither (is_off side r.x0) (is_off side r.y0) corners.0 in
    let upper = neither (is_off side r.x1) (is_off side r.y1) corners.1 in
    record {
      wide = quotients_in_order side r.x0 r.x1 positive (on_unit side r.x0 lower.0) (on_unit side r.x1 upper.0) (in_order r.x0 r.x1 sides.0);
      high = quotients_in_order side r.y0 r.y1 positive (on_unit side r.y0 lower.1) (on_unit side r.y1 upper.1) (in_order r.y0 r.y1 sides.1);
    }

All-both : {A : Type 0} (P Q : A → Type 0) (xs : List A) → All P xs → All Q xs → All (λ x. P x × Q x) xs
All-both P Q xs p q = λ k d below. (p k d below, q k d below)

-- the rectangles of a path have area
through_have_area : (form : PathForm) (corners : List Position) → All (λ r. has_area r ≡ true) (rects_through form corners)
through_have_area form [] = All-nil (λ r. has_area r ≡ true)
through_have_area form (p ∷ rest) = filter_passes has_area (rects_from form (end_extension form form.begin) p rest)

pub placed_rects : (side : ℤ) (offset : ℕ) (form : PathForm) (points : List Position) → pos 1 ≤ℤ side →
    rects_fault side offset (path_rects form points) ≡ None → AreRectangles (map (pixels_in side) (path_rects form points))
placed_rects side offset form points positive e =
    let rects : List DoubledRect = path_rects form points in
    let tests = no_rect_test (list_any (of_rect (is_off side)) rects) (list_any (of_rect (is_far side)) rects) _ _ e in
    record {
      solid = All-map IsSolid (pixels_in side) rects
          (All-weaker (λ r. (has_area r ≡ true) × (of_rect (is_off side) r ≡ false)) (λ r. IsSolid (pixels_in side r))
          (λ r h. solid_rect side r positive h.0 h.1) rects
          (All-both (λ r. has_area r ≡ true) (λ r. of_rect (is_off side) r ≡ false) rects
          (through_have_area form (straightened (merged points))) (none_passes (of_rect (is_off side)) rects tests.0)));
      within = All-map (IsRectWithin 1048000) (pixels_in side) rects
          (All-weaker (λ r. of_rect (is_far side) r ≡ false) (λ r. IsRectWithin 1048000 (pixels_in side r)) (near_rect side) rects
          (none_passes (of_rect (is_far side)) rects tests.1));
    }

-- ---- quotients in code

pub quotient_read : (n unit : ℤ) → FitsSigned w64 n → FitsSigned w64 unit → pos 1 ≤ℤ unit → is_far unit n ≡ false →
    to_z w32 (of_z w32 (to_z w64 (of_z w64 (int_div (to_z w64 (of_z w64 n)) (to_z w64 (of_z w64 unit)))))) ≡ int_div n unit
quotient_read n unit fits fits_unit positive near =
    let above : pos 0 <ℤ unit = omega (arith, ints) in
    let small : unsigned_abs (int_div n unit) < 2 ^ 31 = omega (arith, not_far unit n near) in
    ap (λ z. to_z w32 (of_z w32 z)) (quot_is w64 n unit fits fits_unit (quot_fits w64 n unit fits above))
    ∙ to_z-of_z w32 (int_div n unit) (fits_signed_from_abs w32 (int_div n unit) small)

pub passed_test : (f : ℤ → Bool) (x : ℤ) → FitsSigned w64 x → f x ≡ false → f (to_z w64 (of_z w64 x)) ≡ false
passed_test f x fits e = ap f (to_z-of_z w64 x fits) ∙ e

-- ---- answers

pub if_ok : {T E : Type 0} (P Q : T → Type 0) → ((x : T) → P x → Q x) → (r : Result T E) → IfOk r P → IfOk r Q
if_ok P Q f (Ok x) h = f x h
if_ok P Q f (Err e) h = h

pub if_err : {T E : Type 0} (P Q : E → Type 0) → ((e : E) → P e → Q e) → (r : Result T E) → IfErr r P → IfErr r Q
if_err P Q f (Ok x) h = h
if_err P Q f (Err e) h = f e h

-- ---- kinds of shapes

pub path_fault_of : (grid : ℤ) (offset : ℕ) (kind : ShapeKind) (form : PathForm) (points placed : List Position) → form_in kind ≡ Some form → points ≡ placed →
    fault_through grid offset kind placed ≡ path_fault grid offset form points
path_fault_of grid offset Boundary form points placed e is = let no : ⊥ = cc in absurd no
path_fault_of grid offset Box form points placed e is = let no : ⊥ = cc in absurd no
path_fault_of grid offset (Path ends width begin end) form points placed e is =
    let same : form_of ends width begin end ≡ form = cc in
    ap₂ (λ f ps. path_fault grid offset f ps) same (sym is)

pub path_outline_of : (grid : ℤ) (kind : ShapeKind) (form : PathForm) (points placed : List Position) → form_in kind ≡ Some form → points ≡ placed →
    outline_through grid kind placed ≡ path_outline grid form points
path_outline_of grid Boundary form points placed e is = let no : ⊥ = cc in absurd no
path_outline_of grid Box form points placed e is = let no : ⊥ = cc in absurd no
path_outline_of grid (Path ends width begin end) form points placed e is =
    let same : form_of ends width begin end ≡ form = cc in
    ap₂ (λ f ps. path_outline grid f ps) same (sym is)

pub polygon_fault_of : (grid : ℤ) (offset : ℕ) (kind : ShapeKind) (side : ℤ) (points placed : List Position) → form_in kind ≡ None → side ≡ grid → points ≡ placed →
    fault_through grid offset kind placed ≡ polygon_fault side offset points
polygon_fault_of grid offset Boundary side points placed e same is = ap₂ (λ g ps. polygon_fault g offset ps) (sym same) (sym is)
polygon_fault_of grid offset Box side points placed e same is = ap₂ (λ g ps. polygon_fault g offset ps) (sym same) (sym is)
polygon_fault_of grid offset (Path ends width begin end) side points placed e same is = let no : ⊥ = cc in absurd no

pub polygon_outline_of : (grid : ℤ) (kind : ShapeKind) (side : ℤ) (points placed : List Position) → form_in kind ≡ None → side ≡ grid → points ≡ placed →
    outline_through grid kind placed ≡ Polygon (map (pixel_at side) points)
polygon_outline_of grid Boundary side points placed e same is = ap₂ (λ g ps. Polygon (map (pixel_at g) ps)) (sym same) (sym is)
polygon_outline_of grid Box side points placed e same is = ap₂ (λ g ps. Polygon (map (pixel_at g) ps)) (sym same) (sym is)
polygon_outline_of grid (Path ends width begin end) side points placed e same is = let no : ⊥ = cc in absurd no

-- a fault by another name
pub wrong_as : (fault : PlaceFault) (x y : Option PlaceFault) → x ≡ y → (fault ≡ NoMemory) ⊎ (y ≡ Some fault) → (fault ≡ NoMemory) ⊎ (x ≡ Some fault)
wrong_as fault x y e (inl memory) = inl memory
wrong_as fault x y e (inr wrong) = inr (e ∙ wrong)
