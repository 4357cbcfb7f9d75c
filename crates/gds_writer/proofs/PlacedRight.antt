-- Nothing is wrong with what the structure of a mask file places.
use Rattle.std.proofs.Common.{◌≡◌, ℕ, zero, suc, ◌+◌, ◌*◌, ◌||◌, inl, inr, ◌<◌, ℤ, pos, ◌+ℤ◌, ◌*ℤ◌, ◌≤ℤ◌, Bool, true, false, not, ◌&&◌, ◌==◌, List, [], ◌∷◌, ◌++◌, Option, Some, None, length, map, All, refl, ap, sym, ◌∙◌, subst, get_or, arith}
use Rattle.std.specs.Prelude.{IfSome, Contains, if◌then◌else◌}
use Rattle.std.specs.List.{flat_map, list_any}
use Rattle.std.specs.Ordering.{int_eq}
use Rattle.std.specs.Int.RustNames.{int_div, int_rem}
use Rattle.std.proofs.Math.Bool.{or-true}
use Rattle.std.proofs.lemmas.Bool.{eq-eqb}
use Rattle.std.proofs.lemmas.Bool.Decides.{Decides-int_eq}
use Rattle.std.proofs.lemmas.Int.{ints, quot-rem}
use Rattle.std.proofs.lemmas.List.Elements.{All-nil, All-cons, All-head, All-tail}
use Rattle.opc_base.specs.declared.plane.Pix.{Pix}
use Rattle.opc_base.specs.declared.rules.OutPick.{OutPick}
use Rattle.gds_records.specs.declared.library_head.Head.{Head}
use Rattle.gds_model.specs.declared.elements.Element.TheVariants.{Reference as reference}
use Rattle.gds_model.specs.declared.elements.Structure.{Structure}
use Rattle.gds_model.specs.declared.position.Position.{Position}
use Rattle.gds_model.specs.declared.place_fault.PlaceFault.{PlaceFault}
use Rattle.gds_model.specs.declared.place_fault.PlaceFault.TheVariants.{OutOfRange}
use Rattle.gds_model.specs.declared.reference.Reference.{Reference}
use Rattle.gds_model.specs.declared.shape.Shape.{Shape}
use Rattle.gds_model.specs.declared.shape.ShapeKind.TheVariants as shape_kind
use Rattle.gds_model.specs.Outlines.{position_of, placed_points}
use Rattle.gds_model.specs.PlacedList.{Mapped, is_on, placed_by, placed_in, placed_list}
use Rattle.gds_model.specs.PlaceFaults.{AreReferencesRight, HasNoCycle, is_closed, is_rectilinear, is_off, is_far, is_rectilinear_after, last_after, of_point, polygon_fault}
use Rattle.gds_model.specs.Reach.{elements_at, is_same_name, number_of}
use Rattle.gds_writer.specs.MaskLibrary.{point_of, shapes, first_shape, outline_library}
use Rattle.gds_writer.specs.Outlines.{IsOutline}
use Rattle.opc_base.specs.Cover.{IsClosed, IsRectilinear, IsStraight, last_from}
use Rattle.gds_writer.specs.Faultless.{IsRightShape}
use Rattle.gds_writer.proofs.Expands.{exact, chosen}

abbrev mask_shape : OutPick → ℤ → ℕ → List Pix → Shape
mask_shape out grid at r = record {
  offset = at;
  kind = shape_kind.Boundary;
  layer = out.layer;
  datatype = out.datatype;
  points = map (point_of grid) r;
}

-- ---- references

no_reference : (out : OutPick) (grid : ℤ) (at : ℕ) (outlines : List (List Pix)) (r : Reference) → Contains (shapes out grid at outlines) (reference r) → ⊥
no_reference out grid at [] r (k, below, e) = omega arith
no_reference out grid at (x ∷ outlines) r (zero, below, e) = cc
no_reference out grid at (x ∷ outlines) r (suc k, below, e) =
    let later : k < length (shapes out grid (at + (24 + 8 * length x)) outlines) = omega arith in
    no_reference out grid (at + (24 + 8 * length x)) outlines r (k, later, e)

none_at : (head : Head) (out : OutPick) (grid : ℤ) (outlines : List (List Pix)) (s : ℕ) (r : Reference)
    → Contains (elements_at (outline_library head out grid outlines).structures s) (reference r) → ⊥
none_at head out grid outlines zero r there = no_reference out grid (first_shape head out) outlines r there
none_at head out grid outlines (suc s) r (k, below, e) = omega arith

pub mask-references : (head : Head) (out : OutPick) (grid : ℤ) (outlines : List (List Pix)) → AreReferencesRight (outline_library head out grid outlines).structures 0
mask-references head out grid outlines r (s, reaches, there) = absurd (none_at head out grid outlines s r there)

pub mask-no_cycle : (head : Head) (out : OutPick) (grid : ℤ) (outlines : List (List Pix)) → HasNoCycle (outline_library head out grid outlines).structures 0
mask-no_cycle head out grid outlines s reaches (n, (u, chain, (r, there, named))) = none_at head out grid outlines u r there

-- ---- the structure's name

same_name : (name : List ℕ) → is_same_name name name ≡ true
same_name [] = refl
same_name (b ∷ name) = rw (eq-eqb b b refl, same_name name) refl

pub mask-top : (head : Head) (out : OutPick) (grid : ℤ) (outlines : List (List Pix)) → number_of (outline_library head out grid outlines).structures out.name ≡ Some 0
mask-top head out grid outlines = rw (same_name out.name) refl

-- ---- shapes

same : (x : ℤ) → int_eq x x ≡ true
same x = (Decides-int_eq x x).1 refl

no_rest : (grid x : ℤ) → pos 1 ≤ℤ grid → int_rem (x *ℤ grid) grid ≡ pos 0
no_rest grid x positive =
    let whole : int_div (x *ℤ grid) grid *ℤ grid +ℤ int_rem (x *ℤ grid) grid ≡ x *ℤ grid = quot-rem (x *ℤ grid) grid in
    let quotient : int_div (x *ℤ grid) grid *ℤ grid ≡ x *ℤ grid = ap (λ q. q *ℤ grid) (exact x grid positive) in
    omega (arith, ints, whole, quotient)

on_grid : (grid x : ℤ) → pos 1 ≤ℤ grid → is_off grid (x *ℤ grid) ≡ false
on_grid grid x positive = rw (no_rest grid x positive) refl

-- where the points of an outline stand in the file
abbrev placed : ℤ → List Pix → List Position
placed grid points = placed_points (λ p. p) (map (point_of grid) points)

last-placed : (grid : ℤ) (p : Pix) (points : List Pix) → last_after (position_of (point_of grid p)) (placed grid points) ≡ position_of (point_of grid (last_from p points))
last-placed grid p [] = refl
last-placed grid p (q ∷ points) = last-placed grid q points

closed : (grid : ℤ) (points : List Pix) → IsClosed points → is_closed (placed grid points) ≡ true
closed grid [] ends = absurd ends
closed grid (p ∷ points) ends =
    let last : last_after (position_of (point_of grid p)) (placed grid points) ≡ position_of (point_of grid p) = last-placed grid p points ∙ ap (λ q. position_of (point_of grid q)) ends in
    rw last (rw (same (p.x *ℤ grid), same (p.y *ℤ grid)) refl)

step-straight : (grid : ℤ) (p q : Pix) → IsStraight p q → (int_eq (p.x *ℤ grid) (q.x *ℤ grid) || int_eq (p.y *ℤ grid) (q.y *ℤ grid)) ≡ true
step-straight grid p q (inl e) = rw e (rw (same (q.x *ℤ grid)) refl)
step-straight grid p q (inr e) = rw e (rw (same (q.y *ℤ grid)) (or-true (int_eq (p.x *ℤ grid) (q.x *ℤ grid))))

rectilinear-after : (grid : ℤ) (p : Pix) (points : List Pix) → IsRectilinear (p ∷ points)
    → is_rectilinear_after (position_of (point_of grid p)) (placed grid points) ≡ true
rectilinear-after grid p [] straight = refl
rectilinear-after grid p (q ∷ points) straight =
    let first : IsStraight p q = straight 0 p (omega arith) in
    let later : IsRectilinear (q ∷ points) =
    λ k d below. (let next : suc k + 1 ≡ suc (k + 1) = omega arith in
    subst (λ n. IsStraight (get_or (q ∷ points) k d) (get_or (p ∷ q ∷ points) n d)) next (straight (suc k) d (omega arith))) in
    rw (step-straight grid p q first) (rectilinear-after grid q points later)

rectilinear : (grid : ℤ) (points : List Pix) → IsRectilinear points → is_rectilinear (placed grid points) ≡ true
rectilinear grid [] straight = refl
rectilinear grid (p ∷ points) straight = rectilinear-after grid p points straight

all_on_grid : (grid : ℤ) (points : List Pix) → pos 1 ≤ℤ grid → list_any (of_point (is_off grid)) (placed grid points) ≡ false
all_on_grid grid [] positive = refl
all_on_grid grid (p ∷ points) positive =
    rw (no_rest grid p.x positive, no_rest grid p.y positive) (all_on_grid grid points positive)

far_at_most : (far : Bool) (offset : ℕ) → IfSome (if far then Some (OutOfRange offset) else None) (λ fault. fault ≡ OutOfRange offset)
far_at_most true offset = refl
far_at_most false offset = tt

past_tests : (c r o : Bool) (not_closed bent off rest : Option PlaceFault) → c ≡ true → r ≡ true → o ≡ false
    → (if not c then not_closed else if not r then bent else if o then off else rest) ≡ rest
past_tests c r o not_closed bent off rest ec er eo = rw (ec, er, eo) refl

outline-right : (grid : ℤ) (offset : ℕ) (points : List Pix) → pos 1 ≤ℤ grid → IsClosed points → IsRectilinear points
    → IfSome (polygon_fault grid offset (placed grid points)) (λ fault. fault ≡ OutOfRange offset)
outline-right grid offset points positive ends straight =
    let P : Option PlaceFault → Type 0 = λ found. IfSome found (λ fault. fault ≡ OutOfRange offset) in
    let far = list_any (of_point (is_far grid)) (placed grid points) in
    subst P
    (sym
    (past_tests (is_closed (placed grid points)) (is_rectilinear (placed grid points)) (list_any (of_point (is_off grid)) (placed grid points)) _ _ _
    (if far then Some (OutOfRange offset) else None) (closed grid points ends) (rectilinear grid points straight) (all_on_grid grid points positive)))
    (far_at_most far offset)

one_more : (grid : ℤ) (b : Bool) (x : Mapped) (rest : List Mapped) → b ≡ true → IsRightShape grid x → All (IsRightShape grid) rest
    → All (IsRightShape grid) ((if b then x ∷ [] else []) ++ rest)
one_more grid true x rest e right all = All-cons (IsRightShape grid) x rest right all
one_more grid false x rest e right all = absurd (let wrong : ⊥ = cc in wrong)

shapes-right : (library : List Structure) (inner : ℕ → List Mapped) (out : OutPick) (grid : ℤ) (at : ℕ) (outlines : List (List Pix)) → pos 1 ≤ℤ grid
    → All IsOutline outlines
    → All (IsRightShape grid) (flat_map (placed_by library (is_on out.layer out.datatype) inner) (shapes out grid at outlines))
shapes-right library inner out grid at [] positive right = All-nil (IsRightShape grid)
shapes-right library inner out grid at (points ∷ outlines) positive right =
    let here = All-head IsOutline points outlines right in
    one_more grid (out.layer == out.layer && out.datatype == out.datatype) (mask_shape out grid at points, λ p. p)
    (flat_map (placed_by library (is_on out.layer out.datatype) inner) (shapes out grid (at + (24 + 8 * length points)) outlines)) (chosen out) (outline-right grid at points positive here.closed here.straight)
    (shapes-right library inner out grid (at + (24 + 8 * length points)) outlines positive (All-tail IsOutline points outlines right))

pub mask-shapes : (head : Head) (out : OutPick) (grid : ℤ) (outlines : List (List Pix)) → pos 1 ≤ℤ grid → All IsOutline outlines
    → All (IsRightShape grid) (placed_list (outline_library head out grid outlines).structures (is_on out.layer out.datatype) 0)
unfolding placed_in
mask-shapes head out grid outlines positive right =
    shapes-right (outline_library head out grid outlines).structures (placed_in (outline_library head out grid outlines).structures (is_on out.layer out.datatype) zero) out grid (first_shape head out) outlines positive right
