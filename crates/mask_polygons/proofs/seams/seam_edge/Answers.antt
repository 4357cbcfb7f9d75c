use Rattle.std.proofs.Common.{rules, ◌≡◌, ℕ, ◌<◌, ◌≤◌, ℤ, pos, ◌-ℤ◌, List, length, get_or, slice_index_or, subst, sym, arith, w32, FitsSigned}
use Rattle.std.proofs.lemmas.Int.{ints, to_z-of_z}
use Rattle.opc_base.specs.declared.plane.Pix.{Pix}
use Rattle.opc_base.specs.declared.plane.Rect.{Rect}
use Rattle.opc_base.specs.Canonical.{AreCanonical}
use Rattle.opc_base.specs.Plane.{cover}
use Rattle.outline_model.specs.declared.fragment.Fragment.{Fragment}
use Rattle.outline_model.specs.Outline.{fragment_at}
use Rattle.mask_polygons.specs.Border.{IsBorder}
use Rattle.mask_polygons.specs.Links.{LiesBefore}
use Rattle.mask_polygons.specs.Seams.{EndsOn, HasPlace, IsHoleCorner, IsSplit}
use Rattle.mask_polygons.proofs.BorderOrder.{in-order}
use Rattle.mask_polygons.proofs.EdgeOn.{BeginsAt, begins-at, ends-on, first-behind}
use Rattle.mask_polygons.proofs.seams.seam_edge.Goals as goal

-- the rectangle that is found begins with the seam's run
number-begins : (rects : List Rect) (q : Pix) (height column : ℤ) (n : ℕ) → height ≡ q.y → column ≡ q.x -ℤ pos 1 → AreCanonical rects → IsHoleCorner (cover rects) q → n ≤ length rects
    → ((j : ℕ) (d : Rect) → j < n → LiesBefore (get_or rects j d) height column) → ((j : ℕ) (d : Rect) → n ≤ j → j < length rects → ¬ LiesBefore (get_or rects j d) height column)
    → BeginsAt rects q n
number-begins rects q height column n y_is x_is canonical hole within ahead behind =
    let found = begins-at rects q canonical hole in
    subst (BeginsAt rects q) (sym (first-behind rects q found.0 n canonical found.1 within
    (λ j d less. subst (λ y. LiesBefore (get_or rects j d) y (q.x -ℤ pos 1)) y_is (subst (λ x. LiesBefore (get_or rects j d) height x) x_is (ahead j d less)))
    (λ j d from below h. behind j d from below
    (subst (λ y. LiesBefore (get_or rects j d) y column) (sym y_is) (subst (λ x. LiesBefore (get_or rects j d) q.y x) (sym x_is) h))))) found.1

edge-ends : (rects : List Rect) (fs : List Fragment) (first m n : ℕ) (q : Pix) (d : Rect) (line place : ℤ) → line ≡ (get_or rects n d).x0 → place ≡ q.y → AreCanonical rects
    → IsBorder (cover rects) fs → IsSplit fs first → BeginsAt rects q n → ((j : ℕ) → first ≤ j → j < length fs → HasPlace (fragment_at fs j) line place → m ≡ j)
    → (m < length fs) × EndsOn (cover rects) (fragment_at fs m) q
edge-ends rects fs first m n q d line place line_is place_is canonical border split begins only =
    ends-on rects fs first m n q d canonical border.boundary split begins
    (λ j from below has. only j from below
    (subst (λ y. HasPlace (fragment_at fs j) line y) (sym place_is) (subst (λ x. HasPlace (fragment_at fs j) x q.y) (sym line_is) has)))

pub bounds-rects-number : goal.bounds-rects-number
bounds-rects-number c =
    let near = c.requires.near in let a = near.0 in let b = near.1 in
    (number-begins c.args.rects.now c.args.corner _ _ c.first_at-number.result (omega (arith, ints, b)) (omega (arith, ints, a)) c.requires.canonical c.requires.hole
    c.first_at-number.ensures.within c.first_at-number.ensures.ahead c.first_at-number.ensures.behind).below

pub edge_on-requires-clause-order : goal.edge_on-requires-clause-order
edge_on-requires-clause-order c = in-order (cover c.args.rects.now) c.args.border.now c.requires.border

ends : (c : goal.After-edge_on) → (c.edge_on.result < length c.args.border.now) × EndsOn (cover c.args.rects.now) (fragment_at c.args.border.now c.edge_on.result) c.args.corner
ends c =
    let near = c.requires.near in let a = near.0 in let b = near.1 in
    let zero : Rect = record { x0 = pos 0; y0 = pos 0; x1 = pos 0; y1 = pos 0 } in
    let fits : FitsSigned w32 (slice_index_or c.args.rects.now c.first_at-number.result zero).x0 = search rules in
    let begins = number-begins c.args.rects.now c.args.corner _ _ c.first_at-number.result (omega (arith, ints, b)) (omega (arith, ints, a)) c.requires.canonical c.requires.hole
    c.first_at-number.ensures.within c.first_at-number.ensures.ahead c.first_at-number.ensures.behind in
    edge-ends c.args.rects.now c.args.border.now c.args.first c.edge_on.result c.first_at-number.result c.args.corner zero _ _
    (to_z-of_z w32 (slice_index_or c.args.rects.now c.first_at-number.result zero).x0 fits) (omega (arith, ints, b))
    c.requires.canonical c.requires.border c.requires.first begins c.edge_on.ensures

pub returns-clause-edge : goal.returns-clause-edge
returns-clause-edge c = (ends c).0

pub returns-clause-ends : goal.returns-clause-ends
returns-clause-ends c = (ends c).1
