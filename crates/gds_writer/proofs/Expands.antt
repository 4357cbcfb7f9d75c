-- The mask file expands to the pixels of its rectangles.
use Rattle.std.proofs.Common.{◌≡◌, ℕ, ◌+◌, ◌*◌, length, ℤ, pos, negsuc, ◌<◌, ◌+ℤ◌, ◌-ℤ◌, ◌*ℤ◌, ◌≤ℤ◌, ◌<ℤ◌, unsigned_abs, true, ◌&&◌, ◌==◌, ◌||◌, List, [], ◌∷◌, zero, suc, map, refl, ap, ap₂, ◌∙◌, arith, add-one, eq-eqb}
use Rattle.std.specs.List.{flat_map}
use Rattle.std.specs.Int.RustNames.{int_div, int_rem}
use Rattle.std.proofs.Math.IntN.{suc_ℤ, suc_ℤ-*ℤ}
use Rattle.std.proofs.lemmas.Int.{ints, quot-rem, rem_below, by_lt_z}
use Rattle.opc_base.specs.declared.plane.Pix.{Pix}
use Rattle.opc_base.specs.declared.outline.Outline.TheVariants.{Polygon}
use Rattle.opc_base.specs.declared.rules.OutPick.{OutPick}
use Rattle.opc_base.specs.Cover.{outline_cover}
use Rattle.opc_base.specs.Target.{target}
use Rattle.gds_records.specs.declared.library_head.Head.{Head}
use Rattle.gds_model.specs.declared.elements.Structure.{Structure}
use Rattle.gds_model.specs.Outlines.{outline_of, pixel_at, placed_points, position_of}
use Rattle.gds_model.specs.PlacedList.{Mapped, is_on, placed_by, placed_in}
use Rattle.gds_writer.specs.MaskLibrary.{point_of, shapes, first_shape, outline_library}
use Rattle.gds_writer.specs.Expansion.{expansion}

suc_is : (z : ℤ) → z +ℤ pos 1 ≡ suc_ℤ z
suc_is (pos n) = ap pos (add-one n)
suc_is (negsuc zero) = refl
suc_is (negsuc (suc n)) = omega (arith, ints)

more_units : (q u : ℤ) (m : ℕ) → pos 1 ≤ℤ u → ((q *ℤ u) +ℤ u) ≤ℤ ((q +ℤ pos (suc m)) *ℤ u)
more_units q u zero positive = rw (suc_is q, suc_ℤ-*ℤ q u) (omega (arith, ints))
more_units q u (suc m) positive =
    let next : q +ℤ pos (suc (suc m)) ≡ suc_ℤ (q +ℤ pos (suc m)) =
    (let sum : q +ℤ pos (suc (suc m)) ≡ (q +ℤ pos (suc m)) +ℤ pos 1 = omega (arith, ints) in sum ∙ suc_is (q +ℤ pos (suc m))) in
    let before = more_units q u m positive in
    rw (next, suc_ℤ-*ℤ (q +ℤ pos (suc m)) u) (omega (arith, ints, before))

above : (q x u : ℤ) → pos 1 ≤ℤ u → q <ℤ x → ((q *ℤ u) +ℤ u) ≤ℤ (x *ℤ u)
above q x u positive below =
    let m : ℕ = unsigned_abs (x -ℤ q -ℤ pos 1) in
    let is : x ≡ q +ℤ pos (suc m) = omega (arith, ints) in
    rw is (more_units q u m positive)

pub exact : (x u : ℤ) → pos 1 ≤ℤ u → int_div (x *ℤ u) u ≡ x
exact x u positive =
    let q = int_div (x *ℤ u) u in
    let here : q *ℤ u +ℤ int_rem (x *ℤ u) u ≡ x *ℤ u = quot-rem (x *ℤ u) u in
    let small : unsigned_abs (int_rem (x *ℤ u) u) < unsigned_abs u = rem_below (x *ℤ u) u (omega (arith, ints)) in
    by_lt_z q x (λ less. let more = above q x u positive less in absurd (omega (arith, ints, more, here, small)))
    (λ not_less. by_lt_z x q (λ less. let more = above x q u positive less in absurd (omega (arith, ints, more, here, small)))
    (λ not_more. omega (arith, ints, not_less, not_more)))

pixel-back : (grid : ℤ) (p : Pix) → pos 1 ≤ℤ grid → pixel_at grid (position_of (point_of grid p)) ≡ p
pixel-back grid p positive =
    let pixel : ℤ → ℤ → Pix = λ x y. record { x = x; y = y } in
    ap₂ pixel (exact p.x grid positive) (exact p.y grid positive)

pixels-back : (grid : ℤ) (points : List Pix) → pos 1 ≤ℤ grid
    → map (pixel_at grid) (placed_points (λ p. p) (map (point_of grid) points)) ≡ points
pixels-back grid [] positive = refl
pixels-back grid (p ∷ points) positive = ap₂ (λ p points. p ∷ points) (pixel-back grid p positive) (pixels-back grid points positive)

pub chosen : (out : OutPick) → (out.layer == out.layer && out.datatype == out.datatype) ≡ true
chosen out = rw (eq-eqb out.layer out.layer refl, eq-eqb out.datatype out.datatype refl) refl

shapes-covered : (library : List Structure) (inner : ℕ → List Mapped) (out : OutPick) (grid : ℤ) (at : ℕ) (outlines : List (List Pix)) (x y : ℤ)
    → pos 1 ≤ℤ grid
    → target (map (outline_of grid) (flat_map (placed_by library (is_on out.layer out.datatype) inner) (shapes out grid at outlines))) x y ≡ target (map Polygon outlines) x y
shapes-covered library inner out grid at [] x y positive = refl
shapes-covered library inner out grid at (points ∷ outlines) x y positive =
    let test = chosen out in
    let rest = shapes-covered library inner out grid (at + (24 + 8 * length points)) outlines x y positive in
    rw test (ap₂ (λ a b. a || b) (ap (λ points. outline_cover (Polygon points) x y) (pixels-back grid points positive)) rest)

pub outlines-expand : (head : Head) (out : OutPick) (grid : ℤ) (outlines : List (List Pix)) (x y : ℤ) → pos 1 ≤ℤ grid
    → expansion (outline_library head out grid outlines) out.layer out.datatype grid x y ≡ target (map Polygon outlines) x y
unfolding placed_in
outlines-expand head out grid outlines x y positive =
    shapes-covered (outline_library head out grid outlines).structures (placed_in (outline_library head out grid outlines).structures (is_on out.layer out.datatype) zero) out grid (first_shape head out) outlines x y positive
