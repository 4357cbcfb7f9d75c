-- The library that the records of a mask file describe.
use Rattle.std.proofs.Common.{◌≡◌, ◌≢◌, ℕ, ◌+◌, ◌*◌, ◌/◌, ◌%◌, ◌<◌, ◌≤◌, ◌==◌, Bool, true, false, cond, List, [], ◌∷◌, ◌++◌, length, get_or, refl, ap, ap₂, sym, ◌∙◌, subst, append_assoc, arith, FitsSigned, w32}
use Rattle.std.specs.Prelude.{ℤ, pos, ◌*ℤ◌, map, All, IsTrue, unsigned_abs}
use Rattle.std.specs.List.{flat_map, range_with_len}
use Rattle.std.specs.Int.{w16, to_be_bytes, cast_signed, cast_unsigned}
use Rattle.std.proofs.Math.Facts.{Fits-of_z}
use Rattle.std.proofs.lemmas.Bool.{ne_eqb}
use Rattle.std.proofs.Math.ListN.{get_or-append}
use Rattle.std.proofs.lemmas.List.{get_or-append-add, length-append}
use Rattle.std.proofs.lemmas.Int.{to_z-of_z, fits_signed_mul, ints}
use Rattle.std.proofs.lemmas.List.Elements.{All-head, All-tail}
use Rattle.opc_base.specs.declared.plane.Pix.{Pix}
use Rattle.opc_base.specs.declared.rules.OutPick.{OutPick}
use Rattle.opc_base.specs.Plane.{IsPixWithin}
use Rattle.opc_base.specs.Ranges.{IsBetween, is_name_byte}
use Rattle.gds_records.specs.declared.library_head.Head.{Head}
use Rattle.gds_records.specs.declared.points.Point.{Point}
use Rattle.gds_records.specs.Numbers.{two_bytes, signed_four}
use Rattle.gds_records.specs.Points.{point_in}
use Rattle.gds_model.specs.declared.elements.Element.{Element}
use Rattle.gds_model.specs.declared.elements.Element.TheVariants as element
use Rattle.gds_model.specs.declared.shape.ShapeKind.TheVariants as shape_kind
use Rattle.gds_model.specs.Elements.{points_in}
use Rattle.gds_model.specs.Library.{StreamLibrary, elements_of, library_of}
use Rattle.gds_model.specs.Names.{name_of}
use Rattle.gds_writer.specs.MaskFile.{point_bytes, boundary, opening}
use Rattle.gds_writer.specs.MaskLibrary.{point_of, shapes, first_shape, outline_library}
use Rattle.gds_writer.proofs.ReadBack.{length-points}
use Rattle.gds_writer.proofs.Sentence.{after, element_tree, element_trees, mask_tree}

two_bytes-back : (n : ℕ) → n < 65536 → two_bytes (to_be_bytes w16 n) 0 ≡ n
two_bytes-back n h = omega arith

four_bytes-back : (n : ℕ) → n < 4294967296
    → 65536 * (256 * (n / 16777216 % 256) + n / 65536 % 256) + (256 * (n / 256 % 256) + n % 256) ≡ n
four_bytes-back n h = omega arith

signed_four-back : (z : ℤ) → FitsSigned w32 z
    → cast_signed w32 (65536 * (256 * (cast_unsigned w32 z / 16777216 % 256) + cast_unsigned w32 z / 65536 % 256) + (256 * (cast_unsigned w32 z / 256 % 256) + cast_unsigned w32 z % 256)) ≡ z
signed_four-back z fits =
    ap (cast_signed w32) (four_bytes-back (cast_unsigned w32 z) (Fits-of_z {w = w32} {z = z} fits).fits) ∙ to_z-of_z w32 z fits

point-back : (grid : ℤ) (p : Pix) → IsPixWithin 1048128 p → IsBetween (pos 1) (pos 1000) grid
    → record { x = signed_four (point_bytes grid p) 0; y = signed_four (point_bytes grid p) 4 } ≡ point_of grid p
point-back grid p near between =
    let small : unsigned_abs grid ≤ 1000 = omega (arith, ints, between) in
    let x = signed_four-back (p.x *ℤ grid) (fits_signed_mul w32 p.x grid 1048128 1000 near.0 small (omega arith)) in
    let y = signed_four-back (p.y *ℤ grid) (fits_signed_mul w32 p.y grid 1048128 1000 near.1 small (omega arith)) in
    let point : ℤ → ℤ → Point = λ x y. record { x = x; y = y } in
    ap (λ a. point a (signed_four (point_bytes grid p) 4)) x ∙ ap (λ b. point (p.x *ℤ grid) b) y

-- eight bytes behind others
behind_others : (before here : List ℕ) (more : List ℕ) (n j : ℕ) → length before ≡ n → j + 4 ≤ length here
    → signed_four (before ++ (here ++ more)) (n + j) ≡ signed_four here j
behind_others before here more n j size within =
    let at : (i : ℕ) → i < length here → get_or (before ++ (here ++ more)) (n + i) 0 ≡ get_or here i 0 =
    λ i small. ap (λ k. get_or (before ++ (here ++ more)) (k + i) 0) (sym size) ∙ get_or-append-add before (here ++ more) i 0 ∙ get_or-append here more 0 i small in
    let a = at j (omega arith) in
    let b = at (j + 1) (omega arith) in
    let c = at (j + 2) (omega arith) in
    let d = at (j + 3) (omega arith) in
    let pb : n + j + 1 ≡ n + (j + 1) = omega arith in
    let pc : n + j + 2 ≡ n + (j + 2) = omega arith in
    let pd : n + j + 2 + 1 ≡ n + (j + 3) = omega arith in
    let pe : j + 2 + 1 ≡ j + 3 = omega arith in
    rw (pd, pb, pc, pe, a, b, c, d) refl

points-from : (grid : ℤ) (before : List ℕ) (points : List Pix) (k : ℕ) → length before ≡ 8 * k → All (IsPixWithin 1048128) points
    → IsBetween (pos 1) (pos 1000) grid
    → map (λ i. point_in (before ++ flat_map (point_bytes grid) points) i) (range_with_len k (length points)) ≡ map (point_of grid) points
points-from grid before [] k size within between = refl
points-from grid before (p ∷ points) k size within between =
    let here = point_bytes grid p in
    let more = flat_map (point_bytes grid) points in
    let point : ℤ → ℤ → Point = λ x y. record { x = x; y = y } in
    let near = All-head (IsPixWithin 1048128) p points within in
    let x : signed_four (before ++ (here ++ more)) (8 * k) ≡ signed_four here 0 =
    (let none : 8 * k ≡ 8 * k + 0 = omega arith in ap (λ n. signed_four (before ++ (here ++ more)) n) none ∙ behind_others before here more (8 * k) 0 size (omega arith)) in
    let y : signed_four (before ++ (here ++ more)) (8 * k + 4) ≡ signed_four here 4 = behind_others before here more (8 * k) 4 size (omega arith) in
    let longer : length (before ++ here) ≡ 8 * (k + 1) = length-append before here ∙ (omega (arith, size)) in
    let rest = points-from grid (before ++ here) points (k + 1) longer (All-tail (IsPixWithin 1048128) p points within) between in
    ap₂ (λ a b. a ∷ b) (ap₂ point x y ∙ point-back grid p near between)
    (ap (λ bytes. map (λ i. point_in bytes i) (range_with_len (k + 1) (length points))) (sym (append_assoc before here more)) ∙ rest)

points-back : (grid : ℤ) (points : List Pix) → All (IsPixWithin 1048128) points → IsBetween (pos 1) (pos 1000) grid
    → points_in (flat_map (point_bytes grid) points) ≡ map (point_of grid) points
points-back grid points within between =
    let size = length-points grid points in
    let count : length (flat_map (point_bytes grid) points) / 8 ≡ length points = omega arith in
    ap (λ n. map (λ i. point_in (flat_map (point_bytes grid) points) i) (range_with_len 0 n)) count
    ∙ points-from grid [] points 0 refl within between

element-made : (out : OutPick) (grid : ℤ) (at : ℕ) (outline : List Pix) → out.layer < 65536 → out.datatype < 65536 → All (IsPixWithin 1048128) outline
    → IsBetween (pos 1) (pos 1000) grid
    → elements_of (element_tree out grid at outline)
    ≡ element.Shape
    (record { offset = at; kind = shape_kind.Boundary; layer = out.layer; datatype = out.datatype; points = map (point_of grid) outline })
    ∷ []
element-made out grid at outline layer datatype near between =
    let made : ℕ → ℕ → List Point → List Element = λ l d ps. element.Shape (record { offset = at; kind = shape_kind.Boundary; layer = l; datatype = d; points = ps }) ∷ [] in
    let points = points_in (flat_map (point_bytes grid) outline) in
    ap (λ n. made n (two_bytes (to_be_bytes w16 out.datatype) 0) points) (two_bytes-back out.layer layer)
    ∙ ap (λ n. made out.layer n points) (two_bytes-back out.datatype datatype)
    ∙ ap (λ ps. made out.layer out.datatype ps) (points-back grid outline near between)

elements-made : (out : OutPick) (grid : ℤ) (at : ℕ) (outlines : List (List Pix)) → (0 < length outlines → (out.layer < 65536) × (out.datatype < 65536))
    → All (λ points. All (IsPixWithin 1048128) points) outlines → IsBetween (pos 1) (pos 1000) grid
    → flat_map elements_of (element_trees out grid at outlines) ≡ shapes out grid at outlines
elements-made out grid at [] fits near between = refl
elements-made out grid at (points ∷ outlines) fits near between =
    let numbers = fits (omega arith) in
    let size = length-points grid points in
    let next : after at (boundary out grid points) ≡ at + (24 + 8 * length points) = omega arith in
    let rest = elements-made out grid (at + (24 + 8 * length points)) outlines (λ _. numbers) (All-tail (λ points. All (IsPixWithin 1048128) points) points outlines near) between in
    ap (λ l. l ++ flat_map elements_of (element_trees out grid (after at (boundary out grid points)) outlines))
    (element-made out grid at points numbers.0 numbers.1 (All-head (λ points. All (IsPixWithin 1048128) points) points outlines near) between)
    ∙ ap (λ l. element.Shape (record { offset = at; kind = shape_kind.Boundary; layer = out.layer; datatype = out.datatype; points = map (point_of grid) points }) ∷ l)
    (ap (λ n. flat_map elements_of (element_trees out grid n outlines)) next ∙ rest)

-- a name of plain bytes is the name in its body, whatever zero byte stands behind it
plain-back : (name : List ℕ) → All (λ b. IsTrue (is_name_byte b)) name → (name_of name ≡ name) × (name_of (name ++ 0 ∷ []) ≡ name)
plain-back [] plain = (refl, refl)
plain-back (b ∷ name) plain =
    let is_plain : is_name_byte b ≡ true = All-head (λ b. IsTrue (is_name_byte b)) b name plain in
    let zero_is_not : b ≢ 0 = λ e. (let wrong : false ≡ true = subst (λ n. is_name_byte n ≡ true) e is_plain in cc) in
    let test = ne_eqb b 0 zero_is_not in
    let rest = plain-back name (All-tail (λ b. IsTrue (is_name_byte b)) b name plain) in
    (rw test (ap (λ l. b ∷ l) rest.0), rw test (ap (λ l. b ∷ l) rest.1))

padded-back : (name : List ℕ) (even : Bool) → All (λ b. IsTrue (is_name_byte b)) name → name_of (cond even name (name ++ 0 ∷ [])) ≡ name
padded-back name true plain = (plain-back name plain).0
padded-back name false plain = (plain-back name plain).1

pub mask-described : (head : Head) (out : OutPick) (grid : ℤ) (outlines : List (List Pix)) → length head.header ≡ 2 → length head.dates ≡ 24
    → length head.units ≡ 16 → (0 < length outlines → (out.layer < 65536) × (out.datatype < 65536)) → All (λ points. All (IsPixWithin 1048128) points) outlines → IsBetween (pos 1) (pos 1000) grid
    → library_of (mask_tree head out grid outlines) ≡ outline_library head out grid outlines
mask-described head out grid outlines header dates units fits near between =
    let first : after 0 (opening head out) ≡ first_shape head out = omega (arith, header, dates, units) in
    let layout : List ℕ → List Element → StreamLibrary = λ name elements. record { head = head; structures = record { name = name; elements = elements } ∷ [] } in
    ap (λ name. layout name (flat_map elements_of (element_trees out grid (after 0 (opening head out)) outlines)))
    (padded-back out.name (length out.name % 2 == 0) out.name_is_plain)
    ∙ ap (λ elements. layout out.name elements)
    (ap (λ n. flat_map elements_of (element_trees out grid n outlines)) first
    ∙ elements-made out grid (first_shape head out) outlines fits near between)
