-- The points of the placed list are found by products.
use Rattle.std.proofs.Common.{◌≡◌, ℕ, zero, suc, ◌+◌, ◌*◌, Bool, true, false, List, [], ◌∷◌, ◌++◌, length, map, Option, Some, None, unsigned_abs, if◌then◌else◌, refl, ap, ap₂, ◌∙◌, arith}
use Rattle.std.specs.List.{flat_map, range_with_len}
use Rattle.std.proofs.lemmas.List.{length-append, length-map}
use Rattle.gds_model.specs.declared.elements.Element.{Element}
use Rattle.gds_model.specs.declared.elements.Element.TheVariants.{Shape as shape, Reference as reference}
use Rattle.gds_model.specs.declared.shape.Shape.{Shape}
use Rattle.gds_model.specs.declared.reference.Reference.{Reference}
use Rattle.gds_model.specs.declared.elements.Structure.{Structure}
use Rattle.gds_model.specs.declared.position.Position.{Position}
use Rattle.gds_model.specs.Reach.{elements_at, number_of}
use Rattle.gds_model.specs.PlacedList.{Mapped, moved, copies_of, copy_map, copy_maps, columns_of, rows_of, placed_by, placed_in, total_points, points_of_copies, element_points, elements_points, products_in}

total_points-append : (xs ys : List Mapped) → total_points (xs ++ ys) ≡ total_points xs + total_points ys
total_points-append [] ys = omega arith
total_points-append (x ∷ xs) ys = omega (arith, total_points-append xs ys)

total_points-moved : (f : Position → Position) (xs : List Mapped) → total_points (moved f xs) ≡ total_points xs
total_points-moved f [] = refl
total_points-moved f (x ∷ xs) = ap (λ n. length x.0.points + n) (total_points-moved f xs)

total_points-copies : (maps : List (Position → Position)) (xs : List Mapped) → total_points (flat_map (λ f. moved f xs) maps) ≡ length maps * total_points xs
total_points-copies [] xs = omega arith
total_points-copies (f ∷ maps) xs =
    total_points-append (moved f xs) (flat_map (λ f. moved f xs) maps)
    ∙ ap₂ (λ a b. a + b) (total_points-moved f xs) (total_points-copies maps xs)
    ∙ one_more (length maps) (total_points xs)
  where
    one_more : (n t : ℕ) → t + n * t ≡ suc n * t
    one_more n t = omega arith

length-range : (a n : ℕ) → length (range_with_len a n) ≡ n
length-range a zero = refl
length-range a (suc n) = ap suc (length-range (a + 1) n)

length-rows : {B : Type 0} (g : ℕ → ℕ → B) (columns rows : List ℕ) → length (flat_map (λ row. map (g row) columns) rows) ≡ length rows * length columns
length-rows g columns [] = omega arith
length-rows g columns (row ∷ rows) =
    length-append (map (g row) columns) (flat_map (λ row. map (g row) columns) rows)
    ∙ ap₂ (λ a b. a + b) (length-map columns (g row)) (length-rows g columns rows)
    ∙ one_more (length rows) (length columns)
  where
    one_more : (n t : ℕ) → t + n * t ≡ suc n * t
    one_more n t = omega arith

length-copy_maps : (r : Reference) → length (copy_maps r) ≡ unsigned_abs (rows_of r.array) * unsigned_abs (columns_of r.array)
length-copy_maps r =
    length-rows (copy_map r) (range_with_len 0 (unsigned_abs (columns_of r.array))) (range_with_len 0 (unsigned_abs (rows_of r.array)))
    ∙ ap₂ (λ a b. a * b) (length-range 0 (unsigned_abs (rows_of r.array))) (length-range 0 (unsigned_abs (columns_of r.array)))

total_points-copies_of : (inner : ℕ → List Mapped) (counts : ℕ → ℕ) (maps : List (Position → Position)) (n : ℕ) (named : Option ℕ) → length maps ≡ n →
    ((t : ℕ) → total_points (inner t) ≡ counts t) → total_points (copies_of inner maps named) ≡ points_of_copies counts n named
total_points-copies_of inner counts maps n None size h = refl
total_points-copies_of inner counts maps n (Some t) size h = total_points-copies maps (inner t) ∙ ap₂ (λ a b. a * b) size (h t)

total_points-element : (library : List Structure) (chosen : Shape → Bool) (inner : ℕ → List Mapped) (counts : ℕ → ℕ) (e : Element) →
    ((t : ℕ) → total_points (inner t) ≡ counts t) → total_points (placed_by library chosen inner e) ≡ element_points library chosen counts e
total_points-element library chosen inner counts (shape s) h = either (chosen s)
  where
    either : (b : Bool) → total_points (if b then (s, λ p. p) ∷ [] else []) ≡ (if b then length s.points else 0)
    either true = omega arith
    either false = refl
total_points-element library chosen inner counts (reference r) h =
    total_points-copies_of inner counts (copy_maps r) _ (number_of library r.name) (length-copy_maps r) h

total_points-elements : (library : List Structure) (chosen : Shape → Bool) (inner : ℕ → List Mapped) (counts : ℕ → ℕ) (elements : List Element) →
    ((t : ℕ) → total_points (inner t) ≡ counts t) → total_points (flat_map (placed_by library chosen inner) elements) ≡ elements_points library chosen counts elements
total_points-elements library chosen inner counts [] h = refl
total_points-elements library chosen inner counts (e ∷ elements) h =
    total_points-append (placed_by library chosen inner e) (flat_map (placed_by library chosen inner) elements)
    ∙ ap₂ (λ a b. a + b) (total_points-element library chosen inner counts e h) (total_points-elements library chosen inner counts elements h)

-- at each depth
pub total_points-placed_in : (library : List Structure) (chosen : Shape → Bool) (depth s : ℕ) → total_points (placed_in library chosen depth s) ≡ products_in library chosen depth s
unfolding placed_in products_in
total_points-placed_in library chosen zero s = refl
total_points-placed_in library chosen (suc depth) s =
    total_points-elements library chosen (placed_in library chosen depth) (products_in library chosen depth) (elements_at library s)
    (λ t. total_points-placed_in library chosen depth t)
