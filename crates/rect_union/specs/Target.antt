-- The pixels that some outline covers.
use Rattle.std.specs.Prelude.{◌≡◌, ℕ, zero, suc, ◌≤◌, ℤ, pos, List, [], ◌∷◌, length}
use Rattle.opc_base.specs.declared.outline.Outline.{Outline}
use Rattle.opc_base.specs.declared.outline.Outline.TheVariants.{Polygon, Path}
use Rattle.rect_union.specs.declared.quadrants.Quadrant.{Quadrant}
use Rattle.opc_base.specs.Cover.{crossings}
use Rattle.rect_union.specs.Outlines.{path_count}
use Rattle.rect_union.specs.Quadrants.{HaveQuadrantOwnersBelow, column_total, quadrant_weight, row_total, winding}

-- how often an outline covers a pixel
abbrev pub outline_count : Outline → ℤ → ℤ → ℤ
outline_count (Polygon points) x y = crossings points x y
outline_count (Path rects) x y = path_count rects x y

-- that of the outline with this number
abbrev pub count_of : List Outline → ℕ → ℤ → ℤ → ℤ
count_of [] k x y = pos 0
count_of (o ∷ outlines) zero x y = outline_count o x y
count_of (o ∷ outlines) (suc k) x y = count_of outlines k x y

-- the quadrants count what the outlines do, the outline's number being the owner
pub record AreQuadrantsOf (outlines : List Outline) (quadrants : List Quadrant) : Type 0 where
  pub windings : (owner : ℕ) (x y : ℤ) → winding quadrants owner x y ≡ count_of outlines owner x y
  pub rows : (owner : ℕ) (y : ℤ) → row_total quadrants owner y ≡ pos 0
  pub columns : (owner : ℕ) (x : ℤ) → column_total quadrants owner x ≡ pos 0
  pub owners : (n : ℕ) → length outlines ≤ n → HaveQuadrantOwnersBelow n quadrants
  pub small : quadrant_weight quadrants ≤ length quadrants
