-- The state of a sweep.
use Rattle.std.specs.Prelude.{◌≡◌, ℕ, ◌+◌, ◌<◌, ◌≤◌, ℤ, ◌+ℤ◌, ◌≤ℤ◌, int_le, int_lt, ◌&&◌, ◌||◌, ⊤, List, length, get_or, take}
use Rattle.rect_union.specs.declared.columns.Column.{Column}
use Rattle.rect_union.specs.declared.quadrants.Quadrant.{Quadrant}
use Rattle.rect_union.specs.declared.sweep.Sweep.{Sweep}
use Rattle.rect_union.specs.declared.sweep.SweepEnd.{SweepEnd}
use Rattle.rect_union.specs.declared.sweep.SweepEnd.TheVariants.{Swept, TooMany, TooLong}
use Rattle.opc_base.specs.declared.plane.Rect.{Rect}
use Rattle.rect_union.specs.Columns.{AreInOrder, HaveOwnersBelow, owner_count, owner_total, row_cover, weight_of}
use Rattle.rect_union.specs.Merges.{AreUpTo}
use Rattle.opc_base.specs.Plane.{cover}
use Rattle.rect_union.specs.Quadrants.{column_total, is_wound, owner_part, quadrant_weight}
use Rattle.rect_union.specs.Stacks.{AreStacked}
use Rattle.opc_base.specs.Sums.{sum_each}
use Rattle.rect_union.specs.Windings.{AreZero}

-- the number of owners
abbrev pub owners_of : Sweep → ℕ
owners_of s = length s.windings.counts.items

pub record IsSweepAt (s : Sweep) (y : ℤ) : Type 0 where
  pub stacked : AreStacked s.rects.items s.growing.items y
  pub order : AreInOrder s.columns.items
  pub owners : HaveOwnersBelow (owners_of s) s.columns.items
  pub zeros : AreZero s.windings.counts.items

-- the columns of a row are added, and the pixels that all columns cover from `bottom` to `top`
pub record Raises (old new : Sweep) (row : List Column) (bottom top : ℤ) : Type 0 where
  pub size : owners_of new ≡ owners_of old
  pub counts : (owner : ℕ) (x : ℤ) → owner_count new.columns.items owner x ≡ owner_count old.columns.items owner x +ℤ owner_count row owner x
  pub totals : (owner : ℕ) → owner_total new.columns.items owner ≡ owner_total old.columns.items owner +ℤ owner_total row owner
  pub weight : weight_of new.columns.items ≤ weight_of old.columns.items + weight_of row
  pub pixels : (x y : ℤ) → cover new.rects.items x y
      ≡ (cover old.rects.items x y || ((int_le bottom y && int_lt y top) && row_cover (owners_of old) new.columns.items x))

-- the first i quadrants are taken: those of the row that begins at `bottom` are in `row`
pub record IsSweeping (quadrants : List Quadrant) (n : ℕ) (s : Sweep) (row : List Column) (bottom : ℤ) (i : ℕ) : Type 0 where
  pub valid : IsSweepAt s bottom
  pub size : owners_of s ≡ n
  pub counts : (owner : ℕ) (x : ℤ) → owner_count s.columns.items owner x +ℤ owner_count row owner x ≡ column_total (take i quadrants) owner x
  pub totals : (owner : ℕ) → owner_total s.columns.items owner +ℤ owner_total row owner ≡ sum_each (λ q. owner_part owner q.column) (take i quadrants)
  pub weight : weight_of s.columns.items + weight_of row ≤ quadrant_weight (take i quadrants)
  pub row_order : AreInOrder row
  pub row_owners : HaveOwnersBelow n row
  pub row_before : (d : Quadrant) → i < length quadrants → (get_or quadrants i d).y ≡ bottom → AreUpTo (get_or quadrants i d).column.x row
  pub below : (k : ℕ) (d : Quadrant) → k < i → k < length quadrants → (get_or quadrants k d).y ≤ℤ bottom
  pub above : (k : ℕ) (d : Quadrant) → i ≤ k → k < length quadrants → bottom ≤ℤ (get_or quadrants k d).y
  pub pixels : (x y : ℤ) → cover s.rects.items x y ≡ (int_lt y bottom && is_wound n quadrants x y)

-- what holds of the rectangles of a sweep, if it came to its end
abbrev pub IfSwept : SweepEnd → (List Rect → Type 0) → Type 0
IfSwept (Swept rects) P = P rects.items
IfSwept TooMany P = ⊤
IfSwept TooLong P = ⊤

-- what holds if it found too many corners
abbrev pub IfTooMany : SweepEnd → Type 0 → Type 0
IfTooMany (Swept rects) P = ⊤
IfTooMany TooMany P = P
IfTooMany TooLong P = ⊤

-- what holds if it stopped with no answer
abbrev pub IfTooLong : SweepEnd → Type 0 → Type 0
IfTooLong (Swept rects) P = ⊤
IfTooLong TooMany P = ⊤
IfTooLong TooLong P = P
