-- Sets of pixels that are given by signed quadrants.
use Rattle.std.specs.Prelude.{◌≡◌, ◌⊎◌, ℕ, ◌<◌, ℤ, pos, ◌≤ℤ◌, ◌<ℤ◌, int_le, unsigned_abs, Bool, ◌&&◌, ◌==◌, if◌then◌else◌, List, sum_by, All, AllPairs}
use Rattle.rect_union.specs.declared.columns.Column.{Column}
use Rattle.rect_union.specs.declared.quadrants.Quadrant.{Quadrant}
use Rattle.opc_base.specs.Sums.{sum_each}
use Rattle.rect_union.specs.Sums.{any_set}

-- what a column counts for an owner, anywhere and at x
abbrev pub owner_part : ℕ → Column → ℤ
owner_part owner c = if c.owner == owner then c.sign else pos 0

abbrev pub column_part : ℕ → ℤ → Column → ℤ
column_part owner x c = if (c.owner == owner) && int_le c.x x then c.sign else pos 0

-- the signed count of the owner's quadrants that have the pixel (x, y)
abbrev pub winding : List Quadrant → ℕ → ℤ → ℤ → ℤ
winding quadrants owner x y = sum_each (λ q. if int_le q.y y then column_part owner x q.column else pos 0) quadrants

-- that count far right in the row y, and far up at x
abbrev pub row_total : List Quadrant → ℕ → ℤ → ℤ
row_total quadrants owner y = sum_each (λ q. if int_le q.y y then owner_part owner q.column else pos 0) quadrants

abbrev pub column_total : List Quadrant → ℕ → ℤ → ℤ
column_total quadrants owner x = sum_each (λ q. column_part owner x q.column) quadrants

-- the count of some owner below n is not 0
abbrev pub is_wound : ℕ → List Quadrant → ℤ → ℤ → Bool
is_wound n quadrants x y = any_set n (λ owner. winding quadrants owner x y)

-- by rows from the bottom, in each from left to right
abbrev pub AreInRows : List Quadrant → Type 0
AreInRows quadrants = AllPairs (λ p q. (p.y <ℤ q.y) ⊎ ((p.y ≡ q.y) × (p.column.x ≤ℤ q.column.x))) quadrants

abbrev pub HaveQuadrantOwnersBelow : ℕ → List Quadrant → Type 0
HaveQuadrantOwnersBelow n quadrants = All (λ q. q.column.owner < n) quadrants

abbrev pub quadrant_weight : List Quadrant → ℕ
quadrant_weight quadrants = sum_by (λ q. unsigned_abs q.column.sign) quadrants
