-- Quadrants as they are seen in a strip of columns.
use Rattle.std.specs.Prelude.{◌≡◌, ◌⊎◌, ℕ, ◌+◌, ◌<◌, ◌≤◌, ◌^◌, ℤ, pos, ◌+ℤ◌, ◌≤ℤ◌, ◌<ℤ◌, unsigned_abs, Bool, true, if◌then◌else◌, List, length, get_or, take, All}
use Rattle.std.specs.Int.{int_max, int_min}
use Rattle.opc_base.specs.Sums.{sum_each}
use Rattle.rect_union.specs.declared.quadrants.Quadrant.{Quadrant}
use Rattle.rect_union.specs.Quadrants.{AreInRows, HaveQuadrantOwnersBelow, column_total, is_wound, quadrant_weight, row_total}
use Rattle.rect_union.specs.Strips.{IsInLimit}

-- the sum of the signs of the quadrants whose row, column and owner pass the test
abbrev pub tested_sum : (ℤ → ℤ → ℕ → Bool) → List Quadrant → ℤ
tested_sum test quadrants = sum_each (λ q. if test q.y q.column.x q.column.owner then q.column.sign else pos 0) quadrants

-- the nearest number from left to right
abbrev pub column_in : ℤ → ℤ → ℤ → ℤ
column_in left right x = int_min (int_max x left) right

-- the quadrant with its left side moved to the nearest column of the strip
abbrev pub quadrant_in : ℤ → ℤ → Quadrant → Quadrant
quadrant_in left right q = record q { column = record q.column { x = column_in left right q.column.x } }

abbrev pub Follows : Quadrant → Quadrant → Type 0
Follows p q = (p.y <ℤ q.y) ⊎ ((p.y ≡ q.y) × (p.column.x ≤ℤ q.column.x))

abbrev pub AreBefore : List Quadrant → Quadrant → Type 0
AreBefore quadrants q = All (λ p. Follows p q) quadrants

abbrev pub IsAtPlaceOf : Quadrant → Quadrant → Type 0
IsAtPlaceOf p q = (p.y ≡ q.y) × (p.column.x ≡ q.column.x) × (p.column.owner ≡ q.column.owner)

-- the new quadrants count what the old ones and one more do
pub record AddsQuadrant (old new : List Quadrant) (q : Quadrant) : Type 0 where
  pub sums : (test : ℤ → ℤ → ℕ → Bool) → tested_sum test new ≡ tested_sum test old +ℤ (if test q.y q.column.x q.column.owner then q.column.sign else pos 0)
  pub weight : quadrant_weight new ≤ quadrant_weight old + unsigned_abs q.column.sign
  pub order : AreInRows old → AreBefore old q → AreInRows new
  pub before : (r : Quadrant) → AreBefore old r → Follows q r → AreBefore new r
  pub owners : (n : ℕ) → q.column.owner < n → HaveQuadrantOwnersBelow n old → HaveQuadrantOwnersBelow n new

-- these count what the quadrants do when each is moved into the strip
pub record IsCut (quadrants : List Quadrant) (left right : ℤ) (seen : List Quadrant) : Type 0 where
  pub sums : (test : ℤ → ℤ → ℕ → Bool) → tested_sum test seen ≡ tested_sum (λ y x owner. test y (column_in left right x) owner) quadrants
  pub weight : quadrant_weight seen ≤ quadrant_weight quadrants
  pub order : AreInRows seen
  pub owners : (n : ℕ) → HaveQuadrantOwnersBelow n quadrants → HaveQuadrantOwnersBelow n seen

-- the first i quadrants are moved into the strip
pub record IsCutTo (quadrants : List Quadrant) (left right : ℤ) (i : ℕ) (seen : List Quadrant) : Type 0 where
  pub cut : IsCut (take i quadrants) left right seen
  pub before : (d : Quadrant) → i < length quadrants → AreBefore seen (quadrant_in left right (get_or quadrants i d))

-- quadrants in rows that a sweep can take: far right and far up nothing is left
pub record AreSwept (n : ℕ) (quadrants : List Quadrant) : Type 0 where
  pub order : AreInRows quadrants
  pub owners : HaveQuadrantOwnersBelow n quadrants
  pub small : quadrant_weight quadrants < 2 ^ 126
  pub closed_right : (owner : ℕ) (y : ℤ) → row_total quadrants owner y ≡ pos 0
  pub closed_above : (owner : ℕ) (x : ℤ) → column_total quadrants owner x ≡ pos 0

-- what they wind round lies within the limit
abbrev pub AreInLimit : ℕ → ℕ → List Quadrant → Type 0
AreInLimit limit n quadrants = (x y : ℤ) → is_wound n quadrants x y ≡ true → IsInLimit limit x y
