-- Signed columns of a row, counted for each owner.
use Rattle.std.specs.Prelude.{◌≡◌, ◌≢◌, ℕ, ◌+◌, ◌<◌, ℤ, pos, ◌≤ℤ◌, ◌<ℤ◌, int_le, unsigned_abs, Bool, ◌&&◌, ◌==◌, if◌then◌else◌, List, length, get_or, take, is_some, sum_by, ◌≤◌, All, AllPairs}
use Rattle.rect_union.specs.declared.runs.RunBuilder.{RunBuilder}
use Rattle.rect_union.specs.RowRuns.{IsRunBuilder, EndsBefore, is_on}
use Rattle.rect_union.specs.Windings.{count_at}
use Rattle.rect_union.specs.declared.columns.Column.{Column}
use Rattle.opc_base.specs.Sums.{sum_each}
use Rattle.rect_union.specs.Sums.{any_set}

-- the signed count of an owner's columns
abbrev pub owner_total : List Column → ℕ → ℤ
owner_total columns owner = sum_each (λ c. if c.owner == owner then c.sign else pos 0) columns

-- the signed count of an owner's columns at or left of x
abbrev pub owner_count : List Column → ℕ → ℤ → ℤ
owner_count columns owner x = sum_each (λ c. if (c.owner == owner) && int_le c.x x then c.sign else pos 0) columns

-- some owner below n has a count that is not 0
abbrev pub row_cover : ℕ → List Column → ℤ → Bool
row_cover n columns x = any_set n (λ owner. owner_count columns owner x)

-- the sizes of all signs
abbrev pub weight_of : List Column → ℕ
weight_of columns = sum_by (λ c. unsigned_abs c.sign) columns

abbrev pub AreInOrder : List Column → Type 0
AreInOrder columns = AllPairs (λ c d. c.x ≤ℤ d.x) columns

abbrev pub HaveOwnersBelow : ℕ → List Column → Type 0
HaveOwnersBelow n columns = All (λ c. c.owner < n) columns

-- each owner's columns cancel
abbrev pub AreClosed : List Column → Type 0
AreClosed columns = (owner : ℕ) → owner_total columns owner ≡ pos 0

-- no later column stands at the i-th's x
abbrev pub EndsColumn : List Column → ℕ → Type 0
EndsColumn columns i = (d e : Column) → i + 1 < length columns → (get_or columns (i + 1) d).x ≢ (get_or columns i e).x

-- the first i columns are counted
pub record IsCountedTo (columns : List Column) (i : ℕ) (counts : List ℤ) : Type 0 where
  pub totals : (owner : ℕ) → owner < length counts → count_at counts owner ≡ owner_total (take i columns) owner
  pub small : (owner : ℕ) → owner < length counts → unsigned_abs (count_at counts owner) ≤ weight_of (take i columns)

-- the row is built as far as the first i columns reach
pub record IsBuiltTo (columns : List Column) (i n : ℕ) (counts : List ℤ) (builder : RunBuilder) : Type 0 where
  pub valid : IsRunBuilder builder
  pub before : (d : Column) → i < length columns → EndsBefore builder (get_or columns i d).x
  pub pixels : (x : ℤ) → ((d : Column) → i < length columns → x <ℤ (get_or columns i d).x) → is_on builder x ≡ row_cover n (take i columns) x
  pub settled : (i < length columns → (j : ℕ) → i ≡ j + 1 → EndsColumn columns j) → is_some builder.started ≡ any_set n (count_at counts)
