-- Lists of columns that count the same.
use Rattle.std.specs.Prelude.{◌≡◌, ℕ, ◌+◌, ◌<◌, ◌≤◌, ℤ, ◌+ℤ◌, ◌≤ℤ◌, List, length, get_or, take, All}
use Rattle.rect_union.specs.declared.columns.Column.{Column}
use Rattle.rect_union.specs.Columns.{AreInOrder, HaveOwnersBelow, owner_count, owner_total, weight_of}

-- each column is at x or left of it
abbrev pub AreUpTo : ℤ → List Column → Type 0
AreUpTo x columns = All (λ c. c.x ≤ℤ x) columns

-- the columns of `to` count as those of `from` do
pub record Compacts (from to : List Column) : Type 0 where
  pub counts : (owner : ℕ) (x : ℤ) → owner_count to owner x ≡ owner_count from owner x
  pub totals : (owner : ℕ) → owner_total to owner ≡ owner_total from owner
  pub weight : weight_of to ≤ weight_of from
  pub order : AreInOrder from → AreInOrder to
  pub upto : (x : ℤ) → AreUpTo x from → AreUpTo x to
  pub owners : (n : ℕ) → HaveOwnersBelow n from → HaveOwnersBelow n to

-- the columns of `to`, in order, count as those of both lists do
pub record IsMergeOf (first second to : List Column) : Type 0 where
  pub counts : (owner : ℕ) (x : ℤ) → owner_count to owner x ≡ owner_count first owner x +ℤ owner_count second owner x
  pub totals : (owner : ℕ) → owner_total to owner ≡ owner_total first owner +ℤ owner_total second owner
  pub weight : weight_of to ≤ weight_of first + weight_of second
  pub order : AreInOrder to
  pub owners : (n : ℕ) → HaveOwnersBelow n first → HaveOwnersBelow n second → HaveOwnersBelow n to

-- the first i and the first j columns are merged
pub record IsMerging (first second to : List Column) (i j : ℕ) : Type 0 where
  pub first_within : i ≤ length first
  pub second_within : j ≤ length second
  pub merge : IsMergeOf (take i first) (take j second) to
  pub before_first : (d : Column) → i < length first → AreUpTo (get_or first i d).x to
  pub before_second : (d : Column) → j < length second → AreUpTo (get_or second j d).x to

-- the i-th column of this list comes next: the j-th of the other one, if it is there, is not further left
pub record IsNext (columns : List Column) (i : ℕ) (others : List Column) (j : ℕ) : Type 0 where
  pub within : i < length columns
  pub least : (d e : Column) → j < length others → (get_or columns i d).x ≤ℤ (get_or others j e).x
