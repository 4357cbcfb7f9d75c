-- Tiles that are divided into parts.
use Rattle.std.specs.Prelude.{◌≡◌, ℕ, ◌+◌, ◌*◌, ◌/◌, ◌<◌, ◌≤◌}

-- the first tile of a part
abbrev pub first_tile : ℕ → ℕ → ℕ → ℕ
first_tile tiles parts part = part * tiles / parts

-- first gives the place where each of the tiles begins, and where the last one ends
pub record AreStarts (first : ℕ → ℕ) (tiles : ℕ) : Type 0 where
  pub ordered : (i j : ℕ) → i ≤ j → j ≤ tiles → first i ≤ first j

-- base and len are those of count parts, of which the first one is from
pub record IsRun (first : ℕ → ℕ) (tiles parts from count base len : ℕ) : Type 0 where
  pub some : 0 < count
  pub within : from + count ≤ parts
  pub begins : base ≡ first (first_tile tiles parts from)
  pub ends : base + len ≡ first (first_tile tiles parts (from + count))
