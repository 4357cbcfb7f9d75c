-- How large numbers are.
use Rattle.std.specs.Prelude.{ℕ, ℤ, pos, neg_ℤ, ◌≤ℤ◌}

abbrev pub IsWithin : ℕ → ℤ → Type 0
IsWithin limit z = (neg_ℤ (pos limit) ≤ℤ z) × (z ≤ℤ pos limit)

-- a coordinate of a layout
abbrev pub IsInLayout : ℤ → Type 0
IsInLayout z = IsWithin 1048000 z
