-- The points of an XY record.
use Rattle.std.specs.Prelude.{ℕ, ◌+◌, ◌*◌, List}
use Rattle.gds_records.specs.declared.points.Point.{Point}
use Rattle.gds_records.specs.Numbers.{signed_four}

-- the point of this number, counted from 0: its x and its y
abbrev pub point_in : List ℕ → ℕ → Point
point_in body i = record { x = signed_four body (8 * i); y = signed_four body (8 * i + 4) }
