-- Where a reference places a point (Stream Format Manual 6.0, STRANS and ANGLE): it is reflected, turned, then shifted.
use Rattle.std.specs.Prelude.{ℕ, zero, suc, ◌≤◌, ◌+ℤ◌, neg_ℤ, unsigned_abs, Bool, true, false}
use Rattle.gds_model.specs.declared.position.Position.{Position}

-- reflection about the x axis
abbrev pub reflected : Bool → Position → Position
reflected true p = record { x = p.x; y = neg_ℤ p.y }
reflected false p = p

-- a quarter turn counterclockwise about the origin
abbrev pub quarter_turned : Position → Position
quarter_turned p = record { x = neg_ℤ p.y; y = p.x }

-- so many quarter turns counterclockwise about the origin
abbrev pub turned : ℕ → Position → Position
turned zero p = p
turned (suc n) p = quarter_turned (turned n p)

abbrev pub shifted : Position → Position → Position
shifted by p = record { x = p.x +ℤ by.x; y = p.y +ℤ by.y }

-- both coordinates are within plus or minus n
pub record IsPositionWithin (n : ℕ) (p : Position) : Type 0 where
  pub x : unsigned_abs p.x ≤ n
  pub y : unsigned_abs p.y ≤ n
