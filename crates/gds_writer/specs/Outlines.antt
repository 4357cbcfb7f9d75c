-- Outlines that a file can have.
use Rattle.std.specs.Prelude.{◌≤◌, List, length, All}
use Rattle.opc_base.specs.declared.plane.Pix.{Pix}
use Rattle.opc_base.specs.Cover.{IsClosed, IsRectilinear}
use Rattle.opc_base.specs.Plane.{IsPixWithin}

-- a closed walk along the grid, within 1,048,128 of the origin, of as many points as one record takes
pub record IsOutline (points : List Pix) : Type 0 where
  pub closed : IsClosed points
  pub straight : IsRectilinear points
  pub within : All (IsPixWithin 1048128) points
  pub few : length points ≤ 8191
