use Rattle.std.proofs.Common.{◌≡◌, ◌≤◌, FitsSigned, w32, ◌*ℤ◌, refl, arith}
use Rattle.std.specs.Prelude.{unsigned_abs}
use Rattle.std.specs.Int.{cast_unsigned, to_be_bytes}
use Rattle.std.proofs.lemmas.Int.{to_z-of_z, fits_signed_from_abs, fits_signed_mul, ints}
use Rattle.gds_writer.proofs.boundary.point_bytes.Goals as goal

pub returns : goal.returns
returns c =
    let small : unsigned_abs c.args.grid ≤ 1000 = omega (arith, ints, c.requires.grid) in
    let grid : FitsSigned w32 c.args.grid = c.ranges.grid in
    let x : FitsSigned w32 c.args.point.x = fits_signed_from_abs w32 c.args.point.x (omega (arith, c.requires.point)) in
    let y : FitsSigned w32 c.args.point.y = fits_signed_from_abs w32 c.args.point.y (omega (arith, c.requires.point)) in
    let x_times : FitsSigned w32 (c.args.point.x *ℤ c.args.grid) =
    fits_signed_mul w32 c.args.point.x c.args.grid 1048128 1000 c.requires.point.0 small (omega arith) in
    let y_times : FitsSigned w32 (c.args.point.y *ℤ c.args.grid) =
    fits_signed_mul w32 c.args.point.y c.args.grid 1048128 1000 c.requires.point.1 small (omega arith) in
    let x_bytes : c.to_be_bytes.result ≡ to_be_bytes w32 (cast_unsigned w32 (c.args.point.x *ℤ c.args.grid)) =
    simp to_z-of_z at c.to_be_bytes.ensures in
    let y_bytes : c.to_be_bytes-2.result ≡ to_be_bytes w32 (cast_unsigned w32 (c.args.point.y *ℤ c.args.grid)) =
    simp to_z-of_z at c.to_be_bytes-2.ensures in
    rw (x_bytes, y_bytes) refl
