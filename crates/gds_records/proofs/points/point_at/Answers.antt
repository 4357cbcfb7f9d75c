use Rattle.std.proofs.Common.{◌+◌, ◌*◌, ◌≡◌, arith, ap, refl, ◌∙◌}
use Rattle.std.proofs.lemmas.Grind.{common_steps}
use Rattle.std.specs.Int.{w32, cast_signed}
use Rattle.std.proofs.lemmas.Int.{to_z-of_z}
use Rattle.gds_records.specs.Numbers.{four_bytes}
use Rattle.gds_records.proofs.points.point_at.Goals as goal

pub returns : goal.returns
returns c =
    let x = to_z-of_z w32 c.read_i32.result (record { sfits = c.read_i32.type_inv }) ∙ c.read_i32.ensures
    ∙ ap (cast_signed w32) (let e : _ ≡ four_bytes c.args.body.now (8 * c.args.i) = grind (arith, common_steps) in e) in
    let y = to_z-of_z w32 c.read_i32-2.result (record { sfits = c.read_i32-2.type_inv }) ∙ c.read_i32-2.ensures
    ∙ ap (cast_signed w32) (let e : _ ≡ four_bytes c.args.body.now (8 * c.args.i + 4) = grind (arith, common_steps) in e) in
    rw (x, y) refl
