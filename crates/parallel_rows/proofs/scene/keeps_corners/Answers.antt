use Rattle.std.proofs.Common.{rules}
use Rattle.std.specs.Prelude.{IsNone}
use Rattle.opc_base.specs.declared.broken.RuleName.TheVariants.{M3}
use Rattle.opc_base.specs.declared.broken.Place.TheVariants.{Pixel}
use Rattle.opc_base.specs.declared.plane.Pix.{Pix}
use Rattle.parallel_rows.proofs.scene.keeps_corners.Goals as goal

pub returns : goal.returns
returns c test x y touch =
    let none : IsNone c.in_ok-found.found = search rules in
    let p : Pix = record { x = x; y = y } in
    c.in_ok-found.ensures.kept.0 none M3 (Pixel p) touch
