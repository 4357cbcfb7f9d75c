use Rattle.std.proofs.Common.{pos, rules}
use Rattle.opc_base.specs.declared.plane.Pix.{Pix}
use Rattle.rect_union.proofs.BoxLaws.{box_covers}
use Rattle.rect_union.proofs.boxes.box_of.Goals as goal

pub returns-clause-pixels : goal.returns-clause-pixels
returns-clause-pixels c =
    let pix : Pix = record { x = pos 0; y = pos 0 } in
    let box = c.rect_between.ensures in
    box_covers c.args.points.now pix c.rect_between.result c.requires.polygon (search rules) (search rules) (search rules) box.left box.low box.right box.high
