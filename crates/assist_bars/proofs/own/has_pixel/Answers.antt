use Rattle.assist_bars.proofs.OwnLaws.{pixel_met}
use Rattle.assist_bars.proofs.own.has_pixel.Goals as goal

pub returns : goal.returns
returns c =
    let rect = c.rect_of-rect.ensures in
    pixel_met c.args.list.now.rects.items c.rect_of-rect.result c.args.at.x c.args.at.y c.meets.result c.meets.ensures.some c.meets.ensures.none rect.left rect.bottom rect.right rect.top
