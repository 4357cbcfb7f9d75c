use Rattle.corners.proofs.WindowLaws.{stored_max, stored_min}
use Rattle.corners.proofs.window_corners.clipped.Goals as goal

pub returns-clause-is : goal.returns-clause-is
returns-clause-is c =
    let r = c.args.rect in
    let w = c.args.window in
    let x0 = stored_max r.x0 w.x0 c.max.result c.requires.rect.0 c.requires.window.0 c.max.ensures.value in
    let y0 = stored_max r.y0 w.y0 c.max-2.result c.requires.rect.1 c.requires.window.1 c.max-2.ensures.value in
    let x1 = stored_min r.x1 w.x1 c.min.result c.requires.rect.2 c.requires.window.2 c.min.ensures.value in
    let y1 = stored_min r.y1 w.y1 c.min-2.result c.requires.rect.3 c.requires.window.3 c.min-2.ensures.value in
    rw (x0.0, y0.0, x1.0, y1.0)

pub returns-clause-within : goal.returns-clause-within
returns-clause-within c =
    let r = c.args.rect in
    let w = c.args.window in
    let x0 = stored_max r.x0 w.x0 c.max.result c.requires.rect.0 c.requires.window.0 c.max.ensures.value in
    let y0 = stored_max r.y0 w.y0 c.max-2.result c.requires.rect.1 c.requires.window.1 c.max-2.ensures.value in
    let x1 = stored_min r.x1 w.x1 c.min.result c.requires.rect.2 c.requires.window.2 c.min.ensures.value in
    let y1 = stored_min r.y1 w.y1 c.min-2.result c.requires.rect.3 c.requires.window.3 c.min-2.ensures.value in
    (x0.1, y0.1, x1.1, y1.1)
