use Rattle.rect_union.proofs.BesideLaws.{cover-wider, wider_solid, wider_within}
use Rattle.rect_union.proofs.beside.joined.Goals as goal

pub returns-clause-solid : goal.returns-clause-solid
returns-clause-solid c =
    let w = c.widened.ensures in
    wider_solid c.args.first.now c.args.second.now c.widened.result w.left w.right w.low w.high c.requires.first c.requires.second

pub returns-clause-within : goal.returns-clause-within
returns-clause-within c =
    let w = c.widened.ensures in
    wider_within c.args.first.now c.args.second.now c.widened.result w.left w.right w.low w.high 1048000 c.requires.first_within c.requires.second_within

pub returns-clause-pixels : goal.returns-clause-pixels
returns-clause-pixels c x y =
    let w = c.widened.ensures in
    cover-wider c.args.first.now c.args.second.now c.widened.result w.left w.right w.low w.high x y c.requires.beside c.requires.first c.requires.second
