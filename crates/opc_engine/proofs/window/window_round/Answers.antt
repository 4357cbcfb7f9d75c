use Rattle.opc_engine.proofs.WindowLaws.{high_side, low_side}
use Rattle.opc_engine.proofs.window.window_round.Goals as goal

pub returns-clause-is : goal.returns-clause-is
returns-clause-is c =
    let r = c.args.rect in let m = c.args.margin in let near = c.requires.within in
    let x0 = (low_side r.x0 m c.max.result near.0 c.requires.low c.requires.high c.max.ensures.value).0 in
    let y0 = (low_side r.y0 m c.max-2.result near.1 c.requires.low c.requires.high c.max-2.ensures.value).0 in
    let x1 = (high_side r.x1 m c.min.result near.2 c.requires.low c.requires.high c.min.ensures.value).0 in
    let y1 = (high_side r.y1 m c.min-2.result near.3 c.requires.low c.requires.high c.min-2.ensures.value).0 in
    λ i. record { x0 = x0 i; y0 = y0 i; x1 = x1 i; y1 = y1 i }

pub returns-clause-within : goal.returns-clause-within
returns-clause-within c =
    let r = c.args.rect in let m = c.args.margin in let near = c.requires.within in (
      (low_side r.x0 m c.max.result near.0 c.requires.low c.requires.high c.max.ensures.value).1,
      (low_side r.y0 m c.max-2.result near.1 c.requires.low c.requires.high c.max-2.ensures.value).1,
      (high_side r.x1 m c.min.result near.2 c.requires.low c.requires.high c.min.ensures.value).1,
      (high_side r.y1 m c.min-2.result near.3 c.requires.low c.requires.high c.min-2.ensures.value).1,
    )
