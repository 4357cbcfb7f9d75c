use Rattle.opc_parallel.proofs.SeenLaws.{high_is, low_is}
use Rattle.opc_parallel.proofs.fragment_sums.sees.Goals as goal

pub returns : goal.returns
returns c =
    let x = c.requires.at.0 in
    let y = c.requires.at.1 in
    let least = c.requires.reach.0 in
    let most = c.requires.reach.1 in
    rw (
      ← low_is c.args.at.x c.args.reach x least most,
      ← low_is c.args.at.y c.args.reach y least most,
      ← high_is c.args.at.x c.args.reach x least most,
      ← high_is c.args.at.y c.args.reach y least most,
    ) c.meet.ensures
