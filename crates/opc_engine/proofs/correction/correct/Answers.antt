use Rattle.opc_engine.proofs.WrittenLaws.{corrects_is}
use Rattle.opc_engine.proofs.correction.correct.Goals as goal

pub returns-clause-answer : goal.returns-clause-answer
returns-clause-answer g c =
    corrects_is c.args.layout.now c.args.kernels.now c.args.rules.now c.in_ok-given.given _ c.in_ok-given.ensures.accepted c.in_ok-correction.ensures.corrected
