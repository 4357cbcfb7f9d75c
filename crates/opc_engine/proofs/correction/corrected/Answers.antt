use Rattle.opc_engine.proofs.WrittenLaws.{corrected_is}
use Rattle.opc_engine.proofs.correction.corrected.Goals as goal

pub returns : goal.returns
returns g c =
    corrected_is c.args.given.now c.run.new.session _ _ _ c.in_ok-answer.answer c.run.ensures.over c.in_ok-rounds.ensures.run c.as_slice.ensures.list c.in_ok-answer.ensures
