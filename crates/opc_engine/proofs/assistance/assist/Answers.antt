use Rattle.opc_engine.specs.BarReady.{bar_subject_of}
use Rattle.opc_engine.proofs.assistance.assist.Goals as goal

pub returns-clause-answer : goal.returns-clause-answer
returns-clause-answer g c = record {
  subject = bar_subject_of c.in_ok-given.given;
  accepted = c.in_ok-given.ensures.accepted;
  assisted = c.in_ok-assisted.ensures;
}
