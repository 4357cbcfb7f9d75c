use Rattle.std.proofs.Common.{length, refl}
use Rattle.opc_engine.specs.Ready.{subject_of}
use Rattle.opc_engine.specs.Runs.{at_offsets}
use Rattle.opc_engine.proofs.TrialLaws.{last_is_long, tried_is}
use Rattle.opc_engine.proofs.trying.tried.Goals as goal

pub line_of-requires : goal.line_of-requires
line_of-requires g c =
    let k = c.in_ok-correction.ensures.corrected in
    last_is_long (at_offsets (subject_of c.args.given.now) k.offsets) (length k.rects) c.in_ok-correction.correction.answer.line k.tabled.line

pub returns : goal.returns
returns g c =
    tried_is c.args.n c.args.given.now c.in_ok-correction.correction.answer _ c.in_ok-correction.correction.rounds c.count-count.result c.in_ok-correction.ensures.corrected
    c.in_ok-correction.ensures.rounds c.count-count.ensures.count refl refl c.in_ok-line.ensures
