use Rattle.std.proofs.lemmas.Result.{err_from_is_err_and}
use Rattle.opc_engine.proofs.BarPrepareLaws.{at_files, at_numbers, at_whole, bars_accepted}
use Rattle.opc_engine.proofs.bar_prepare.prepare_bars.Goals as goal

pub returns-in_err-judge_numbers-clause-refusal : goal.returns-in_err-judge_numbers-clause-refusal
returns-in_err-judge_numbers-clause-refusal c =
    let p = err_from_is_err_and c.from_residual-in_err-judge_numbers.result c.from_residual-in_err-judge_numbers.ensures.1 in
    rw (p.1, p.2) (at_numbers c.args.layout.now c.args.kernels.now c.args.rules.now c.args.bars.now c.in_ok-rules.rules c.in_ok-rules.ensures.rules _ c.in_err-judge_numbers.ensures.refusal)

pub returns-in_err-given-clause-refusal : goal.returns-in_err-given-clause-refusal
returns-in_err-given-clause-refusal c =
    let p = err_from_is_err_and c.from_residual-in_err-given.result c.from_residual-in_err-given.ensures.1 in
    rw (p.1, p.2) (at_files c.args.layout.now c.args.kernels.now c.args.rules.now c.args.bars.now c.in_ok-rules.rules c.in_ok-rules.ensures.rules c.in_ok-judge_numbers.ensures.suited _ c.in_err-given.ensures.refusal)

pub add_bars-requires-clause-suited : goal.add_bars-requires-clause-suited
add_bars-requires-clause-suited c = rw c.in_ok-given.ensures.rules c.in_ok-judge_numbers.ensures.suited

pub returns-in_err-whole-clause-refusal : goal.returns-in_err-whole-clause-refusal
returns-in_err-whole-clause-refusal c =
    let p = err_from_is_err_and c.from_residual-in_err-whole.result c.from_residual-in_err-whole.ensures.1 in
    rw (p.1, p.2) (at_whole c.args.layout.now c.args.kernels.now c.args.rules.now c.args.bars.now c.in_ok-rules.rules c.in_ok-rules.ensures.rules c.in_ok-judge_numbers.ensures.suited
    c.in_ok-given.given c.in_ok-given.ensures.accepted _ c.in_err-whole.ensures.refusal)

pub returns-clause-accepted : goal.returns-clause-accepted
returns-clause-accepted c =
    bars_accepted c.args.layout.now c.args.kernels.now c.args.rules.now c.args.bars.now c.in_ok-rules.rules c.in_ok-rules.ensures.rules c.in_ok-judge_numbers.ensures.suited
    c.in_ok-given.given c.in_ok-given.ensures.accepted c.in_ok-whole.whole c.in_ok-whole.ensures.bars

pub returns-in_err-judge_numbers-clause-memory : goal.returns-in_err-judge_numbers-clause-memory
returns-in_err-judge_numbers-clause-memory c =
    let p = err_from_is_err_and c.from_residual-in_err-judge_numbers.result c.from_residual-in_err-judge_numbers.ensures.1 in
    rw (p.1, p.2) c.in_err-judge_numbers.ensures.memory

pub returns-in_err-given-clause-memory : goal.returns-in_err-given-clause-memory
returns-in_err-given-clause-memory c =
    let p = err_from_is_err_and c.from_residual-in_err-given.result c.from_residual-in_err-given.ensures.1 in
    rw (p.1, p.2) c.in_err-given.ensures.memory

pub returns-in_err-whole-clause-memory : goal.returns-in_err-whole-clause-memory
returns-in_err-whole-clause-memory c =
    let p = err_from_is_err_and c.from_residual-in_err-whole.result c.from_residual-in_err-whole.ensures.1 in
    rw (p.1, p.2) c.in_err-whole.ensures.memory
