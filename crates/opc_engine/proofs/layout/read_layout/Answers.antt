use Rattle.std.proofs.lemmas.Result.{err_from_is_err_and}
use Rattle.opc_engine.proofs.HeadLaws.{head_of_read}
use Rattle.opc_engine.proofs.Stages.{unread}
use Rattle.opc_engine.proofs.layout.read_layout.Goals as goal

pub returns-in_err-read_library-clause-refusal : goal.returns-in_err-read_library-clause-refusal
returns-in_err-read_library-clause-refusal c =
    let p = err_from_is_err_and c.from_residual.result c.from_residual.ensures.1 in
    rw (p.1, p.2) (unread c.args.layout.now _ c.if-layout-gt-MAX_LAYOUT.false c.in_err-read_library.ensures.fault)

pub returns-clause-head : goal.returns-clause-head
returns-clause-head c =
    head_of_read c.args.layout.now (λ i. (c.type_inv.layout i).fits) c.in_ok-read_library.field-0
    (record { short = c.if-layout-gt-MAX_LAYOUT.false; fine = c.in_ok-read_library.ensures.fine; described = c.in_ok-read_library.ensures.library })
