use Rattle.std.proofs.Common.{◌∷◌, []}
use Rattle.std.proofs.lemmas.List.Elements.{All-append, All-cons, All-nil}
use Rattle.std.proofs.lemmas.Result.{err_from_is_err_and}
use Rattle.opc_base.specs.Optics.{KeepsBounds}
use Rattle.opc_engine.proofs.SetsLaws.{sets_more, sets_refused}
use Rattle.opc_engine.proofs.prepared.sets_of.Goals as goal

pub returns-in_err-kernel_set_of-clause-refusal : goal.returns-in_err-kernel_set_of-clause-refusal
returns-in_err-kernel_set_of-clause-refusal c =
    let p = err_from_is_err_and c.from_residual.result c.from_residual.ensures.1 in
    rw (p.1, p.2) (sets_refused c.args.kernels.now c.loop-file.file-index c.file-item.result c.as_slice.result.now c.loop-file-test.true c.file-item.is c.as_slice.ensures.list c.loop-file.sets.items _ c.loop-file.invariant.sets c.in_err-kernel_set_of.ensures.refusal)

pub loop-file-preserved : goal.loop-file-preserved
loop-file-preserved c =
    rw c.in_ok-push.ensures.items (record {
      sets = sets_more c.args.kernels.now c.loop-file.file-index c.file-item.result c.as_slice.result.now c.loop-file-test.true c.file-item.is c.as_slice.ensures.list c.loop-file.sets.items _ c.loop-file.invariant.sets c.in_ok-kernel_set_of.ensures.set;
      bounds = All-append KeepsBounds c.loop-file.sets.items (c.in_ok-kernel_set_of.field-0 ∷ []) c.loop-file.invariant.bounds (All-cons KeepsBounds c.in_ok-kernel_set_of.field-0 [] c.in_ok-kernel_set_of.ensures.bounds (All-nil KeepsBounds));
    })
