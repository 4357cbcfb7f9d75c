use Rattle.std.proofs.Common.{◌∙◌, sym, ap, subst, inr, arith, length}
use Rattle.std.specs.Prelude.{sum_by}
use Rattle.std.proofs.lemmas.Result.{err_from_is_err_and}
use Rattle.opc_base.specs.declared.kernels.Kernel.{Kernel}
use Rattle.opc_base.specs.Optics.{KeepsBounds}
use Rattle.kernel_file.proofs.HeadLemmas.{kernel_fault-found, kernel_fault-weights, kernel_fault-none}
use Rattle.kernel_file.proofs.Bounds.{length-kernels_of, KeepsBounds-kernel_set, set_with-file}
use Rattle.kernel_file.proofs.read.read_kernels.Goals as goal

pub returns-in_err-kernels-clause-fault : goal.returns-in_err-kernels-clause-fault
returns-in_err-kernels-clause-fault c =
    let p = err_from_is_err_and c.from_residual-in_err-kernels.result c.from_residual-in_err-kernels.ensures.1 in
    let head = c.in_ok-head.ensures.ok in
    rw (p.1, p.2) (kernel_fault-found c.args.bytes.now _ head.1 head.2 c.in_err-kernels.ensures.err)

pub weight_sum-requires : goal.weight_sum-requires
weight_sum-requires c =
    let count = ap length (c.deref.ensures.value ∙ c.in_ok-kernels.ensures.ok.0) ∙ length-kernels_of c.args.bytes.now in
    omega (arith, count, c.in_ok-head.ensures.ok.1.few)

pub returns-then-weight_sum-gt-MAX_WEIGHT_SUM-clause-fault : goal.returns-then-weight_sum-gt-MAX_WEIGHT_SUM-clause-fault
returns-then-weight_sum-gt-MAX_WEIGHT_SUM-clause-fault c =
    let head = c.in_ok-head.ensures.ok in
    let each = c.in_ok-kernels.ensures.ok in
    let weights = c.weight_sum.ensures ∙ ap (sum_by (λ (k : Kernel). k.weight)) (c.deref.ensures.value ∙ each.0) in
    inr (kernel_fault-weights c.args.bytes.now head.1 head.2 each.1 (omega (arith, weights)))

pub returns-clause-set : goal.returns-clause-set
returns-clause-set c =
    let head = c.in_ok-head.ensures.ok in
    let each = c.in_ok-kernels.ensures.ok in
    let weights = c.weight_sum.ensures ∙ ap (sum_by (λ (k : Kernel). k.weight)) (c.deref.ensures.value ∙ each.0) in (
      kernel_fault-none c.args.bytes.now head.1 head.2 each.1 (omega (arith, weights)),
      set_with-file c.args.bytes.now c.in_ok-head.head c.from_vec.result head.0 (c.from_vec.ensures.list ∙ each.0),
    )

pub returns-clause-bounds : goal.returns-clause-bounds
returns-clause-bounds c =
    let head = c.in_ok-head.ensures.ok in
    let each = c.in_ok-kernels.ensures.ok in
    let weights = c.weight_sum.ensures ∙ ap (sum_by (λ (k : Kernel). k.weight)) (c.deref.ensures.value ∙ each.0) in
    subst KeepsBounds
    (sym (set_with-file c.args.bytes.now c.in_ok-head.head c.from_vec.result head.0 (c.from_vec.ensures.list ∙ each.0)))
    (KeepsBounds-kernel_set c.args.bytes.now head.1 head.2 each.1 (omega (arith, weights)))
