use Rattle.std.proofs.Common.{◌≡◌, None, ◌∙◌, ap, subst, map, arith}
use Rattle.std.specs.List.{range_with_len}
use Rattle.std.proofs.lemmas.Result.{err_from_is_err_and}
use Rattle.std.proofs.lemmas.List.FromFn.{map-range_with_len_more}
use Rattle.kernel_file.specs.declared.head.Head.{Head}
use Rattle.kernel_file.specs.KernelFile.{count_of, kernel_at, kernels_of}
use Rattle.kernel_file.specs.Faults.{kernels_fault}
use Rattle.kernel_file.proofs.Firsts.{kernels_fault-none, kernels_fault-none_more, kernel_found}
use Rattle.kernel_file.proofs.kernels.read_each.Goals as goal

pub loop-index-init : goal.loop-index-init
loop-index-init c = record { read = c.in_ok-kernels.ensures.items; right = kernels_fault-none c.args.bytes.now }

pub returns-in_err-kernel-clause-err : goal.returns-in_err-kernel-clause-err
returns-in_err-kernel-clause-err c =
    let p = err_from_is_err_and c.from_residual-in_err-kernel.result c.from_residual-in_err-kernel.ensures.1 in
    let count = ap (λ (head : Head). head.count) c.requires.head in
    rw (p.1, p.2) (kernel_found c.args.bytes.now (count_of c.args.bytes.now) c.loop-index.index _ (omega (arith, count))
    c.loop-index.invariant.right c.in_err-kernel.ensures.err)

pub loop-index-preserved : goal.loop-index-preserved
loop-index-preserved c =
    let pushed = c.in_ok-push.ensures.items in
    let more = map-range_with_len_more (kernel_at c.args.bytes.now) 0 c.loop-index.index c.loop-index.index (omega arith) in
    record {
      read = cc (pushed, more, c.loop-index.invariant.read, c.in_ok-kernel.ensures.ok.0);
      right = kernels_fault-none_more c.args.bytes.now c.loop-index.index c.loop-index.invariant.right c.in_ok-kernel.ensures.ok.1;
    }

pub returns-clause-ok : goal.returns-clause-ok
unfolding kernels_of
returns-clause-ok c =
    let count = ap (λ (head : Head). head.count) c.requires.head in
    let all : c.loop-index.index ≡ count_of c.args.bytes.now = omega (arith, count) in (
      c.loop-index.invariant.read ∙ ap (λ n. map (kernel_at c.args.bytes.now) (range_with_len 0 n)) all,
      subst (λ n. kernels_fault c.args.bytes.now n ≡ None) all c.loop-index.invariant.right,
    )
