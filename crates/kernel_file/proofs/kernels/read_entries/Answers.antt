use Rattle.std.proofs.Common.{◌∙◌, sym, inr}
use Rattle.std.proofs.lemmas.Result.{err_from_is_err_and}
use Rattle.kernel_file.proofs.Places.{entries_at-none, entries_at-more}
use Rattle.kernel_file.proofs.Firsts.{bad_part-none, bad_part-more, entry_found}
use Rattle.kernel_file.proofs.kernels.read_entries.Goals as goal

pub loop-k-init : goal.loop-k-init
loop-k-init c = record {
  read = c.in_ok-entries.ensures.items ∙ sym (entries_at-none c.args.bytes.now c.args.place);
  right = bad_part-none c.args.limit c.args.bytes.now c.args.place;
}

pub returns-in_err-entry-clause-err : goal.returns-in_err-entry-clause-err
returns-in_err-entry-clause-err c =
    let p = err_from_is_err_and c.from_residual-in_err-entry.result c.from_residual-in_err-entry.ensures.1 in
    rw (p.1, p.2) (inr (entry_found c.args.limit c.args.bytes.now c.args.place c.args.count c.loop-k.k _ c.loop-k-test.true
    c.loop-k.invariant.right c.in_err-entry.ensures.err))

pub loop-k-preserved : goal.loop-k-preserved
loop-k-preserved c =
    let pushed = c.in_ok-push.ensures.items in
    let more = entries_at-more c.args.bytes.now c.args.place c.loop-k.k in
    record {
      read = cc (pushed, more, c.loop-k.invariant.read, c.in_ok-entry.ensures.ok.0);
      right = bad_part-more c.args.limit c.args.bytes.now c.args.place c.loop-k.k c.loop-k.invariant.right c.in_ok-entry.ensures.ok.1;
    }
