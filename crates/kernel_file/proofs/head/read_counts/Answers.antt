use Rattle.std.proofs.Common.{◌≡◌, sym, ap, inl, inr, arith, ◌∙◌}
use Rattle.kernel_file.specs.KernelFile.{file_len, head_len}
use Rattle.kernel_file.proofs.HeadLemmas.{ends_in_head, count_is_bad, reach_is_bad, length_is_bad}
use Rattle.kernel_file.proofs.head.read_counts.Goals as goal
use Rattle.kernel_file.proofs.head.read_counts.Goals.{then-count-eq0-via-then-count-eq0, then-count-eq0-via-else-count-eq0+then-count-gt-MAX_COUNT}

pub returns-then-bytes-head_len-clause-err : goal.returns-then-bytes-head_len-clause-err
returns-then-bytes-head_len-clause-err c =
    let head = ap head_len c.requires.format in
    ends_in_head c.args.bytes.now c.requires.magic (omega (arith, head, c.head_len.ensures))

pub returns-then-count-eq0-clause-err : goal.returns-then-count-eq0-clause-err
returns-then-count-eq0-clause-err c =
    let head = ap head_len c.requires.format in
    count_is_bad c.args.bytes.now c.requires.magic (omega (arith, head, c.head_len.ensures))
    (elim c.then-count-eq0.branch [
      | then-count-eq0-via-then-count-eq0 w ↦ inl (omega arith)
      | then-count-eq0-via-else-count-eq0+then-count-gt-MAX_COUNT w ↦ inr (omega arith)
    ])

pub returns-then-reach-gt-MAX_REACH-clause-err : goal.returns-then-reach-gt-MAX_REACH-clause-err
returns-then-reach-gt-MAX_REACH-clause-err c =
    let head = ap head_len c.requires.format in
    reach_is_bad c.args.bytes.now c.requires.magic (omega (arith, head, c.head_len.ensures)) (omega arith) (omega arith) (omega arith)

pub returns-then-bytes-kernel_place-clause-err : goal.returns-then-bytes-kernel_place-clause-err
returns-then-bytes-kernel_place-clause-err c =
    let head = ap head_len c.requires.format in
    let same : c.kernel_place.result ≡ file_len c.args.bytes.now = cc in
    length_is_bad c.args.bytes.now c.requires.magic (omega (arith, head, c.head_len.ensures)) (omega arith) (omega arith) (omega arith)
    (λ e. c.if-bytes-kernel_place.true (e ∙ sym same))
