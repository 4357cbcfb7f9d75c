use Rattle.std.proofs.Common.{◌∙◌, sym}
use Rattle.kernel_file.specs.KernelFile.{begins_with}
use Rattle.kernel_file.proofs.HeadLemmas.{second_format, first_format, no_format}
use Rattle.kernel_file.proofs.format.Format.of_file.Goals as goal

pub returns-then-starts_with : goal.returns-then-starts_with
unfolding begins_with
returns-then-starts_with c = second_format c.args.bytes.now (sym c.starts_with.ensures.value ∙ c.if-starts_with.true)

pub returns-then-starts_with-2 : goal.returns-then-starts_with-2
unfolding begins_with
returns-then-starts_with-2 c =
    first_format c.args.bytes.now (sym c.starts_with.ensures.value ∙ c.if-starts_with.false)
    (sym c.starts_with-else-starts_with.ensures.value ∙ c.if-starts_with-2.true)

pub returns-else-starts_with-2 : goal.returns-else-starts_with-2
unfolding begins_with
returns-else-starts_with-2 c =
    no_format c.args.bytes.now (sym c.starts_with.ensures.value ∙ c.if-starts_with.false)
    (sym c.starts_with-else-starts_with.ensures.value ∙ c.if-starts_with-2.false)
