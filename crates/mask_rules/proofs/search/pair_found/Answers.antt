-- Stretches that are apart clash in no way.
use Rattle.std.proofs.Common.{sym, ◌∙◌}
use Rattle.mask_rules.proofs.FoundLaws.{none_apart}
use Rattle.mask_rules.proofs.search.pair_found.Goals as goal

pub returns-then-is_apart : goal.returns-then-is_apart
returns-then-is_apart c =
    c.none_found.ensures ∙ sym (none_apart c.args.rules.now c.args.vertical c.args.mine c.args.other c.requires.rules (c.is_apart.ensures.0 c.if-is_apart.true))
