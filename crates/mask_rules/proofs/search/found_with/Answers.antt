-- What does not stand in the area clashes with none of the changed stretches.
use Rattle.std.proofs.Common.{sym, ◌∙◌}
use Rattle.mask_rules.specs.Placements.{line_of}
use Rattle.mask_rules.specs.Stretches.{stretch_at}
use Rattle.mask_rules.proofs.FoundLaws.{none_outside}
use Rattle.mask_rules.proofs.search.found_with.Goals as goal

pub returns-in-None : goal.returns-in-None
returns-in-None c =
    let p = c.args.outline.now in
    c.none_found.ensures
    ∙ sym (none_outside c.args.rules.now c.args.area.now c.args.vertical c.args.changed.now (stretch_at p.fragments.now (line_of p) c.args.vertical c.args.k)
    c.requires.rules c.requires.area c.in-None.ensures.none)
