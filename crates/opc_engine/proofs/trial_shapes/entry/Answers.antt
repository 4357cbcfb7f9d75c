use Rattle.std.proofs.Common.{sym, ap, ◌∙◌}
use Rattle.opc_engine.specs.TrialShapes.{entry_of}
use Rattle.opc_engine.proofs.TrialInputLaws.{slope-is}
use Rattle.opc_engine.proofs.trial_shapes.entry.Goals as goal

pub returns-in-Slope : goal.returns-in-Slope
returns-in-Slope c =
    slope-is c.args.u c.args.v c.height-in-Slope.result c.height-in-Slope-2.result c.requires.column c.requires.row c.height-in-Slope.ensures.range c.height-in-Slope-2.ensures.range
    c.height-in-Slope.ensures.is c.height-in-Slope-2.ensures.is ∙ ap (λ s. entry_of s c.args.u c.args.v) (sym c.in-Slope.is)
