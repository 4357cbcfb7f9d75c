use Rattle.std.proofs.Common.{sym, ◌∙◌}
use Rattle.opc_base.specs.declared.broken.RuleName.TheVariants.{M3}
use Rattle.opc_base.specs.declared.broken.Place.TheVariants.{Pixel}
use Rattle.geometry_rows.proofs.moving.target_fragments.Goals as goal

pub cut-requires-clause-no_touch : goal.cut-requires-clause-no_touch
cut-requires-clause-no_touch c x y touch =
    c.in_ok-check_target.ensures.kept.0 (sym c.is_some.ensures ∙ c.if-is_some.false) M3 (Pixel (record { x = x; y = y })) touch
