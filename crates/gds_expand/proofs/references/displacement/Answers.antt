use Rattle.std.proofs.Common.{◌-ℤ◌, ap, ap₂, ◌∙◌, arith}
use Rattle.std.proofs.lemmas.Int.{ints}
use Rattle.gds_model.specs.declared.position.Position.{Position}
use Rattle.gds_model.specs.Outlines.{position_of}
use Rattle.gds_expand.proofs.PlacementLemmas.{same_position}
use Rattle.gds_expand.proofs.references.displacement.Goals as goal

between : Position → Position → Position
between to from = record { x = to.x -ℤ from.x; y = to.y -ℤ from.y }

pub returns-clause-value : goal.returns-clause-value
unfolding between
returns-clause-value c =
    same_position _ (between c.position_of-to.result c.position_of-from.result) (omega (arith, ints)) (omega (arith, ints))
    ∙ ap₂ between (c.position_of-to.ensures.value ∙ ap position_of c.point_of-2.ensures) (c.position_of-from.ensures.value ∙ ap position_of c.point_of.ensures)
