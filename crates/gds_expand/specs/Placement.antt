-- Where a placement puts a point.
use Rattle.gds_model.specs.declared.position.Position.{Position}
use Rattle.gds_model.specs.Placement.{reflected, shifted, turned}
use Rattle.gds_expand.specs.declared.placement.Placement.{Placement}

-- a point of the structure, reflected, turned and then shifted
abbrev pub placed : Placement → Position → Position
placed m p = shifted m.shift (turned m.turns (reflected m.flip p))
