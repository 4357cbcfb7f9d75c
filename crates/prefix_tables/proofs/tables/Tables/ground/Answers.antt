use Rattle.opc_base.specs.Lanes.{ground_of_lane}
use Rattle.opc_base.proofs.LaneLaws.{ground_of_lane-bound}
use Rattle.prefix_tables.proofs.TableLaws.{LanesAre-small}
use Rattle.prefix_tables.proofs.tables.Tables.ground.Goals as goal

pub returns-clause-small : goal.returns-clause-small
returns-clause-small c =
    let set = c.self.inside.set.value in
    rw c.deref.ensures.value
    (LanesAre-small set (ground_of_lane set) 34080768 _ c.self.invariant.grounds (λ lane. ground_of_lane-bound set lane c.self.invariant.bounds))
