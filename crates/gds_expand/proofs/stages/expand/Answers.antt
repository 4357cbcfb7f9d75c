use Rattle.std.proofs.lemmas.Result.{IfOk-weaker}
use Rattle.gds_model.specs.PlaceFaults.{IsPlacement, PlacesAll}
use Rattle.gds_model.proofs.PlaceLaws.{placement_whole}
use Rattle.gds_expand.proofs.ExpandAnswers.{must_place, must_refuse}
use Rattle.gds_expand.proofs.stages.expand.Goals as goal

pub returns-clause-whole : goal.returns-clause-whole
returns-clause-whole c =
    let library = c.args.library.now.structures in
    let pick = c.args.pick.now in
    IfOk-weaker c.expand_top.result (IsPlacement library pick) (PlacesAll library pick) (placement_whole library pick) c.expand_top.ensures.placement

pub returns-clause-places : goal.returns-clause-places
returns-clause-places c =
    must_place c.args.library.now.structures c.expand_top.ensures.offsets c.args.pick.now c.expand_top.result c.expand_top.ensures.fault

pub returns-clause-refuses : goal.returns-clause-refuses
returns-clause-refuses c =
    must_refuse c.args.library.now.structures c.expand_top.ensures.offsets c.args.pick.now c.expand_top.result c.expand_top.ensures.placement
    c.expand_top.ensures.fault
