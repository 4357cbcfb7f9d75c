use Rattle.std.proofs.Common.{◌∙◌, take, arith}
use Rattle.std.proofs.lemmas.List.{length-take}
use Rattle.outline_model.specs.Outline.{lines, mask}
use Rattle.opc_session.proofs.rounds.make_steps.Goals as goal

pub store_all-requires-clause-holds : goal.store_all-requires-clause-holds
store_all-requires-clause-holds g c κs within = record { pixels = mask c.args.scene.now.fragments (lines c.args.scene.now.fragments c.args.offsets.now); holds = c.requires.stands.holds }

pub store_all-requires-clause-swept : goal.store_all-requires-clause-swept
store_all-requires-clause-swept g c κs within = c.take_steps-kept.ensures.sweeps.sweepable

pub store_all-requires-clause-few : goal.store_all-requires-clause-few
store_all-requires-clause-few g c κs within =
    simp length-take (omega (arith, c.take_steps-kept.auto.swept, c.requires.swept_room, c.know_tiles.ensures.few))

pub returns-clause-stands : goal.returns-clause-stands
returns-clause-stands g c = record {
  legal = c.take_steps-kept.ensures.legal;
  size = c.store_all.auto.sums ∙ c.requires.stands.size;
  holds = c.store_all.ensures.holds (mask c.args.scene.now.fragments (lines c.args.scene.now.fragments c.args.offsets.now)) (mask c.args.scene.now.fragments (lines c.args.scene.now.fragments c.take_steps-kept.new.offsets))
      c.requires.stands.holds c.take_steps-kept.ensures.sweeps.lead;
}

pub returns-clause-made : goal.returns-clause-made
returns-clause-made g c = record {
  sweeps = take c.take_steps-kept.result c.take_steps-kept.new.swept;
  taken = c.take_steps-kept.ensures.taken;
  count = c.take_steps-kept.ensures.count;
  cost = c.store_all.ensures.cost;
}
