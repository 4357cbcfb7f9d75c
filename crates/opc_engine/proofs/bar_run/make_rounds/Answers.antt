use Rattle.std.proofs.Common.{[], SFits, w32, w64, ◌<◌, length, refl, ap, sym, subst, ◌∙◌, rules, arith}
use Rattle.std.proofs.lemmas.Int.{to_z-of_z}
use Rattle.opc_base.specs.Plane.{cover}
use Rattle.opc_base.specs.declared.rules.Rules.{Rules}
use Rattle.opc_engine.specs.BarRuns.{own_error}
use Rattle.opc_engine.proofs.BarRunLaws.{bar_run_ended, bar_run_settled, one_more_bar_round, over_steps}
use Rattle.opc_engine.proofs.bar_run.make_rounds.Goals as goal

pub loop-made-init : goal.loop-made-init
loop-made-init g c = record {
  rounds = record {
    over = c.requires.over;
    summaries = [];
    rounds = (c.requires.unmoved, refl);
    text = c.from_vec-lines.ensures.list ∙ c.new.ensures.items;
  };
  room = c.requires.room;
}

pub find_totals-totals-requires-clause-over : goal.find_totals-totals-requires-clause-over
find_totals-totals-requires-clause-over g c = c.loop-made.invariant.rounds.over

pub find_totals-totals-requires-clause-room : goal.find_totals-totals-requires-clause-room
find_totals-totals-requires-clause-room g c = c.loop-made.invariant.room

pub returns-then-are_settled-clause-over : goal.returns-then-are_settled-clause-over
returns-then-are_settled-clause-over g c = c.loop-made.invariant.rounds.over

pub returns-then-are_settled-clause-run : goal.returns-then-are_settled-clause-run
returns-then-are_settled-clause-run g c =
    let given = c.args.given.now in
    let has = c.loop-made.invariant.rounds in
    let tells = c.are_settled.ensures (own_error (cover given.target)) c.loop-made.session (ap (λ (r : Rules). r.run) has.over.rules) c.find_totals-totals.ensures.totals in
    bar_run_settled given c.loop-made.made c.loop-made.session c.loop-made.lines has (omega (arith, c.loop-made-test.true)) (sym tells ∙ c.if-are_settled.true)

pub take_steps-moved-requires-clause-errors : goal.take_steps-moved-requires-clause-errors
take_steps-moved-requires-clause-errors g c κs lives = c.find_totals-totals.ensures.errors.count

pub take_steps-moved-requires-clause-small : goal.take_steps-moved-requires-clause-small
take_steps-moved-requires-clause-small g c κs lives i below = c.find_totals-totals.ensures.errors.small i (subst (λ n. i < n) c.find_totals-totals.ensures.errors.count below)

pub returns-in_err-put_round-clause-over : goal.returns-in_err-put_round-clause-over
returns-in_err-put_round-clause-over g c =
    over_steps c.args.given.now c.loop-made.session c.take_steps-moved.new.self _ c.take_steps-moved.result _ _ c.loop-made.invariant.rounds.over c.take_steps-moved.ensures

pub loop-made-preserved : goal.loop-made-preserved
loop-made-preserved g c =
    let given = c.args.given.now in
    let has = c.loop-made.invariant.rounds in
    let tells = c.are_settled.ensures (own_error (cover given.target)) c.loop-made.session (ap (λ (r : Rules). r.run) has.over.rules) c.find_totals-totals.ensures.totals in
    let fits_worst : SFits w32 c.find_totals-totals.result.worst = search rules in
    let fits_total : SFits w64 c.find_totals-totals.result.total = search rules in
    let worst = to_z-of_z w32 c.find_totals-totals.result.worst fits_worst in
    let total = to_z-of_z w64 c.find_totals-totals.result.total fits_total in
    record {
      rounds = one_more_bar_round given c.loop-made.made c.loop-made.session c.take_steps-moved.new.self c.loop-made.lines c.put_round.new.out c.find_totals-totals.new.errors
          c.find_totals-totals.result c.take_steps-moved.result _ _ has (sym tells ∙ c.if-are_settled.false) c.find_totals-totals.ensures.errors c.find_totals-totals.ensures.totals
          c.take_steps-moved.ensures (rw (worst, total) at c.in_ok-put_round.ensures.ok);
      room = c.find_totals-totals.ensures.errors.count ∙ sym (ap length c.take_steps-moved.ensures.same.fragments);
    }

pub returns-clause-over : goal.returns-clause-over
returns-clause-over g c = c.loop-made.invariant.rounds.over

pub returns-clause-run : goal.returns-clause-run
returns-clause-run g c =
    bar_run_ended c.args.given.now c.loop-made.made c.loop-made.session c.loop-made.lines c.loop-made.invariant.rounds (omega (arith, c.loop-made-test.false, c.loop-made.auto.made-end))
