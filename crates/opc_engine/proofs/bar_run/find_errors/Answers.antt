use Rattle.std.proofs.Common.{◌≡◌, ◌<◌, ◌≤◌, SFits, w32, Bool, false, List, length, get_or, unsigned_abs, ap, ◌∙◌, rules, arith}
use Rattle.std.proofs.lemmas.Int.{to_z-of_z}
use Rattle.opc_base.specs.Plane.{cover}
use Rattle.opc_session.proofs.HoldLaws.{one_more}
use Rattle.opc_engine.specs.BarRuns.{own_error}
use Rattle.opc_engine.proofs.BarRunLaws.{counted_is}
use Rattle.opc_engine.proofs.bar_run.find_errors.Goals as goal

pub loop-i-preserved : goal.loop-i-preserved
loop-i-preserved c =
    let fits : SFits w32 c.counted_error.result = search rules in
    let value = to_z-of_z w32 c.counted_error.result fits in
    let below : c.loop-i.i < length c.args.session.now.fragments = omega (arith, c.loop-i-test.true, c.count-i-end.ensures.count) in
    let room : c.loop-i.i < length c.loop-i.errors = omega (arith, below, c.requires.room, c.loop-i.auto.errors) in
    record {
      each = one_more (λ k e. e ≡ own_error (cover c.args.given.now.target) c.args.session.now k) c.loop-i.errors c.loop-i.i _ room c.loop-i.invariant.each
          (value ∙ counted_is c.args.given.now c.args.session.now c.loop-i.i (get_or c.args.own.now c.loop-i.i false) c.counted_error.result c.requires.ready c.requires.over below c.counted_error.ensures.error (ap (λ (l : List Bool). get_or l c.loop-i.i false) c.requires.own));
      small = one_more (λ k e. unsigned_abs e ≤ 256) c.loop-i.errors c.loop-i.i _ room c.loop-i.invariant.small (rw value c.counted_error.ensures.small);
    }

pub returns : goal.returns
returns c = record {
  count = c.loop-i.auto.errors ∙ c.requires.room;
  few = omega (arith, c.loop-i.auto.errors, c.requires.room, c.count-i-end.ensures.count, c.count-i-end.ensures.few);
  each = λ i below. c.loop-i.invariant.each i (omega (arith, below, c.loop-i-test.false, c.count-i-end.ensures.count));
  small = λ i below. c.loop-i.invariant.small i (omega (arith, below, c.loop-i-test.false, c.count-i-end.ensures.count));
}
