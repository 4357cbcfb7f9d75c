use Rattle.std.proofs.Common.{◌≡◌, ◌+◌, ◌*◌, ℤ, pos, List, get_or, length, unsigned_abs, ap, ◌∙◌, length-append, arith}
use Rattle.opc_base.specs.Lanes.{lane_count}
use Rattle.opc_session.specs.Kept.{Parts, setting_of}
use Rattle.opc_session.proofs.FillLaws.{ground_size, holds_ground, more_ground}
use Rattle.opc_session.proofs.opening.uncovered_sums.Goals as goal

pub loop-sample-init : goal.loop-sample-init
loop-sample-init c = record {
  size = ap length c.in_ok-sums.ensures.items ∙ omega arith;
  each = λ j lane below. absurd (omega arith);
}

pub loop-sample-preserved : goal.loop-sample-preserved
loop-sample-preserved c =
    let set_is = ap (λ (p : Parts). p.set) c.scene.view_is in
    let ground = rw set_is at c.ground.ensures.lanes in
    let inv = c.loop-sample.invariant in
    let items = c.in_ok-extend_from_slice.ensures.items in
    record {
      size = ap length items ∙ length-append c.loop-sample.sums.items c.ground.result.now ∙ omega (arith, inv.size, ground.count);
      each = λ j lane below in_lanes.
          ap (λ (xs : List ℤ). get_or xs (j * lane_count c.args.scene.now.set + lane) (pos 0)) items
          ∙ more_ground c.args.scene.now.set c.loop-sample._sample c.loop-sample.sums.items c.ground.result.now inv.size ground inv.each j lane below in_lanes;
    }

pub returns-clause-size : goal.returns-clause-size
returns-clause-size c =
    let p = c.args.scene.now in
    let end : c.loop-sample._sample ≡ 2 * unsigned_abs p.rules.site.samples * length p.fragments =
    omega (arith, c.loop-sample-test.false, c.loop-sample.auto._sample-end, c.sample_count-sample-end.ensures) in
    c.loop-sample.invariant.size ∙ ground_size (unsigned_abs p.rules.site.samples) (length p.fragments) (lane_count p.set) c.loop-sample._sample end

pub returns-clause-holds : goal.returns-clause-holds
returns-clause-holds c =
    let p = c.args.scene.now in
    let end : c.loop-sample._sample ≡ 2 * unsigned_abs p.rules.site.samples * length p.fragments =
    omega (arith, c.loop-sample-test.false, c.loop-sample.auto._sample-end, c.sample_count-sample-end.ensures) in
    holds_ground (setting_of p) c.loop-sample.sums.items c.loop-sample._sample c.know_tiles.ensures.tiles.count end c.loop-sample.invariant.each
