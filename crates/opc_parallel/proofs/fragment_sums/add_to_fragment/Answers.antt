use Rattle.std.proofs.Common.{◌≡◌, ◌+◌, ◌*◌, ◌/◌, ◌%◌, ◌-◌, ◌≤◌, length, refl, zero-add, take, drop, arith}
use Rattle.std.proofs.lemmas.List.{length-take}
use Rattle.std.proofs.lemmas.Nat.{div_below, le-div, mul-le}
use Rattle.opc_base.proofs.ChangeLaws.{RisesBetween-join, RisesBetween-part, RisesBy-moved}
use Rattle.opc_base.specs.Lanes.{lane_count}
use Rattle.opc_parallel.specs.Conditions.{setting_of}
use Rattle.opc_parallel.proofs.SeenLaws.{unseen_sample}
use Rattle.opc_parallel.proofs.StoredLaws.{AreLanes-part, RisesBy-inside, lanes_some, sample_change-here, sample_within}
use Rattle.opc_parallel.proofs.fragment_sums.add_to_fragment.Goals as goal

pub slice_bounds-own-end : goal.slice_bounds-own-end
slice_bounds-own-end g c =
    let within : c.loop-sample.sample * c.lanes-lanes.result + c.lanes-lanes.result ≤ length c.loop-sample.sums =
    rw c.lanes-lanes.ensures.count (omega (arith, sample_within c.loop-sample.sample c.args.work.now.samples (lane_count c.args.work.now.tables.now) (omega (arith, c.loop-sample-test.true, c.end_of_seeing-end.ensures.within)), c.requires.sums.count, c.loop-sample.invariant.0.same_length)) in
    omega (arith, within)

pub add_to_sample-requires-clause-lanes : goal.add_to_sample-requires-clause-lanes
add_to_sample-requires-clause-lanes g c =
    let within = sample_within c.loop-sample.sample c.args.work.now.samples (lane_count c.args.work.now.tables.now) (omega (arith, c.loop-sample-test.true, c.end_of_seeing-end.ensures.within)) in
    rw c.lanes-lanes.ensures.count (AreLanes-part (lane_count c.args.work.now.tables.now) _ (c.loop-sample.sample * lane_count c.args.work.now.tables.now) c.loop-sample.sums (omega arith)
    (omega (arith, within, c.requires.sums.count, c.loop-sample.invariant.0.same_length)) (λ i from below. rw (c.loop-sample.invariant.0.after i from) (c.requires.sums.small i (omega (arith, below, within)))))

pub loop-sample-preserved : goal.loop-sample-preserved
loop-sample-preserved g c =
    let work = c.args.work.now in
    let lanes = lane_count work.tables.now in
    let k = c.loop-sample.sample in
    let within = sample_within k work.samples lanes (omega (arith, c.loop-sample-test.true, c.end_of_seeing-end.ensures.within)) in
    let up = mul-le c.first_seeing-first.result lanes k lanes (omega arith) (omega arith) in
    let length-part : length (take (k * lanes + lanes - k * lanes) (drop (k * lanes) c.loop-sample.sums)) ≤ lanes = simp length-take (omega arith) in
    let next : (k + 1) * lanes ≡ k * lanes + lanes = omega arith in (
      rw (c.lanes-lanes.ensures.count, next) (RisesBetween-join _ 0 (c.first_seeing-first.result * lanes) (k * lanes) (k * lanes + lanes) _ _ _ up (omega arith) c.loop-sample.invariant.0
          (RisesBetween-part _ 0 (k * lanes) _ lanes _ _ (omega arith) (omega (arith, within, c.requires.sums.count, c.loop-sample.invariant.0.same_length))
          (RisesBy-moved _ _ 0 (0 + k * lanes) _ _ (λ lane below. rw (zero-add lane)
          (sample_change-here (setting_of work) c.args.swept c.sample_site-at.result c.args.number k lane (0 + k * lanes + lane) _ (omega (arith, length-part, below))
          refl c.sample_site-at.ensures.site (omega arith))) (rw c.lanes-lanes.ensures.count at c.add_to_sample.ensures.rises)))),
      omega (arith, c.loop-sample.invariant.1, c.add_to_sample.ensures.cost),
    )

pub returns-clause-rises : goal.returns-clause-rises
returns-clause-rises g c =
    let s = setting_of c.args.work.now in
    let lanes = lane_count c.args.work.now.tables.now in
    let some = lanes_some c.args.work.now.tables.now c.requires.ready.bounds in
    let first = c.first_seeing-first in
    let end = c.end_of_seeing-end in
    let past = mul-le end.result lanes c.loop-sample.sample lanes (omega (arith, c.loop-sample-test.false)) (omega arith) in
    RisesBy-inside _ 0 (first.result * lanes) (c.loop-sample.sample * lanes) _ _ c.loop-sample.invariant.0
    (λ i below early. unseen_sample s c.args.swept c.args.number ((0 + i) / lanes) ((0 + i) % lanes) (first.ensures.before ((0 + i) / lanes) (div_below (0 + i) lanes first.result some (omega (arith, early)))))
    (λ i below late. unseen_sample s c.args.swept c.args.number ((0 + i) / lanes) ((0 + i) % lanes) (end.ensures.after ((0 + i) / lanes)
    (le-div end.result (0 + i) lanes some (omega (arith, past, late)))
    (div_below (0 + i) lanes (2 * c.args.work.now.samples) some (omega (arith, below, c.requires.sums.count)))))
