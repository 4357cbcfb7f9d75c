-- Each point is added to the points that were merged before it.
use Rattle.std.proofs.Common.{pos, get_or, arith}
use Rattle.std.proofs.lemmas.Int.{ints}
use Rattle.opc_base.proofs.SumLaws.{sum_each-more}
use Rattle.signed_points.specs.Points.{point_at, sign_among}
use Rattle.signed_points.proofs.MergeLaws.{up_to_later}
use Rattle.signed_points.proofs.points.merge_points.Goals as goal

pub loop-point-preserved : goal.loop-point-preserved
loop-point-preserved c =
    let adds = c.in_ok-add_point.ensures.adds in
    let i = c.loop-point.point-index in
    record {
      ascending = adds.ascending;
      signed = adds.signed;
      few = (let more = c.in_ok-add_point.ensures.few in omega arith);
      behind = λ k from below j e inside. up_to_later (get_or c.add_point.new.merged.items j e) (point_at c.args.points.now i) (point_at c.args.points.now k) (adds.behind j e inside)
          (c.requires.order i k _ (omega arith) below);
      signs = adds.signs i c.loop-point.invariant.signs;
      sums = λ places.
          let added = adds.sums places in
          let before = c.loop-point.invariant.sums places in
          let more = sum_each-more (λ p. sign_among places p) c.args.points.now i (record { line = pos 0; place = pos 0; sign = pos 0 }) (omega arith) in
          omega (arith, ints);
    }
