use Rattle.std.proofs.Common.{FitsSigned, w64, rules}
use Rattle.gds_model.specs.PlaceFaults.{is_far}
use Rattle.gds_expand.proofs.OutlineLemmas.{neither, passed_test}
use Rattle.gds_expand.proofs.shapes.pixel_at.Goals as goal

pub quotient-requires : goal.quotient-requires
quotient-requires c =
    let fits : FitsSigned w64 c.args.point.now.x = search rules in
    record {
      near = passed_test (is_far c.args.side.now.length) c.args.point.now.x fits
          (neither (is_far c.args.side.now.length c.args.point.now.x) (is_far c.args.side.now.length c.args.point.now.y) c.requires.near).0;
    }

pub quotient-requires-2 : goal.quotient-requires-2
quotient-requires-2 c =
    let fits : FitsSigned w64 c.args.point.now.y = search rules in
    record {
      near = passed_test (is_far c.args.side.now.length) c.args.point.now.y fits
          (neither (is_far c.args.side.now.length c.args.point.now.x) (is_far c.args.side.now.length c.args.point.now.y) c.requires.near).1;
    }
