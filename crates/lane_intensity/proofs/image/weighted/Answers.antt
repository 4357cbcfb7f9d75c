use Rattle.std.proofs.Common.{to_z-of_z}
use Rattle.lane_intensity.proofs.PowerSums.{power-fits, square-fits, weight-fits, weighted-fits}
use Rattle.lane_intensity.proofs.image.weighted.Goals as goal

pub returns : goal.returns
returns c =
    let fits = weight-fits c.args.weight c.requires.weight in
    let fits_re = square-fits c.args.re_square c.requires.re in
    let fits_im = square-fits c.args.im_square c.requires.im in
    let power = power-fits c.args.re_square c.args.im_square c.requires.re c.requires.im in
    let all = weighted-fits c.args.weight c.args.re_square c.args.im_square c.requires.weight c.requires.re c.requires.im in
    simp to_z-of_z
