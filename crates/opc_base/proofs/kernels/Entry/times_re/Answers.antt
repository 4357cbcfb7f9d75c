use Rattle.std.proofs.Common.{SFits, w16, to_z-of_z, rules}
use Rattle.opc_base.proofs.ProductLaws.{difference-fits, times-is}
use Rattle.opc_base.proofs.kernels.Entry.times_re.Goals as goal

pub overflow_sub-result : goal.overflow_sub-result
overflow_sub-result c =
    let a_re : SFits w16 c.args.self.re = search rules in
    let a_im : SFits w16 c.args.self.im = search rules in
    let b_re : SFits w16 c.args.other.re = search rules in
    let b_im : SFits w16 c.args.other.im = search rules in
    let first = times-is c.args.self.re c.args.other.re c.from.result c.from-2.result c.from.ensures c.from-2.ensures a_re b_re in
    let second = times-is c.args.self.im c.args.other.im c.from-3.result c.from-4.result c.from-3.ensures c.from-4.ensures a_im b_im in
    rw (first, second) (difference-fits c.args.self.re c.args.other.re c.args.self.im c.args.other.im a_re b_re a_im b_im)

pub returns : goal.returns
returns c =
    let a_re : SFits w16 c.args.self.re = search rules in
    let a_im : SFits w16 c.args.self.im = search rules in
    let b_re : SFits w16 c.args.other.re = search rules in
    let b_im : SFits w16 c.args.other.im = search rules in
    let first = times-is c.args.self.re c.args.other.re c.from.result c.from-2.result c.from.ensures c.from-2.ensures a_re b_re in
    let second = times-is c.args.self.im c.args.other.im c.from-3.result c.from-4.result c.from-3.ensures c.from-4.ensures a_im b_im in
    rw (first, second) (to_z-of_z (difference-fits c.args.self.re c.args.other.re c.args.self.im c.args.other.im a_re b_re a_im b_im))
