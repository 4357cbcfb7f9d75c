use Rattle.std.proofs.Common.{pos, SFits, w64, to_z-of_z, rules, arith}
use Rattle.std.proofs.lemmas.Int.{ints}
use Rattle.plain_optics.proofs.PowerLaws.{square-fits, power-fits, weighted-fits, weighted-small}
use Rattle.plain_optics.proofs.intensity.weighted_power.Goals as goal

pub overflow_mul-result-3 : goal.overflow_mul-result-3
overflow_mul-result-3 c =
    let re = square-fits c.args.amplitude.re c.requires.small.0 in
    let im = square-fits c.args.amplitude.im c.requires.small.1 in
    let re_range : SFits w64 c.args.amplitude.re = search rules in
    let im_range : SFits w64 c.args.amplitude.im = search rules in
    let both = power-fits c.args.amplitude.re c.args.amplitude.im c.requires.small.0 c.requires.small.1 in
    let weight : SFits w64 (pos c.args.weight) = omega (arith, ints) in
    rw c.from.ensures (simp to_z-of_z (weighted-fits c.args.weight c.args.amplitude.re c.args.amplitude.im c.requires.weight c.requires.small.0 c.requires.small.1))

pub returns-clause-value : goal.returns-clause-value
returns-clause-value c =
    let re = square-fits c.args.amplitude.re c.requires.small.0 in
    let im = square-fits c.args.amplitude.im c.requires.small.1 in
    let re_range : SFits w64 c.args.amplitude.re = search rules in
    let im_range : SFits w64 c.args.amplitude.im = search rules in
    let both = power-fits c.args.amplitude.re c.args.amplitude.im c.requires.small.0 c.requires.small.1 in
    let weight : SFits w64 (pos c.args.weight) = omega (arith, ints) in
    let all = weighted-fits c.args.weight c.args.amplitude.re c.args.amplitude.im c.requires.weight c.requires.small.0 c.requires.small.1 in
    rw c.from.ensures (simp to_z-of_z)

pub returns-clause-small : goal.returns-clause-small
returns-clause-small c =
    rw (returns-clause-value c) (weighted-small c.args.weight c.args.amplitude.re c.args.amplitude.im c.requires.small.0 c.requires.small.1)
