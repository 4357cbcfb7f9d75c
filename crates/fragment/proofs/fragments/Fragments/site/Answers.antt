use Rattle.std.proofs.Common.{arith}
use Rattle.std.proofs.lemmas.Int.{ints}
use Rattle.fragment.proofs.fragments.Fragments.site.Goals as goal

pub site_of-requires-clause-ordered : goal.site_of-requires-clause-ordered
site_of-requires-clause-ordered c =
    let some = c.get.ensures.list.some c.args.i c.requires.fragment in rw c.get.ensures.fragment (omega (arith, ints))
