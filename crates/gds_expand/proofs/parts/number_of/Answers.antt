use Rattle.std.proofs.Common.{sym}
use Rattle.gds_expand.proofs.NumberLemmas.{number_at, no_number}
use Rattle.gds_expand.proofs.parts.number_of.Goals as goal

pub returns-in-None-clause-number : goal.returns-in-None-clause-number
returns-in-None-clause-number c =
    sym (no_number c.args.library.now.structures c.args.name.now (λ there.
    let found = c.in-None.ensures.found.1 there in
    let no : ⊥ = cc in no))

pub returns-in-Some-clause-number : goal.returns-in-Some-clause-number
returns-in-Some-clause-number c =
    sym (number_at c.args.library.now.structures c.args.name.now c.in-Some.number c.number_of.ensures.layout.distinct c.in-Some.ensures.number)

pub returns-in-None-clause-offsets : goal.returns-in-None-clause-offsets
returns-in-None-clause-offsets c = c.number_of.ensures.layout.offsets

pub returns-in-Some-clause-offsets : goal.returns-in-Some-clause-offsets
returns-in-Some-clause-offsets c = c.number_of.ensures.layout.offsets
