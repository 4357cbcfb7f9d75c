use Rattle.std.proofs.Common.{◌≡◌, ap, sym, ◌∙◌}
use Rattle.std.specs.Prelude.{is_some}
use Rattle.gds_library.specs.Texts.{has_name}
use Rattle.gds_library.specs.NameNumbers.{number_in}
use Rattle.gds_library.proofs.Numbering.{found_at, has_name-number}
use Rattle.gds_library.proofs.name_numbers.NameNumbers.number_of.Goals as goal

pub returns-clause-number : goal.returns-clause-number
returns-clause-number c =
    let es = c.self.inside.numbers.entries in
    let found : c.copied.result ≡ number_in es c.args.name.now = c.copied.ensures ∙ c.get.ensures.value in
    found_at c.copied.result es c.args.name.now c.args.self.now c.self.invariant c.self.view_is found

pub returns-clause-found : goal.returns-clause-found
returns-clause-found c =
    let es = c.self.inside.numbers.entries in
    let found : c.copied.result ≡ number_in es c.args.name.now = c.copied.ensures ∙ c.get.ensures.value in
    ap (λ names. has_name names c.args.name.now) (sym c.self.view_is) ∙ has_name-number es c.args.name.now c.self.invariant
    ∙ ap (λ o. is_some o) (sym found)
