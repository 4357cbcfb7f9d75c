use Rattle.std.proofs.Common.{◌≡◌, ap, ap₂, sym, ◌∙◌}
use Rattle.std.proofs.lemmas.Bool.{false≢true}
use Rattle.gds_model.specs.Library.{names}
use Rattle.gds_library.specs.Texts.{has_name}
use Rattle.gds_library.proofs.NameSets.{Contains-has_name}
use Rattle.gds_library.proofs.library.Library.number_of.Goals as goal

pub returns-in-None-clause-found : goal.returns-in-None-clause-found
returns-in-None-clause-found c =
    let known : c.self.inside.names ≡ names c.args.self.now.structures = c.self.invariant.names ∙ ap (λ l. names l.structures) c.self.view_is in (
      λ e. absurd (false≢true e),
      λ has. sym c.in-None.ensures.found ∙ ap₂ has_name known c.as_slice.ensures.list
          ∙ Contains-has_name (names c.args.self.now.structures) c.args.name.now has,
    )
