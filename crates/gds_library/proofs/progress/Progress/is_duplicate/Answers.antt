use Rattle.std.proofs.Common.{◌&&◌, ◌∷◌, [], ap, sym, ◌∙◌}
use Rattle.gds_model.specs.declared.record_kind.RecordKind.TheVariants.{StrName}
use Rattle.gds_model.specs.RecordKind.{code_of}
use Rattle.gds_model.specs.Names.{name_of}
use Rattle.gds_model.specs.Body.{is_one_of}
use Rattle.gds_library.specs.Progress.{names_read}
use Rattle.gds_library.specs.Texts.{has_name}
use Rattle.gds_library.proofs.progress.Progress.is_duplicate.Goals as goal

pub returns-in-StrName : goal.returns-in-StrName
returns-in-StrName c =
    ap (λ k. is_one_of (StrName ∷ []) (code_of k) && has_name (names_read c.args.self.now) (name_of c.args.body.now)) c.in-StrName.is
    ∙ ap (λ name. has_name (names_read c.args.self.now) name) (sym c.name_in.ensures)
    ∙ c.number_of.ensures.found ∙ sym c.is_some.ensures
