use Rattle.std.proofs.Common.{Some, None, sym, ◌∙◌}
use Rattle.gds_library.specs.OpenElement.{first_offset}
use Rattle.gds_library.proofs.Closing.{elements_in-of, comes_to-other}
use Rattle.gds_library.proofs.open_element.OpenElement.close.Goals as goal

pub returns-in_default : goal.returns-in_default
returns-in_default c rs held = sym (elements_in-of c.args.self.now None rs held c.in_default.is)

pub returns-in_default-kind : goal.returns-in_default-kind
returns-in_default-kind c rs held =
    let d = c.in_default-kind in
    let kind = c.in-Some.kind in
    sym
    (elements_in-of c.args.self.now (Some kind) rs held c.in-Some.is
    ∙ comes_to-other kind (first_offset rs) rs d.not-Boundary d.not-Path d.not-Box d.not-Sref d.not-Aref)
