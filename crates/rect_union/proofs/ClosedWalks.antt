-- A walk that ends at its first point is closed.
use Rattle.std.proofs.Common.{◌≡◌, ◌-◌, ◌<◌, List, [], ◌∷◌, length, get_or, take_all, sym, ◌∙◌, ap, arith}
use Rattle.opc_base.specs.declared.plane.Pix.{Pix}
use Rattle.opc_base.specs.Cover.{IsClosed, last_from}
use Rattle.rect_union.proofs.OutlineLaws.{last_from-take}

pub closed_if : (points : List Pix) (d e : Pix) → 0 < length points → get_or points 0 d ≡ get_or points (length points - 1) e → IsClosed points
closed_if [] d e some same = absurd (omega arith)
closed_if (p ∷ points) d e some same =
    let last : length points ≡ length (p ∷ points) - 1 = omega arith in
    sym (ap (last_from p) (take_all (length points) points (omega arith)))
    ∙ last_from-take p points (length points) e (omega arith)
    ∙ ap (λ n. get_or (p ∷ points) n e) last
    ∙ sym same
