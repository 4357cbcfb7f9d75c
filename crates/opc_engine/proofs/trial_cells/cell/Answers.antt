use Rattle.std.proofs.Common.{◌∷◌, []}
use Rattle.std.proofs.lemmas.List.Elements.{All-cons, All-nil}
use Rattle.opc_base.specs.Plane.{IsRectWithin}
use Rattle.opc_engine.proofs.TrialInputLaws.{cell-is}
use Rattle.opc_engine.proofs.trial_cells.cell.Goals as goal

pub returns-clause-rects : goal.returns-clause-rects
returns-clause-rects c =
    cell-is c.args.k c.args.seed c.rect_in.result c.rect_in-2.result c.rect_in-3.result c.rect_in-4.result c.requires.seed c.rect_in.ensures.is c.rect_in-2.ensures.is
    c.rect_in-3.ensures.is c.rect_in-4.ensures.is

pub returns-clause-within : goal.returns-clause-within
returns-clause-within c =
    All-cons (IsRectWithin 1048128) c.rect_in.result (c.rect_in-2.result ∷ c.rect_in-3.result ∷ c.rect_in-4.result ∷ []) c.rect_in.ensures.within
    (All-cons (IsRectWithin 1048128) c.rect_in-2.result (c.rect_in-3.result ∷ c.rect_in-4.result ∷ []) c.rect_in-2.ensures.within
    (All-cons (IsRectWithin 1048128) c.rect_in-3.result (c.rect_in-4.result ∷ []) c.rect_in-3.ensures.within
    (All-cons (IsRectWithin 1048128) c.rect_in-4.result [] c.rect_in-4.ensures.within (All-nil (IsRectWithin 1048128)))))
