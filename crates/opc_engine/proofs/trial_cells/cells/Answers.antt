use Rattle.std.proofs.Common.{All, ◌++◌, lit<, sym, subst, ap, ap₂, ◌∙◌, ◌*◌, ◌+◌, ◌%◌}
use Rattle.std.proofs.lemmas.List.Elements.{All-append, All-nil}
use Rattle.opc_base.specs.Plane.{IsRectWithin}
use Rattle.opc_engine.proofs.TrialInputLaws.{cells-next, seed-first, seed-next}
use Rattle.opc_engine.proofs.trial_cells.cells.Goals as goal

pub loop-k-init : goal.loop-k-init
loop-k-init c = record {
  rects = c.new-rects.ensures.items;
  within = subst (All (IsRectWithin 1048128)) (sym c.new-rects.ensures.items) (All-nil (IsRectWithin 1048128));
  seed = sym seed-first;
  small = lit< tt;
}

pub loop-k-preserved : goal.loop-k-preserved
loop-k-preserved c = record {
  rects = c.in_ok-extend_from_slice.ensures.items ∙ ap₂ (λ a b. a ++ b) c.loop-k.invariant.rects c.cell.ensures.rects ∙ sym (cells-next c.loop-k.k);
  within = subst (All (IsRectWithin 1048128)) (sym c.in_ok-extend_from_slice.ensures.items)
      (All-append (IsRectWithin 1048128) c.loop-k.rects.items c.cell.result c.loop-k.invariant.within c.cell.ensures.within);
  seed = c.next_seed-seed.ensures.next ∙ ap (λ s. (1103515245 * s + 12345) % 2147483648) c.loop-k.invariant.seed ∙ sym (seed-next c.loop-k.k);
  small = c.next_seed-seed.ensures.small;
}
