use Rattle.std.proofs.Common.{◌≡◌, ℕ, ◌<◌, false, get_or, length}
use Rattle.opc_base.specs.Plane.{cover}
use Rattle.outline_model.specs.Outline.{fragment_at}
use Rattle.assist_bars.specs.Bars.{is_own}
use Rattle.assist_bars.proofs.own.own_fragments.Given as goal

abbrev pub invariant-loop-i : goal.invariant-loop-i
invariant-loop-i l = record {
  size : length l.own.items ≡ l.i;
  each : (j : ℕ) → j < l.i → get_or l.own.items j false ≡ is_own (cover l.fn.target) (fragment_at l.fn.fragments j);
}
