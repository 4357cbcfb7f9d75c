use Rattle.std.proofs.Common.{◌≡◌, ℕ, ◌<◌, ◌≤◌, pos, get_or, unsigned_abs}
use Rattle.opc_base.specs.Plane.{cover}
use Rattle.opc_engine.specs.BarRuns.{own_error}
use Rattle.opc_engine.proofs.bar_run.find_errors.Given as goal

abbrev pub invariant-loop-i : goal.invariant-loop-i
invariant-loop-i l = record {
  each : (k : ℕ) → k < l.i → get_or l.errors k (pos 0) ≡ own_error (cover l.given.target) l.session k;
  small : (k : ℕ) → k < l.i → unsigned_abs (get_or l.errors k (pos 0)) ≤ 256;
}
