use Rattle.std.proofs.Common.{◌≤ℤ◌, neg_ℤ}
use Rattle.window_rows.proofs.plain.plain_error.Given as goal

abbrev pub invariant-loop-t : goal.invariant-loop-t
invariant-loop-t l = neg_ℤ l.scene.rules.site.samples ≤ℤ l.t
