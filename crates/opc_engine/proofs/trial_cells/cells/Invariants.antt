use Rattle.std.proofs.Common.{◌≡◌, ◌<◌, All}
use Rattle.opc_base.specs.Plane.{IsRectWithin}
use Rattle.opc_engine.specs.TrialInput.{cells, seed_of}
use Rattle.opc_engine.proofs.trial_cells.cells.Given as goal

abbrev pub invariant-loop-k : goal.invariant-loop-k
invariant-loop-k l = record {
  rects : l.rects.items ≡ cells l.k;
  within : All (IsRectWithin 1048128) l.rects.items;
  seed : l.seed ≡ seed_of l.k;
  small : l.seed < 2147483648;
}
