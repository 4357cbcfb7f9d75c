use Rattle.std.proofs.Common.{◌≡◌, length}
use Rattle.opc_base.specs.Lanes.{lane_count}
use Rattle.bench_sums.proofs.sums.add_all.Given as goal

abbrev pub invariant-loop-turn : goal.invariant-loop-turn
invariant-loop-turn g l = length l.lanes.items ≡ lane_count l.tables
