use Rattle.std.proofs.Common.{length}
use Rattle.opc_cli.proofs.loads.+load_kernels.Given as goal

abbrev pub decreases-load_kernels : goal.decreases-load_kernels
decreases-load_kernels g l = length l.conditions.now
