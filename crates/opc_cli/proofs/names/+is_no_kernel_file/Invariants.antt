use Rattle.std.proofs.Common.{length}
use Rattle.opc_cli.proofs.names.+is_no_kernel_file.Given as goal

abbrev pub decreases-is_no_kernel_file : goal.decreases-is_no_kernel_file
decreases-is_no_kernel_file l = length l.conditions.now
