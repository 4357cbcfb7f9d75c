use Rattle.std.proofs.Common.{◌≡◌, ◌*◌, ◌≤◌, All, length, sum_by}
use Rattle.opc_base.specs.Optics.{IsKernelWithin}
use Rattle.opc_base.specs.declared.kernels.Kernel.{Kernel}
use Rattle.optics_rows.proofs.seeds.Numbers.kernels.Given as goal

abbrev pub invariant-loop : goal.invariant-loop
invariant-loop l = record {
  count : length l.kernels.items ≡ l.counter;
  weights : sum_by (λ (k : Kernel). k.weight) l.kernels.items ≤ 9 * l.counter;
  within : All (IsKernelWithin l.reach l.most) l.kernels.items;
}
