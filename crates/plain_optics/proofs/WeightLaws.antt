-- Weights of the kernels that a sum has taken.
use Rattle.std.proofs.Common.{◌≡◌, ℕ, ◌+◌, ◌<◌, ◌≤◌, ◌∙◌, List, length, get_or, take, sum_by, ap, sym, arith}
use Rattle.std.proofs.lemmas.List.Sums.{sum_by_more, sum_by_more_le}
use Rattle.opc_base.specs.Optics.{KeepsBounds}
use Rattle.opc_base.specs.declared.kernels.Kernel.{Kernel}
use Rattle.opc_base.specs.declared.kernels.KernelSet.{KernelSet}
use Rattle.opc_base.proofs.OpticsLaws.{weights_within}

abbrev pub weight_of : Kernel → ℕ
weight_of k = k.weight

-- the weights so far and one more are within the bound
pub weights_so_far : (set : KernelSet) (xs : List Kernel) (i : ℕ) (k : Kernel) → KeepsBounds set → xs ≡ set.kernels → i < length xs → k ≡ get_or xs i k →
    sum_by weight_of (take i xs) + k.weight ≤ 2048
weights_so_far set xs i k bounds same within is =
    let all : sum_by weight_of xs ≤ 2048 = rw same (weights_within set bounds) in
    let next : k.weight ≡ weight_of (get_or xs i k) = ap weight_of is in
    omega (arith, sum_by_more_le weight_of xs i k within)

pub weights_more : (xs : List Kernel) (i : ℕ) (k : Kernel) → i < length xs → k ≡ get_or xs i k →
    sum_by weight_of (take (i + 1) xs) ≡ sum_by weight_of (take i xs) + k.weight
weights_more xs i k within is = sum_by_more weight_of xs i k within ∙ ap (λ n. sum_by weight_of (take i xs) + n) (ap weight_of (sym is))
