-- The weights of a set of kernels are light.
use Rattle.std.proofs.Common.{◌≡◌, ℕ, pos, ◌+ℤ◌, ◌≤ℤ◌, List, [], ◌∷◌, map, sum_by, refl, ap, ◌∙◌, sym, arith, ⊎_elim}
use Rattle.std.proofs.lemmas.Int.{ints}
use Rattle.std.proofs.lemmas.List.Elements.{All-map}
use Rattle.std.proofs.lemmas.List.Sums.{sum_by-cons}
use Rattle.opc_base.specs.Lanes.{weights_of}
use Rattle.opc_base.specs.Optics.{AreKernelsWithin, KeepsBounds}
use Rattle.opc_base.specs.Sums.{sum_each}
use Rattle.opc_base.specs.declared.kernels.Kernel.{Kernel}
use Rattle.opc_base.specs.declared.kernels.KernelSet.{KernelSet}
use Rattle.lane_intensity.specs.Differences.{IsLight}

sum-weights : (kernels : List Kernel) → sum_each (λ w. w) (map (λ (k : Kernel). pos k.weight) kernels) ≡ pos (sum_by (λ (k : Kernel). k.weight) kernels)
unfolding sum_each
sum-weights [] = refl
sum-weights (k ∷ kernels) = ap (λ s. pos k.weight +ℤ s) (sum-weights kernels) ∙ sym (ap pos (sum_by-cons (λ (k : Kernel). k.weight) k kernels))

weights_light : (set : KernelSet) (most : ℕ) → AreKernelsWithin most set → IsLight (weights_of set)
weights_light set most all =
    let few = all.weights in
    record {
      some = All-map (λ w. pos 1 ≤ℤ w) (λ (k : Kernel). pos k.weight) set.kernels
          (λ i d below. let weighs = (all.kernels_within i d below).weighs in omega (arith, ints));
      few = rw (sum-weights set.kernels) (omega (arith, ints));
    }

pub weights_of-light : (set : KernelSet) → KeepsBounds set → IsLight (weights_of set)
weights_of-light set bounds = ⊎_elim (λ one. weights_light set 2048 one.kernels) (λ two. weights_light set 128 two.kernels) bounds
