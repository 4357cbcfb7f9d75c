-- What rules, several kernel files and a layout give for a correction under several conditions.
use Rattle.std.specs.Prelude.{◌≡◌, ℕ, Result, Ok, List, [], ◌∷◌}
use Rattle.opc_base.specs.Plane.{PixelSet}
use Rattle.opc_base.specs.declared.kernels.KernelSet.{KernelSet}
use Rattle.opc_base.specs.declared.rules.Rules.{Rules}
use Rattle.gds_records.specs.declared.library_head.Head.{Head}
use Rattle.outline_model.specs.declared.fragment.Fragment.{Fragment}
use Rattle.opc_engine.specs.declared.fault.EngineFault.{EngineFault}
use Rattle.opc_engine.specs.Prepare.{KernelsGive, LayoutPrepares, RulesGive}
use Rattle.opc_engine.specs.Stages.{Then}

-- what is corrected: the head of the layout, the pixels of its target, the fragments of the target's edges, the rules, and
-- the kernels of each condition
pub record WindowSubject : Type 0 where
  pub head : Head
  pub target : PixelSet
  pub fragments : List Fragment
  pub rules : Rules
  pub sets : List KernelSet

-- the kernels of each kernel file, in their order; or the refusal of the first file that has none
abbrev pub SetsGive : List (List ℕ) → Result (List KernelSet) EngineFault → Type 0
SetsGive [] result = result ≡ Ok []
SetsGive (file ∷ files) result =
    Then (KernelsGive file) (λ set.
    Then (SetsGive files) (λ sets given.
    given ≡ Ok (set ∷ sets))) result

-- What a layout, kernel files and a rule file give, or the first refusal: the rules are judged first, then the kernel files
-- in their order, then the layout.
abbrev pub PreparesSets : List ℕ → List (List ℕ) → List ℕ → Result WindowSubject EngineFault → Type 0
PreparesSets layout kernels rules =
    Then (RulesGive rules) (λ r.
    Then (SetsGive kernels) (λ sets.
    Then (LayoutPrepares layout r) (λ p result.
    result ≡ Ok (record { head = p.head; target = p.target; fragments = p.fragments; rules = r; sets = sets }))))
