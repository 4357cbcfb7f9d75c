-- What rules, kernels and a layout give for a correction: the stages in which they are judged, and what is ready after them.
use Rattle.std.specs.Prelude.{◌≡◌, ◌⊎◌, ℕ, ◌<◌, ◌≤◌, Option, Some, None, Result, Ok, Err, List, length}
use Rattle.opc_base.specs.Plane.{PixelSet}
use Rattle.opc_base.specs.declared.broken.Broken.{Broken}
use Rattle.opc_base.specs.declared.kernels.KernelSet.{KernelSet}
use Rattle.opc_base.specs.declared.rules.CutRules.{CutRules}
use Rattle.opc_base.specs.declared.rules.MaskRules.{MaskRules}
use Rattle.opc_base.specs.declared.rules.Rules.{Rules}
use Rattle.gds_records.specs.declared.library_head.Head.{Head}
use Rattle.gds_model.specs.Library.{StreamLibrary}
use Rattle.rule_file.specs.RuleText.{SaysRules, rule_fault}
use Rattle.rule_file.specs.declared.fault.RuleFault.{RuleFault}
use Rattle.outline_model.specs.declared.fragment.Fragment.{Fragment}
use Rattle.outline_model.specs.Fragmentation.{AreFragments}
use Rattle.cutting.specs.Faults.{IsFault}
use Rattle.cutting.specs.declared.region_pieces.CutFault.TheVariants as cut
use Rattle.mask_rules.specs.TargetRules.{IsFirstBrokenOf, KeepsTarget}
use Rattle.opc_engine.specs.declared.ask.Which.TheVariants as which
use Rattle.opc_engine.specs.declared.fault.EngineFault.{EngineFault}
use Rattle.opc_engine.specs.declared.fault.EngineFault.TheVariants as fault
use Rattle.opc_engine.specs.declared.limits.TheConstants.{MAX_RULES}
use Rattle.opc_engine.specs.LayoutTarget.{IsRead, IsUnread, StructuresGive}
use Rattle.opc_engine.specs.Probe.{kernel_result}
use Rattle.opc_engine.specs.Stages.{Then}

-- what a layout gives for rules: its head, the pixels of its target, and the fragments of the target's edges
pub record Pattern : Type 0 where
  pub head : Head
  pub target : PixelSet
  pub fragments : List Fragment

-- what is corrected: the head of the layout, the pixels of its target, the fragments of the target's edges, the kernels
-- and the rules
pub record Subject : Type 0 where
  pub head : Head
  pub target : PixelSet
  pub fragments : List Fragment
  pub set : KernelSet
  pub rules : Rules

-- ---- the stages

abbrev pub RulesOrFault : List ℕ → Option RuleFault → Result Rules EngineFault → Type 0
RulesOrFault bytes (Some wrong) result = result ≡ Err (fault.Rules wrong)
RulesOrFault bytes None result = (rules : Rules) × (SaysRules bytes rules × (result ≡ Ok rules))

-- the rules of a rule file, unless it is too long or has a fault
abbrev pub RulesGive : List ℕ → Result Rules EngineFault → Type 0
RulesGive bytes result =
    ((MAX_RULES < length bytes) × (result ≡ Err (fault.TooLong which.Rules)))
    ⊎ ((length bytes ≤ MAX_RULES) × RulesOrFault bytes (rule_fault bytes) result)

-- the kernels of a kernel file, unless it is too long or has a fault
abbrev pub KernelsGive : List ℕ → Result KernelSet EngineFault → Type 0
KernelsGive bytes result = result ≡ kernel_result bytes

-- the library of a layout file, unless it is too long or has a fault
abbrev pub LibraryGives : List ℕ → Result StreamLibrary EngineFault → Type 0
LibraryGives layout result =
    ((refusal : EngineFault) × (IsUnread layout refusal × (result ≡ Err refusal)))
    ⊎ ((library : StreamLibrary) × (IsRead layout library × (result ≡ Ok library)))

-- a target, unless it breaks a rule of width, space or corners
abbrev pub TargetKeeps : MaskRules → PixelSet → Result PixelSet EngineFault → Type 0
TargetKeeps rules target result =
    ((broken : Broken) × (IsFirstBrokenOf rules target broken × (result ≡ Err (fault.Target broken))))
    ⊎ (KeepsTarget rules target × (result ≡ Ok target))

-- the fragments of a target, unless they are too many
abbrev pub CutGives : CutRules → PixelSet → Result (List Fragment) EngineFault → Type 0
CutGives rules target result =
    ((count : ℕ) × (IsFault target rules (cut.TooManyFragments count) × (result ≡ Err (fault.TooManyFragments count))))
    ⊎ ((fragments : List Fragment) × (AreFragments target rules fragments × (length fragments ≤ 32768) × (result ≡ Ok fragments)))

-- ---- all of them

-- What a layout gives for these rules, or the first refusal: of the layout first its records, then what the chosen shapes
-- of its top structure cover, the rules of such a target, and its fragments.
abbrev pub LayoutPrepares : List ℕ → Rules → Result Pattern EngineFault → Type 0
LayoutPrepares layout r =
    Then (LibraryGives layout) (λ library.
    Then (StructuresGive library.structures r.pick) (λ pixels.
    Then (TargetKeeps r.mask pixels) (λ target.
    Then (CutGives r.cut target) (λ fragments result.
    result ≡ Ok (record { head = library.head; target = target; fragments = fragments })))))

-- What kernels and a layout give for these rules, or the first refusal: the kernels are judged before the layout.
abbrev pub PreparesBy : List ℕ → List ℕ → Rules → Result Subject EngineFault → Type 0
PreparesBy layout kernels r =
    Then (KernelsGive kernels) (λ set.
    Then (LayoutPrepares layout r) (λ p result.
    result ≡ Ok (record { head = p.head; target = p.target; fragments = p.fragments; set = set; rules = r })))

-- What the three files give for a correction, or the first refusal: the rules are judged first.
abbrev pub Prepares : List ℕ → List ℕ → List ℕ → Result Subject EngineFault → Type 0
Prepares layout kernels rules =
    Then (RulesGive rules) (λ r.
    PreparesBy layout kernels r)
