-- What each stage of `ready_from` says of the whole.
use Rattle.std.proofs.Common.{◌≡◌, ℕ, ◌≤◌, List, length, refl, sym, subst, inl, inr}
use Rattle.std.specs.Prelude.{◌⊎◌, Option, Some, None, Ok, Err}
use Rattle.opc_base.specs.Plane.{PixelSet}
use Rattle.opc_base.specs.declared.kernels.KernelSet.{KernelSet}
use Rattle.opc_base.specs.declared.rules.CutRules.{CutRules}
use Rattle.opc_base.specs.declared.rules.Rules.{Rules}
use Rattle.gds_model.specs.Library.{StreamLibrary}
use Rattle.outline_model.specs.declared.fragment.Fragment.{Fragment}
use Rattle.rule_file.specs.RuleText.{SaysRules, rule_fault}
use Rattle.rule_file.specs.declared.fault.RuleFault.{RuleFault}
use Rattle.rule_file.specs.declared.fault.RuleFault.TheVariants as rule
use Rattle.cutting.specs.Faults.{IsFault}
use Rattle.cutting.specs.declared.region_pieces.CutFault.{CutFault}
use Rattle.cutting.specs.declared.region_pieces.CutFault.TheVariants as cut
use Rattle.opc_engine.specs.declared.fault.EngineFault.{EngineFault}
use Rattle.opc_engine.specs.declared.fault.EngineFault.TheVariants as engine
use Rattle.opc_engine.specs.declared.limits.TheConstants.{MAX_RULES}
use Rattle.opc_engine.specs.LayoutTarget.{IsRead, IsUnread, StructuresGive}
use Rattle.opc_engine.specs.Prepare.{CutGives, LayoutPrepares, Pattern, Prepares, PreparesBy, RulesGive, RulesOrFault, Subject, TargetKeeps}
use Rattle.opc_engine.specs.Probe.{kernel_result}
use Rattle.opc_engine.specs.Wrapped.{wrapped_cut, wrapped_rules}

-- ---- single stages

module _ (bytes : List ℕ) (short : length bytes ≤ MAX_RULES) where
  refused : (f : RuleFault) → rule_fault bytes ≡ Some f → RulesGive bytes (Err (engine.Rules f))
  refused f is =
      let P : Option RuleFault → Type 0 = λ o. RulesOrFault bytes o (Err (engine.Rules f)) in
      inr (short, subst P (sym is) refl)

  pub rules_read : (r : Rules) → rule_fault bytes ≡ None → SaysRules bytes r → RulesGive bytes (Ok r)
  rules_read r none says =
      let P : Option RuleFault → Type 0 = λ o. RulesOrFault bytes o (Ok r) in
      inr (short, subst P (sym none) (r, (says, refl)))

  -- the reader's fault is the file's refusal, or want of memory
  pub rules_refused : (f : RuleFault) → (f ≡ rule.NoMemory) ⊎ (rule_fault bytes ≡ Some f) → (wrapped_rules f ≡ engine.NoMemory) ⊎ RulesGive bytes (Err (wrapped_rules f))
  rules_refused rule.NoMemory is = inl refl
  rules_refused rule.NotToml is = elim is [ inl none ↦ cc | inr wrong ↦ inr (refused rule.NotToml wrong) ]
  rules_refused rule.Unknown is = elim is [ inl none ↦ cc | inr wrong ↦ inr (refused rule.Unknown wrong) ]
  rules_refused (rule.MissingKey key) is = elim is [ inl none ↦ cc | inr wrong ↦ inr (refused (rule.MissingKey key) wrong) ]
  rules_refused (rule.WrongType key) is = elim is [ inl none ↦ cc | inr wrong ↦ inr (refused (rule.WrongType key) wrong) ]
  rules_refused (rule.OutOfRange key) is = elim is [ inl none ↦ cc | inr wrong ↦ inr (refused (rule.OutOfRange key) wrong) ]

pub cut_refused : (rules : CutRules) (target : PixelSet) (f : CutFault) → IsFault target rules f → (wrapped_cut f ≡ engine.NoMemory) ⊎ CutGives rules target (Err (wrapped_cut f))
cut_refused rules target cut.NoMemory is = inl refl
cut_refused rules target (cut.TooManyFragments count) is = inr (inl (count, (is, refl)))

-- ---- the stages of a layout

abbrev LayoutEndsBy : List ℕ → Rules → EngineFault → Type 0
LayoutEndsBy layout r f = (f ≡ engine.NoMemory) ⊎ LayoutPrepares layout r (Err f)

module _ (layout : List ℕ) (r : Rules) where
  pub at_library : (f : EngineFault) → (f ≡ engine.NoMemory) ⊎ IsUnread layout f → LayoutEndsBy layout r f
  at_library f (inl none) = inl none
  at_library f (inr is) = inr (inl (f, (inl (f, (is, refl)), refl)))

  module _ (library : StreamLibrary) (read : IsRead layout library) where
    pub at_target : (f : EngineFault) → (f ≡ engine.NoMemory) ⊎ StructuresGive library.structures r.pick (Err f) → LayoutEndsBy layout r f
    at_target f (inl none) = inl none
    at_target f (inr is) = inr (inr (library, (inr (library, (read, refl)), inl (f, (is, refl)))))

    module _ (pixels : PixelSet) (placed : StructuresGive library.structures r.pick (Ok pixels)) where
      pub at_mask_rules : (f : EngineFault) → (f ≡ engine.NoMemory) ⊎ TargetKeeps r.mask pixels (Err f) → LayoutEndsBy layout r f
      at_mask_rules f (inl none) = inl none
      at_mask_rules f (inr is) = inr (inr (library, (inr (library, (read, refl)), inr (pixels, (placed, inl (f, (is, refl)))))))

      module _ (kept : TargetKeeps r.mask pixels (Ok pixels)) where
        pub at_cut : (f : EngineFault) → (f ≡ engine.NoMemory) ⊎ CutGives r.cut pixels (Err f) → LayoutEndsBy layout r f
        at_cut f (inl none) = inl none
        at_cut f (inr is) =
            inr (inr (library, (inr (library, (read, refl)), inr (pixels, (placed, inr (pixels, (kept, inl (f, (is, refl)))))))))

        pub layout_accepted : (fragments : List Fragment) → CutGives r.cut pixels (Ok fragments)
            → LayoutPrepares layout r (Ok (record { head = library.head; target = pixels; fragments = fragments }))
        layout_accepted fragments is =
            inr (library, (inr (library, (read, refl)), inr (pixels, (placed, inr (pixels, (kept, inr (fragments, (is, refl))))))))

-- ---- the kernels come before the layout

abbrev EndsBy : List ℕ → List ℕ → Rules → EngineFault → Type 0
EndsBy layout kernels r f = (f ≡ engine.NoMemory) ⊎ PreparesBy layout kernels r (Err f)

module _ (layout kernels : List ℕ) (r : Rules) where
  pub at_kernels : (f : EngineFault) → (f ≡ engine.NoMemory) ⊎ (kernel_result kernels ≡ Err f) → EndsBy layout kernels r f
  at_kernels f (inl none) = inl none
  at_kernels f (inr is) = inr (inl (f, (sym is, refl)))

  module _ (set : KernelSet) (set_is : kernel_result kernels ≡ Ok set) where
    pub at_layout : (f : EngineFault) → LayoutEndsBy layout r f → EndsBy layout kernels r f
    at_layout f (inl none) = inl none
    at_layout f (inr is) = inr (inr (set, (sym set_is, inl (f, (is, refl)))))

    pub accepted : (p : Pattern) → LayoutPrepares layout r (Ok p)
        → PreparesBy layout kernels r (Ok (record { head = p.head; target = p.target; fragments = p.fragments; set = set; rules = r }))
    accepted p is = inr (set, (sym set_is, inr (p, (is, refl))))

-- ---- the rules come first

module _ (layout kernels rules : List ℕ) where
  pub at_rules : (f : EngineFault) → (f ≡ engine.NoMemory) ⊎ RulesGive rules (Err f) → (f ≡ engine.NoMemory) ⊎ Prepares layout kernels rules (Err f)
  at_rules f (inl none) = inl none
  at_rules f (inr is) = inr (inl (f, (is, refl)))

  pub after_rules : (r : Rules) → RulesGive rules (Ok r) → (f : EngineFault) → EndsBy layout kernels r f → (f ≡ engine.NoMemory) ⊎ Prepares layout kernels rules (Err f)
  after_rules r read f (inl none) = inl none
  after_rules r read f (inr is) = inr (inr (r, (read, is)))

  pub accepted_rules : (r : Rules) → RulesGive rules (Ok r) → (s : Subject) → PreparesBy layout kernels r (Ok s) → Prepares layout kernels rules (Ok s)
  accepted_rules r read s is = inr (r, (read, is))
