-- Kernel files one after the other: what they give together, and that they give one result.
use Rattle.std.proofs.Common.{◌≡◌, ℕ, suc, ◌+◌, ◌<◌, List, [], ◌∷◌, ◌++◌, take, drop, length, get_or, map, arith, refl, sym, ap, subst, ◌∙◌, inl, inr}
use Rattle.std.specs.Prelude.{◌⊎◌, Result, Ok, Err}
use Rattle.std.proofs.Math.Seq.{drop-cons, take-suc}
use Rattle.std.proofs.lemmas.List.{take-append-drop}
use Rattle.opc_engine.specs.declared.fault.EngineFault.{EngineFault}
use Rattle.opc_engine.specs.declared.fault.EngineFault.TheVariants as engine
use Rattle.opc_base.specs.declared.kernels.KernelSet.{KernelSet}
use Rattle.opc_base.specs.declared.rules.Rules.{Rules}
use Rattle.opc_engine.specs.declared.limits.TheConstants.{MAX_KERNELS, MAX_LAYOUT, MAX_RULES}
use Rattle.opc_engine.specs.Prepare.{KernelsGive, LayoutPrepares, Pattern, RulesGive}
use Rattle.opc_engine.specs.PrepareSets.{PreparesSets, SetsGive, WindowSubject}
use Rattle.opc_engine.specs.Probe.{kernel_result}
use Rattle.opc_engine.specs.Stages.{Then}
use Rattle.opc_engine.proofs.CorrectionLaws.{kernels_of_cut, layout_of_cut, layout_one, rules_of_cut, rules_one}
use Rattle.opc_engine.proofs.StageLaws.{IsOne, not_fault, same_value, then_map, then_one}

-- one file more has its kernels
sets_before : (files : List (List ℕ)) (file : List ℕ) (sets : List KernelSet) (set : KernelSet) → SetsGive files (Ok sets) → KernelsGive file (Ok set)
    → SetsGive (files ++ file ∷ []) (Ok (sets ++ set ∷ []))
sets_before [] file sets set gives here =
    let none : sets ≡ [] = same_value sets [] gives in
    inr (set, (here, inr ([], (refl, ap (λ s. Ok (s ++ set ∷ [])) none))))
sets_before (first ∷ files) file sets set (inl a) here = absurd (not_fault a.0 sets (sym a.1.1))
sets_before (first ∷ files) file sets set (inr (s, (has, inl a))) here = absurd (not_fault a.0 sets (sym a.1.1))
sets_before (first ∷ files) file sets set (inr (s, (has, inr (rest, (gives, is))))) here =
    let same : sets ≡ s ∷ rest = same_value sets (s ∷ rest) is in
    inr (s, (has, inr (rest ++ set ∷ [], (sets_before files file rest set gives here, ap (λ t. Ok (t ++ set ∷ [])) same))))

-- the first file that has none is refused
refused_after : (files : List (List ℕ)) (file : List ℕ) (more : List (List ℕ)) (sets : List KernelSet) (f : EngineFault) → SetsGive files (Ok sets)
    → KernelsGive file (Err f) → SetsGive (files ++ file ∷ more) (Err f)
refused_after [] file more sets f gives here = inl (f, (here, refl))
refused_after (first ∷ files) file more sets f (inl a) here = absurd (not_fault a.0 sets (sym a.1.1))
refused_after (first ∷ files) file more sets f (inr (s, (has, inl a))) here = absurd (not_fault a.0 sets (sym a.1.1))
refused_after (first ∷ files) file more sets f (inr (s, (has, inr (rest, (gives, is))))) here =
    inr (s, (has, inl (f, (refused_after files file more rest f gives here, refl))))

-- the file at a place of a list, as it was read
module _ (files : List (List ℕ)) (i : ℕ) (file seen : List ℕ) (below : i < length files) (at : file ≡ get_or files i file) (same : seen ≡ file) where
  pub sets_more : (sets : List KernelSet) (set : KernelSet) → SetsGive (take i files) (Ok sets) → kernel_result seen ≡ Ok set
      → SetsGive (take (i + 1) files) (Ok (sets ++ set ∷ []))
  sets_more sets set gives here =
      let P : List (List ℕ) → Type 0 = λ fs. SetsGive fs (Ok (sets ++ set ∷ [])) in
      let Q : List ℕ → Type 0 = λ f. SetsGive (take i files ++ f ∷ []) (Ok (sets ++ set ∷ [])) in
      let N : ℕ → Type 0 = λ n. SetsGive (take n files) (Ok (sets ++ set ∷ [])) in
      let next : suc i ≡ i + 1 = omega arith in
      subst N next (subst P (sym (take-suc files i file below)) (subst Q (same ∙ at) (sets_before (take i files) seen sets set gives (sym here))))

  pub sets_refused : (sets : List KernelSet) (f : EngineFault) → SetsGive (take i files) (Ok sets) → (f ≡ engine.NoMemory) ⊎ (kernel_result seen ≡ Err f)
      → (f ≡ engine.NoMemory) ⊎ SetsGive files (Err f)
  sets_refused sets f gives (inl none) = inl none
  sets_refused sets f gives (inr here) =
      let P : List (List ℕ) → Type 0 = λ fs. SetsGive fs (Err f) in
      let Q : List (List ℕ) → Type 0 = λ fs. SetsGive (take i files ++ fs) (Err f) in
      let R : List ℕ → Type 0 = λ x. SetsGive (take i files ++ x ∷ drop (suc i) files) (Err f) in
      inr (subst P (take-append-drop i files) (subst Q (sym (drop-cons files i file below)) (subst R (same ∙ at) (refused_after (take i files) seen (drop (suc i) files) sets f gives (sym here)))))

-- they give one result
pub sets_one : (files : List (List ℕ)) → IsOne (SetsGive files)
sets_one [] p q a b = a ∙ sym b
sets_one (file ∷ files) p q a b =
    then_one (KernelsGive file) (λ set. Then (SetsGive files) (λ sets given. given ≡ Ok (set ∷ sets))) (λ p q a b. a ∙ sym b) (λ set _.
    then_one (SetsGive files) (λ sets given. given ≡ Ok (set ∷ sets)) (sets_one files) (λ sets _ p q a b. a ∙ sym b)) p q a b

pub prepares_sets_one : (layout : List ℕ) (kernels : List (List ℕ)) (rules : List ℕ) → IsOne (PreparesSets layout kernels rules)
prepares_sets_one layout kernels rules =
    then_one _ _ (rules_one rules) (λ r _.
    then_one _ _ (sets_one kernels) (λ sets _.
    then_one _ _ (layout_one layout r) (λ pattern _ p q a b. a ∙ sym b)))

-- ---- what each stage says of the whole

abbrev EndsSets : List ℕ → List (List ℕ) → List ℕ → EngineFault → Type 0
EndsSets layout kernels rules f = (f ≡ engine.NoMemory) ⊎ PreparesSets layout kernels rules (Err f)

module _ (layout : List ℕ) (kernels : List (List ℕ)) (rules : List ℕ) where
  pub at_rule_file : (f : EngineFault) → (f ≡ engine.NoMemory) ⊎ RulesGive rules (Err f) → EndsSets layout kernels rules f
  at_rule_file f (inl none) = inl none
  at_rule_file f (inr is) = inr (inl (f, (is, refl)))

  module _ (r : Rules) (read : RulesGive rules (Ok r)) where
    pub at_kernel_files : (f : EngineFault) → (f ≡ engine.NoMemory) ⊎ SetsGive kernels (Err f) → EndsSets layout kernels rules f
    at_kernel_files f (inl none) = inl none
    at_kernel_files f (inr is) = inr (inr (r, (read, inl (f, (is, refl)))))

    module _ (sets : List KernelSet) (are : SetsGive kernels (Ok sets)) where
      pub at_layout_file : (f : EngineFault) → (f ≡ engine.NoMemory) ⊎ LayoutPrepares layout r (Err f) → EndsSets layout kernels rules f
      at_layout_file f (inl none) = inl none
      at_layout_file f (inr is) = inr (inr (r, (read, inr (sets, (are, inl (f, (is, refl)))))))

      pub sets_accepted : (p : Pattern) → LayoutPrepares layout r (Ok p)
          → PreparesSets layout kernels rules (Ok (record { head = p.head; target = p.target; fragments = p.fragments; rules = r; sets = sets }))
      sets_accepted p is = inr (r, (read, inr (sets, (are, inr (p, (is, refl))))))

-- ---- files that are cut

sets_of_cut : (k : ℕ) (files : List (List ℕ)) → MAX_KERNELS < k → (p : Result (List KernelSet) EngineFault) → SetsGive (map (take k) files) p → SetsGive files p
sets_of_cut k [] more p gives = gives
sets_of_cut k (file ∷ files) more p gives =
    then_map (KernelsGive (take k file)) (KernelsGive file) (λ set. Then (SetsGive (map (take k) files)) (λ sets given. given ≡ Ok (set ∷ sets)))
    (λ set. Then (SetsGive files) (λ sets given. given ≡ Ok (set ∷ sets))) (λ p. kernels_of_cut k file p more) (λ set.
    then_map (SetsGive (map (take k) files)) (SetsGive files) (λ sets given. given ≡ Ok (set ∷ sets)) (λ sets given. given ≡ Ok (set ∷ sets)) (sets_of_cut k files more) (λ sets p a. a)) p gives

-- files that are cut past their limits give as much
pub prepare_of_cut : (layout : List ℕ) (kernels : List (List ℕ)) (rules : List ℕ) (l k n : ℕ) → MAX_LAYOUT < l → MAX_KERNELS < k → MAX_RULES < n
    → (p : Result WindowSubject EngineFault) → PreparesSets (take l layout) (map (take k) kernels) (take n rules) p → PreparesSets layout kernels rules p
prepare_of_cut layout kernels rules l k n more_layout more_kernels more_rules =
    then_map _ _ _ _ (λ p. rules_of_cut n rules p more_rules) (λ r.
    then_map _ _ _ _ (sets_of_cut k kernels more_kernels) (λ sets.
    then_map _ _ _ _ (layout_of_cut l layout r more_layout) (λ pattern p a. a)))
