-- What `window` calls for is one answer, and it looks no further into its files than one byte past their limits.
use Rattle.std.proofs.Common.{◌≡◌, ◌∙◌, ℕ, suc, ◌<◌, List, [], ◌∷◌, length, map, take, refl, ap, sym, subst, inl, inr, arith}
use Rattle.std.proofs.Math.Path.{fun_ext}
use Rattle.std.proofs.lemmas.List.{length-map}
use Rattle.std.proofs.lemmas.List.Elements.{All-cons, All-head, All-nil, All-tail}
use Rattle.std.proofs.lemmas.Slice.Zip.{length-zip}
use Rattle.std.specs.Prelude.{All, Result, Ok, Err, ℤ}
use Rattle.std.specs.List.{zip}
use Rattle.gds_writer.specs.Expansion.{ExpandsTo}
use Rattle.gds_writer.specs.MaskFile.{mask_file}
use Rattle.opc_base.specs.Optics.{KeepsBounds}
use Rattle.opc_base.specs.Plane.{PixelSet, cover}
use Rattle.opc_base.specs.declared.kernels.KernelSet.{KernelSet}
use Rattle.outline_model.specs.Outline.{lines, mask}
use Rattle.process_window.specs.Conditions.{AreConditions, IsCondition}
use Rattle.process_window.specs.Outcomes.{IsOutcome}
use Rattle.process_window.specs.declared.condition.Condition.{Condition}
use Rattle.process_window.specs.declared.outcome.Outcome.{Outcome}
use Rattle.process_window.proofs.UniqueLaws.{outcome_unique}
use Rattle.opc_engine.specs.PrepareSets.{PreparesSets, SetsGive, WindowSubject}
use Rattle.opc_engine.specs.declared.answer.Answer.{Answer}
use Rattle.opc_engine.specs.declared.fault.EngineFault.{EngineFault}
use Rattle.opc_engine.specs.declared.limits.TheConstants.{MAX_KERNELS, MAX_LAYOUT, MAX_RULES}
use Rattle.opc_engine.proofs.CorrectionLaws.{answer_one}
use Rattle.opc_engine.proofs.SetsLaws.{prepare_of_cut, prepares_sets_one}
use Rattle.opc_engine.proofs.StageLaws.{IsOne, not_fault, same_fault, same_value}
use Rattle.opc_cli.specs.Command.{AreConditionsOfWords, IsConditionOfWords}
use Rattle.opc_cli.specs.SeveralConditions.{CorrectUnderGives, CorrectsUnder, IsCorrectedUnder, conditions_with}
use Rattle.opc_cli.specs.declared.conditions.ConditionWords.{ConditionWords}

-- ---- the conditions of words

each_condition : (words : List ConditionWords) (sets : List KernelSet) → All IsConditionOfWords words → All KeepsBounds sets → All IsCondition (conditions_with words sets)
each_condition [] sets ranges bounds = All-nil IsCondition
each_condition (w ∷ words) [] ranges bounds = All-nil IsCondition
each_condition (w ∷ words) (set ∷ sets) ranges bounds =
    let one = All-head IsConditionOfWords w words ranges in
    All-cons IsCondition _ (conditions_with words sets)
    (record { threshold = one.threshold; weighs = one.weighs; light = one.light; bounds = All-head KeepsBounds set sets bounds })
    (each_condition words sets (All-tail IsConditionOfWords w words ranges) (All-tail KeepsBounds set sets bounds))

pub are_conditions : (words : List ConditionWords) (sets : List KernelSet) → AreConditionsOfWords words → All KeepsBounds sets → length sets ≡ length words
    → AreConditions (conditions_with words sets)
are_conditions words sets ranges bounds one_each =
    let pairs = length-zip words sets in
    let count : length (conditions_with words sets) ≡ length (zip words sets) = length-map (zip words sets) _ in
    record {
      some = omega (arith, pairs, count, one_each, ranges.some);
      few = omega (arith, pairs, count, one_each, ranges.few);
      each = each_condition words sets ranges.each bounds;
    }

-- ---- what is accepted has a set for each kernel file

sets_count : (files : List (List ℕ)) (sets : List KernelSet) → SetsGive files (Ok sets) → length sets ≡ length files
sets_count [] sets is = ap length (same_value sets [] is)
sets_count (file ∷ files) sets (inl refused) = absurd (not_fault refused.0 sets (sym refused.1.1))
sets_count (file ∷ files) sets (inr (set, (gives, inl refused))) = absurd (not_fault refused.0 sets (sym refused.1.1))
sets_count (file ∷ files) sets (inr (set, (gives, inr (rest, (give, is))))) =
    ap length (same_value sets (set ∷ rest) is) ∙ ap suc (sets_count files rest give)

pub one_set_each : (layout : List ℕ) (kernels : List (List ℕ)) (rules : List ℕ) (subject : WindowSubject) → PreparesSets layout kernels rules (Ok subject)
    → length subject.sets ≡ length kernels
one_set_each layout kernels rules subject (inl refused) = absurd (not_fault refused.0 subject (sym refused.1.1))
one_set_each layout kernels rules subject (inr (r, (read, inl refused))) = absurd (not_fault refused.0 subject (sym refused.1.1))
one_set_each layout kernels rules subject (inr (r, (read, inr (sets, (give, inl refused))))) = absurd (not_fault refused.0 subject (sym refused.1.1))
one_set_each layout kernels rules subject (inr (r, (read, inr (sets, (give, inr (pattern, (laid, is))))))) =
    ap (λ (s : WindowSubject). length s.sets) (same_value subject _ is) ∙ sets_count kernels sets give

-- ---- what comes of a subject

module _ (subject : WindowSubject) (words : List ConditionWords) (conditions : List Condition) (outcome : Outcome) (file : List ℕ) (grid : ℤ) where
  pub corrected_under : conditions ≡ conditions_with words subject.sets → IsOutcome subject.fragments subject.rules conditions outcome → grid ≡ subject.rules.pick.grid
      → file ≡ mask_file subject.head subject.rules.out grid outcome.mask
      → ExpandsTo file subject.rules.out.name subject.rules.out.layer subject.rules.out.datatype grid (cover outcome.mask)
      → IsCorrectedUnder subject words (record { mask = file; table = outcome.table; line = outcome.line })
  corrected_under are run grid_is file_is expands =
      let out = subject.rules.out in
      let fs = subject.fragments in
      let found : IsOutcome subject.fragments subject.rules (conditions_with words subject.sets) outcome =
      subst (λ (cs : List Condition). IsOutcome subject.fragments subject.rules cs outcome) are run in
      let covered : cover outcome.mask ≡ mask subject.fragments (lines subject.fragments found.offsets) = fun_ext (λ x. fun_ext (λ y. found.outcome.pixels x y)) in
      record {
        outcome = outcome;
        run = found;
        table = refl;
        line = refl;
        file = file_is ∙ ap (λ (g : ℤ). mask_file subject.head out g outcome.mask) grid_is;
        expands = subst (λ (q : PixelSet). ExpandsTo file out.name out.layer out.datatype subject.rules.pick.grid q) covered
            (subst (λ (g : ℤ). ExpandsTo file out.name out.layer out.datatype g (cover outcome.mask)) grid_is expands);
      }

corrected_one : (subject : WindowSubject) (words : List ConditionWords) (a b : Answer) → IsCorrectedUnder subject words a → IsCorrectedUnder subject words b → a ≡ b
corrected_one subject words a b x y =
    let same : x.outcome ≡ y.outcome = outcome_unique subject.fragments subject.rules (conditions_with words subject.sets) y.outcome x.outcome y.run x.run in
    answer_one a b (x.file ∙ ap (λ (o : Outcome). mask_file subject.head subject.rules.out subject.rules.pick.grid o.mask) same ∙ sym y.file)
    (x.table ∙ ap (λ (o : Outcome). o.table) same ∙ sym y.table) (x.line ∙ ap (λ (o : Outcome). o.line) same ∙ sym y.line)

pub corrects_under : (layout : List ℕ) (kernels : List (List ℕ)) (rules : List ℕ) (words given : List ConditionWords) (subject : WindowSubject) (answer : Answer)
    → PreparesSets layout kernels rules (Ok subject) → given ≡ words → IsCorrectedUnder subject given answer → CorrectsUnder layout kernels rules words answer
corrects_under layout kernels rules words given subject answer accepted same corrected =
    let P : List ConditionWords → Type 0 = λ cs. IsCorrectedUnder subject cs answer in
    record { subject = subject; accepted = accepted; corrected = subst P same corrected }

-- ---- there is one answer
module _ (layout : List ℕ) (kernels : List (List ℕ)) (rules : List ℕ) (words : List ConditionWords) where
  under_agree : (a b : Answer) → CorrectsUnder layout kernels rules words a → CorrectsUnder layout kernels rules words b → a ≡ b
  under_agree a b x y =
      let same = same_value x.subject y.subject (prepares_sets_one layout kernels rules (Ok x.subject) (Ok y.subject) x.accepted y.accepted) in
      corrected_one y.subject words a b (subst (λ (s : WindowSubject). IsCorrectedUnder s words a) same x.corrected) y.corrected

  none_refused : (f : EngineFault) (a : Answer) → PreparesSets layout kernels rules (Err f) → CorrectsUnder layout kernels rules words a → ⊥
  none_refused f a x y = not_fault f y.subject (prepares_sets_one layout kernels rules (Err f) (Ok y.subject) x y.accepted)

  pub corrections_under_are_one : IsOne (CorrectUnderGives layout kernels rules words)
  corrections_under_are_one (Ok a) (Ok b) x y = ap Ok (under_agree a b x y)
  corrections_under_are_one (Ok a) (Err g) x y = absurd (none_refused g a y x)
  corrections_under_are_one (Err f) (Ok b) x y = absurd (none_refused f b x y)
  corrections_under_are_one (Err f) (Err g) x y = ap Err (same_fault WindowSubject f g (prepares_sets_one layout kernels rules (Err f) (Err g) x y))

-- ---- files that are cut
module _ (layout : List ℕ) (kernels : List (List ℕ)) (rules : List ℕ) (words : List ConditionWords) (l k n : ℕ) (more_layout : MAX_LAYOUT < l) (more_kernels : MAX_KERNELS < k) (more_rules : MAX_RULES < n) where
  pub correct_under_of_cut : (r : Result Answer EngineFault) → CorrectUnderGives (take l layout) (map (take k) kernels) (take n rules) words r
      → CorrectUnderGives layout kernels rules words r
  correct_under_of_cut (Ok a) x = record {
    subject = x.subject;
    accepted = prepare_of_cut layout kernels rules l k n more_layout more_kernels more_rules (Ok x.subject) x.accepted;
    corrected = x.corrected;
  }
  correct_under_of_cut (Err f) x = prepare_of_cut layout kernels rules l k n more_layout more_kernels more_rules (Err f) x
