-- The files and the numbers of bars call for one answer, and it looks no further into the files than one byte past their
-- limits.
use Rattle.std.proofs.Common.{◌≡◌, ◌↔◌, inl, inr, ℕ, ◌<◌, ℤ, Bool, true, false, IsTrue, List, length, take, get_or, refl, ap, sym, ◌∙◌, subst, arith}
use Rattle.std.specs.Prelude.{Result, Ok, Err}
use Rattle.std.proofs.lemmas.Int.{ints}
use Rattle.std.proofs.lemmas.List.{ext_get_or}
use Rattle.gds_writer.specs.MaskFile.{mask_file}
use Rattle.opc_base.proofs.CanonicalIsUnique.{canonical_is_unique}
use Rattle.opc_base.specs.declared.moves.RoundSummary.{RoundSummary}
use Rattle.opc_base.specs.declared.plane.Rect.{Rect}
use Rattle.opc_base.specs.declared.rules.MaskRules.{MaskRules}
use Rattle.opc_base.specs.declared.rules.Rules.{Rules}
use Rattle.assist_bars.specs.Bars.{AreBars, SuitMask}
use Rattle.assist_bars.specs.declared.bar_rules.BarRules.{BarRules}
use Rattle.assist_bars.proofs.BarLaws.{bars_are_unique, bars_have_space}
use Rattle.assist_bars.proofs.KeptRules.{keeps_with_bars}
use Rattle.mask_rules.specs.TargetRules.{KeepsTarget}
use Rattle.opc_session.specs.Sessions.{SessionValue, mask_of}
use Rattle.opc_engine.specs.declared.answer.Answer.{Answer}
use Rattle.opc_engine.specs.declared.bar_key.BarKey.{BarKey}
use Rattle.opc_engine.specs.declared.bar_key.BarKey.TheVariants.{Gap, Width, Min}
use Rattle.opc_engine.specs.declared.fault.EngineFault.{EngineFault}
use Rattle.opc_engine.specs.declared.fault.EngineFault.TheVariants as fault
use Rattle.opc_engine.specs.declared.limits.TheConstants.{MAX_RULES, MAX_KERNELS, MAX_LAYOUT}
use Rattle.opc_engine.specs.Assists.{AssistGives, Assists, IsAssisted, IsBarTabled}
use Rattle.opc_engine.specs.BarRuns.{ArePrinted, Prints, bar_at, own_error}
use Rattle.opc_engine.specs.BarStages.{BarSubject, BarsGive, IsBadKey, NumbersSuit, PreparesBars, WholeGives, with_bars}
use Rattle.opc_engine.specs.BarTable.{bar_end, bar_table}
use Rattle.opc_engine.specs.Corrections.{IsWritten}
use Rattle.opc_engine.specs.ErrorTable.{round_lines}
use Rattle.opc_engine.specs.Prepare.{LayoutPrepares, Pattern, PreparesBy, Subject}
use Rattle.opc_engine.specs.Runs.{at_offsets}
use Rattle.opc_engine.proofs.CorrectionLaws.{answer_one, cut_one, kept, prepares_by_of_cut, prepares_by_one, rules_of_cut, rules_one}
use Rattle.opc_engine.proofs.RunLaws.{run_by_one}
use Rattle.opc_engine.proofs.StageLaws.{IsOne, not_fault, same_fault, then_map, then_one}

-- ---- the numbers

keys_one : (rules : MaskRules) (bars : BarRules) (a b : BarKey) → IsBadKey rules bars a → IsBadKey rules bars b → a ≡ b
keys_one rules bars Gap Gap x y = refl
keys_one rules bars Width Width x y = refl
keys_one rules bars Min Min x y = refl
keys_one rules bars Gap Width x y = absurd (let a = y.0 in omega (arith, ints, x))
keys_one rules bars Gap Min x y = absurd (let a = y.0 in omega (arith, ints, x))
keys_one rules bars Width Gap x y = absurd (let a = x.0 in omega (arith, ints, y))
keys_one rules bars Min Gap x y = absurd (let a = x.0 in omega (arith, ints, y))
keys_one rules bars Width Min x y = absurd (let a = x.1 in let b = y.1 in omega (arith, ints))
keys_one rules bars Min Width x y = absurd (let a = x.1 in let b = y.1 in omega (arith, ints))

not_bad : (rules : MaskRules) (bars : BarRules) (key : BarKey) → IsBadKey rules bars key → SuitMask rules bars → ⊥
not_bad rules bars Gap x suited = let a = suited.gap in omega (arith, ints, x)
not_bad rules bars Width x suited = let a = suited.width in let b = x.1 in omega (arith, ints)
not_bad rules bars Min x suited = let a = suited.min in let b = x.2 in omega (arith, ints)

numbers_one : (rules : MaskRules) (bars : BarRules) → IsOne (NumbersSuit rules bars)
numbers_one rules bars p q (inl a) (inl b) = a.1.1 ∙ ap (λ key. Err (fault.BadBars key)) (keys_one rules bars a.0 b.0 a.1.0 b.1.0) ∙ sym b.1.1
numbers_one rules bars p q (inl a) (inr b) = absurd (not_bad rules bars a.0 a.1.0 b.0)
numbers_one rules bars p q (inr a) (inl b) = absurd (not_bad rules bars b.0 b.1.0 a.0)
numbers_one rules bars p q (inr a) (inr b) = a.1 ∙ sym b.1

-- ---- a target with its bars

record IsJudged (r : Rules) (s : Subject) : Type 0 where
  pub rules : s.rules ≡ r
  pub keeps : KeepsTarget s.rules.mask s.target

layout_keeps : (layout : List ℕ) (r : Rules) (p : Pattern) → LayoutPrepares layout r (Ok p) → KeepsTarget r.mask p.target
layout_keeps layout r p (inl a) = absurd (not_fault a.0 p (sym a.1.1))
layout_keeps layout r p (inr (library, (_, inl a))) = absurd (not_fault a.0 p (sym a.1.1))
layout_keeps layout r p (inr (library, (_, inr (pixels, (_, inl a))))) = absurd (not_fault a.0 p (sym a.1.1))
layout_keeps layout r p (inr (library, (_, inr (pixels, (_, inr (target, (keeps, inl a))))))) = absurd (not_fault a.0 p (sym a.1.1))
layout_keeps layout r p (inr (library, (_, inr (pixels, (_, inr (target, (keeps, inr (fragments, (_, is))))))))) =
    let made : Pattern = record { head = library.head; target = target; fragments = fragments } in
    let same : made ≡ p = cc in
    subst (λ (q : Pattern). KeepsTarget r.mask q.target) same (kept r.mask pixels target keeps)

judged : (layout kernels : List ℕ) (r : Rules) (s : Subject) → PreparesBy layout kernels r (Ok s) → IsJudged r s
judged layout kernels r s (inl a) = absurd (not_fault a.0 s (sym a.1.1))
judged layout kernels r s (inr (set, (_, inl a))) = absurd (not_fault a.0 s (sym a.1.1))
judged layout kernels r s (inr (set, (_, inr (p, (given, is))))) =
    let made : Subject = record { head = p.head; target = p.target; fragments = p.fragments; set = set; rules = r } in
    let same : made ≡ s = cc in
    subst (IsJudged r) same (record { rules = refl; keeps = layout_keeps layout r p given })

bars_one : (bars : BarRules) (s : Subject) → IsOne (BarsGive bars s)
bars_one bars s p q a b = a.1.1 ∙ ap Ok (bars_are_unique s.rules.mask bars s.target a.0 b.0 a.1.0 b.1.0) ∙ sym b.1.1

whole_one : (bars : BarRules) (s : Subject) (kept : List Rect) → SuitMask s.rules.mask bars → AreBars s.rules.mask bars s.target kept → KeepsTarget s.rules.mask s.target
    → IsOne (WholeGives s kept)
whole_one bars s kept suited are keeps =
    let wide = s.rules.mask.width_in_range.0 in let space = s.rules.mask.space_in_range.0 in
    let have = bars_have_space s.rules.mask bars s.target kept wide (omega (arith, ints)) suited are in
    then_one _ _ (cut_one s.rules.cut (with_bars s.target kept) s.rules.mask (keeps_with_bars s.rules.mask s.target kept space have keeps)) (λ fragments _ p q a b. a ∙ sym b)

prepares_bars_one : (layout kernels rules : List ℕ) (bars : BarRules) → IsOne (PreparesBars layout kernels rules bars)
prepares_bars_one layout kernels rules bars =
    then_one _ _ (rules_one rules) (λ r _.
    then_one _ _ (numbers_one r.mask bars) (λ given suits.
    then_one _ _ (prepares_by_one layout kernels r) (λ s ready.
    then_one _ _ (bars_one bars s) (λ kept gives.
    let judge = judged layout kernels r s ready in
    whole_one bars s kept (subst (λ (t : Rules). SuitMask t.mask bars) (sym judge.rules) (suited r.mask given suits)) (are s kept gives) judge.keeps))))
  where
    suited : (mask : MaskRules) (given : BarRules) → NumbersSuit mask bars (Ok given) → SuitMask mask bars
    suited mask given (inl a) = absurd (not_fault (fault.BadBars a.0) given (sym a.1.1))
    suited mask given (inr a) = a.0

    are : (s : Subject) (kept : List Rect) → BarsGive bars s (Ok kept) → AreBars s.rules.mask bars s.target kept
    are s kept gives =
        let same : gives.0 ≡ kept = (let is = gives.1.1 in cc) in
        subst (AreBars s.rules.mask bars s.target) same gives.1.0

-- ---- the answer

same_test : (s t : Bool) (P : Type 0) → (IsTrue s ↔ P) → (IsTrue t ↔ P) → s ≡ t
same_test true true P first second = refl
same_test false false P first second = refl
same_test true false P first second = sym (second.1 (first.0 refl))
same_test false true P first second = first.1 (second.0 refl)

flags_one : (s : SessionValue) (bars : List Rect) (a b : List Bool) → ArePrinted s bars a → ArePrinted s bars b → a ≡ b
flags_one s bars a b x y =
    ext_get_or false a b (x.count ∙ sym y.count)
    (λ k below. same_test (get_or a k false) (get_or b k false) (Prints s (bar_at bars k)) (x.each k (omega (arith, below, x.count))) (y.each k (omega (arith, below, x.count))))

module _ (b : BarSubject) where
  pub assisted_one : (p q : Answer) → IsAssisted b p → IsAssisted b q → p ≡ q
  assisted_one p q x y =
      let run = run_by_one (own_error b.target) b.whole x.offsets y.offsets x.rounds y.rounds x.run y.run in
      let P : List ℤ → Type 0 = λ o. ArePrinted (at_offsets b.whole o) b.bars x.flags
      × IsBarTabled b (at_offsets b.whole o) (round_lines 1 x.rounds) x.flags p x.rects × IsWritten b.whole o p x.rects in
      let there = subst P run.0 (x.printed, x.tabled, x.written) in
      let s = at_offsets b.whole y.offsets in
      let flags = flags_one s b.bars x.flags y.flags there.0 y.printed in
      let rects = canonical_is_unique (mask_of s) x.rects y.rects there.1.canonical y.tabled.canonical in
      answer_one p q
      (there.2.file ∙ ap (mask_file b.whole.head b.whole.rules.out b.whole.rules.pick.grid) rects ∙ sym y.written.file)
      (there.1.table
      ∙ ap (λ (r : List RoundSummary). bar_table b.target s (round_lines 1 r) b.bars x.flags (length x.rects)) run.1
      ∙ ap (λ (f : List Bool). bar_table b.target s (round_lines 1 y.rounds) b.bars f (length x.rects)) flags
      ∙ ap (λ (r : List Rect). bar_table b.target s (round_lines 1 y.rounds) b.bars y.flags (length r)) rects ∙ sym y.tabled.table)
      (there.1.line ∙ ap (λ (r : List Rect). bar_end b.target s (length r)) rects ∙ sym y.tabled.line)

module _ (layout kernels rules : List ℕ) (bars : BarRules) where
  assists_agree : (a b : Answer) → Assists layout kernels rules bars a → Assists layout kernels rules bars b → a ≡ b
  assists_agree a b x y =
      let one = prepares_bars_one layout kernels rules bars (Ok x.subject) (Ok y.subject) x.accepted y.accepted in
      let same : x.subject ≡ y.subject = cc in
      assisted_one y.subject a b (subst (λ (s : BarSubject). IsAssisted s a) same x.assisted) y.assisted

  no_assist : (f : EngineFault) (a : Answer) → PreparesBars layout kernels rules bars (Err f) → Assists layout kernels rules bars a → ⊥
  no_assist f a x y = not_fault f y.subject (prepares_bars_one layout kernels rules bars (Err f) (Ok y.subject) x y.accepted)

  pub assists_are_one : IsOne (AssistGives layout kernels rules bars)
  assists_are_one (Ok a) (Ok b) x y = ap Ok (assists_agree a b x y)
  assists_are_one (Ok a) (Err g) x y = absurd (no_assist g a y x)
  assists_are_one (Err f) (Ok b) x y = absurd (no_assist f b x y)
  assists_are_one (Err f) (Err g) x y = ap Err (same_fault BarSubject f g (prepares_bars_one layout kernels rules bars (Err f) (Err g) x y))

-- ---- files that are cut

module _ (layout kernels rules : List ℕ) (bars : BarRules) (l k n : ℕ) (more_layout : MAX_LAYOUT < l) (more_kernels : MAX_KERNELS < k) (more_rules : MAX_RULES < n) where
  prepares_bars_of_cut : (p : Result BarSubject EngineFault) → PreparesBars (take l layout) (take k kernels) (take n rules) bars p → PreparesBars layout kernels rules bars p
  prepares_bars_of_cut =
      then_map _ _ _ _ (λ p. rules_of_cut n rules p more_rules) (λ r.
      then_map (NumbersSuit r.mask bars) (NumbersSuit r.mask bars) _ _ (λ p a. a) (λ given.
      then_map _ _ _ _ (prepares_by_of_cut layout kernels rules l k n more_layout more_kernels more_rules r) (λ s p a. a)))

  pub assist_of_cut : (p : Result Answer EngineFault) → AssistGives (take l layout) (take k kernels) (take n rules) bars p → AssistGives layout kernels rules bars p
  assist_of_cut (Ok a) x = record { subject = x.subject; accepted = prepares_bars_of_cut (Ok x.subject) x.accepted; assisted = x.assisted }
  assist_of_cut (Err f) x = prepares_bars_of_cut (Err f) x
