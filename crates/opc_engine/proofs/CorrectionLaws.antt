-- The files of a correction call for one answer, and it looks no further into them than one byte past their limits.
use Rattle.std.proofs.Common.{◌≡◌, ℕ, ◌<◌, ◌≤◌, inl, inr, List, [], length, map, take, min, Option, Some, None, refl, ap, sym, ◌∙◌, subst, arith}
use Rattle.std.specs.Prelude.{Result, Ok, Err, nat_lt}
use Rattle.std.proofs.lemmas.List.{length-map, length-take, take_all}
use Rattle.opc_base.proofs.CanonicalIsUnique.{canonical_is_unique}
use Rattle.opc_base.specs.Plane.{PixelSet}
use Rattle.opc_base.specs.declared.broken.Place.TheVariants.{Pixel}
use Rattle.opc_base.specs.declared.broken.RuleName.TheVariants.{M3}
use Rattle.opc_base.specs.declared.kernels.KernelSet.{KernelSet}
use Rattle.opc_base.specs.declared.plane.Rect.{Rect}
use Rattle.opc_base.specs.declared.rules.CutRules.{CutRules}
use Rattle.opc_base.specs.declared.rules.MaskRules.{MaskRules}
use Rattle.opc_base.specs.declared.rules.Rules.{Rules}
use Rattle.gds_model.proofs.Offsets.{distinct_offsets}
use Rattle.gds_model.specs.Library.{StreamLibrary}
use Rattle.gds_library.proofs.OneLibrary.{one_library}
use Rattle.cutting.proofs.BoundaryLaws.{pieces_are_unique}
use Rattle.cutting.proofs.UniqueLaws.{fragments_are_unique}
use Rattle.cutting.specs.Faults.{IsFault}
use Rattle.cutting.specs.declared.region_pieces.CutFault.TheVariants as cut
use Rattle.outline_model.specs.declared.fragment.Fragment.{Fragment}
use Rattle.outline_model.specs.Fragmentation.{AreFragments, piece_of}
use Rattle.mask_rules.specs.TargetRules.{KeepsTarget}
use Rattle.rule_file.specs.RuleText.{rule_fault}
use Rattle.rule_file.specs.declared.fault.RuleFault.{RuleFault}
use Rattle.opc_session.specs.Sessions.{SessionValue, mask_of}
use Rattle.opc_engine.specs.declared.answer.Answer.{Answer}
use Rattle.opc_engine.specs.declared.fault.EngineFault.{EngineFault}
use Rattle.opc_engine.specs.declared.fault.EngineFault.TheVariants as fault
use Rattle.opc_engine.specs.declared.limits.TheConstants.{MAX_RULES, MAX_KERNELS, MAX_LAYOUT}
use Rattle.opc_engine.specs.Corrections.{IsTabled, SimulateGives, Simulates}
use Rattle.opc_engine.specs.ErrorTable.{last_line, table_text}
use Rattle.opc_engine.specs.LayoutTarget.{IsRead}
use Rattle.opc_engine.specs.Prepare.{CutGives, KernelsGive, LayoutPrepares, LibraryGives, Pattern, Prepares, PreparesBy, RulesGive, RulesOrFault, Subject, TargetKeeps}
use Rattle.opc_engine.specs.Runs.{at_offsets, unmoved}
use Rattle.opc_engine.proofs.FirstLaws.{target_broken_one}
use Rattle.opc_engine.proofs.ProbeLaws.{kernels_cut, not_unread, structures_one, unread_of_cut, unread_one}
use Rattle.rule_file.proofs.RulesAreOne.{rules_are_one}
use Rattle.opc_engine.proofs.StageLaws.{IsOne, not_fault, then_map, then_one}

-- ---- each stage gives one result
rules_or_fault_one : (bytes : List ℕ) (o : Option RuleFault) → IsOne (RulesOrFault bytes o)
rules_or_fault_one bytes (Some f) p q a b = a ∙ sym b
rules_or_fault_one bytes None p q a b = a.1.1 ∙ ap Ok (rules_are_one bytes a.0 b.0 a.1.0 b.1.0) ∙ sym b.1.1

pub rules_one : (bytes : List ℕ) → IsOne (RulesGive bytes)
rules_one bytes p q (inl a) (inl b) = a.1 ∙ sym b.1
rules_one bytes p q (inl a) (inr b) = let long = a.0 in let short = b.0 in absurd (omega arith)
rules_one bytes p q (inr a) (inl b) = let short = a.0 in let long = b.0 in absurd (omega arith)
rules_one bytes p q (inr a) (inr b) = rules_or_fault_one bytes (rule_fault bytes) p q a.1 b.1

library_one : (layout : List ℕ) → IsOne (LibraryGives layout)
library_one layout p q (inl a) (inl b) = a.1.1 ∙ ap Err (unread_one layout a.0 b.0 a.1.0 b.1.0) ∙ sym b.1.1
library_one layout p q (inl a) (inr b) = absurd (not_unread layout a.0 b.0 a.1.0 b.1.0)
library_one layout p q (inr a) (inl b) = absurd (not_unread layout b.0 a.0 b.1.0 a.1.0)
library_one layout p q (inr a) (inr b) = a.1.1 ∙ ap Ok (one_library layout a.0 b.0 a.1.0.described b.1.0.described) ∙ sym b.1.1

pub target_one : (rules : MaskRules) (pixels : PixelSet) → IsOne (TargetKeeps rules pixels)
target_one rules pixels p q (inl a) (inl b) = a.1.1 ∙ ap (λ x. Err (fault.Target x)) (target_broken_one rules pixels a.0 b.0 a.1.0 b.1.0) ∙ sym b.1.1
target_one rules pixels p q (inl a) (inr b) = absurd (b.0 a.0.rule a.0.at a.1.0.broken)
target_one rules pixels p q (inr a) (inl b) = absurd (a.0 b.0.rule b.0.at b.1.0.broken)
target_one rules pixels p q (inr a) (inr b) = a.1 ∙ sym b.1

-- too many pieces are not few fragments
not_few : (rules : CutRules) (pixels : PixelSet) (count : ℕ) (fs : List Fragment) → IsFault pixels rules (cut.TooManyFragments count) → AreFragments pixels rules fs
    → length fs ≤ 32768 → ⊥
not_few rules pixels count fs f are few =
    let same : length f.0 ≡ length (map piece_of fs) = ap length (pieces_are_unique pixels rules f.0 (map piece_of fs) f.1 are.pieces) in
    let pieces = length-map fs piece_of in
    let is = f.2 in
    let many = f.3 in
    omega arith

pub cut_one : (rules : CutRules) (pixels : PixelSet) (mask : MaskRules) → KeepsTarget mask pixels → IsOne (CutGives rules pixels)
cut_one rules pixels mask keeps p q (inl a) (inl b) =
    let f = a.1.0 in
    let g = b.1.0 in
    a.1.1 ∙ ap (λ x. Err (fault.TooManyFragments x)) (sym f.2 ∙ ap length (pieces_are_unique pixels rules f.0 g.0 f.1 g.1) ∙ g.2) ∙ sym b.1.1
cut_one rules pixels mask keeps p q (inl a) (inr b) = absurd (not_few rules pixels a.0 b.0 a.1.0 b.1.0 b.1.1)
cut_one rules pixels mask keeps p q (inr a) (inl b) = absurd (not_few rules pixels b.0 a.0 b.1.0 a.1.0 a.1.1)
cut_one rules pixels mask keeps p q (inr a) (inr b) =
    a.1.2 ∙ ap Ok (fragments_are_unique pixels rules a.0 b.0 (λ x y touch. keeps M3 (Pixel (record { x = x; y = y })) touch) a.1.0 b.1.0) ∙ sym b.1.2

-- what is kept is the target
pub kept : (rules : MaskRules) (pixels target : PixelSet) → TargetKeeps rules pixels (Ok target) → KeepsTarget rules target
kept rules pixels target (inl a) = absurd (not_fault (fault.Target a.0) target (sym a.1.1))
kept rules pixels target (inr a) =
    let P : PixelSet → Type 0 = KeepsTarget rules in
    let same : pixels ≡ target = cc in
    subst P same a.0

read : (layout : List ℕ) (library : StreamLibrary) → LibraryGives layout (Ok library) → IsRead layout library
read layout library (inl a) = absurd (not_fault a.0 library (sym a.1.1))
read layout library (inr a) = let same : a.0 ≡ library = cc in subst (IsRead layout) same a.1.0

-- ---- what is prepared is one
pub layout_one : (layout : List ℕ) (r : Rules) → IsOne (LayoutPrepares layout r)
layout_one layout r =
    then_one _ _ (library_one layout) (λ library gives.
    then_one _ _ (λ p q. structures_one library.structures r.pick p q (distinct_offsets layout library (read layout library gives).described)) (λ pixels _.
    then_one _ _ (target_one r.mask pixels) (λ target keeps.
    then_one _ _ (cut_one r.cut target r.mask (kept r.mask pixels target keeps)) (λ fragments _ p q a b. a ∙ sym b))))

pub prepares_by_one : (layout kernels : List ℕ) (r : Rules) → IsOne (PreparesBy layout kernels r)
prepares_by_one layout kernels r =
    then_one (KernelsGive kernels) _ (λ p q a b. a ∙ sym b) (λ set _.
    then_one _ _ (layout_one layout r) (λ pattern _ p q a b. a ∙ sym b))

pub prepares_one : (layout kernels rules : List ℕ) → IsOne (Prepares layout kernels rules)
prepares_one layout kernels rules =
    then_one _ _ (rules_one rules) (λ r _.
    prepares_by_one layout kernels r)

-- ---- answers are one
pub answer_one : (a b : Answer) → a.mask ≡ b.mask → a.table ≡ b.table → a.line ≡ b.line → a ≡ b
answer_one a b p q r = λ i. record { mask = p i; table = q i; line = r i }

pub subject_one : (layout kernels rules : List ℕ) (s t : Subject) → Prepares layout kernels rules (Ok s) → Prepares layout kernels rules (Ok t) → s ≡ t
subject_one layout kernels rules s t a b = let one = prepares_one layout kernels rules (Ok s) (Ok t) a b in cc

-- one table and line of a state
pub tabled_one : (s : SessionValue) (between : List ℕ) (a b : Answer) (xs ys : List Rect) → IsTabled s between a xs → IsTabled s between b ys
    → (xs ≡ ys) × (a.table ≡ b.table) × (a.line ≡ b.line)
tabled_one s between a b xs ys x y =
    let same = canonical_is_unique (mask_of s) xs ys x.canonical y.canonical in
    (same, x.table ∙ ap (λ r. table_text s between (length r)) same ∙ sym y.table, x.line ∙ ap (λ r. last_line s (length r)) same ∙ sym y.line)

module _ (layout kernels rules : List ℕ) where
  pub simulations_agree : (a b : Answer) → Simulates layout kernels rules a → Simulates layout kernels rules b → a ≡ b
  simulations_agree a b x y =
      let P : Subject → Type 0 = λ s. IsTabled (at_offsets s (unmoved s)) [] a x.rects in
      let one = tabled_one (at_offsets y.subject (unmoved y.subject)) [] a b x.rects y.rects
      (subst P (subject_one layout kernels rules x.subject y.subject x.accepted y.accepted) x.tabled) y.tabled in
      answer_one a b (x.no_mask ∙ sym y.no_mask) one.1 one.2

  pub no_simulation : (f : EngineFault) (a : Answer) → Prepares layout kernels rules (Err f) → Simulates layout kernels rules a → ⊥
  no_simulation f a x y = not_fault f y.subject (prepares_one layout kernels rules (Err f) (Ok y.subject) x y.accepted)

  pub refusals_are_one : (f g : EngineFault) → Prepares layout kernels rules (Err f) → Prepares layout kernels rules (Err g) → f ≡ g
  refusals_are_one f g x y = let one = prepares_one layout kernels rules (Err f) (Err g) x y in cc

  pub simulates_are_one : IsOne (SimulateGives layout kernels rules)
  simulates_are_one (Ok a) (Ok b) x y = ap Ok (simulations_agree a b x y)
  simulates_are_one (Ok a) (Err g) x y = absurd (no_simulation g a y x)
  simulates_are_one (Err f) (Ok b) x y = absurd (no_simulation f b x y)
  simulates_are_one (Err f) (Err g) x y = ap Err (refusals_are_one f g x y)

-- ---- files that are cut
pub rules_of_cut : (n : ℕ) (bytes : List ℕ) (p : Result Rules EngineFault) → MAX_RULES < n → RulesGive (take n bytes) p → RulesGive bytes p
rules_of_cut n bytes p more (inl a) =
    let len : length (take n bytes) ≡ min n (length bytes) = length-take n bytes in
    let long = a.0 in
    inl (omega arith, a.1)
rules_of_cut n bytes p more (inr a) =
    let len : length (take n bytes) ≡ min n (length bytes) = length-take n bytes in
    let short = a.0 in
    let few : length bytes ≤ MAX_RULES = omega arith in
    let P : List ℕ → Type 0 = λ b. RulesGive b p in
    subst P (take_all n bytes (omega arith)) (inr a)

pub kernels_of_cut : (n : ℕ) (bytes : List ℕ) (p : Result KernelSet EngineFault) → MAX_KERNELS < n → KernelsGive (take n bytes) p → KernelsGive bytes p
kernels_of_cut n bytes p more a = a ∙ kernels_cut (nat_lt MAX_KERNELS (length bytes)) n bytes more refl

library_of_cut : (n : ℕ) (bytes : List ℕ) (p : Result StreamLibrary EngineFault) → MAX_LAYOUT < n → LibraryGives (take n bytes) p → LibraryGives bytes p
library_of_cut n bytes p more (inl a) = inl (a.0, (unread_of_cut n bytes a.0 more a.1.0, a.1.1))
library_of_cut n bytes p more (inr a) =
    let len : length (take n bytes) ≡ min n (length bytes) = length-take n bytes in
    let short = a.1.0.short in
    let few : length bytes ≤ MAX_LAYOUT = omega arith in
    let P : List ℕ → Type 0 = λ b. IsRead b a.0 in
    inr (a.0, (subst P (take_all n bytes (omega arith)) a.1.0, a.1.1))

pub layout_of_cut : (n : ℕ) (bytes : List ℕ) (r : Rules) → MAX_LAYOUT < n → (p : Result Pattern EngineFault) → LayoutPrepares (take n bytes) r p → LayoutPrepares bytes r p
layout_of_cut n bytes r more =
    then_map _ _ _ _ (λ p. library_of_cut n bytes p more) (λ library p a. a)

module _ (layout kernels rules : List ℕ) (l k n : ℕ) (more_layout : MAX_LAYOUT < l) (more_kernels : MAX_KERNELS < k) (more_rules : MAX_RULES < n) where
  pub prepares_by_of_cut : (r : Rules) (p : Result Subject EngineFault) → PreparesBy (take l layout) (take k kernels) r p → PreparesBy layout kernels r p
  prepares_by_of_cut r =
      then_map _ _ _ _ (λ p. kernels_of_cut k kernels p more_kernels) (λ set.
      then_map _ _ _ _ (layout_of_cut l layout r more_layout) (λ pattern p a. a))

  pub prepares_of_cut : (p : Result Subject EngineFault) → Prepares (take l layout) (take k kernels) (take n rules) p → Prepares layout kernels rules p
  prepares_of_cut =
      then_map _ _ _ _ (λ p. rules_of_cut n rules p more_rules) (λ r.
      prepares_by_of_cut r)

  pub simulates_of_cut : (a : Answer) → Simulates (take l layout) (take k kernels) (take n rules) a → Simulates layout kernels rules a
  simulates_of_cut a x = record {
    subject = x.subject;
    accepted = prepares_of_cut (Ok x.subject) x.accepted;
    rects = x.rects;
    tabled = x.tabled;
    no_mask = x.no_mask;
  }

  pub simulate_of_cut : (r : Result Answer EngineFault) → SimulateGives (take l layout) (take k kernels) (take n rules) r → SimulateGives layout kernels rules r
  simulate_of_cut (Ok a) x = simulates_of_cut a x
  simulate_of_cut (Err f) x = prepares_of_cut (Err f) x
