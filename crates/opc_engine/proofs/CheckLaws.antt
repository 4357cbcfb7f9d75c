-- What a check makes of what is ready, and that its files call for one answer.
use Rattle.std.proofs.Common.{◌≡◌, ◌⊎◌, inl, inr, ℕ, ◌<◌, ◌≤◌, ℤ, List, length, take, refl, ap, ap₂, sym, ◌∙◌, subst, arith}
use Rattle.std.proofs.Math.Path.{fun_ext}
use Rattle.std.specs.Prelude.{Result, Ok, Err, IfOk, All}
use Rattle.std.proofs.lemmas.Int.{ints}
use Rattle.opc_base.proofs.ListsInOrder.{same_if_ordered}
use Rattle.gds_writer.specs.Expansion.{ExpandsTo}
use Rattle.gds_writer.specs.MaskFile.{mask_file}
use Rattle.opc_base.proofs.CanonicalIsUnique.{canonical_is_unique}
use Rattle.opc_base.specs.Canonical.{IsCanonical}
use Rattle.opc_base.specs.Plane.{IsRectWithin, PixelSet, cover}
use Rattle.opc_base.specs.declared.fault.NoMemory.{NoMemory}
use Rattle.opc_base.specs.declared.kernels.KernelSet.{KernelSet}
use Rattle.opc_base.specs.declared.plane.Rect.{Rect}
use Rattle.opc_session.specs.Sessions.{SessionValue, mask_of}
use Rattle.print_check.specs.Flaws.{AreFlaws, ComesBefore, line_rank}
use Rattle.print_check.specs.Printed.{printed_in}
use Rattle.print_check.specs.declared.flaw.Flaw.{Flaw}
use Rattle.opc_engine.specs.Checks.{CheckGives, Checks, IsFlawList, IsPrintFile, PreparesCheck, printed_at}
use Rattle.opc_engine.specs.FlawList.{counts_of_print, flaw_list}
use Rattle.opc_engine.specs.Prepare.{Prepares, Subject}
use Rattle.opc_engine.specs.Printing.{IsChecked, IsRunMask, IsStored}
use Rattle.opc_engine.specs.Ready.{subject_of}
use Rattle.opc_engine.specs.Runs.{IsRun, at_offsets}
use Rattle.opc_engine.specs.Standing.{HasRun, IsOver}
use Rattle.opc_engine.specs.Windows.{WindowGives, margin_of, window_or_fault}
use Rattle.opc_engine.specs.declared.answer.Answer.{Answer}
use Rattle.opc_engine.specs.declared.fault.EngineFault.{EngineFault}
use Rattle.opc_engine.specs.declared.fault.EngineFault.TheVariants as engine
use Rattle.opc_engine.specs.declared.limits.TheConstants.{MAX_KERNELS, MAX_LAYOUT, MAX_RULES}
use Rattle.opc_engine.specs.declared.ready.Ready.{Ready}
use Rattle.opc_engine.proofs.CorrectionLaws.{answer_one, prepares_of_cut, prepares_one}
use Rattle.opc_engine.proofs.RunLaws.{run_one}
use Rattle.opc_engine.proofs.StageLaws.{IsOne, done, not_fault, same_fault, same_value, then_map, then_one}
use Rattle.opc_engine.proofs.StandingLaws.{over_is}
use Rattle.opc_engine.proofs.WindowLaws.{window_one}

-- ---- what is printed of the mask of a run
checked : (p : Ready) (window : Rect) (mask printed : List Rect) (set : KernelSet) (answer : Answer) → set ≡ p.kernels → IsRunMask p mask
    → ((x y : ℤ) → cover printed x y ≡ printed_in set (cover mask) p.rules.site.threshold window x y) → IsStored p printed answer → IsChecked p window answer
checked p window mask printed set answer same m pixels stored =
    let of_run : cover mask ≡ mask_of (at_offsets (subject_of p) m.offsets) = fun_ext (λ x. fun_ext (λ y. m.pixels x y)) in
    let here : cover printed ≡ printed_in set (cover mask) p.rules.site.threshold window = fun_ext (λ x. fun_ext (λ y. pixels x y)) in
    let is : cover printed ≡ printed_at (subject_of p) m.offsets window =
    here ∙ ap₂ (λ s t. printed_in s t p.rules.site.threshold window) same of_run in
    record {
      offsets = m.offsets;
      rounds = m.rounds;
      run = m.run;
      rects = printed;
      printed = subst (λ (q : PixelSet). IsPrintFile (subject_of p) q answer printed) is stored.printed;
      listed = subst (λ (q : PixelSet). IsFlawList (subject_of p) q answer (length printed)) is stored.listed;
    }

pub checked_is : (p : Ready) (window : Rect) (mask printed : List Rect) (set : KernelSet) (result : Result Answer NoMemory) → set ≡ p.kernels → IsRunMask p mask
    → ((x y : ℤ) → cover printed x y ≡ printed_in set (cover mask) p.rules.site.threshold window x y) → IfOk result (IsStored p printed) → IfOk result (IsChecked p window)
checked_is p window mask printed set (Ok answer) same m pixels stored = checked p window mask printed set answer same m pixels stored
checked_is p window mask printed set (Err e) same m pixels stored = tt

-- the mask of a session that a run led to
mask_after : (p : Ready) (s : SessionValue) (lines : List ℕ) (made : ℕ) (mask : List Rect) → IsOver p s → HasRun p s lines made → ((x y : ℤ) → cover mask x y ≡ mask_of s x y)
    → length mask ≤ 65536 → All (IsRectWithin 1048128) mask → IsRunMask p mask
mask_after p s lines made mask over run pixels few within = record {
  offsets = s.offsets;
  rounds = run.summaries;
  run = run.run;
  pixels = λ x y. pixels x y ∙ ap (λ (t : SessionValue). mask_of t x y) (over_is p s over);
  few = few;
  within = within;
}

pub run_mask_is : (p : Ready) (s : SessionValue) (lines : List ℕ) (made : ℕ) (result : Result (List Rect) NoMemory) → IsOver p s → HasRun p s lines made
    → IfOk result (λ mask. (x y : ℤ) → cover mask x y ≡ mask_of s x y) → IfOk result (λ mask. length mask ≤ 65536) → IfOk result (All (IsRectWithin 1048128))
    → IfOk result (IsRunMask p)
run_mask_is p s lines made (Ok mask) over run pixels few within = mask_after p s lines made mask over run pixels few within
run_mask_is p s lines made (Err e) over run pixels few within = tt

-- what is stored of printed pixels
pub stored_is : (p : Ready) (rects : List Rect) (found lent : List Flaw) (answer : Answer) (grid width : ℤ) (n : ℕ) → grid ≡ p.rules.pick.grid
    → width ≡ p.rules.mask.width → IsCanonical (cover rects) rects → answer.mask ≡ mask_file p.head p.rules.out grid rects
    → ExpandsTo answer.mask p.rules.out.name p.rules.out.layer p.rules.out.datatype grid (cover rects) → AreFlaws (cover p.region) (cover rects) width found
    → lent ≡ found → n ≡ length rects → answer.table ≡ flaw_list n lent → answer.line ≡ counts_of_print n lent → IsStored p rects answer
stored_is p rects found lent answer grid width n grid_is width_is canonical file expands flaws same count list line = record {
  printed = record {
    canonical = canonical;
    file = file ∙ ap (λ (g : ℤ). mask_file p.head p.rules.out g rects) grid_is;
    expands = subst (λ (g : ℤ). ExpandsTo answer.mask p.rules.out.name p.rules.out.layer p.rules.out.datatype g (cover rects)) grid_is expands;
  };
  listed = record {
    flaws = found;
    flaws_are = subst (λ (w : ℤ). AreFlaws (cover p.region) (cover rects) w found) width_is flaws;
    list = list ∙ ap₂ flaw_list count same;
    line = line ∙ ap₂ counts_of_print count same;
  };
}

-- ---- the stages
module _ (layout kernels rules : List ℕ) where
  pub at_window : (s : Subject) (f : EngineFault) → Prepares layout kernels rules (Ok s) → WindowGives s (Err f) → (f ≡ engine.NoMemory) ⊎ PreparesCheck layout kernels rules (Err f)
  at_window s f accepted is = inr (inr (s, (accepted, inl (f, (is, refl)))))

  pub check_is : (p : Ready) (window : Rect) (answer : Answer) → Prepares layout kernels rules (Ok (subject_of p)) → WindowGives (subject_of p) (Ok window)
      → IsChecked p window answer → Checks layout kernels rules answer
  check_is p window answer accepted is c = record {
    subject = subject_of p;
    window = window;
    accepted = inr (subject_of p, (accepted, inr (window, (is, refl))));
    offsets = c.offsets;
    rounds = c.rounds;
    run = c.run;
    rects = c.rects;
    printed = c.printed;
    listed = c.listed;
  }

-- ---- one list of flaws
level : (f g : Flaw) → f.line ≡ g.line → line_rank f.line ≡ line_rank g.line
level f g same = ap line_rank same

not_both : (f g : Flaw) → ComesBefore f g → ¬ ComesBefore g f
not_both f g (inl a) (inl b) = omega arith
not_both f g (inl a) (inr (inl b)) = let e = level g f b.0 in omega arith
not_both f g (inl a) (inr (inr (inl b))) = let e = level g f b.0 in omega arith
not_both f g (inl a) (inr (inr (inr b))) = let e = level g f b.0 in omega arith
not_both f g (inr (inl a)) (inl b) = let e = level f g a.0 in omega arith
not_both f g (inr (inl a)) (inr (inl b)) = omega (arith, ints, a.1, b.1)
not_both f g (inr (inl a)) (inr (inr (inl b))) = omega (arith, ints, a.1, b.1)
not_both f g (inr (inl a)) (inr (inr (inr b))) = omega (arith, ints, a.1, b.1)
not_both f g (inr (inr (inl a))) (inl b) = let e = level f g a.0 in omega arith
not_both f g (inr (inr (inl a))) (inr (inl b)) = omega (arith, ints, a.1, b.1)
not_both f g (inr (inr (inl a))) (inr (inr (inl b))) = omega (arith, ints, a.2, b.2)
not_both f g (inr (inr (inl a))) (inr (inr (inr b))) = omega (arith, ints, a.2, b.2)
not_both f g (inr (inr (inr a))) (inl b) = let e = level f g a.0 in omega arith
not_both f g (inr (inr (inr a))) (inr (inl b)) = omega (arith, ints, a.1, b.1)
not_both f g (inr (inr (inr a))) (inr (inr (inl b))) = omega (arith, ints, a.2, b.2)
not_both f g (inr (inr (inr a))) (inr (inr (inr b))) = let p = a.3 in let q = b.3 in omega arith

flaws_one : (target printed : PixelSet) (width : ℤ) (a b : List Flaw) → AreFlaws target printed width a → AreFlaws target printed width b → a ≡ b
flaws_one target printed width a b x y =
    same_if_ordered ComesBefore not_both a b x.sorted y.sorted (λ f at. y.complete f (x.each f at)) (λ f at. x.complete f (y.each f at))

-- ---- one answer
module _ (s : Subject) (printed : PixelSet) where
  stored_one : (a b : Answer) (xs ys : List Rect) → IsPrintFile s printed a xs → IsPrintFile s printed b ys → (xs ≡ ys) × (a.mask ≡ b.mask)
  stored_one a b xs ys x y =
      let same = canonical_is_unique printed xs ys x.canonical y.canonical in
      (same, x.file ∙ ap (mask_file s.head s.rules.out s.rules.pick.grid) same ∙ sym y.file)

  listed_one : (a b : Answer) (m n : ℕ) → m ≡ n → IsFlawList s printed a m → IsFlawList s printed b n → (a.table ≡ b.table) × (a.line ≡ b.line)
  listed_one a b m n count x y =
      let same = flaws_one s.target printed s.rules.mask.width x.flaws y.flaws x.flaws_are y.flaws_are in
      (x.list ∙ ap₂ flaw_list count same ∙ sym y.list, x.line ∙ ap₂ counts_of_print count same ∙ sym y.line)

  made_one : (a b : Answer) (xs ys : List Rect) → IsPrintFile s printed a xs → IsFlawList s printed a (length xs) → IsPrintFile s printed b ys
      → IsFlawList s printed b (length ys) → a ≡ b
  made_one a b xs ys x v y w =
      let files = stored_one a b xs ys x y in
      let lists = listed_one a b (length xs) (length ys) (ap length files.0) v w in
      answer_one a b files.1 lists.0 lists.1

window_gives_one : (s : Subject) → IsOne (WindowGives s)
window_gives_one s p q a b = a.1.1 ∙ ap window_or_fault (window_one s.target (margin_of s) a.0 b.0 a.1.0 b.1.0) ∙ sym b.1.1

module _ (layout kernels rules : List ℕ) where
  prepares_check_one : IsOne (PreparesCheck layout kernels rules)
  prepares_check_one =
      then_one _ _ (prepares_one layout kernels rules) (λ subject _.
      then_one (WindowGives subject) _ (window_gives_one subject) (λ window _ p q a b. a ∙ sym b))

  same_pair : (s t : Subject) (v w : Rect) → done {A = Subject × Rect} (s, v) ≡ done {A = Subject × Rect} (t, w) → (s ≡ t) × (v ≡ w)
  same_pair s t v w e = let pair = same_value {A = Subject × Rect} (s, v) (t, w) e in (λ i. (pair i).0, λ i. (pair i).1)

  checks_agree : (a b : Answer) → Checks layout kernels rules a → Checks layout kernels rules b → a ≡ b
  checks_agree a b x y =
      let same = same_pair x.subject y.subject x.window y.window (prepares_check_one (Ok (x.subject, x.window)) (Ok (y.subject, y.window)) x.accepted y.accepted) in
      let P : Subject → Type 0 = λ s. IsRun s x.offsets x.rounds × IsPrintFile s (printed_at s x.offsets x.window) a x.rects
      × IsFlawList s (printed_at s x.offsets x.window) a (length x.rects) in
      let there = subst P same.0 (x.run, x.printed, x.listed) in
      let offsets = (run_one y.subject x.offsets y.offsets x.rounds y.rounds there.0 y.run).0 in
      let image : printed_at y.subject x.offsets x.window ≡ printed_at y.subject y.offsets y.window = ap₂ (printed_at y.subject) offsets same.1 in
      made_one y.subject (printed_at y.subject y.offsets y.window) a b x.rects y.rects
      (subst (λ (q : PixelSet). IsPrintFile y.subject q a x.rects) image there.1)
      (subst (λ (q : PixelSet). IsFlawList y.subject q a (length x.rects)) image there.2)
      y.printed y.listed

  no_check : (f : EngineFault) (a : Answer) → PreparesCheck layout kernels rules (Err f) → Checks layout kernels rules a → ⊥
  no_check f a x y = not_fault f (y.subject, y.window) (prepares_check_one (Err f) (Ok (y.subject, y.window)) x y.accepted)

  refusals_one : (f g : EngineFault) → PreparesCheck layout kernels rules (Err f) → PreparesCheck layout kernels rules (Err g) → f ≡ g
  refusals_one f g x y = same_fault (Subject × Rect) f g (prepares_check_one (Err f) (Err g) x y)

  pub checks_are_one : IsOne (CheckGives layout kernels rules)
  checks_are_one (Ok a) (Ok b) x y = ap Ok (checks_agree a b x y)
  checks_are_one (Ok a) (Err g) x y = absurd (no_check g a y x)
  checks_are_one (Err f) (Ok b) x y = absurd (no_check f b x y)
  checks_are_one (Err f) (Err g) x y = ap Err (refusals_one f g x y)

-- ---- files that are cut
module _ (layout kernels rules : List ℕ) (l k n : ℕ) (more_layout : MAX_LAYOUT < l) (more_kernels : MAX_KERNELS < k) (more_rules : MAX_RULES < n) where
  prepares_check_of_cut : (r : Result (Subject × Rect) EngineFault) → PreparesCheck (take l layout) (take k kernels) (take n rules) r → PreparesCheck layout kernels rules r
  prepares_check_of_cut =
      then_map _ _ _ _ (prepares_of_cut layout kernels rules l k n more_layout more_kernels more_rules) (λ subject p a. a)

  pub check_of_cut : (r : Result Answer EngineFault) → CheckGives (take l layout) (take k kernels) (take n rules) r → CheckGives layout kernels rules r
  check_of_cut (Ok a) x = record {
    subject = x.subject;
    window = x.window;
    accepted = prepares_check_of_cut (Ok (x.subject, x.window)) x.accepted;
    offsets = x.offsets;
    rounds = x.rounds;
    run = x.run;
    rects = x.rects;
    printed = x.printed;
    listed = x.listed;
  }
  check_of_cut (Err f) x = prepares_check_of_cut (Err f) x
