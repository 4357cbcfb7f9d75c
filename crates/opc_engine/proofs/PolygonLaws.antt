-- Answers with a mask of polygons.
use Rattle.std.proofs.Common.{◌≡◌, ℕ, ◌<◌, ℤ, List, length, take, sym, subst, ap, ◌∙◌}
use Rattle.std.proofs.Math.Path.{fun_ext}
use Rattle.std.specs.Prelude.{Result, Ok, Err, IfOk}
use Rattle.opc_base.specs.Canonical.{IsCanonical}
use Rattle.opc_base.specs.Plane.{PixelSet, cover}
use Rattle.opc_base.specs.Runs.{IsCornerTouch}
use Rattle.opc_base.specs.declared.broken.Place.TheVariants.{Pixel}
use Rattle.opc_base.specs.declared.broken.RuleName.TheVariants.{M3}
use Rattle.opc_base.specs.declared.fault.NoMemory.{NoMemory}
use Rattle.opc_base.specs.declared.plane.Rect.{Rect}
use Rattle.opc_base.specs.declared.rules.OutPick.{OutPick}
use Rattle.gds_records.specs.declared.library_head.Head.{Head}
use Rattle.gds_writer.specs.Expansion.{ExpandsTo}
use Rattle.gds_writer.specs.Faultless.{IsFaultless}
use Rattle.gds_writer.specs.MaskFile.{outline_file}
use Rattle.mask_polygons.specs.PolygonFile.{IsPolygonFile}
use Rattle.outline_model.specs.Rules.{KeepsRules}
use Rattle.opc_session.specs.Sessions.{SessionValue, mask_of}
use Rattle.opc_engine.specs.declared.answer.Answer.{Answer}
use Rattle.opc_engine.specs.declared.fault.EngineFault.{EngineFault}
use Rattle.opc_engine.specs.declared.limits.TheConstants.{MAX_KERNELS, MAX_LAYOUT, MAX_RULES}
use Rattle.opc_engine.specs.declared.ready.Ready.{Ready}
use Rattle.opc_engine.specs.Corrections.{IsTabled}
use Rattle.opc_engine.specs.ErrorTable.{last_line, round_lines, table_text}
use Rattle.opc_engine.specs.PolygonMasks.{CorrectsToPolygons, IsDrawnFor, IsDrawnMask, IsDrawnRun, PolygonsGives}
use Rattle.opc_engine.specs.Prepare.{Prepares, Subject}
use Rattle.opc_engine.specs.Ready.{subject_of}
use Rattle.opc_engine.specs.Runs.{IsRun, at_offsets}
use Rattle.opc_engine.specs.Standing.{HasRun, IsOver}
use Rattle.opc_engine.proofs.CorrectionLaws.{answer_one, prepares_of_cut, prepares_one, refusals_are_one, subject_one, tabled_one}
use Rattle.opc_engine.proofs.RunLaws.{run_one}
use Rattle.opc_engine.proofs.StageLaws.{IsOne, not_fault}
use Rattle.opc_engine.proofs.StandingLaws.{over_is}

-- ---- what is written

-- a mask that keeps all rules touches itself at no corner
pub no_touch : (s : SessionValue) (region : List Rect) → ((x y : ℤ) → cover region x y ≡ mask_of s x y) → KeepsRules s.rules.mask s.fragments s.offsets
    → (x y : ℤ) → ¬ IsCornerTouch (cover region) x y
no_touch s region pixels keeps x y touch =
    let covered : cover region ≡ mask_of s = fun_ext (λ a. fun_ext (λ b. pixels a b)) in
    keeps M3 (Pixel (record { x = x; y = y })) (subst (λ (q : PixelSet). IsCornerTouch q x y) covered touch)

-- what is told of a session, and the file of its polygons
pub drawn_is : (p : Ready) (s : SessionValue) (between : List ℕ) (region rects : List Rect) (grid : ℤ) (answer : Answer) → IsOver p s → IsCanonical (mask_of s) region
    → ((x y : ℤ) → cover region x y ≡ mask_of s x y) → rects ≡ region → answer.table ≡ table_text s between (length rects) → answer.line ≡ last_line s (length rects)
    → KeepsRules s.rules.mask s.fragments s.offsets → grid ≡ p.rules.pick.grid → IsPolygonFile (cover region) p.head p.rules.out grid answer.mask
    → ExpandsTo answer.mask p.rules.out.name p.rules.out.layer p.rules.out.datatype grid (cover region)
    → IsFaultless answer.mask p.rules.out.name p.rules.out.layer p.rules.out.datatype grid → IsDrawnFor p s between answer
drawn_is p s between region rects grid answer over stacks pixels rects_are table line keeps grid_is file expands faultless =
    let same = over_is p s over in
    let out = p.rules.out in
    let covered : cover region ≡ mask_of (at_offsets (subject_of p) s.offsets) = fun_ext (λ x. fun_ext (λ y. pixels x y)) ∙ ap mask_of same in
    record {
      rects = region;
      tabled = record {
        canonical = stacks;
        table = table ∙ ap (λ (r : List Rect). table_text s between (length r)) rects_are;
        line = line ∙ ap (λ (r : List Rect). last_line s (length r)) rects_are;
      };
      drawn = record {
        keeps = subst (λ (t : SessionValue). KeepsRules t.rules.mask t.fragments t.offsets) same keeps;
        file = subst (λ (g : ℤ). IsPolygonFile (mask_of (at_offsets (subject_of p) s.offsets)) p.head out g answer.mask) grid_is
            (subst (λ (q : PixelSet). IsPolygonFile q p.head out grid answer.mask) covered file);
        expands = subst (λ (g : ℤ). ExpandsTo answer.mask out.name out.layer out.datatype g (mask_of (at_offsets (subject_of p) s.offsets))) grid_is
            (subst (λ (q : PixelSet). ExpandsTo answer.mask out.name out.layer out.datatype grid q) covered expands);
        faultless = subst (λ (g : ℤ). IsFaultless answer.mask out.name out.layer out.datatype g) grid_is faultless;
      };
    }

after_run : (p : Ready) (s : SessionValue) (lines between : List ℕ) (made : ℕ) (answer : Answer) → IsOver p s → HasRun p s lines made → between ≡ lines → IsDrawnFor p s between answer
    → IsDrawnRun p answer
after_run p s lines between made answer over run is w = record {
  offsets = s.offsets;
  rounds = run.summaries;
  run = run.run;
  rects = w.rects;
  tabled = subst (λ (l : List ℕ). IsTabled (at_offsets (subject_of p) s.offsets) l answer w.rects) (is ∙ run.text)
      (subst (λ (t : SessionValue). IsTabled t between answer w.rects) (over_is p s over) w.tabled);
  drawn = w.drawn;
}

pub drawn_run_is : (p : Ready) (s : SessionValue) (lines between : List ℕ) (made : ℕ) (result : Result Answer NoMemory) → IsOver p s → HasRun p s lines made → between ≡ lines
    → IfOk result (IsDrawnFor p s between) → IfOk result (IsDrawnRun p)
drawn_run_is p s lines between made (Ok answer) over run is w = after_run p s lines between made answer over run is w
drawn_run_is p s lines between made (Err e) over run is w = tt

-- ---- there is one answer

one_file : (inside : PixelSet) (head : Head) (out : OutPick) (grid : ℤ) (a b : List ℕ) → IsPolygonFile inside head out grid a → IsPolygonFile inside head out grid b → a ≡ b
one_file inside head out grid a b x y = x.file ∙ ap (outline_file head out grid) (y.only x.polygons x.drawn) ∙ sym y.file

-- the same offsets make the same answer
finished_one : (s : Subject) (o p : List ℤ) (s_lines t_lines : List ℕ) (a b : Answer) (xs ys : List Rect) → o ≡ p → s_lines ≡ t_lines
    → IsTabled (at_offsets s o) s_lines a xs → IsTabled (at_offsets s p) t_lines b ys → IsDrawnMask s o a → IsDrawnMask s p b → a ≡ b
finished_one s o p s_lines t_lines a b xs ys same text x y w z =
    let P : List ℤ → Type 0 = λ q. IsTabled (at_offsets s q) s_lines a xs in
    let Q : List ℕ → Type 0 = λ l. IsTabled (at_offsets s p) l a xs in
    let one = tabled_one (at_offsets s p) t_lines a b xs ys (subst Q text (subst P same x)) y in
    let drawn = subst (λ (q : List ℤ). IsDrawnMask s q a) same w in
    answer_one a b (one_file (mask_of (at_offsets s p)) s.head s.rules.out s.rules.pick.grid a.mask b.mask drawn.file z.file) one.1 one.2

module _ (layout kernels rules : List ℕ) where
  polygons_agree : (a b : Answer) → CorrectsToPolygons layout kernels rules a → CorrectsToPolygons layout kernels rules b → a ≡ b
  polygons_agree a b x y =
      let same = subject_one layout kernels rules x.subject y.subject x.accepted y.accepted in
      let P : Subject → Type 0 = λ s. IsRun s x.offsets x.rounds × IsTabled (at_offsets s x.offsets) (round_lines 1 x.rounds) a x.rects × IsDrawnMask s x.offsets a in
      let there = subst P same (x.run, x.tabled, x.drawn) in
      let one = run_one y.subject x.offsets y.offsets x.rounds y.rounds there.0 y.run in
      finished_one y.subject x.offsets y.offsets (round_lines 1 x.rounds) (round_lines 1 y.rounds) a b x.rects y.rects one.0 (ap (round_lines 1) one.1)
      there.1 y.tabled there.2 y.drawn

  none_refused : (f : EngineFault) (a : Answer) → Prepares layout kernels rules (Err f) → CorrectsToPolygons layout kernels rules a → ⊥
  none_refused f a x y = not_fault f y.subject (prepares_one layout kernels rules (Err f) (Ok y.subject) x y.accepted)

  pub polygons_are_one : IsOne (PolygonsGives layout kernels rules)
  polygons_are_one (Ok a) (Ok b) x y = ap Ok (polygons_agree a b x y)
  polygons_are_one (Ok a) (Err g) x y = absurd (none_refused g a y x)
  polygons_are_one (Err f) (Ok b) x y = absurd (none_refused f b x y)
  polygons_are_one (Err f) (Err g) x y = ap Err (refusals_are_one layout kernels rules f g x y)

-- ---- files that are cut
module _ (layout kernels rules : List ℕ) (l k n : ℕ) (more_layout : MAX_LAYOUT < l) (more_kernels : MAX_KERNELS < k) (more_rules : MAX_RULES < n) where
  pub polygons_of_cut : (r : Result Answer EngineFault) → PolygonsGives (take l layout) (take k kernels) (take n rules) r → PolygonsGives layout kernels rules r
  polygons_of_cut (Ok a) x = record {
    subject = x.subject;
    accepted = prepares_of_cut layout kernels rules l k n more_layout more_kernels more_rules (Ok x.subject) x.accepted;
    offsets = x.offsets;
    rounds = x.rounds;
    run = x.run;
    rects = x.rects;
    tabled = x.tabled;
    drawn = x.drawn;
  }
  polygons_of_cut (Err f) x = prepares_of_cut layout kernels rules l k n more_layout more_kernels more_rules (Err f) x
