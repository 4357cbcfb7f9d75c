-- The lines of a table with bars, and what is told of a session.
use Rattle.std.proofs.Common.{◌≡◌, ◌↔◌, ℕ, ◌≤ℤ◌, ℤ, Bool, true, false, int_le, List, [], ◌++◌, length, get_or, refl, ap, sym, subst, ◌∙◌, arith}
use Rattle.std.proofs.lemmas.Int.{ints}
use Rattle.std.specs.Prelude.{Result, Ok, Err, IfOk}
use Rattle.error_table.specs.Table.{counts_line, end_line}
use Rattle.gds_writer.specs.Expansion.{ExpandsTo}
use Rattle.gds_writer.specs.MaskFile.{mask_file}
use Rattle.opc_base.specs.Canonical.{IsCanonical}
use Rattle.opc_base.specs.Optics.{intensity}
use Rattle.opc_base.specs.Plane.{PixelSet, cover}
use Rattle.opc_base.specs.declared.fault.NoMemory.{NoMemory}
use Rattle.opc_base.specs.declared.kernels.KernelSet.{KernelSet}
use Rattle.opc_base.specs.declared.moves.Totals.{Totals}
use Rattle.opc_base.specs.declared.plane.Rect.{Rect}
use Rattle.opc_base.specs.declared.rules.Rules.{Rules}
use Rattle.outline_model.specs.Rules.{KeepsRules}
use Rattle.print_check.specs.Printed.{prints}
use Rattle.opc_session.specs.Sessions.{SessionValue, mask_of}
use Rattle.opc_engine.specs.declared.answer.Answer.{Answer}
use Rattle.opc_engine.specs.declared.bar_prepare.BarPrepared.{BarPrepared}
use Rattle.opc_engine.specs.declared.bar_print.Light.{Light}
use Rattle.opc_engine.specs.Assists.{IsAssisted, IsBarTabled}
use Rattle.opc_engine.specs.BarImages.{AreFlags, HasPrinted}
use Rattle.opc_engine.specs.BarReady.{CanAssist, HasBarRun, IsBarWritten, bar_subject_of}
use Rattle.opc_engine.specs.BarRuns.{ArePrinted, Prints, bar_at, own_error}
use Rattle.opc_engine.specs.BarTable.{assist_line, bar_end, bar_head, bar_line, bar_lines, bar_table, totals_by}
use Rattle.opc_engine.specs.ErrorTable.{texts_of}
use Rattle.opc_engine.specs.Runs.{at_offsets, is_settled_by}
use Rattle.opc_engine.specs.Standing.{IsOver}
use Rattle.opc_engine.proofs.BarRunLaws.{bar_over_is, bars_are_still}

-- ---- lines

pub bar_head_is : (s : SessionValue) (first out : List ℕ) (n k r : ℕ) (a b : ℤ) → first ≡ assist_line → n ≡ length s.fragments → k ≡ length s.set.kernels → r ≡ s.set.reach
    → a ≡ s.rules.site.samples → b ≡ s.rules.site.threshold → out ≡ first ++ counts_line n k r a b → out ≡ bar_head s
unfolding bar_head
bar_head_is s first out n k r a b version fragments kernels reach samples threshold is = is ∙ rw (version, fragments, kernels, reach, samples, threshold) refl

pub bar_end_is : (target : PixelSet) (s : SessionValue) (old out : List ℕ) (totals : Totals) (settled : Bool) (rectangles : ℕ) → old ≡ [] → totals ≡ totals_by (own_error target) s
    → settled ≡ is_settled_by (own_error target) s → out ≡ old ++ end_line totals settled rectangles → out ≡ bar_end target s rectangles
unfolding bar_end
bar_end_is target s old out totals settled rectangles empty sums test is = is ∙ rw (empty, sums, test) refl

pub bars_put : (bars : List Rect) (flags : List Bool) (before now : List ℕ) (n : ℕ) → n ≡ length bars
    → now ≡ before ++ texts_of (λ k. bar_line k (bar_at bars k) (get_or flags k false)) n → now ≡ before ++ bar_lines bars flags
bars_put bars flags before now n all is = is ∙ ap (λ m. before ++ texts_of (λ k. bar_line k (bar_at bars k) (get_or flags k false)) m) all

pub bar_table_is : (target : PixelSet) (s : SessionValue) (rounds a b c d last : List ℕ) (bars : List Rect) (flags : List Bool) (rectangles : ℕ) → a ≡ bar_head s → b ≡ a ++ rounds
    → c ≡ b ++ bar_lines bars flags → last ≡ bar_end target s rectangles → d ≡ c ++ last → d ≡ bar_table target s rounds bars flags rectangles
unfolding bar_table
bar_table_is target s rounds a b c d last bars flags rectangles head more lines end is = is ∙ rw (lines, more, head, end) refl

-- ---- bars that print

at_least : (a b : ℤ) → int_le a b ≡ true → a ≤ℤ b
at_least a b is = grind (arith, ints)

tells_least : (a b : ℤ) → a ≤ℤ b → int_le a b ≡ true
tells_least a b is = grind (arith, ints)

-- a rectangle prints under the mask of a session where it prints under its rectangles
prints_too : (l : Light) (s : SessionValue) (r : Rect) → l.tables.now ≡ s.set → cover l.mask.now ≡ mask_of s → l.rules.now ≡ s.rules → HasPrinted l r ↔ Prints s r
prints_too l s r tables mask rules = (
  λ h. record { x = h.x; y = h.y; inside = h.inside; bright = at_least _ _ (sym (same h.x h.y) ∙ h.bright) },
  λ p. record { x = p.x; y = p.y; inside = p.inside; bright = same p.x p.y ∙ tells_least _ _ p.bright },
)
  where
    same : (x y : ℤ) → prints l.tables.now (cover l.mask.now) l.rules.now.site.threshold x y ≡ int_le s.rules.site.threshold (intensity s.set (mask_of s) x y)
    same x y =
        ap (λ (k : KernelSet). prints k (cover l.mask.now) l.rules.now.site.threshold x y) tables
        ∙ ap (λ (p : PixelSet). prints s.set p l.rules.now.site.threshold x y) mask
        ∙ ap (λ (t : Rules). prints s.set (mask_of s) t.site.threshold x y) rules

pub flags_are : (l : Light) (s : SessionValue) (bars : List Rect) (flags : List Bool) → AreFlags l bars flags → l.tables.now ≡ s.set → cover l.mask.now ≡ mask_of s → l.rules.now ≡ s.rules
    → ArePrinted s bars flags
flags_are l s bars flags are tables mask rules = record {
  count = are.count;
  each = λ k below.
      let here = are.each k below in
      let too = prints_too l s (bar_at bars k) tables mask rules in
      (λ is. too.0 (here.0 is), λ p. here.1 (too.1 p));
}

-- ---- what is told of a session

module _ (g : BarPrepared) (s : SessionValue) (over : IsOver g.whole s) where
  pub bars_written_is : (rounds : List ℕ) (flags : List Bool) (region rects : List Rect) (grid : ℤ) (answer : Answer) → ArePrinted s g.bars.items flags → IsCanonical (mask_of s) region
      → cover region ≡ mask_of s → rects ≡ region → answer.table ≡ bar_table (cover g.target) s rounds g.bars.items flags (length rects)
      → answer.line ≡ bar_end (cover g.target) s (length rects) → KeepsRules s.rules.mask s.fragments s.offsets → grid ≡ g.whole.rules.pick.grid
      → answer.mask ≡ mask_file g.whole.head g.whole.rules.out grid region
      → ExpandsTo answer.mask g.whole.rules.out.name g.whole.rules.out.layer g.whole.rules.out.datatype grid (cover region) → IsBarWritten g s rounds answer
  bars_written_is rounds flags region rects grid answer printed stacks pixels rects_are table line keeps grid_is file expands =
      let same = bar_over_is g s over in
      let covered : cover region ≡ mask_of (at_offsets (bar_subject_of g).whole s.offsets) = pixels ∙ ap mask_of same in
      record {
        flags = flags;
        printed = printed;
        rects = region;
        tabled = record {
          canonical = stacks;
          table = table ∙ ap (λ (r : List Rect). bar_table (cover g.target) s rounds g.bars.items flags (length r)) rects_are;
          line = line ∙ ap (λ (r : List Rect). bar_end (cover g.target) s (length r)) rects_are;
        };
        written = record {
          keeps = subst (λ (t : SessionValue). KeepsRules t.rules.mask t.fragments t.offsets) same keeps;
          file = file ∙ ap (λ (n : ℤ). mask_file g.whole.head g.whole.rules.out n region) grid_is;
          expands = subst (λ (n : ℤ). ExpandsTo answer.mask g.whole.rules.out.name g.whole.rules.out.layer g.whole.rules.out.datatype n (mask_of (at_offsets (bar_subject_of g).whole s.offsets))) grid_is
              (subst (λ (q : PixelSet). ExpandsTo answer.mask g.whole.rules.out.name g.whole.rules.out.layer g.whole.rules.out.datatype grid q) covered expands);
        };
      }

  assisted : (ready : CanAssist g) (lines between : List ℕ) (answer : Answer) → HasBarRun g s lines → between ≡ lines → IsBarWritten g s between answer → IsAssisted (bar_subject_of g) answer
  assisted ready lines between answer run is w =
      let same = bar_over_is g s over in
      record {
        keeps = ready.keeps;
        offsets = s.offsets;
        rounds = run.summaries;
        run = run.run;
        still = bars_are_still (bar_subject_of g) s.offsets run.summaries run.run;
        flags = w.flags;
        printed = subst (λ (t : SessionValue). ArePrinted t g.bars.items w.flags) same w.printed;
        rects = w.rects;
        tabled = subst (λ (l : List ℕ). IsBarTabled (bar_subject_of g) (at_offsets (bar_subject_of g).whole s.offsets) l w.flags answer w.rects) (is ∙ run.text)
            (subst (λ (t : SessionValue). IsBarTabled (bar_subject_of g) t between w.flags answer w.rects) same w.tabled);
        written = w.written;
      }

  pub assisted_is : (ready : CanAssist g) (lines between : List ℕ) (result : Result Answer NoMemory) → HasBarRun g s lines → between ≡ lines → IfOk result (IsBarWritten g s between)
      → IfOk result (IsAssisted (bar_subject_of g))
  assisted_is ready lines between (Ok answer) run is w = assisted ready lines between answer run is w
  assisted_is ready lines between (Err e) run is w = tt
