-- The lines of a table, as they are put.
use Rattle.std.proofs.Common.{◌≡◌, ℕ, ℤ, pos, Bool, List, [], ◌++◌, length, replicate, refl, ap, sym, subst, ◌∙◌}
use Rattle.std.proofs.Math.Path.{fun_ext}
use Rattle.error_table.specs.Table.{counts_line, end_line, fragment_line, version_line}
use Rattle.opc_base.specs.Canonical.{IsCanonical}
use Rattle.opc_base.specs.Plane.{PixelSet, cover}
use Rattle.opc_base.specs.declared.kernels.KernelSet.{KernelSet}
use Rattle.opc_base.specs.declared.plane.Rect.{Rect}
use Rattle.opc_base.specs.declared.moves.Totals.{Totals}
use Rattle.opc_session.specs.Sessions.{SessionValue, mask_of}
use Rattle.opc_engine.specs.ErrorTable.{fragment_lines, fragment_row, head_lines, last_line, table_text, texts_of, totals_of}
use Rattle.gds_writer.specs.Expansion.{ExpandsTo}
use Rattle.gds_writer.specs.MaskFile.{mask_file}
use Rattle.outline_model.specs.Rules.{KeepsRules}
use Rattle.opc_engine.specs.Corrections.{IsTabled}
use Rattle.opc_engine.specs.Standing.{IsOver}
use Rattle.opc_engine.specs.Written.{IsWrittenFor}
use Rattle.opc_engine.proofs.StandingLaws.{over_is}
use Rattle.opc_engine.specs.Ready.{subject_of}
use Rattle.opc_engine.specs.Runs.{at_offsets, is_settled, unmoved}
use Rattle.opc_engine.specs.declared.answer.Answer.{Answer}
use Rattle.opc_engine.specs.declared.ready.Ready.{Ready}

pub head_is : (s : SessionValue) (old out : List ℕ) (n k r : ℕ) (a b : ℤ) → old ≡ [] → n ≡ length s.fragments → k ≡ length s.set.kernels → r ≡ s.set.reach
    → a ≡ s.rules.site.samples → b ≡ s.rules.site.threshold → out ≡ old ++ (version_line ++ counts_line n k r a b) → out ≡ head_lines s
unfolding head_lines
head_is s old out n k r a b empty fragments kernels reach samples threshold is = is ∙ rw (empty, fragments, kernels, reach, samples, threshold) refl

pub last_is : (s : SessionValue) (old out : List ℕ) (totals : Totals) (settled : Bool) (rectangles : ℕ) → old ≡ [] → totals ≡ totals_of s → settled ≡ is_settled s
    → out ≡ old ++ end_line totals settled rectangles → out ≡ last_line s rectangles
unfolding last_line
last_is s old out totals settled rectangles empty sums test is = is ∙ rw (empty, sums, test) refl

pub totals_are : (t u : Totals) → t.worst ≡ u.worst → t.total ≡ u.total → t ≡ u
totals_are t u p q = λ i. record { worst = p i; total = q i }

-- all fragments have their lines
pub fragments_put : (s : SessionValue) (before now : List ℕ) (n : ℕ) → n ≡ length s.fragments → now ≡ before ++ texts_of (λ i. fragment_line (fragment_row s i)) n
    → now ≡ before ++ fragment_lines s
unfolding fragment_lines
fragments_put s before now n all is = is ∙ ap (λ k. before ++ texts_of (λ i. fragment_line (fragment_row s i)) k) all

-- the parts of the table are put one after the other
pub table_is : (s : SessionValue) (between a b c d last : List ℕ) (rectangles : ℕ) → a ≡ head_lines s → b ≡ a ++ between → c ≡ b ++ fragment_lines s → last ≡ last_line s rectangles
    → d ≡ c ++ last → d ≡ table_text s between rectangles
unfolding table_text
table_is s between a b c d last rectangles head more fragments end is = is ∙ rw (fragments, more, head, end) refl

-- what is told of a target of which no fragment has moved
pub tabled_unmoved : (p : Ready) (s : SessionValue) (set : KernelSet) (rects : List Rect) (answer : Answer) → set ≡ p.kernels
    → s ≡ record { fragments = p.fragments; set = set; rules = p.rules; offsets = replicate (length p.fragments) (pos 0) } → ((x y : ℤ) → mask_of s x y ≡ cover p.region x y)
    → rects ≡ p.region → IsCanonical (cover p.region) p.region → answer.table ≡ table_text s [] (length rects) → answer.line ≡ last_line s (length rects)
    → IsTabled (at_offsets (subject_of p) (unmoved (subject_of p))) [] answer p.region
tabled_unmoved p s set rects answer set_is is pixels rects_are stacks table line =
    let same : s ≡ at_offsets (subject_of p) (unmoved (subject_of p)) =
    is ∙ ap (λ (k : KernelSet). record { fragments = p.fragments; set = k; rules = p.rules; offsets = replicate (length p.fragments) (pos 0) }) set_is in
    let covered : cover p.region ≡ mask_of s = sym (fun_ext (λ x. fun_ext (λ y. pixels x y))) in
    subst (λ (t : SessionValue). IsTabled t [] answer p.region) same (record {
      canonical = subst (λ (q : PixelSet). IsCanonical q p.region) covered stacks;
      table = table ∙ ap (λ (r : List Rect). table_text s [] (length r)) rects_are;
      line = line ∙ ap (λ (r : List Rect). last_line s (length r)) rects_are;
    })

-- what is told of a session, and its mask file
pub written_is : (p : Ready) (s : SessionValue) (between : List ℕ) (region rects : List Rect) (grid : ℤ) (answer : Answer) → IsOver p s → IsCanonical (mask_of s) region
    → ((x y : ℤ) → cover region x y ≡ mask_of s x y) → rects ≡ region → answer.table ≡ table_text s between (length rects) → answer.line ≡ last_line s (length rects)
    → KeepsRules s.rules.mask s.fragments s.offsets → grid ≡ p.rules.pick.grid → answer.mask ≡ mask_file p.head p.rules.out grid region
    → ExpandsTo answer.mask p.rules.out.name p.rules.out.layer p.rules.out.datatype grid (cover region) → IsWrittenFor p s between answer
written_is p s between region rects grid answer over stacks pixels rects_are table line keeps grid_is file expands =
    let same = over_is p s over in
    let covered : cover region ≡ mask_of (at_offsets (subject_of p) s.offsets) = fun_ext (λ x. fun_ext (λ y. pixels x y)) ∙ ap mask_of same in
    record {
      rects = region;
      tabled = record {
        canonical = stacks;
        table = table ∙ ap (λ (r : List Rect). table_text s between (length r)) rects_are;
        line = line ∙ ap (λ (r : List Rect). last_line s (length r)) rects_are;
      };
      written = record {
        keeps = subst (λ (t : SessionValue). KeepsRules t.rules.mask t.fragments t.offsets) same keeps;
        file = file ∙ ap (λ (g : ℤ). mask_file p.head p.rules.out g region) grid_is;
        expands = subst (λ (g : ℤ). ExpandsTo answer.mask p.rules.out.name p.rules.out.layer p.rules.out.datatype g (mask_of (at_offsets (subject_of p) s.offsets))) grid_is
            (subst (λ (q : PixelSet). ExpandsTo answer.mask p.rules.out.name p.rules.out.layer p.rules.out.datatype grid q) covered expands);
      };
    }
