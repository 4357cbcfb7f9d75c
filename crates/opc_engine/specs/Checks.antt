-- What `check` makes of the bytes of its files.
use Rattle.std.specs.Prelude.{◌≡◌, ℕ, ℤ, Result, Ok, Err, List, length}
use Rattle.opc_base.specs.Canonical.{IsCanonical}
use Rattle.opc_base.specs.Plane.{PixelSet}
use Rattle.opc_base.specs.declared.moves.RoundSummary.{RoundSummary}
use Rattle.opc_base.specs.declared.plane.Rect.{Rect}
use Rattle.gds_writer.specs.Expansion.{ExpandsTo}
use Rattle.gds_writer.specs.MaskFile.{mask_file}
use Rattle.opc_session.specs.Sessions.{mask_of}
use Rattle.print_check.specs.Flaws.{AreFlaws}
use Rattle.print_check.specs.Printed.{printed_in}
use Rattle.print_check.specs.declared.flaw.Flaw.{Flaw}
use Rattle.opc_engine.specs.declared.answer.Answer.{Answer}
use Rattle.opc_engine.specs.declared.fault.EngineFault.{EngineFault}
use Rattle.opc_engine.specs.FlawList.{counts_of_print, flaw_list}
use Rattle.opc_engine.specs.Prepare.{Prepares, Subject}
use Rattle.opc_engine.specs.Runs.{IsRun, at_offsets}
use Rattle.opc_engine.specs.Stages.{Then}
use Rattle.opc_engine.specs.Windows.{WindowGives}

-- the pixels of the window that print with the mask of these offsets
abbrev pub printed_at : Subject → List ℤ → Rect → PixelSet
printed_at s offsets window = printed_in s.set (mask_of (at_offsets s offsets)) s.rules.site.threshold window

-- The stored layout, byte for byte, is the one whose one structure covers exactly these pixels.
pub record IsPrintFile (s : Subject) (printed : PixelSet) (answer : Answer) (rects : List Rect) : Type 0 where
  pub canonical : IsCanonical printed rects
  pub file : answer.mask ≡ mask_file s.head s.rules.out s.rules.pick.grid rects
  pub expands : ExpandsTo answer.mask s.rules.out.name s.rules.out.layer s.rules.out.datatype s.rules.pick.grid printed

-- The list is that of the flaws of these pixels, beside the target.
pub record IsFlawList (s : Subject) (printed : PixelSet) (answer : Answer) (rectangles : ℕ) : Type 0 where
  pub flaws : List Flaw
  pub flaws_are : AreFlaws s.target printed s.rules.mask.width flaws
  pub list : answer.table ≡ flaw_list rectangles flaws
  pub line : answer.line ≡ counts_of_print rectangles flaws

-- what the three files give for a check, or the first refusal: that the window is too wide comes after all others
abbrev pub PreparesCheck : List ℕ → List ℕ → List ℕ → Result (Subject × Rect) EngineFault → Type 0
PreparesCheck layout kernels rules =
    Then (Prepares layout kernels rules) (λ subject.
    Then (WindowGives subject) (λ window result.
    result ≡ Ok (subject, window)))

-- The files are accepted; a run of rounds, as that of `correct`, leads to these offsets; the pixels of the window that print
-- with the mask of these offsets are stored, and their flaws are listed.
pub record Checks (layout kernels rules : List ℕ) (answer : Answer) : Type 0 where
  pub subject : Subject
  pub window : Rect
  pub accepted : PreparesCheck layout kernels rules (Ok (subject, window))
  pub offsets : List ℤ
  pub rounds : List RoundSummary
  pub run : IsRun subject offsets rounds
  pub rects : List Rect
  pub printed : IsPrintFile subject (printed_at subject offsets window) answer rects
  pub listed : IsFlawList subject (printed_at subject offsets window) answer (length rects)

-- what `check` calls for: its answer, or the first refusal
abbrev pub CheckGives : List ℕ → List ℕ → List ℕ → Result Answer EngineFault → Type 0
CheckGives layout kernels rules (Ok answer) = Checks layout kernels rules answer
CheckGives layout kernels rules (Err refusal) = PreparesCheck layout kernels rules (Err refusal)
