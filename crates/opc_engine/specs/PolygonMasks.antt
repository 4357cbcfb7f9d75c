-- What `polygons` makes of the bytes of its files.
use Rattle.std.specs.Prelude.{ℕ, ℤ, Result, Ok, Err, List}
use Rattle.opc_base.specs.declared.moves.RoundSummary.{RoundSummary}
use Rattle.opc_base.specs.declared.plane.Rect.{Rect}
use Rattle.gds_writer.specs.Expansion.{ExpandsTo}
use Rattle.gds_writer.specs.Faultless.{IsFaultless}
use Rattle.mask_polygons.specs.PolygonFile.{IsPolygonFile}
use Rattle.outline_model.specs.Rules.{KeepsRules}
use Rattle.opc_session.specs.Sessions.{SessionValue, mask_of}
use Rattle.opc_engine.specs.declared.answer.Answer.{Answer}
use Rattle.opc_engine.specs.declared.fault.EngineFault.{EngineFault}
use Rattle.opc_engine.specs.declared.ready.Ready.{Ready}
use Rattle.opc_engine.specs.Corrections.{IsTabled}
use Rattle.opc_engine.specs.ErrorTable.{round_lines}
use Rattle.opc_engine.specs.Prepare.{Prepares, Subject}
use Rattle.opc_engine.specs.Ready.{subject_of}
use Rattle.opc_engine.specs.Runs.{IsRun, at_offsets}

-- The mask keeps all rules. Its file has a polygon for each component, and is the layout whose one structure covers exactly
-- the mask.
pub record IsDrawnMask (s : Subject) (offsets : List ℤ) (answer : Answer) : Type 0 where
  pub keeps : KeepsRules s.rules.mask s.fragments offsets
  pub file : IsPolygonFile (mask_of (at_offsets s offsets)) s.head s.rules.out s.rules.pick.grid answer.mask
  pub expands : ExpandsTo answer.mask s.rules.out.name s.rules.out.layer s.rules.out.datatype s.rules.pick.grid (mask_of (at_offsets s offsets))
  pub faultless : IsFaultless answer.mask s.rules.out.name s.rules.out.layer s.rules.out.datatype s.rules.pick.grid

-- The files are accepted; the run of `correct` leads to these offsets, the table is the one of `correct`, and the mask of
-- these offsets is written as polygons.
pub record CorrectsToPolygons (layout kernels rules : List ℕ) (answer : Answer) : Type 0 where
  pub subject : Subject
  pub accepted : Prepares layout kernels rules (Ok subject)
  pub offsets : List ℤ
  pub rounds : List RoundSummary
  pub run : IsRun subject offsets rounds
  pub rects : List Rect
  pub tabled : IsTabled (at_offsets subject offsets) (round_lines 1 rounds) answer rects
  pub drawn : IsDrawnMask subject offsets answer

-- what the files call for: the answer of `polygons`, or the first refusal, which is that of `correct`
abbrev pub PolygonsGives : List ℕ → List ℕ → List ℕ → Result Answer EngineFault → Type 0
PolygonsGives layout kernels rules (Ok answer) = CorrectsToPolygons layout kernels rules answer
PolygonsGives layout kernels rules (Err refusal) = Prepares layout kernels rules (Err refusal)

-- ---- for what is ready

-- the table with these lines between head and fragments, and the mask file, of a session
pub record IsDrawnFor (p : Ready) (s : SessionValue) (between : List ℕ) (answer : Answer) : Type 0 where
  pub rects : List Rect
  pub tabled : IsTabled s between answer rects
  pub drawn : IsDrawnMask (subject_of p) s.offsets answer

pub record IsDrawnRun (p : Ready) (answer : Answer) : Type 0 where
  pub offsets : List ℤ
  pub rounds : List RoundSummary
  pub run : IsRun (subject_of p) offsets rounds
  pub rects : List Rect
  pub tabled : IsTabled (at_offsets (subject_of p) offsets) (round_lines 1 rounds) answer rects
  pub drawn : IsDrawnMask (subject_of p) offsets answer
