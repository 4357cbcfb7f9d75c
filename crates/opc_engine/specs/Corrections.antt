-- What `simulate`, `correct` and `moves` make of the bytes of their files.
use Rattle.std.specs.Prelude.{◌≡◌, ℕ, nat_le, nat_lt, ℤ, if◌then◌else◌, Option, Some, None, Result, Ok, Err, List, [], length}
use Rattle.std.specs.List.{position_from}
use Rattle.opc_base.specs.Canonical.{IsCanonical}
use Rattle.opc_base.specs.declared.moves.Move.{Move}
use Rattle.opc_base.specs.declared.moves.Moved.{Moved}
use Rattle.opc_base.specs.declared.moves.RoundSummary.{RoundSummary}
use Rattle.opc_base.specs.declared.plane.Rect.{Rect}
use Rattle.gds_writer.specs.Expansion.{ExpandsTo}
use Rattle.gds_writer.specs.MaskFile.{mask_file}
use Rattle.outline_model.specs.Rules.{KeepsRules}
use Rattle.rule_file.specs.MoveText.{move_fault, moves_of}
use Rattle.rule_file.specs.declared.fault.MoveFault.{MoveFault}
use Rattle.opc_session.specs.Sessions.{SessionValue, mask_of}
use Rattle.opc_engine.specs.declared.answer.Answer.{Answer}
use Rattle.opc_engine.specs.declared.ask.Which.TheVariants as which
use Rattle.opc_engine.specs.declared.fault.EngineFault.{EngineFault}
use Rattle.opc_engine.specs.declared.fault.EngineFault.TheVariants as fault
use Rattle.opc_engine.specs.declared.limits.TheConstants.{MAX_MOVES}
use Rattle.opc_engine.specs.ErrorTable.{last_line, move_lines, round_lines, table_text}
use Rattle.opc_engine.specs.Prepare.{Prepares, Subject}
use Rattle.opc_engine.specs.Runs.{IsMovesRun, IsRun, at_offsets, unmoved}
use Rattle.opc_engine.specs.Stages.{Then}

-- ---- parts of an answer

-- The table of the mask as it stands, with these lines in its middle, and its last line. Each intensity and each error in it
-- is that of the plain pixel sum for this mask, whose canonical rectangles these are.
pub record IsTabled (s : SessionValue) (between : List ℕ) (answer : Answer) (rects : List Rect) : Type 0 where
  pub canonical : IsCanonical (mask_of s) rects
  pub table : answer.table ≡ table_text s between (length rects)
  pub line : answer.line ≡ last_line s (length rects)

-- The mask of these offsets keeps every rule. Its file has exactly these bytes, and expands to exactly that mask: it is a
-- layout whose one structure covers the mask's pixels and no others.
pub record IsWritten (s : Subject) (offsets : List ℤ) (answer : Answer) (rects : List Rect) : Type 0 where
  pub keeps : KeepsRules s.rules.mask s.fragments offsets
  pub file : answer.mask ≡ mask_file s.head s.rules.out s.rules.pick.grid rects
  pub expands : ExpandsTo answer.mask s.rules.out.name s.rules.out.layer s.rules.out.datatype s.rules.pick.grid (mask_of (at_offsets s offsets))

-- ---- `simulate`

-- The files are accepted; no mask is written, and the table is that of the target, of which no fragment has moved.
pub record Simulates (layout kernels rules : List ℕ) (answer : Answer) : Type 0 where
  pub subject : Subject
  pub accepted : Prepares layout kernels rules (Ok subject)
  pub rects : List Rect
  pub tabled : IsTabled (at_offsets subject (unmoved subject)) [] answer rects
  pub no_mask : answer.mask ≡ []

-- ---- `correct`

-- What `correct` promises of its answer: the files are accepted, and give a subject; from no moves on, a run of rounds leads
-- to these offsets; the table tells the rounds, and the intensities and errors of the plain pixel sum for the mask of these
-- offsets (`tabled`); this mask keeps every rule, and the file expands to exactly it (`written`).
pub record Corrects (layout kernels rules : List ℕ) (answer : Answer) : Type 0 where
  pub subject : Subject
  pub accepted : Prepares layout kernels rules (Ok subject)
  pub offsets : List ℤ
  pub rounds : List RoundSummary
  pub run : IsRun subject offsets rounds
  pub rects : List Rect
  pub tabled : IsTabled (at_offsets subject offsets) (round_lines 1 rounds) answer rects
  pub written : IsWritten subject offsets answer rects

-- ---- `moves`

-- the first line, counted from 1, that names none of so many fragments
abbrev pub unnamed_line : ℕ → List Move → Option ℕ
unnamed_line count moves = position_from (λ move. nat_le count move.fragment) 1 moves

abbrev pub named_or_fault : List Move → Option ℕ → Result (List Move) EngineFault
named_or_fault moves (Some line) = Err (fault.NoFragment line)
named_or_fault moves None = Ok moves

abbrev pub moves_or_fault : List ℕ → ℕ → Option MoveFault → Result (List Move) EngineFault
moves_or_fault bytes count (Some wrong) = Err (fault.Moves wrong)
moves_or_fault bytes count None = named_or_fault (moves_of bytes) (unnamed_line count (moves_of bytes))

-- the moves of a moves file for so many fragments, unless it is too long, has a fault, or names no fragment in a line
abbrev pub moves_result : List ℕ → ℕ → Result (List Move) EngineFault
moves_result bytes count =
    if nat_lt MAX_MOVES (length bytes) then Err (fault.TooLong which.Moves) else moves_or_fault bytes count (move_fault bytes)

abbrev pub MovesGive : List ℕ → ℕ → Result (List Move) EngineFault → Type 0
MovesGive bytes count result = result ≡ moves_result bytes count

-- what the four files give for moves by hand, or the first refusal: the moves file is judged last
abbrev pub PreparesMoves : List ℕ → List ℕ → List ℕ → List ℕ → Result (Subject × List Move) EngineFault → Type 0
PreparesMoves layout kernels rules moves =
    Then (Prepares layout kernels rules) (λ subject.
    Then (MovesGive moves (length subject.fragments)) (λ list result.
    result ≡ Ok (subject, list)))

-- The files are accepted; each move in turn is done or refused, the table has a line for each, and the mask of the offsets
-- after them is written, which keeps all rules.
pub record Moves (layout kernels rules moves : List ℕ) (answer : Answer) : Type 0 where
  pub subject : Subject
  pub list : List Move
  pub accepted : PreparesMoves layout kernels rules moves (Ok (subject, list))
  pub offsets : List ℤ
  pub answers : List Moved
  pub run : IsMovesRun subject list offsets answers
  pub rects : List Rect
  pub tabled : IsTabled (at_offsets subject offsets) (move_lines list answers) answer rects
  pub written : IsWritten subject offsets answer rects

-- ---- what the files call for

-- what `simulate` calls for: its answer, or the first refusal
abbrev pub SimulateGives : List ℕ → List ℕ → List ℕ → Result Answer EngineFault → Type 0
SimulateGives layout kernels rules (Ok answer) = Simulates layout kernels rules answer
SimulateGives layout kernels rules (Err refusal) = Prepares layout kernels rules (Err refusal)

abbrev pub CorrectGives : List ℕ → List ℕ → List ℕ → Result Answer EngineFault → Type 0
CorrectGives layout kernels rules (Ok answer) = Corrects layout kernels rules answer
CorrectGives layout kernels rules (Err refusal) = Prepares layout kernels rules (Err refusal)

abbrev pub MovesGives : List ℕ → List ℕ → List ℕ → List ℕ → Result Answer EngineFault → Type 0
MovesGives layout kernels rules moves (Ok answer) = Moves layout kernels rules moves answer
MovesGives layout kernels rules moves (Err refusal) = PreparesMoves layout kernels rules moves (Err refusal)
