-- What has been read so far.
use Rattle.std.specs.Prelude.{◌≡◌, ℕ, ◌+◌, ◌≤◌, true, List, [], ◌∷◌, ◌++◌, Result, Ok, Err, if◌then◌else◌}
use Rattle.gds_records.specs.Records.{StreamRecord, ENDLIB}
use Rattle.gds_model.specs.declared.record_kind.RecordKind.{RecordKind}
use Rattle.gds_model.specs.declared.record_kind.RecordKind.TheVariants.{BgnStr, StrName}
use Rattle.gds_model.specs.declared.layout_fault.LayoutFault.{LayoutFault}
use Rattle.gds_model.specs.RecordKind.{code_of}
use Rattle.gds_model.specs.Names.{name_of}
use Rattle.gds_model.specs.Body.{body_of_kind, fits, element_code, element_kinds, is_one_of}
use Rattle.gds_model.specs.StreamFile.{library, IsSentence}
use Rattle.gds_model.specs.Faults.{IsFine, FaultAt, structure_count, element_of, names_of}
use Rattle.gds_library.specs.declared.state.State.{State}
use Rattle.gds_library.specs.declared.progress.Progress.{Progress}
use Rattle.gds_library.specs.Derivative.{left, is_possible}
use Rattle.gds_library.specs.State.{rest_of}

-- the names that were read
abbrev pub names_read : Progress → List (List ℕ)
names_read p = p.names

-- these records have been read
pub record Follows (progress : Progress) (before : List StreamRecord) : Type 0 where
  pub rest : left library before ≡ rest_of progress.state
  pub possible : is_possible (rest_of progress.state) ≡ true
  pub structures : progress.structures ≡ structure_count before
  pub few : progress.structures ≤ 65535
  pub element : element_code progress.element ≡ element_of before
  pub names : names_read progress ≡ names_of before

-- nothing is wrong with the record after those: its kind, and the state after it
pub record Passes (before : List StreamRecord) (r : StreamRecord) (progress : Progress) (kind : RecordKind) (state : State) : Type 0 where
  pub kind_is : code_of kind ≡ r.code
  pub fine : IsFine before r
  pub rest : left library (before ++ r ∷ []) ≡ rest_of state
  pub possible : is_possible (rest_of state) ≡ true
  pub end : r.code ≡ ENDLIB → IsSentence (before ++ r ∷ [])
  pub fit : fits (body_of_kind kind) (element_code progress.element) r.body ≡ true

-- the record after those, with its kind and the state after it, or its fault
abbrev pub Judges : List StreamRecord → StreamRecord → Progress → Result (RecordKind × State) LayoutFault → Type 0
Judges before r progress (Ok judged) = Passes before r progress judged.0 judged.1
Judges before r progress (Err fault) = FaultAt before r fault

-- a record of this kind, with this body and this state after it, has been taken
pub record Advances (old : Progress) (kind : RecordKind) (next : State) (body : List ℕ) (new : Progress) : Type 0 where
  pub state : new.state ≡ next
  pub structures : new.structures ≡ old.structures + (if is_one_of (BgnStr ∷ []) (code_of kind) then 1 else 0)
  pub element : element_code new.element ≡ (if is_one_of element_kinds (code_of kind) then code_of kind else element_code old.element)
  pub names : names_read new ≡ names_read old ++ (if is_one_of (StrName ∷ []) (code_of kind) then name_of body ∷ [] else [])
