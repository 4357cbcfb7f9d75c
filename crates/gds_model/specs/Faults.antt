-- The first fault of a layout file.
use Rattle.std.specs.List.{Contains, flat_map}
use Rattle.std.specs.Prelude.{◌≡◌, ◌≢◌, ℕ, ◌/◌, ◌<◌, ◌≤◌, Bool, true, false, ◌==◌, ◌||◌, ◌⊎◌, List, [], ◌∷◌, ◌++◌, length, count_by, fold, slice_index, if◌then◌else◌}
use Rattle.gds_records.specs.Records.{StreamRecord, IsBadLength, ENDLIB, records_from, stop_after}
use Rattle.gds_model.specs.declared.record_kind.RecordKind.TheVariants.{BgnStr, StrName}
use Rattle.gds_model.specs.declared.record_kind.RecordKind.{RecordKind}
use Rattle.gds_model.specs.declared.layout_fault.LayoutFault.{LayoutFault}
use Rattle.gds_model.specs.declared.layout_fault.LayoutFault.TheVariants.{Cut, BadLength, Unexpected, TooManyStructures, BadBody, Duplicate, Trailing}
use Rattle.gds_model.specs.RecordKind.{code_of}
use Rattle.gds_model.specs.Body.{body_of_kind, fits, element_kinds, is_one_of}
use Rattle.gds_model.specs.Names.{name_of}
use Rattle.gds_model.specs.StreamFile.{IsPrefix}

-- no sentence goes on with this record after those
abbrev pub IsUnexpected : List StreamRecord → StreamRecord → Type 0
IsUnexpected before r = IsPrefix before × ¬ IsPrefix (before ++ r ∷ [])

abbrev pub structure_count : List StreamRecord → ℕ
structure_count rs = count_by (λ r. r.code == code_of BgnStr) rs

-- the code that the element around the next record begins with
abbrev pub element_of : List StreamRecord → ℕ
element_of rs = fold (λ element r. if is_one_of element_kinds r.code then r.code else element) 0 rs

-- the name that a STRNAME gives
abbrev pub names_in : StreamRecord → List (List ℕ)
names_in r = if r.code == code_of StrName then name_of r.body ∷ [] else []

-- the names that the structures have
abbrev pub names_of : List StreamRecord → List (List ℕ)
names_of rs = flat_map names_in rs

-- what may be wrong at a record
pub data Wrong : Type 0 where
  unexpected : Wrong
  one_too_many : Wrong
  bad_body : Wrong
  duplicate : Wrong

-- the order in which it is looked for
abbrev pub rank : Wrong → ℕ
rank unexpected = 0
rank one_too_many = 1
rank bad_body = 2
rank duplicate = 3

abbrev pub IsWrong : Wrong → List StreamRecord → StreamRecord → Type 0
IsWrong unexpected before r = IsUnexpected before r
IsWrong one_too_many before r = (r.code ≡ code_of BgnStr) × (structure_count before ≡ 65535)
IsWrong bad_body before r =
    (kind : RecordKind) × ((code_of kind ≡ r.code) × (fits (body_of_kind kind) (element_of before) r.body ≡ false))
IsWrong duplicate before r = (r.code ≡ code_of StrName) × Contains (names_of before) (name_of r.body)

abbrev pub fault_of : Wrong → StreamRecord → LayoutFault
fault_of unexpected r = Unexpected r.offset (r.code / 256)
fault_of one_too_many r = TooManyStructures r.offset
fault_of bad_body r = BadBody r.offset
fault_of duplicate r = Duplicate r.offset

-- nothing is wrong at a record, after those before it
abbrev pub IsFine : List StreamRecord → StreamRecord → Type 0
IsFine before r = (w : Wrong) → ¬ IsWrong w before r

-- what is wrong at a record, and nothing of a lower rank is
pub record FaultAt (before : List StreamRecord) (r : StreamRecord) (fault : LayoutFault) : Type 0 where
  pub wrong : Wrong
  pub is : IsWrong wrong before r
  pub first : (w : Wrong) → rank w < rank wrong → ¬ IsWrong w before r
  pub fault_is : fault ≡ fault_of wrong r

-- nothing is wrong at any of the records, which stand after those before
abbrev pub AllFine : List StreamRecord → List StreamRecord → Type 0
AllFine before [] = Unit {0}
AllFine before (r ∷ rs) = IsFine before r × AllFine (before ++ r ∷ []) rs

-- the fault of the first record at which something is wrong
abbrev pub FirstFault : List StreamRecord → List StreamRecord → LayoutFault → Type 0
FirstFault before [] fault = ⊥
FirstFault before (r ∷ rs) fault = FaultAt before r fault ⊎ (IsFine before r × FirstFault (before ++ r ∷ []) rs fault)

abbrev pub has_end : List StreamRecord → Bool
has_end [] = false
has_end (r ∷ rs) = (r.code == ENDLIB) || has_end rs

abbrev pub AllZeroFrom : List ℕ → ℕ → Type 0
AllZeroFrom bytes at = (i : ℕ) → at ≤ i → i < length bytes → slice_index bytes i ≡ 0

abbrev pub IsTrailingFrom : List ℕ → ℕ → LayoutFault → Type 0
IsTrailingFrom bytes at (Trailing offset) =
    (at ≤ offset) × (offset < length bytes) × (slice_index bytes offset ≢ 0)
    × ((i : ℕ) → at ≤ i → i < offset → slice_index bytes i ≡ 0)
IsTrailingFrom bytes at fault = ⊥

-- what is wrong where the records stop before ENDLIB
abbrev pub IsStopFault : List ℕ → ℕ → LayoutFault → Type 0
IsStopFault bytes stop (Cut offset) = (offset ≡ stop) × ¬ IsBadLength bytes stop
IsStopFault bytes stop (BadLength offset) = (offset ≡ stop) × IsBadLength bytes stop
IsStopFault bytes stop fault = ⊥

-- what is wrong after the last record
abbrev pub EndFault : List ℕ → List StreamRecord → LayoutFault → Type 0
EndFault bytes rs fault =
    ((has_end rs ≡ false) × IsStopFault bytes (stop_after 0 rs) fault)
    ⊎ ((has_end rs ≡ true) × IsTrailingFrom bytes (stop_after 0 rs) fault)

abbrev pub IsFaultOf : List ℕ → List StreamRecord → LayoutFault → Type 0
IsFaultOf bytes rs fault = FirstFault [] rs fault ⊎ (AllFine [] rs × EndFault bytes rs fault)

abbrev pub HasNoFaultOf : List ℕ → List StreamRecord → Type 0
HasNoFaultOf bytes rs = AllFine [] rs × (has_end rs ≡ true) × AllZeroFrom bytes (stop_after 0 rs)

-- the fault of a file
abbrev pub IsFault : List ℕ → LayoutFault → Type 0
IsFault bytes fault = IsFaultOf bytes (records_from bytes 0) fault

abbrev pub HasNoFault : List ℕ → Type 0
HasNoFault bytes = HasNoFaultOf bytes (records_from bytes 0)
