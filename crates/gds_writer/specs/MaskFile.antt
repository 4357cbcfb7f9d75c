-- The bytes of a mask file.
use Rattle.std.specs.Prelude.{ℕ, ℤ, ◌+◌, ◌*ℤ◌, ◌/◌, ◌%◌, ◌==◌, if◌then◌else◌, List, [], ◌∷◌, ◌++◌, length, map}
use Rattle.std.specs.List.{flat_map}
use Rattle.std.specs.Int.{w16, w32, cast_unsigned, to_be_bytes}
use Rattle.opc_base.specs.declared.plane.Pix.{Pix}
use Rattle.opc_base.specs.declared.plane.Rect.{Rect}
use Rattle.opc_base.specs.declared.rules.OutPick.{OutPick}
use Rattle.gds_records.specs.declared.library_head.Head.{Head}
use Rattle.gds_records.specs.Records.{StreamRecord}
use Rattle.gds_records.specs.Written.{record_bytes}
use Rattle.gds_model.specs.declared.record_kind.RecordKind.{RecordKind}
use Rattle.gds_model.specs.declared.record_kind.RecordKind.TheVariants.{Header, BgnLib, LibName, Units, EndLib, BgnStr, StrName, EndStr, Boundary, Layer, Datatype, Xy, EndEl}
use Rattle.gds_model.specs.RecordKind.{code_of}

-- a record that is to be written
pub record MaskRecord : Type 0 where
  pub kind : RecordKind
  pub body : List ℕ

abbrev pub record_of : RecordKind → List ℕ → MaskRecord
record_of kind body = record { kind = kind; body = body }

-- the bytes of records one after another
abbrev pub bytes_of : List MaskRecord → List ℕ
bytes_of records = flat_map (λ r. record_bytes (code_of r.kind / 256) (code_of r.kind % 256) r.body) records

-- a name, padded with a zero byte to an even length
abbrev pub padded : List ℕ → List ℕ
padded name = if length name % 2 == 0 then name else name ++ 0 ∷ []

-- a point of the plane in database units: x, then y
abbrev pub point_bytes : ℤ → Pix → List ℕ
point_bytes grid p = to_be_bytes w32 (cast_unsigned w32 (p.x *ℤ grid)) ++ to_be_bytes w32 (cast_unsigned w32 (p.y *ℤ grid))

-- around a rectangle, from its lower left and back to it
abbrev pub around : Rect → List Pix
around r =
    record { x = r.x0; y = r.y0 } ∷ record { x = r.x1; y = r.y0 } ∷ record { x = r.x1; y = r.y1 } ∷ record { x = r.x0; y = r.y1 }
    ∷ record { x = r.x0; y = r.y0 } ∷ []

-- the element of an outline through these points
abbrev pub boundary : OutPick → ℤ → List Pix → List MaskRecord
boundary out grid points =
    record_of Boundary [] ∷ record_of Layer (to_be_bytes w16 out.layer) ∷ record_of Datatype (to_be_bytes w16 out.datatype)
    ∷ record_of Xy (flat_map (point_bytes grid) points) ∷ record_of EndEl [] ∷ []

-- what stands before the elements
abbrev pub opening : Head → OutPick → List MaskRecord
opening head out =
    record_of Header head.header ∷ record_of BgnLib head.dates ∷ record_of LibName head.name ∷ record_of Units head.units
    ∷ record_of BgnStr head.dates ∷ record_of StrName (padded out.name) ∷ []

-- what stands behind them
abbrev pub closing : List MaskRecord
closing = record_of EndStr [] ∷ record_of EndLib [] ∷ []

-- the records of the file of these outlines
abbrev pub outline_records : Head → OutPick → ℤ → List (List Pix) → List MaskRecord
outline_records head out grid outlines = opening head out ++ (flat_map (boundary out grid) outlines ++ closing)

-- the file of these outlines
abbrev pub outline_file : Head → OutPick → ℤ → List (List Pix) → List ℕ
outline_file head out grid outlines = bytes_of (outline_records head out grid outlines)

-- the records of the mask file of these rectangles
abbrev pub mask_records : Head → OutPick → ℤ → List Rect → List MaskRecord
mask_records head out grid rects = outline_records head out grid (map around rects)

-- the mask file of these rectangles
abbrev pub mask_file : Head → OutPick → ℤ → List Rect → List ℕ
mask_file head out grid rects = outline_file head out grid (map around rects)

-- these records one after another from an offset on, as they are read
abbrev pub standing : ℕ → List MaskRecord → List StreamRecord
standing at [] = []
standing at (r ∷ rs) = record { offset = at; code = code_of r.kind; body = r.body } ∷ standing (at + 4 + length r.body) rs
