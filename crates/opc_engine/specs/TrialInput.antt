-- The input of `trial`: a layout of so many cells, two kernels of reach 8, and rules.
use Rattle.std.specs.Prelude.{ℕ, zero, suc, ◌+◌, ◌*◌, ◌/◌, ◌%◌, ℤ, pos, ◌-ℤ◌, ◌*ℤ◌, unsigned_abs, List, [], ◌∷◌, ◌++◌, codes, replicate}
use Rattle.std.specs.List.{flat_map}
use Rattle.std.specs.Int.{w16, cast_unsigned, to_be_bytes}
use Rattle.opc_base.specs.declared.kernels.Entry.{Entry}
use Rattle.opc_base.specs.declared.plane.Rect.{Rect}
use Rattle.gds_model.specs.declared.record_kind.RecordKind.TheVariants.{Header, BgnLib, LibName, Units, EndLib, BgnStr, StrName, EndStr, Boundary, Layer, Datatype, Xy, EndEl}
use Rattle.gds_writer.specs.MaskFile.{MaskRecord, around, bytes_of, padded, point_bytes, record_of}
use Rattle.opc_engine.specs.ErrorTable.{texts_of}

-- ---- the layout

-- the number that decides the sizes of cell k
unfoldable pub seed_of : ℕ → ℕ
seed_of zero = 12345
seed_of (suc k) = (1103515245 * seed_of k + 12345) % 2147483648

abbrev pub a_of : ℕ → ℕ
a_of k = seed_of k / 65536 % 8

abbrev pub b_of : ℕ → ℕ
b_of k = seed_of k / 1048576 % 32

-- the rectangle from (x0, y0) to (x1, y1) of cell k; cells lie 200 pixels apart, eight in a row
abbrev pub rect_in : ℕ → ℕ → ℕ → ℕ → ℕ → Rect
rect_in k x0 y0 x1 y1 = record {
  x0 = pos (200 * (k % 8) + x0);
  y0 = pos (200 * (k / 8) + y0);
  x1 = pos (200 * (k % 8) + x1);
  y1 = pos (200 * (k / 8) + y1);
}

-- the four rectangles of cell k, of which the second and the third overlap
abbrev pub cell : ℕ → List Rect
cell k =
    rect_in k 0 0 (12 + a_of k) (60 + b_of k)
    ∷ rect_in k 40 0 (52 + a_of k) 100
    ∷ rect_in k 40 60 100 (72 + a_of k)
    ∷ rect_in k 0 140 100 (152 + a_of k) ∷ []

-- those of the first n cells
abbrev pub cells : ℕ → List Rect
cells zero = []
cells (suc n) = cells n ++ cell n

-- the name of the library and of its structure
abbrev pub trial_name : List ℕ
trial_name = codes "TRIAL"

-- a BOUNDARY on layer 1, datatype 0
abbrev pub square : Rect → List MaskRecord
square r =
    record_of Boundary [] ∷ record_of Layer (to_be_bytes w16 1) ∷ record_of Datatype (to_be_bytes w16 0)
    ∷ record_of Xy (flat_map (point_bytes (pos 1)) (around r)) ∷ record_of EndEl [] ∷ []

-- the real 1
abbrev pub real_one : List ℕ
real_one = 65 ∷ 16 ∷ replicate 6 0

unfoldable pub trial_layout : ℕ → List ℕ
trial_layout n = bytes_of (
    (record_of Header (to_be_bytes w16 600) ∷ record_of BgnLib (replicate 24 0) ∷ record_of LibName (padded trial_name)
    ∷ record_of Units (real_one ++ real_one) ∷ record_of BgnStr (replicate 24 0) ∷ record_of StrName (padded trial_name) ∷ [])
    ++ (flat_map square (cells n) ++ (record_of EndStr [] ∷ record_of EndLib [] ∷ [])))

-- ---- the kernels

-- the k-th of the places from -8 to 8
abbrev pub place : ℕ → ℤ
place k = pos k -ℤ pos 8

abbrev pub signed_bytes : ℤ → List ℕ
signed_bytes n = to_be_bytes w16 (cast_unsigned w16 n)

abbrev pub entry_bytes : Entry → List ℕ
entry_bytes e = signed_bytes e.re ++ signed_bytes e.im

-- a kernel's weight, and its entries: rows v from -8 to 8, in each u from -8 to 8
abbrev pub kernel_bytes : ℕ → (ℤ → ℤ → Entry) → List ℕ
kernel_bytes weight entry = to_be_bytes w16 weight ++ texts_of (λ v. texts_of (λ u. entry_bytes (entry (place u) (place v))) 17) 17

-- it falls from 9 in the middle to 1 at the rim
abbrev pub height : ℤ → ℤ
height n = pos 9 -ℤ pos (unsigned_abs n)

abbrev pub peak : ℤ → ℤ → Entry
peak u v = record { re = height u *ℤ height v; im = pos 0 }

abbrev pub slope : ℤ → ℤ → Entry
slope u v = record { re = u *ℤ height v; im = v *ℤ height u }

unfoldable pub trial_kernels : List ℕ
trial_kernels = codes "OPK1" ++ to_be_bytes w16 2 ++ to_be_bytes w16 8 ++ kernel_bytes 3 peak ++ kernel_bytes 1 slope

-- ---- the rules

abbrev pub lines_text : List (List ℕ) → List ℕ
lines_text [] = []
lines_text (line ∷ lines) = line ++ 10 ∷ lines_text lines

unfoldable pub trial_rules : List ℕ
trial_rules = lines_text (
    codes "top = \"TRIAL\"" ∷ codes "layer = 1" ∷ codes "datatype = 0" ∷ codes "grid = 1"
    ∷ codes "threshold = 40000000" ∷ codes "samples = 6"
    ∷ codes "piece = 20" ∷ codes "corner_out = 10" ∷ codes "corner_in = 10" ∷ codes "line_end = 20"
    ∷ codes "gain_num = 1" ∷ codes "gain_den = 1" ∷ codes "max_step = 2" ∷ codes "max_in = 4" ∷ codes "max_out = 6"
    ∷ codes "settle = 0" ∷ codes "rounds = 4" ∷ codes "width = 8" ∷ codes "space = 8" ∷ codes "tile = 64" ∷ codes "workers = 4"
    ∷ codes "out_layer = 1" ∷ codes "out_datatype = 0" ∷ codes "out_name = \"MASK\"" ∷ [])
