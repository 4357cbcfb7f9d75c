-- The keys of a rule file: their texts, and what each holds.
use Rattle.std.specs.Prelude.{ℕ, ℤ, pos, List, [], ◌∷◌, codes, length, nat_le, Bool, ◌&&◌, ◌≤◌, ◌≤ℤ◌, All, IsTrue}
use Rattle.std.specs.List.{list_all, list_any}
use Rattle.std.specs.Str.{bytes_eq}
use Rattle.opc_base.specs.Ranges.{IsBetween, is_name_byte}
use Rattle.rule_file.specs.declared.key.Key.{Key}
use Rattle.rule_file.specs.declared.key.Key.TheVariants.{Top, Layer, Datatype, Grid, Threshold, Samples, Piece, CornerOut, CornerIn, LineEnd, GainNum, GainDen, MaxStep, MaxIn, MaxOut, Settle, Rounds, Width, Space, Tile, Workers, OutLayer, OutDatatype, OutName}
use Rattle.rule_file.specs.declared.key.Kind.{Kind}
use Rattle.rule_file.specs.declared.key.Kind.TheVariants.{Whole, TopName, MaskName}

-- the keys in the order in which their faults count
abbrev pub keys : List Key
keys = Top ∷ Layer ∷ Datatype ∷ Grid ∷ Threshold ∷ Samples ∷ Piece ∷ CornerOut ∷ CornerIn ∷ LineEnd ∷ GainNum ∷ GainDen ∷ MaxStep ∷ MaxIn ∷ MaxOut ∷ Settle ∷ Rounds ∷ Width ∷ Space ∷ Tile ∷ Workers ∷ OutLayer ∷ OutDatatype ∷ OutName ∷ []

-- each key's text, and what it holds: a whole number from the first to the second, or a name
abbrev pub row_of : Key → List ℕ × Kind
row_of Top = (codes "top", TopName)
row_of Layer = (codes "layer", Whole (pos 0) (pos 65535))
row_of Datatype = (codes "datatype", Whole (pos 0) (pos 65535))
row_of Grid = (codes "grid", Whole (pos 1) (pos 1000))
row_of Threshold = (codes "threshold", Whole (pos 1) (pos 4800000000000000000))
row_of Samples = (codes "samples", Whole (pos 1) (pos 16))
row_of Piece = (codes "piece", Whole (pos 1) (pos 4096))
row_of CornerOut = (codes "corner_out", Whole (pos 1) (pos 4096))
row_of CornerIn = (codes "corner_in", Whole (pos 1) (pos 4096))
row_of LineEnd = (codes "line_end", Whole (pos 0) (pos 4096))
row_of GainNum = (codes "gain_num", Whole (pos 1) (pos 64))
row_of GainDen = (codes "gain_den", Whole (pos 1) (pos 64))
row_of MaxStep = (codes "max_step", Whole (pos 1) (pos 32))
row_of MaxIn = (codes "max_in", Whole (pos 0) (pos 128))
row_of MaxOut = (codes "max_out", Whole (pos 0) (pos 128))
row_of Settle = (codes "settle", Whole (pos 0) (pos 16))
row_of Rounds = (codes "rounds", Whole (pos 0) (pos 64))
row_of Width = (codes "width", Whole (pos 1) (pos 1024))
row_of Space = (codes "space", Whole (pos 1) (pos 1024))
row_of Tile = (codes "tile", Whole (pos 16) (pos 4096))
row_of Workers = (codes "workers", Whole (pos 1) (pos 64))
row_of OutLayer = (codes "out_layer", Whole (pos 0) (pos 65535))
row_of OutDatatype = (codes "out_datatype", Whole (pos 0) (pos 65535))
row_of OutName = (codes "out_name", MaskName)

abbrev pub name_of : Key → List ℕ
name_of key = (row_of key).0

abbrev pub kind_of : Key → Kind
kind_of key = (row_of key).1

-- a name of a structure that may be the top
abbrev pub is_top : List ℕ → Bool
is_top text = nat_le 1 (length text) && nat_le (length text) 255

-- a name that the mask's structure may have
abbrev pub is_mask_name : List ℕ → Bool
is_mask_name text = nat_le 1 (length text) && nat_le (length text) 32 && list_all is_name_byte text

-- the text of some key
abbrev pub is_key : List ℕ → Bool
is_key name = list_any (λ key. bytes_eq (name_of key) name) keys

-- the key holds a whole number, and one that fits in 16 bits
abbrev pub IsWholeKind : Kind → Type 0
IsWholeKind (Whole low high) = Unit {0}
IsWholeKind TopName = ⊥
IsWholeKind MaskName = ⊥

abbrev pub IsSmall : Kind → Type 0
IsSmall (Whole low high) = (pos 0 ≤ℤ low) × (high ≤ℤ pos 65535)
IsSmall TopName = ⊥
IsSmall MaskName = ⊥

-- the key holds a name
abbrev pub IsName : Kind → Type 0
IsName (Whole low high) = ⊥
IsName TopName = Unit {0}
IsName MaskName = Unit {0}

-- a number, and a text, that a key of this kind may hold
abbrev pub HoldsNumber : Kind → ℤ → Type 0
HoldsNumber (Whole low high) n = IsBetween low high n
HoldsNumber TopName n = Unit {0}
HoldsNumber MaskName n = Unit {0}

abbrev pub HoldsText : Kind → List ℕ → Type 0
HoldsText (Whole low high) text = Unit {0}
HoldsText TopName text = (1 ≤ length text) × (length text ≤ 255)
HoldsText MaskName text = (1 ≤ length text) × (length text ≤ 32) × All (λ b. IsTrue (is_name_byte b)) text
