-- The bodies that a record may have.
use Rattle.std.specs.Prelude.{ℕ, ◌%◌, ◌==◌, ◌&&◌, nat_le, Bool, true, Option, Some, None, List, [], ◌∷◌, length, if◌then◌else◌}
use Rattle.std.specs.List.{list_any}
use Rattle.gds_model.specs.declared.record_kind.RecordKind.{RecordKind}
use Rattle.gds_model.specs.declared.record_kind.RecordKind.TheVariants.{Header, BgnLib, LibName, Units, EndLib, BgnStr, StrName, EndStr, Boundary, Path, Sref, Aref, Text, Layer, Datatype, Width, Xy, EndEl, Sname, ColRow, Node, TextType, Presentation, TextString, Strans, Mag, Angle, RefLibs, Fonts, PathType, Generations, AttrTable, ElFlags, NodeType, PropAttr, PropValue, Box, BoxType, Plex, BgnExtn, EndExtn, StrClass, Format, Mask, EndMasks, LibDirSize, SrfName, LibSecur}
use Rattle.gds_model.specs.RecordKind.{code_of}
use Rattle.gds_model.specs.Names.{has_nonzero}

-- any bytes, so many bytes, a name, or the points of an element
pub data Body : Type 0 where
  any : Body
  bytes : ℕ → Body
  name : Body
  points : Body

abbrev pub body_of_kind : RecordKind → Body
body_of_kind Header = bytes 2
body_of_kind BgnLib = bytes 24
body_of_kind LibName = any
body_of_kind Units = bytes 16
body_of_kind EndLib = bytes 0
body_of_kind BgnStr = bytes 24
body_of_kind StrName = name
body_of_kind EndStr = bytes 0
body_of_kind Boundary = bytes 0
body_of_kind Path = bytes 0
body_of_kind Sref = bytes 0
body_of_kind Aref = bytes 0
body_of_kind Text = bytes 0
body_of_kind Layer = bytes 2
body_of_kind Datatype = bytes 2
body_of_kind Width = bytes 4
body_of_kind Xy = points
body_of_kind EndEl = bytes 0
body_of_kind Sname = name
body_of_kind ColRow = bytes 4
body_of_kind Node = bytes 0
body_of_kind TextType = bytes 2
body_of_kind Presentation = bytes 2
body_of_kind TextString = any
body_of_kind Strans = bytes 2
body_of_kind Mag = bytes 8
body_of_kind Angle = bytes 8
body_of_kind RefLibs = any
body_of_kind Fonts = any
body_of_kind PathType = bytes 2
body_of_kind Generations = any
body_of_kind AttrTable = any
body_of_kind ElFlags = any
body_of_kind NodeType = bytes 2
body_of_kind PropAttr = any
body_of_kind PropValue = any
body_of_kind Box = bytes 0
body_of_kind BoxType = bytes 2
body_of_kind Plex = any
body_of_kind BgnExtn = bytes 4
body_of_kind EndExtn = bytes 4
body_of_kind StrClass = any
body_of_kind Format = any
body_of_kind Mask = any
body_of_kind EndMasks = bytes 0
body_of_kind LibDirSize = any
body_of_kind SrfName = any
body_of_kind LibSecur = any

-- whether a body is one of these, in an element that begins with this code; a name has a byte that isn't zero
abbrev pub fits : Body → ℕ → List ℕ → Bool
fits any element body = true
fits (bytes n) element body = length body == n
fits name element body = has_nonzero body
fits points element body =
    if element == code_of Sref then length body == 8
    else if element == code_of Aref then length body == 24
    else nat_le 8 (length body) && (length body % 8 == 0)

abbrev pub element_kinds : List RecordKind
element_kinds = Boundary ∷ Path ∷ Sref ∷ Aref ∷ Text ∷ Node ∷ Box ∷ []

abbrev pub is_one_of : List RecordKind → ℕ → Bool
is_one_of kinds code = list_any (λ k. code == code_of k) kinds

-- the code of an element, or 0 outside of elements
abbrev pub element_code : Option RecordKind → ℕ
element_code None = 0
element_code (Some kind) = code_of kind
