-- The grammar of a stream file.
use Rattle.std.specs.Prelude.{List, ◌++◌}
use Rattle.gds_model.specs.declared.record_kind.RecordKind.TheVariants.{Header, BgnLib, LibName, Units, EndLib, BgnStr, StrName, EndStr, Boundary, Path, Sref, Aref, Text, Layer, Datatype, Width, Xy, EndEl, Sname, ColRow, Node, TextType, Presentation, TextString, Strans, Mag, Angle, RefLibs, Fonts, PathType, Generations, AttrTable, ElFlags, NodeType, PropAttr, PropValue, Box, BoxType, Plex, BgnExtn, EndExtn, StrClass, Format, Mask, EndMasks, LibDirSize, SrfName, LibSecur}
use Rattle.gds_records.specs.Records.{StreamRecord}
use Rattle.gds_model.specs.Grammar.{Grammar, one, ◌⨾◌, ◌∣◌, optional, many, Spells}

abbrev pub library_option : Grammar
library_option = one LibDirSize ∣ one SrfName ∣ one LibSecur ∣ one RefLibs ∣ one Fonts ∣ one AttrTable ∣ one Generations ∣ one Format ∣ one Mask ∣ one EndMasks

abbrev pub property : Grammar
property = one PropAttr ⨾ one PropValue

abbrev pub strans : Grammar
strans = optional (one Strans ⨾ optional (one Mag) ⨾ optional (one Angle))

abbrev pub boundary : Grammar
boundary = one Boundary ⨾ optional (one ElFlags) ⨾ optional (one Plex) ⨾ one Layer ⨾ one Datatype ⨾ one Xy

abbrev pub path : Grammar
path = one Path ⨾ optional (one ElFlags) ⨾ optional (one Plex) ⨾ one Layer ⨾ one Datatype ⨾ optional (one PathType) ⨾ optional (one Width) ⨾ optional (one BgnExtn) ⨾ optional (one EndExtn) ⨾ one Xy

abbrev pub sref : Grammar
sref = one Sref ⨾ optional (one ElFlags) ⨾ optional (one Plex) ⨾ one Sname ⨾ strans ⨾ one Xy

abbrev pub aref : Grammar
aref = one Aref ⨾ optional (one ElFlags) ⨾ optional (one Plex) ⨾ one Sname ⨾ strans ⨾ one ColRow ⨾ one Xy

abbrev pub text : Grammar
text = one Text ⨾ optional (one ElFlags) ⨾ optional (one Plex) ⨾ one Layer ⨾ one TextType ⨾ optional (one Presentation) ⨾ optional (one PathType) ⨾ optional (one Width) ⨾ strans ⨾ one Xy ⨾ one TextString

abbrev pub node : Grammar
node = one Node ⨾ optional (one ElFlags) ⨾ optional (one Plex) ⨾ one Layer ⨾ one NodeType ⨾ one Xy

abbrev pub box : Grammar
box = one Box ⨾ optional (one ElFlags) ⨾ optional (one Plex) ⨾ one Layer ⨾ one BoxType ⨾ one Xy

abbrev pub element : Grammar
element = (boundary ∣ path ∣ sref ∣ aref ∣ text ∣ node ∣ box) ⨾ many property ⨾ one EndEl

abbrev pub structure : Grammar
structure = one BgnStr ⨾ one StrName ⨾ optional (one StrClass) ⨾ many element ⨾ one EndStr

abbrev pub library : Grammar
library =
    one Header ⨾ one BgnLib ⨾ many library_option ⨾ one LibName ⨾ many library_option ⨾ one Units ⨾ many structure ⨾ one EndLib

abbrev pub IsSentence : List StreamRecord → Type 0
IsSentence rs = Spells library rs

-- some sentence begins with these records
pub record IsPrefix (rs : List StreamRecord) : Type 0 where
  pub more : List StreamRecord
  pub sentence : IsSentence (rs ++ more)
