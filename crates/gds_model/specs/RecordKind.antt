-- The two code bytes of each record: the record type and the data type.
use Rattle.std.specs.Prelude.{ℕ}
use Rattle.gds_model.specs.declared.record_kind.RecordKind.{RecordKind}
use Rattle.gds_model.specs.declared.record_kind.RecordKind.TheVariants.{Header, BgnLib, LibName, Units, EndLib, BgnStr, StrName, EndStr, Boundary, Path, Sref, Aref, Text, Layer, Datatype, Width, Xy, EndEl, Sname, ColRow, Node, TextType, Presentation, TextString, Strans, Mag, Angle, RefLibs, Fonts, PathType, Generations, AttrTable, ElFlags, NodeType, PropAttr, PropValue, Box, BoxType, Plex, BgnExtn, EndExtn, StrClass, Format, Mask, EndMasks, LibDirSize, SrfName, LibSecur}

abbrev pub code_of : RecordKind → ℕ
code_of Header = 0x0002
code_of BgnLib = 0x0102
code_of LibName = 0x0206
code_of Units = 0x0305
code_of EndLib = 0x0400
code_of BgnStr = 0x0502
code_of StrName = 0x0606
code_of EndStr = 0x0700
code_of Boundary = 0x0800
code_of Path = 0x0900
code_of Sref = 0x0A00
code_of Aref = 0x0B00
code_of Text = 0x0C00
code_of Layer = 0x0D02
code_of Datatype = 0x0E02
code_of Width = 0x0F03
code_of Xy = 0x1003
code_of EndEl = 0x1100
code_of Sname = 0x1206
code_of ColRow = 0x1302
code_of Node = 0x1500
code_of TextType = 0x1602
code_of Presentation = 0x1701
code_of TextString = 0x1906
code_of Strans = 0x1A01
code_of Mag = 0x1B05
code_of Angle = 0x1C05
code_of RefLibs = 0x1F06
code_of Fonts = 0x2006
code_of PathType = 0x2102
code_of Generations = 0x2202
code_of AttrTable = 0x2306
code_of ElFlags = 0x2601
code_of NodeType = 0x2A02
code_of PropAttr = 0x2B02
code_of PropValue = 0x2C06
code_of Box = 0x2D00
code_of BoxType = 0x2E02
code_of Plex = 0x2F03
code_of BgnExtn = 0x3003
code_of EndExtn = 0x3103
code_of StrClass = 0x3401
code_of Format = 0x3602
code_of Mask = 0x3706
code_of EndMasks = 0x3800
code_of LibDirSize = 0x3902
code_of SrfName = 0x3A06
code_of LibSecur = 0x3B02
