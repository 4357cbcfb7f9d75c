-- What may come from each state on.
use Rattle.std.specs.Prelude.{Option, Some, None}
use Rattle.gds_model.specs.declared.record_kind.RecordKind.TheVariants.{BgnLib, LibName, Units, EndLib, StrName, EndStr, Layer, Datatype, Width, Xy, EndEl, Sname, ColRow, TextType, Presentation, TextString, Mag, Angle, PathType, ElFlags, NodeType, PropValue, BoxType, Plex, BgnExtn, EndExtn, StrClass}
use Rattle.gds_library.specs.declared.state.State.{State}
use Rattle.gds_library.specs.declared.state.State.TheVariants as state
use Rattle.gds_model.specs.Grammar.{Grammar, never, empty, one, ◌⨾◌, optional, many}
use Rattle.gds_model.specs.StreamFile.{library_option, property, strans, element, structure, library}

abbrev pub from_structures : Grammar
from_structures = many structure ⨾ one EndLib

abbrev pub from_options : Grammar
from_options = many library_option ⨾ one LibName ⨾ many library_option ⨾ one Units ⨾ from_structures

-- the rest of a structure, and of the library
abbrev pub in_structure : Grammar → Grammar
in_structure g = (g ⨾ many structure) ⨾ one EndLib

-- the rest of an element, and of the library
abbrev pub in_elements : Grammar → Grammar
in_elements g = in_structure ((g ⨾ many element) ⨾ one EndStr)

-- the rest of an element up to its properties, and of the library
abbrev pub in_element : Grammar → Grammar
in_element g = in_elements (g ⨾ many property ⨾ one EndEl)

abbrev pub rest_of : State → Grammar
rest_of state.Start = library
rest_of state.Header = one BgnLib ⨾ from_options
rest_of state.BeforeName = from_options
rest_of state.BeforeUnits = many library_option ⨾ one Units ⨾ from_structures
rest_of state.Structures = from_structures
rest_of state.BgnStr = in_structure (one StrName ⨾ optional (one StrClass) ⨾ many element ⨾ one EndStr)
rest_of state.StrName = in_structure (optional (one StrClass) ⨾ many element ⨾ one EndStr)
rest_of state.Elements = in_structure (many element ⨾ one EndStr)
rest_of state.Boundary = in_element (optional (one ElFlags) ⨾ optional (one Plex) ⨾ one Layer ⨾ one Datatype ⨾ one Xy)
rest_of state.BoundaryElFlags = in_element (optional (one Plex) ⨾ one Layer ⨾ one Datatype ⨾ one Xy)
rest_of state.BoundaryPlex = in_element (one Layer ⨾ one Datatype ⨾ one Xy)
rest_of state.BoundaryLayer = in_element (one Datatype ⨾ one Xy)
rest_of state.BoundaryDatatype = in_element (one Xy)
rest_of state.Path = in_element (optional (one ElFlags) ⨾ optional (one Plex) ⨾ one Layer ⨾ one Datatype ⨾ optional (one PathType) ⨾ optional (one Width) ⨾ optional (one BgnExtn) ⨾ optional (one EndExtn) ⨾ one Xy)
rest_of state.PathElFlags = in_element (optional (one Plex) ⨾ one Layer ⨾ one Datatype ⨾ optional (one PathType) ⨾ optional (one Width) ⨾ optional (one BgnExtn) ⨾ optional (one EndExtn) ⨾ one Xy)
rest_of state.PathPlex = in_element (one Layer ⨾ one Datatype ⨾ optional (one PathType) ⨾ optional (one Width) ⨾ optional (one BgnExtn) ⨾ optional (one EndExtn) ⨾ one Xy)
rest_of state.PathLayer = in_element (one Datatype ⨾ optional (one PathType) ⨾ optional (one Width) ⨾ optional (one BgnExtn) ⨾ optional (one EndExtn) ⨾ one Xy)
rest_of state.PathDatatype = in_element (optional (one PathType) ⨾ optional (one Width) ⨾ optional (one BgnExtn) ⨾ optional (one EndExtn) ⨾ one Xy)
rest_of state.PathPathType = in_element (optional (one Width) ⨾ optional (one BgnExtn) ⨾ optional (one EndExtn) ⨾ one Xy)
rest_of state.PathWidth = in_element (optional (one BgnExtn) ⨾ optional (one EndExtn) ⨾ one Xy)
rest_of state.PathBgnExtn = in_element (optional (one EndExtn) ⨾ one Xy)
rest_of state.PathEndExtn = in_element (one Xy)
rest_of state.Sref = in_element (optional (one ElFlags) ⨾ optional (one Plex) ⨾ one Sname ⨾ strans ⨾ one Xy)
rest_of state.SrefElFlags = in_element (optional (one Plex) ⨾ one Sname ⨾ strans ⨾ one Xy)
rest_of state.SrefPlex = in_element (one Sname ⨾ strans ⨾ one Xy)
rest_of state.SrefSname = in_element (strans ⨾ one Xy)
rest_of state.SrefStrans = in_element ((optional (one Mag) ⨾ optional (one Angle)) ⨾ one Xy)
rest_of state.SrefMag = in_element (optional (one Angle) ⨾ one Xy)
rest_of state.SrefAngle = in_element (one Xy)
rest_of state.Aref = in_element (optional (one ElFlags) ⨾ optional (one Plex) ⨾ one Sname ⨾ strans ⨾ one ColRow ⨾ one Xy)
rest_of state.ArefElFlags = in_element (optional (one Plex) ⨾ one Sname ⨾ strans ⨾ one ColRow ⨾ one Xy)
rest_of state.ArefPlex = in_element (one Sname ⨾ strans ⨾ one ColRow ⨾ one Xy)
rest_of state.ArefSname = in_element (strans ⨾ one ColRow ⨾ one Xy)
rest_of state.ArefStrans = in_element ((optional (one Mag) ⨾ optional (one Angle)) ⨾ one ColRow ⨾ one Xy)
rest_of state.ArefMag = in_element (optional (one Angle) ⨾ one ColRow ⨾ one Xy)
rest_of state.ArefAngle = in_element (one ColRow ⨾ one Xy)
rest_of state.ArefColRow = in_element (one Xy)
rest_of state.Text = in_element (optional (one ElFlags) ⨾ optional (one Plex) ⨾ one Layer ⨾ one TextType ⨾ optional (one Presentation) ⨾ optional (one PathType) ⨾ optional (one Width) ⨾ strans ⨾ one Xy ⨾ one TextString)
rest_of state.TextElFlags = in_element (optional (one Plex) ⨾ one Layer ⨾ one TextType ⨾ optional (one Presentation) ⨾ optional (one PathType) ⨾ optional (one Width) ⨾ strans ⨾ one Xy ⨾ one TextString)
rest_of state.TextPlex = in_element (one Layer ⨾ one TextType ⨾ optional (one Presentation) ⨾ optional (one PathType) ⨾ optional (one Width) ⨾ strans ⨾ one Xy ⨾ one TextString)
rest_of state.TextLayer = in_element (one TextType ⨾ optional (one Presentation) ⨾ optional (one PathType) ⨾ optional (one Width) ⨾ strans ⨾ one Xy ⨾ one TextString)
rest_of state.TextTextType = in_element (optional (one Presentation) ⨾ optional (one PathType) ⨾ optional (one Width) ⨾ strans ⨾ one Xy ⨾ one TextString)
rest_of state.TextPresentation = in_element (optional (one PathType) ⨾ optional (one Width) ⨾ strans ⨾ one Xy ⨾ one TextString)
rest_of state.TextPathType = in_element (optional (one Width) ⨾ strans ⨾ one Xy ⨾ one TextString)
rest_of state.TextWidth = in_element (strans ⨾ one Xy ⨾ one TextString)
rest_of state.TextStrans = in_element ((optional (one Mag) ⨾ optional (one Angle)) ⨾ one Xy ⨾ one TextString)
rest_of state.TextMag = in_element (optional (one Angle) ⨾ one Xy ⨾ one TextString)
rest_of state.TextAngle = in_element (one Xy ⨾ one TextString)
rest_of state.TextXy = in_element (one TextString)
rest_of state.Node = in_element (optional (one ElFlags) ⨾ optional (one Plex) ⨾ one Layer ⨾ one NodeType ⨾ one Xy)
rest_of state.NodeElFlags = in_element (optional (one Plex) ⨾ one Layer ⨾ one NodeType ⨾ one Xy)
rest_of state.NodePlex = in_element (one Layer ⨾ one NodeType ⨾ one Xy)
rest_of state.NodeLayer = in_element (one NodeType ⨾ one Xy)
rest_of state.NodeNodeType = in_element (one Xy)
rest_of state.Box = in_element (optional (one ElFlags) ⨾ optional (one Plex) ⨾ one Layer ⨾ one BoxType ⨾ one Xy)
rest_of state.BoxElFlags = in_element (optional (one Plex) ⨾ one Layer ⨾ one BoxType ⨾ one Xy)
rest_of state.BoxPlex = in_element (one Layer ⨾ one BoxType ⨾ one Xy)
rest_of state.BoxLayer = in_element (one BoxType ⨾ one Xy)
rest_of state.BoxBoxType = in_element (one Xy)
rest_of state.Properties = in_elements (many property ⨾ one EndEl)
rest_of state.PropAttr = in_elements ((one PropValue ⨾ many property) ⨾ one EndEl)
rest_of state.End = empty

abbrev pub rest_after : Option State → Grammar
rest_after None = never
rest_after (Some s) = rest_of s
