-- Each kind of record has a code of its own.
use Rattle.std.proofs.Common.{◌≡◌, ℕ, ◌==◌, refl, List, [], ◌∷◌, Option, Some, ap, sym, ◌∙◌}
use Rattle.std.specs.Prelude.{find}
use Rattle.gds_model.specs.declared.record_kind.RecordKind.{RecordKind}
use Rattle.gds_model.specs.declared.record_kind.RecordKind.TheVariants.{Header, BgnLib, LibName, Units, EndLib, BgnStr, StrName, EndStr, Boundary, Path, Sref, Aref, Text, Layer, Datatype, Width, Xy, EndEl, Sname, ColRow, Node, TextType, Presentation, TextString, Strans, Mag, Angle, RefLibs, Fonts, PathType, Generations, AttrTable, ElFlags, NodeType, PropAttr, PropValue, Box, BoxType, Plex, BgnExtn, EndExtn, StrClass, Format, Mask, EndMasks, LibDirSize, SrfName, LibSecur}
use Rattle.gds_model.specs.RecordKind.{code_of}

every_kind : List RecordKind
every_kind = Header ∷ BgnLib ∷ LibName ∷ Units ∷ EndLib ∷ BgnStr ∷ StrName ∷ EndStr ∷ Boundary ∷ Path ∷ Sref ∷ Aref ∷ Text ∷ Layer ∷ Datatype ∷ Width ∷ Xy ∷ EndEl ∷ Sname ∷ ColRow ∷ Node ∷ TextType ∷ Presentation ∷ TextString ∷ Strans ∷ Mag ∷ Angle ∷ RefLibs ∷ Fonts ∷ PathType ∷ Generations ∷ AttrTable ∷ ElFlags ∷ NodeType ∷ PropAttr ∷ PropValue ∷ Box ∷ BoxType ∷ Plex ∷ BgnExtn ∷ EndExtn ∷ StrClass ∷ Format ∷ Mask ∷ EndMasks ∷ LibDirSize ∷ SrfName ∷ LibSecur ∷ []

kind_at : ℕ → Option RecordKind
kind_at c = find (λ k. code_of k == c) every_kind

kind_at-code_of : (k : RecordKind) → kind_at (code_of k) ≡ Some k
unfolding kind_at every_kind
kind_at-code_of Header = refl
kind_at-code_of _ = refl

pub code_same : (k j : RecordKind) → code_of k ≡ code_of j → k ≡ j
code_same k j e =
    let both : Some k ≡ Some j = sym (kind_at-code_of k) ∙ ap kind_at e ∙ kind_at-code_of j in
    cc
