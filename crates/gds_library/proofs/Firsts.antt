-- A record that is not among a grammar's first ones leaves nothing.
use Rattle.std.proofs.Common.{◌≡◌, ◌≢◌, ℕ, ◌==◌, Bool, true, false, cond, refl, List, [], ◌∷◌, ◌++◌, Option, Some, ap}
use Rattle.std.specs.Prelude.{find, if◌then◌else◌}
use Rattle.std.proofs.Common.{sym, ◌∙◌}
use Rattle.std.proofs.lemmas.Bool.{ne_eqb}
use Rattle.gds_model.specs.declared.record_kind.RecordKind.{RecordKind}
use Rattle.gds_model.specs.declared.record_kind.RecordKind.TheVariants.{Header, BgnLib, LibName, Units, EndLib, BgnStr, StrName, EndStr, Boundary, Path, Sref, Aref, Text, Layer, Datatype, Width, Xy, EndEl, Sname, ColRow, Node, TextType, Presentation, TextString, Strans, Mag, Angle, RefLibs, Fonts, PathType, Generations, AttrTable, ElFlags, NodeType, PropAttr, PropValue, Box, BoxType, Plex, BgnExtn, EndExtn, StrClass, Format, Mask, EndMasks, LibDirSize, SrfName, LibSecur}
use Rattle.gds_model.specs.RecordKind.{code_of}
use Rattle.gds_model.specs.Grammar.{Grammar, never, empty, one, ◌⨾◌, ◌∣◌, optional, many}
use Rattle.gds_model.specs.Body.{is_one_of}
use Rattle.gds_library.specs.Derivative.{after, can_be_empty, either}

abbrev pub firsts : Grammar → List RecordKind
firsts never = []
firsts empty = []
firsts (one k) = k ∷ []
firsts (g ⨾ h) = firsts g ++ cond (can_be_empty g) (firsts h) []
firsts (g ∣ h) = firsts g ++ firsts h
firsts (optional g) = firsts g
firsts (many g) = firsts g

abbrev pub Differs : RecordKind → List RecordKind → Type 0
Differs k [] = Unit {0}
Differs k (j ∷ js) = (k ≢ j) × Differs k js

Differs-left : (k : RecordKind) (xs ys : List RecordKind) → Differs k (xs ++ ys) → Differs k xs
Differs-left k [] ys d = tt
Differs-left k (x ∷ xs) ys d = (d.0, Differs-left k xs ys d.1)

Differs-right : (k : RecordKind) (xs ys : List RecordKind) → Differs k (xs ++ ys) → Differs k ys
Differs-right k [] ys d = d
Differs-right k (x ∷ xs) ys d = Differs-right k xs ys d.1

every_kind : List RecordKind
every_kind = Header ∷ BgnLib ∷ LibName ∷ Units ∷ EndLib ∷ BgnStr ∷ StrName ∷ EndStr ∷ Boundary ∷ Path ∷ Sref ∷ Aref ∷ Text ∷ Layer ∷ Datatype ∷ Width ∷ Xy ∷ EndEl ∷ Sname ∷ ColRow ∷ Node ∷ TextType ∷ Presentation ∷ TextString ∷ Strans ∷ Mag ∷ Angle ∷ RefLibs ∷ Fonts ∷ PathType ∷ Generations ∷ AttrTable ∷ ElFlags ∷ NodeType ∷ PropAttr ∷ PropValue ∷ Box ∷ BoxType ∷ Plex ∷ BgnExtn ∷ EndExtn ∷ StrClass ∷ Format ∷ Mask ∷ EndMasks ∷ LibDirSize ∷ SrfName ∷ LibSecur ∷ []

kind_at : ℕ → Option RecordKind
kind_at c = find (λ k. code_of k == c) every_kind

kind_at-code_of : (k : RecordKind) → kind_at (code_of k) ≡ Some k
unfolding kind_at every_kind
kind_at-code_of Header = refl
kind_at-code_of BgnLib = refl
kind_at-code_of LibName = refl
kind_at-code_of Units = refl
kind_at-code_of EndLib = refl
kind_at-code_of BgnStr = refl
kind_at-code_of StrName = refl
kind_at-code_of EndStr = refl
kind_at-code_of Boundary = refl
kind_at-code_of Path = refl
kind_at-code_of Sref = refl
kind_at-code_of Aref = refl
kind_at-code_of Text = refl
kind_at-code_of Layer = refl
kind_at-code_of Datatype = refl
kind_at-code_of Width = refl
kind_at-code_of Xy = refl
kind_at-code_of EndEl = refl
kind_at-code_of Sname = refl
kind_at-code_of ColRow = refl
kind_at-code_of Node = refl
kind_at-code_of TextType = refl
kind_at-code_of Presentation = refl
kind_at-code_of TextString = refl
kind_at-code_of Strans = refl
kind_at-code_of Mag = refl
kind_at-code_of Angle = refl
kind_at-code_of RefLibs = refl
kind_at-code_of Fonts = refl
kind_at-code_of PathType = refl
kind_at-code_of Generations = refl
kind_at-code_of AttrTable = refl
kind_at-code_of ElFlags = refl
kind_at-code_of NodeType = refl
kind_at-code_of PropAttr = refl
kind_at-code_of PropValue = refl
kind_at-code_of Box = refl
kind_at-code_of BoxType = refl
kind_at-code_of Plex = refl
kind_at-code_of BgnExtn = refl
kind_at-code_of EndExtn = refl
kind_at-code_of StrClass = refl
kind_at-code_of Format = refl
kind_at-code_of Mask = refl
kind_at-code_of EndMasks = refl
kind_at-code_of LibDirSize = refl
kind_at-code_of SrfName = refl
kind_at-code_of LibSecur = refl

-- no two kinds have the same code
pub code_same : (k j : RecordKind) → code_of k ≡ code_of j → k ≡ j
code_same k j e =
    let both : Some k ≡ Some j = sym (kind_at-code_of k) ∙ ap kind_at e ∙ kind_at-code_of j in
    cc

pub code_differs : (k j : RecordKind) → k ≢ j → code_of k ≢ code_of j
code_differs k j d e = d (code_same k j e)

after_rest : (k : RecordKind) (h : Grammar) (b : Bool) → (Differs k (firsts h) → after (code_of k) h ≡ never)
    → Differs k (cond b (firsts h) []) → either never (if b then after (code_of k) h else never) ≡ never
after_rest k h true ih d = ih d
after_rest k h false ih d = refl

after-none : (k : RecordKind) (g : Grammar) → Differs k (firsts g) → after (code_of k) g ≡ never
after-none k never d = refl
after-none k empty d = refl
after-none k (one j) d = let other = ne_eqb (code_of k) (code_of j) (code_differs k j d.0) in rw other refl
after-none k (g ⨾ h) d =
    let left = after-none k g (Differs-left k (firsts g) _ d) in
    rw left (after_rest k h (can_be_empty g) (λ d'. after-none k h d') (Differs-right k (firsts g) _ d))
after-none k (g ∣ h) d =
    let left = after-none k g (Differs-left k (firsts g) (firsts h) d) in
    let right = after-none k h (Differs-right k (firsts g) (firsts h) d) in
    rw (left, right) refl
after-none k (optional g) d = after-none k g d
after-none k (many g) d = let first = after-none k g d in rw first refl

pub none_after : (k : RecordKind) (g : Grammar) → Differs k (firsts g) → after (code_of k) g ≡ never
none_after = after-none

-- a kind that is none of these
pub not_one_of : (k : RecordKind) (ks : List RecordKind) → Differs k ks → is_one_of ks (code_of k) ≡ false
not_one_of k [] d = refl
not_one_of k (j ∷ js) d =
    let other = ne_eqb (code_of k) (code_of j) (code_differs k j d.0) in
    rw other (not_one_of k js d.1)
