-- What is true of the library of every file without fault.
use Rattle.std.proofs.Common.{◌≡◌, ℕ, ◌+◌, ◌<◌, ◌≤◌, ◌/◌, ◌%◌, ◌==◌, ◌&&◌, ◌||◌, Bool, true, false, cond, not, refl, Option, Some, None, List, [], ◌∷◌, ◌++◌, length, map, get_or, ap, sym, ◌∙◌, subst, inl, inr, append_assoc, ◌⊎◌, arith}
use Rattle.std.specs.Prelude.{All, MatchOption, nat_le, fold}
use Rattle.std.specs.List.{Contains, flat_map}
use Rattle.std.specs.Option.{option_map, unwrap_or}
use Rattle.std.proofs.lemmas.Bool.{cases_Bool, cases_eq, cases_lt, eq-eqb, eqb-true, or_parts}
use Rattle.std.proofs.lemmas.Bool.Decides.{nat_tests}
use Rattle.std.proofs.lemmas.List.{append-nil, length-append, length-map, get_or_default}
use Rattle.std.proofs.Math.ListN.{get_or-append}
use Rattle.std.proofs.Math.Seq.{get_or-append_seam}
use Rattle.std.proofs.lemmas.List.Concat.{flat_map-cons}
use Rattle.std.proofs.lemmas.List.Elements.{All-cons, All-append}
use Rattle.std.proofs.lemmas.List.FromFn.{length-map-range_with_len}
use Rattle.std.proofs.lemmas.List.Sums.{sum_by-append, fold-append}
use Rattle.std.proofs.lemmas.Grind.{flat_map-append}
use Rattle.gds_records.specs.Points.{point_in}
use Rattle.gds_records.specs.Records.{StreamRecord, records_from}
use Rattle.gds_model.specs.declared.record_kind.RecordKind.{RecordKind}
use Rattle.gds_model.specs.declared.record_kind.RecordKind.TheVariants.{Boundary, Path, Sref, Aref, Box, BgnStr, StrName, EndStr, StrClass, EndEl, Xy, ColRow, Header, BgnLib, LibName, Units, EndLib}
use Rattle.gds_model.specs.declared.elements.Element.{Element}
use Rattle.gds_model.specs.declared.elements.Structure.{Structure}
use Rattle.gds_model.specs.RecordKind.{code_of}
use Rattle.gds_model.specs.Names.{name_of}
use Rattle.gds_model.specs.Body.{fits, points, element_kinds, is_one_of}
use Rattle.gds_model.specs.Grammar.{Grammar, never, empty, one, ◌⨾◌, ◌∣◌, optional, many, Content, Tree, records_of}
use Rattle.gds_model.specs.StreamFile.{library_option, property, boundary, path, sref, aref, box, element, structure, library}
use Rattle.gds_model.specs.Faults.{IsFine, AllFine, one_too_many, bad_body, duplicate, structure_count, element_of, names_in, names_of}
use Rattle.gds_model.specs.Elements.{body_of, bytes_of, points_in, grid_in, elements_in}
use Rattle.gds_model.specs.Library.{HasItsPoints, names, IsLayout, elements_of, structure_of, library_of}
use Rattle.gds_model.proofs.Offsets.{ascending_offsets}

abbrev entry : RecordKind → Content → StreamRecord
entry k t = record { offset = t.offset; code = code_of k; body = t.body }

-- parts of records of which each is fine
AllFine-front : (before xs ys : List StreamRecord) → AllFine before (xs ++ ys) → AllFine before xs
AllFine-front before [] ys all = tt
AllFine-front before (x ∷ xs) ys all = (all.0, AllFine-front (before ++ x ∷ []) xs ys all.1)

AllFine-rest : (before xs ys : List StreamRecord) → AllFine before (xs ++ ys) → AllFine (before ++ xs) ys
AllFine-rest before [] ys all =
    let P : List StreamRecord → Type 0 = λ l. AllFine l ys in
    subst P (sym (append-nil before)) all
AllFine-rest before (x ∷ xs) ys all =
    let P : List StreamRecord → Type 0 = λ l. AllFine l ys in
    subst P (append_assoc before (x ∷ []) xs) (AllFine-rest (before ++ x ∷ []) xs ys all.1)

-- none of the records is of one of these kinds
abbrev NoneOf : List RecordKind → List StreamRecord → Type 0
NoneOf ks [] = Unit {0}
NoneOf ks (r ∷ rs) = (is_one_of ks r.code ≡ false) × NoneOf ks rs

NoneOf-append : (ks : List RecordKind) (rs ss : List StreamRecord) → NoneOf ks rs → NoneOf ks ss → NoneOf ks (rs ++ ss)
NoneOf-append ks [] ss p q = q
NoneOf-append ks (r ∷ rs) ss p q = (p.0, NoneOf-append ks rs ss p.1 q)

NoneOf-front : (ks : List RecordKind) (rs ss : List StreamRecord) → NoneOf ks (rs ++ ss) → NoneOf ks rs
NoneOf-front ks [] ss p = tt
NoneOf-front ks (r ∷ rs) ss p = (p.0, NoneOf-front ks rs ss p.1)

-- no record that the grammar describes is of one of these kinds
abbrev lacks : List RecordKind → Grammar → Bool
lacks ks never = true
lacks ks empty = true
lacks ks (one k) = not (is_one_of ks (code_of k))
lacks ks (g ⨾ h) = lacks ks g && lacks ks h
lacks ks (g ∣ h) = lacks ks g && lacks ks h
lacks ks (optional g) = lacks ks g
lacks ks (many g) = lacks ks g

both_true : (a b : Bool) → (a && b) ≡ true → (a ≡ true) × (b ≡ true)
both_true true true e = (refl, refl)
both_true true false e = cc
both_true false b e = cc

not_true : (b : Bool) → not b ≡ true → b ≡ false
not_true true e = cc
not_true false e = refl

lacks-many : (ks : List RecordKind) (g : Grammar) → ((t : Tree g) → NoneOf ks (records_of g t)) → (ts : List (Tree g)) → NoneOf ks (records_of (many g) ts)
lacks-many ks g h [] = tt
lacks-many ks g h (t ∷ ts) =
    let P : List StreamRecord → Type 0 = λ l. NoneOf ks l in
    subst P (sym (flat_map-cons (λ u. records_of g u) t ts))
    (NoneOf-append ks (records_of g t) (records_of (many g) ts) (h t) (lacks-many ks g h ts))

lacks-none : (ks : List RecordKind) (g : Grammar) → lacks ks g ≡ true → (t : Tree g) → NoneOf ks (records_of g t)
lacks-none ks never e t = absurd t
lacks-none ks empty e t = tt
lacks-none ks (one k) e t = (not_true (is_one_of ks (code_of k)) e, tt)
lacks-none ks (g ⨾ h) e t =
    let parts = both_true (lacks ks g) (lacks ks h) e in
    NoneOf-append ks (records_of g t.0) (records_of h t.1) (lacks-none ks g parts.0 t.0) (lacks-none ks h parts.1 t.1)
lacks-none ks (g ∣ h) e (inl t) = lacks-none ks g (both_true (lacks ks g) (lacks ks h) e).0 t
lacks-none ks (g ∣ h) e (inr t) = lacks-none ks h (both_true (lacks ks g) (lacks ks h) e).1 t
lacks-none ks (optional g) e None = tt
lacks-none ks (optional g) e (Some t) = lacks-none ks g e t
lacks-none ks (many g) e ts = lacks-many ks g (λ t. lacks-none ks g e t) ts

-- what records of other kinds leave as it is
names_of-append : (rs ss : List StreamRecord) → names_of (rs ++ ss) ≡ names_of rs ++ names_of ss
names_of-append rs ss = flat_map-append names_in rs ss

names_of-none : (rs : List StreamRecord) → NoneOf (StrName ∷ []) rs → names_of rs ≡ []
names_of-none [] p = refl
names_of-none (r ∷ rs) p =
    let other = (or_parts (r.code == code_of StrName) false p.0).0 in
    flat_map-cons names_in r rs ∙ ap (λ b. cond b (name_of r.body ∷ []) [] ++ names_of rs) other ∙ names_of-none rs p.1

structure_count-append : (rs ss : List StreamRecord) → structure_count (rs ++ ss) ≡ structure_count rs + structure_count ss
structure_count-append rs ss = sum_by-append (λ (x : StreamRecord). cond (x.code == code_of BgnStr) 1 0) rs ss

structure_count-one : (r : StreamRecord) → structure_count (r ∷ []) ≡ 0 + cond (r.code == code_of BgnStr) 1 0
structure_count-one r = refl

structure_count-none : (rs : List StreamRecord) → NoneOf (BgnStr ∷ []) rs → structure_count rs ≡ 0
structure_count-none [] p = refl
structure_count-none (r ∷ rs) p =
    let other = (or_parts (r.code == code_of BgnStr) false p.0).0 in
    let first : structure_count (r ∷ []) ≡ 0 + 0 = structure_count-one r ∙ ap (λ b. 0 + cond b 1 0) other in
    let rest = structure_count-none rs p.1 in
    let both = structure_count-append (r ∷ []) rs in
    omega arith

fold_body-none : (k : RecordKind) (found : Option (List ℕ)) (rs : List StreamRecord) → NoneOf (k ∷ []) rs
    → fold (λ (known : Option (List ℕ)) (r : StreamRecord). cond (r.code == code_of k) (Some r.body) known) found rs ≡ found
fold_body-none k found [] p = refl
fold_body-none k found (r ∷ rs) p =
    let other = (or_parts (r.code == code_of k) false p.0).0 in
    ap (λ b. fold (λ (known : Option (List ℕ)) (r : StreamRecord). cond (r.code == code_of k) (Some r.body) known) (cond b (Some r.body) found) rs) other
    ∙ fold_body-none k found rs p.1

body_of-none : (k : RecordKind) (rs : List StreamRecord) → NoneOf (k ∷ []) rs → body_of k rs ≡ None
body_of-none k rs p = fold_body-none k None rs p

-- the last record of a kind is the one that is looked up
body_of-last : (k : RecordKind) (before : List StreamRecord) (t : Content) (later : List StreamRecord) → NoneOf (k ∷ []) later
    → body_of k (before ++ entry k t ∷ later) ≡ Some t.body
body_of-last k before t later p =
    let same : (code_of k == code_of k) ≡ true = eq-eqb (code_of k) (code_of k) refl in
    fold-append _ None before (entry k t ∷ later)
    ∙ ap (λ b. fold (λ (known : Option (List ℕ)) (r : StreamRecord). cond (r.code == code_of k) (Some r.body) known) (cond b (Some t.body) (body_of k before)) later) same
    ∙ fold_body-none k (Some t.body) later p

element_of-none : (rs ss : List StreamRecord) → NoneOf element_kinds ss → element_of (rs ++ ss) ≡ element_of rs
element_of-none rs [] p = ap element_of (append-nil rs)
element_of-none rs (s ∷ ss) p =
    ap element_of (sym (append_assoc rs (s ∷ []) ss)) ∙ element_of-none (rs ++ s ∷ []) ss p.1
    ∙ fold-append _ 0 rs (s ∷ []) ∙ ap (λ b. cond b s.code (element_of rs)) p.0

element_of-first : (before : List StreamRecord) (k : RecordKind) (t : Content) (rs : List StreamRecord) → is_one_of element_kinds (code_of k) ≡ true
    → NoneOf element_kinds rs → element_of (before ++ entry k t ∷ rs) ≡ code_of k
element_of-first before k t rs begins p =
    ap element_of (sym (append_assoc before (entry k t ∷ []) rs)) ∙ element_of-none (before ++ entry k t ∷ []) rs p
    ∙ fold-append _ 0 before (entry k t ∷ []) ∙ ap (λ b. cond b (code_of k) (element_of before)) begins

-- where the last record of a kind stands among others
record LastOf (k : RecordKind) (rs : List StreamRecord) : Type 0 where
  before : List StreamRecord
  content : Content
  later : List StreamRecord
  split : rs ≡ before ++ entry k content ∷ later
  others : NoneOf (k ∷ []) later

-- the grammar always has a record of this kind, with none of it behind
abbrev has_last : RecordKind → Grammar → Bool
has_last k (one j) = code_of j == code_of k
has_last k (g ⨾ h) = has_last k h || (has_last k g && lacks (k ∷ []) h)
has_last k g = false

one_true : (a b : Bool) → (a || b) ≡ true → (a ≡ true) ⊎ (b ≡ true)
one_true true b e = inl refl
one_true false b e = inr e

LastOf-after : (k : RecordKind) (rs ss : List StreamRecord) → LastOf k ss → LastOf k (rs ++ ss)
LastOf-after k rs ss last = record {
  before = rs ++ last.before;
  content = last.content;
  later = last.later;
  split = ap (λ l. rs ++ l) last.split ∙ sym (append_assoc rs last.before (entry k last.content ∷ last.later));
  others = last.others;
}

LastOf-before : (k : RecordKind) (rs ss : List StreamRecord) → LastOf k rs → NoneOf (k ∷ []) ss → LastOf k (rs ++ ss)
LastOf-before k rs ss last none = record {
  before = last.before;
  content = last.content;
  later = last.later ++ ss;
  split = ap (λ l. l ++ ss) last.split ∙ append_assoc last.before (entry k last.content ∷ last.later) ss;
  others = NoneOf-append (k ∷ []) last.later ss last.others none;
}

last_of : (k : RecordKind) (g : Grammar) → has_last k g ≡ true → (t : Tree g) → LastOf k (records_of g t)
last_of k never e t = cc
last_of k empty e t = cc
last_of k (one j) e t = record {
  before = [];
  content = t;
  later = [];
  split = ap (λ c. record { offset = t.offset; code = c; body = t.body } ∷ []) (eqb-true (code_of j) (code_of k) e);
  others = tt;
}
last_of k (g ⨾ h) e t =
    elim (one_true (has_last k h) (has_last k g && lacks (k ∷ []) h) e) [
      | inl p ↦ LastOf-after k (records_of g t.0) (records_of h t.1) (last_of k h p t.1)
      | inr p ↦
          let parts = both_true (has_last k g) (lacks (k ∷ []) h) p in
          LastOf-before k (records_of g t.0) (records_of h t.1) (last_of k g parts.0 t.0) (lacks-none (k ∷ []) h parts.1 t.1)
    ]
last_of k (g ∣ h) e t = cc
last_of k (optional g) e t = cc
last_of k (many g) e t = cc

-- the points of an element whose records are fine fit it
record PointsFit (first : RecordKind) (rs : List StreamRecord) : Type 0 where
  body : List ℕ
  body_is : body_of Xy rs ≡ Some body
  fit : fits points (code_of first) body ≡ true

fit_at : (before : List StreamRecord) (r : StreamRecord) → IsFine before r → r.code ≡ code_of Xy → fits points (element_of before) r.body ≡ true
fit_at before r fine same =
    elim (cases_Bool (fits points (element_of before) r.body)) [
      | inl fit ↦ fit
      | inr unfit ↦ absurd (fine bad_body (Xy, (sym same, unfit)))
    ]

points_fit : (first : RecordKind) (h : Grammar) → is_one_of element_kinds (code_of first) ≡ true → lacks element_kinds h ≡ true → has_last Xy h ≡ true
    → (c : Content) (t : Tree h) (before tail : List StreamRecord) → NoneOf (Xy ∷ []) tail
    → AllFine before ((entry first c ∷ records_of h t) ++ tail) → PointsFit first ((entry first c ∷ records_of h t) ++ tail)
points_fit first h begins no_other has c t before tail none fine =
    let last = last_of Xy h has t in
    let front = entry first c ∷ last.before in
    let xy = entry Xy last.content in
    let others = lacks-none element_kinds h no_other t in
    let Q : List StreamRecord → Type 0 = λ l. NoneOf element_kinds l in
    let in_front = NoneOf-front element_kinds last.before (xy ∷ last.later) (subst Q last.split others) in
    let split : (entry first c ∷ records_of h t) ++ tail ≡ front ++ xy ∷ (last.later ++ tail) =
    ap (λ l. (entry first c ∷ l) ++ tail) last.split ∙ append_assoc front (xy ∷ last.later) tail in
    let P : List StreamRecord → Type 0 = λ l. AllFine before l in
    let here = (AllFine-rest before front (xy ∷ (last.later ++ tail)) (subst P split fine)).0 in
    let fit = fit_at (before ++ front) xy here refl in
    record {
      body = last.content.body;
      body_is =
          ap (λ l. body_of Xy l) split
          ∙ body_of-last Xy front last.content (last.later ++ tail) (NoneOf-append (Xy ∷ []) last.later tail last.others none);
      fit = ap (λ e. fits points e last.content.body) (sym (element_of-first before first c last.before begins in_front)) ∙ fit;
    }

points_count : (body : List ℕ) → length (points_in body) ≡ length body / 8
points_count body = length-map-range_with_len (λ i. point_in body i) 0 (length body / 8)

many_points : (first : RecordKind) (rs : List StreamRecord) → PointsFit first rs → (code_of first == code_of Sref) ≡ false
    → (code_of first == code_of Aref) ≡ false → 1 ≤ length (points_in (bytes_of Xy rs))
many_points first rs fit other another =
    let count : length (points_in (bytes_of Xy rs)) ≡ length fit.body / 8 =
    ap (λ o. length (points_in (unwrap_or o []))) fit.body_is ∙ points_count fit.body in
    let test : (nat_le 8 (length fit.body) && (length fit.body % 8 == 0)) ≡ true =
    sym (ap (λ b. cond b (length fit.body == 8) (cond (code_of first == code_of Aref) (length fit.body == 24) (nat_le 8 (length fit.body) && (length fit.body % 8 == 0)))) other
    ∙ ap (λ b. cond b (length fit.body == 24) (nat_le 8 (length fit.body) && (length fit.body % 8 == 0))) another) ∙ fit.fit in
    let long : nat_le 8 (length fit.body) ≡ true = (both_true (nat_le 8 (length fit.body)) (length fit.body % 8 == 0) test).0 in
    let least : 8 ≤ length fit.body = grind (arith, nat_tests) in
    omega (arith, count, least)

one_point : (rs : List StreamRecord) → PointsFit Sref rs → length (points_in (bytes_of Xy rs)) ≡ 1
one_point rs fit =
    let count : length (points_in (bytes_of Xy rs)) ≡ length fit.body / 8 =
    ap (λ o. length (points_in (unwrap_or o []))) fit.body_is ∙ points_count fit.body in
    let size : length fit.body ≡ 8 = eqb-true (length fit.body) 8 fit.fit in
    omega (arith, count, size)

three_points : (rs : List StreamRecord) → PointsFit Aref rs → length (points_in (bytes_of Xy rs)) ≡ 3
three_points rs fit =
    let count : length (points_in (bytes_of Xy rs)) ≡ length fit.body / 8 =
    ap (λ o. length (points_in (unwrap_or o []))) fit.body_is ∙ points_count fit.body in
    let size : length fit.body ≡ 24 = eqb-true (length fit.body) 24 fit.fit in
    omega (arith, count, size)

all_none : {X : Type 0} (P : X → Type 0) → All P []
all_none P k d below = absurd (omega (arith, below))

abbrev tail : Grammar
tail = many property ⨾ one EndEl

abbrev rest_part : Grammar → Grammar
rest_part (g ⨾ h) = h
rest_part g = g

-- a shape whose records are fine has a point
shape_points : (first : RecordKind) (h : Grammar) → is_one_of element_kinds (code_of first) ≡ true → lacks element_kinds h ≡ true → has_last Xy h ≡ true
    → (code_of first == code_of Sref) ≡ false → (code_of first == code_of Aref) ≡ false
    → (c : Content) (t : Tree h) (u : Tree tail) (before : List StreamRecord)
    → AllFine before ((entry first c ∷ records_of h t) ++ records_of tail u)
    → 1 ≤ length (points_in (bytes_of Xy ((entry first c ∷ records_of h t) ++ records_of tail u)))
shape_points first h begins no_other has other another c t u before fine =
    many_points first ((entry first c ∷ records_of h t) ++ records_of tail u)
    (points_fit first h begins no_other has c t before (records_of tail u) (lacks-none (Xy ∷ []) tail refl u) fine) other another

sref_points : (t : Tree sref) (u : Tree tail) (before : List StreamRecord) → AllFine before (records_of sref t ++ records_of tail u)
    → All HasItsPoints (elements_in (records_of sref t ++ records_of tail u))
sref_points t u before fine =
    let rs = records_of sref t ++ records_of tail u in
    let no_grid : body_of ColRow rs ≡ None =
    body_of-none ColRow rs
    (NoneOf-append (ColRow ∷ []) (records_of sref t) (records_of tail u) (lacks-none (ColRow ∷ []) sref refl t) (lacks-none (ColRow ∷ []) tail refl u)) in
    let fit = points_fit Sref (rest_part sref) refl refl refl t.0 t.1 before (records_of tail u) (lacks-none (Xy ∷ []) tail refl u) fine in
    let P : Option (List ℕ) → Type 0 = λ o. MatchOption (option_map grid_in o) (length (points_in (bytes_of Xy rs)) ≡ 1) (λ grid. length (points_in (bytes_of Xy rs)) ≡ 3) in
    All-cons HasItsPoints _ [] (subst P (sym no_grid) (one_point rs fit)) (all_none HasItsPoints)

aref_points : (t : Tree aref) (u : Tree tail) (before : List StreamRecord) → AllFine before (records_of aref t ++ records_of tail u)
    → All HasItsPoints (elements_in (records_of aref t ++ records_of tail u))
aref_points t u before fine =
    let rs = records_of aref t ++ records_of tail u in
    let last = LastOf-before ColRow (records_of aref t) (records_of tail u) (last_of ColRow aref refl t) (lacks-none (ColRow ∷ []) tail refl u) in
    let a_grid : body_of ColRow rs ≡ Some last.content.body =
    ap (λ l. body_of ColRow l) last.split ∙ body_of-last ColRow last.before last.content last.later last.others in
    let fit = points_fit Aref (rest_part aref) refl refl refl t.0 t.1 before (records_of tail u) (lacks-none (Xy ∷ []) tail refl u) fine in
    let P : Option (List ℕ) → Type 0 = λ o. MatchOption (option_map grid_in o) (length (points_in (bytes_of Xy rs)) ≡ 1) (λ grid. length (points_in (bytes_of Xy rs)) ≡ 3) in
    All-cons HasItsPoints _ [] (subst P (sym a_grid) (three_points rs fit)) (all_none HasItsPoints)

element_points : (t : Tree element) (before : List StreamRecord) → AllFine before (records_of element t) → All HasItsPoints (elements_of t)
element_points (inl t, u) before fine =
    All-cons HasItsPoints _ [] (shape_points Boundary (rest_part boundary) refl refl refl refl refl t.0 t.1 u before fine) (all_none HasItsPoints)
element_points (inr (inl t), u) before fine =
    All-cons HasItsPoints _ [] (shape_points Path (rest_part path) refl refl refl refl refl t.0 t.1 u before fine) (all_none HasItsPoints)
element_points (inr (inr (inl t)), u) before fine = sref_points t u before fine
element_points (inr (inr (inr (inl t))), u) before fine = aref_points t u before fine
element_points (inr (inr (inr (inr (inl t)))), u) before fine = all_none HasItsPoints
element_points (inr (inr (inr (inr (inr (inl t))))), u) before fine = all_none HasItsPoints
element_points (inr (inr (inr (inr (inr (inr t))))), u) before fine =
    All-cons HasItsPoints _ [] (shape_points Box (rest_part box) refl refl refl refl refl t.0 t.1 u before fine) (all_none HasItsPoints)

elements_points : (ts : List (Tree element)) (before : List StreamRecord) → AllFine before (records_of (many element) ts)
    → All HasItsPoints (flat_map elements_of ts)
elements_points [] before fine = all_none HasItsPoints
elements_points (t ∷ ts) before fine =
    let P : List StreamRecord → Type 0 = λ l. AllFine before l in
    let Q : List Element → Type 0 = λ l. All HasItsPoints l in
    let both = subst P (flat_map-cons (λ u. records_of element u) t ts) fine in
    subst Q (sym (flat_map-cons elements_of t ts))
    (All-append HasItsPoints (elements_of t) (flat_map elements_of ts)
    (element_points t before (AllFine-front before (records_of element t) (records_of (many element) ts) both))
    (elements_points ts (before ++ records_of element t) (AllFine-rest before (records_of element t) (records_of (many element) ts) both)))

structure_points : (t : Tree structure) (before : List StreamRecord) → AllFine before (records_of structure t)
    → All HasItsPoints (structure_of t).elements
structure_points (begin, (name, (class, (elements, end)))) before fine =
    let front = (before ++ entry BgnStr begin ∷ []) ++ entry StrName name ∷ [] in
    let class_records = records_of (optional (one StrClass)) class in
    let element_records = records_of (many element) elements in
    let last = entry EndStr end ∷ [] in
    elements_points elements (front ++ class_records)
    (AllFine-front (front ++ class_records) element_records last (AllFine-rest front class_records (element_records ++ last) fine.1.1))

abbrev AllHavePoints : List Structure → Type 0
AllHavePoints structures = All (λ s. All HasItsPoints s.elements) structures

structures_points : (ts : List (Tree structure)) (before : List StreamRecord) → AllFine before (records_of (many structure) ts)
    → AllHavePoints (map structure_of ts)
structures_points [] before fine = all_none (λ s. All HasItsPoints s.elements)
structures_points (t ∷ ts) before fine =
    let P : List StreamRecord → Type 0 = λ l. AllFine before l in
    let both = subst P (flat_map-cons (λ u. records_of structure u) t ts) fine in
    All-cons (λ s. All HasItsPoints s.elements) (structure_of t) (map structure_of ts)
    (structure_points t before (AllFine-front before (records_of structure t) (records_of (many structure) ts) both))
    (structures_points ts (before ++ records_of structure t) (AllFine-rest before (records_of structure t) (records_of (many structure) ts) both))

-- the names and the number of the structures
abbrev after_name : Grammar
after_name = optional (one StrClass) ⨾ many element ⨾ one EndStr

structure_name : (t : Tree structure) → names_of (records_of structure t) ≡ (structure_of t).name ∷ []
structure_name (begin, (name, rest)) =
    let others = records_of after_name rest in
    flat_map-cons names_in (entry BgnStr begin) (entry StrName name ∷ others) ∙ flat_map-cons names_in (entry StrName name) others
    ∙ ap (λ l. name_of name.body ∷ l) (names_of-none others (lacks-none (StrName ∷ []) after_name refl rest))

structures_names : (ts : List (Tree structure)) → names_of (records_of (many structure) ts) ≡ names (map structure_of ts)
structures_names [] = refl
structures_names (t ∷ ts) =
    ap names_of (flat_map-cons (λ u. records_of structure u) t ts)
    ∙ names_of-append (records_of structure t) (records_of (many structure) ts)
    ∙ ap (λ l. l ++ names_of (records_of (many structure) ts)) (structure_name t)
    ∙ ap (λ l. (structure_of t).name ∷ l) (structures_names ts)

structure_number : (t : Tree structure) → structure_count (records_of structure t) ≡ 1
structure_number (begin, rest) =
    let others = records_of (one StrName ⨾ after_name) rest in
    let first : structure_count (entry BgnStr begin ∷ []) ≡ 0 + 1 = structure_count-one (entry BgnStr begin) in
    let none = structure_count-none others (lacks-none (BgnStr ∷ []) (one StrName ⨾ after_name) refl rest) in
    let both = structure_count-append (entry BgnStr begin ∷ []) others in
    omega (arith, first, none, both)

structures_number : (ts : List (Tree structure)) → structure_count (records_of (many structure) ts) ≡ length (map structure_of ts)
structures_number [] = refl
structures_number (t ∷ ts) =
    let split = ap structure_count (flat_map-cons (λ u. records_of structure u) t ts) in
    let both = structure_count-append (records_of structure t) (records_of (many structure) ts) in
    let first = structure_number t in
    let rest = structures_number ts in
    omega (arith, split, both, first, rest)

-- no two of the names are the same
abbrev AreDistinct : List (List ℕ) → Type 0
AreDistinct names = (i j : ℕ) → i < length names → j < length names → get_or names i [] ≡ get_or names j [] → i ≡ j

distinct-new : (known : List (List ℕ)) (name : List ℕ) → AreDistinct known → ¬ Contains known name → AreDistinct (known ++ name ∷ [])
distinct-new known name distinct new i j first second same =
    let count = length-append known (name ∷ []) in
    elim (cases_lt i (length known)) [
      | inl i_low ↦
          let at_i = get_or-append known (name ∷ []) [] i i_low in
          elim (cases_lt j (length known)) [
            | inl j_low ↦ distinct i j i_low j_low (sym at_i ∙ same ∙ get_or-append known (name ∷ []) [] j j_low)
            | inr j_high ↦
                let last : j ≡ length known = omega (arith, count) in
                let at_j : get_or (known ++ name ∷ []) j [] ≡ name =
                ap (λ n. get_or (known ++ name ∷ []) n []) last ∙ get_or-append_seam known name [] [] in
                absurd (new (i, i_low, get_or_default known i name [] i_low ∙ sym at_i ∙ same ∙ at_j))
          ]
      | inr i_high ↦
          let last_i : i ≡ length known = omega (arith, count) in
          let at_i : get_or (known ++ name ∷ []) i [] ≡ name =
          ap (λ n. get_or (known ++ name ∷ []) n []) last_i ∙ get_or-append_seam known name [] [] in
          elim (cases_lt j (length known)) [
            | inl j_low ↦
                absurd
                (new (j, j_low, get_or_default known j name [] j_low ∙ sym (get_or-append known (name ∷ []) [] j j_low) ∙ sym same ∙ at_i))
            | inr j_high ↦ omega (arith, count)
          ]
    ]

-- where each record is fine, the names stay distinct and the structures few
distinct_names : (before rs : List StreamRecord) → AllFine before rs → AreDistinct (names_of before) → AreDistinct (names_of (before ++ rs))
distinct_names before [] fine distinct =
    let P : List StreamRecord → Type 0 = λ l. AreDistinct (names_of l) in
    subst P (sym (append-nil before)) distinct
distinct_names before (r ∷ rs) fine distinct =
    let P : List StreamRecord → Type 0 = λ l. AreDistinct (names_of l) in
    let Q : List (List ℕ) → Type 0 = λ l. AreDistinct l in
    let more : names_of (before ++ r ∷ []) ≡ names_of before ++ cond (r.code == code_of StrName) (name_of r.body ∷ []) [] =
    names_of-append before (r ∷ []) ∙ ap (λ l. names_of before ++ l) (flat_map-cons names_in r [] ∙ append-nil (names_in r)) in
    let next : AreDistinct (names_of (before ++ r ∷ [])) =
    elim (cases_Bool (r.code == code_of StrName)) [
      | inl named ↦
          subst Q (sym (more ∙ ap (λ b. names_of before ++ cond b (name_of r.body ∷ []) []) named))
          (distinct-new (names_of before) (name_of r.body) distinct
          (λ again. fine.0 duplicate (eqb-true r.code (code_of StrName) named, again)))
      | inr other ↦
          subst Q (sym (more ∙ ap (λ b. names_of before ++ cond b (name_of r.body ∷ []) []) other ∙ append-nil (names_of before))) distinct
    ] in
    subst P (append_assoc before (r ∷ []) rs) (distinct_names (before ++ r ∷ []) rs fine.1 next)

few_structures : (before rs : List StreamRecord) → AllFine before rs → structure_count before ≤ 65535 → structure_count (before ++ rs) ≤ 65535
few_structures before [] fine few =
    let same = ap structure_count (append-nil before) in
    omega (arith, same, few)
few_structures before (r ∷ rs) fine few =
    let more = structure_count-append before (r ∷ []) in
    let one = structure_count-one r in
    let next : structure_count (before ++ r ∷ []) ≤ 65535 =
    elim (cases_Bool (r.code == code_of BgnStr)) [
      | inl begins ↦
          let first : structure_count (r ∷ []) ≡ 0 + 1 = one ∙ ap (λ b. 0 + cond b 1 0) begins in
          elim (cases_eq (structure_count before) 65535) [
            | inl full ↦ absurd (fine.0 one_too_many (eqb-true r.code (code_of BgnStr) begins, full))
            | inr room ↦ omega (arith, more, first, room, few)
          ]
      | inr other ↦
          let first : structure_count (r ∷ []) ≡ 0 + 0 = one ∙ ap (λ b. 0 + cond b 1 0) other in
          omega (arith, more, first, few)
    ] in
    let all = few_structures (before ++ r ∷ []) rs fine.1 next in
    let same = ap structure_count (append_assoc before (r ∷ []) rs) in
    omega (arith, all, same)

names_of-skip : (rs ss : List StreamRecord) → NoneOf (StrName ∷ []) rs → names_of (rs ++ ss) ≡ names_of ss
names_of-skip rs ss none = names_of-append rs ss ∙ ap (λ l. l ++ names_of ss) (names_of-none rs none)

structure_count-skip : (rs ss : List StreamRecord) → NoneOf (BgnStr ∷ []) rs → structure_count (rs ++ ss) ≡ structure_count ss
structure_count-skip rs ss none =
    let both = structure_count-append rs ss in
    let first = structure_count-none rs none in
    omega (arith, both, first)

-- the names that a library's records give are those of its structures
pub library_names : (t : Tree library) → names_of (records_of library t) ≡ names (library_of t).structures
library_names (header, (dates, (first_options, (name, (options, (units, (structures, end))))))) =
    let a = records_of (many library_option) first_options in
    let b = records_of (many library_option) options in
    let c = records_of (many structure) structures in
    let last = entry EndLib end ∷ [] in
    let ks = StrName ∷ [] in
    names_of-skip (entry Header header ∷ entry BgnLib dates ∷ []) (a ++ entry LibName name ∷ (b ++ entry Units units ∷ (c ++ last))) (refl, (refl, tt))
    ∙ names_of-skip a (entry LibName name ∷ (b ++ entry Units units ∷ (c ++ last))) (lacks-none ks (many library_option) refl first_options)
    ∙ names_of-skip (entry LibName name ∷ []) (b ++ entry Units units ∷ (c ++ last)) (refl, tt)
    ∙ names_of-skip b (entry Units units ∷ (c ++ last)) (lacks-none ks (many library_option) refl options)
    ∙ names_of-skip (entry Units units ∷ []) (c ++ last) (refl, tt) ∙ names_of-append c last
    ∙ ap (λ l. names_of c ++ l) (names_of-none last (refl, tt)) ∙ append-nil (names_of c) ∙ structures_names structures

library_number : (t : Tree library) → structure_count (records_of library t) ≡ length (library_of t).structures
library_number (header, (dates, (first_options, (name, (options, (units, (structures, end))))))) =
    let a = records_of (many library_option) first_options in
    let b = records_of (many library_option) options in
    let c = records_of (many structure) structures in
    let last = entry EndLib end ∷ [] in
    let ks = BgnStr ∷ [] in
    let to_end : structure_count (c ++ last) ≡ structure_count c =
    let both = structure_count-append c last in
    let none = structure_count-none last (refl, tt) in
    omega (arith, both, none) in
    structure_count-skip (entry Header header ∷ entry BgnLib dates ∷ []) (a ++ entry LibName name ∷ (b ++ entry Units units ∷ (c ++ last))) (refl, (refl, tt))
    ∙ structure_count-skip a (entry LibName name ∷ (b ++ entry Units units ∷ (c ++ last))) (lacks-none ks (many library_option) refl first_options)
    ∙ structure_count-skip (entry LibName name ∷ []) (b ++ entry Units units ∷ (c ++ last)) (refl, tt)
    ∙ structure_count-skip b (entry Units units ∷ (c ++ last)) (lacks-none ks (many library_option) refl options)
    ∙ structure_count-skip (entry Units units ∷ []) (c ++ last) (refl, tt) ∙ to_end ∙ structures_number structures

library_points : (t : Tree library) → AllFine [] (records_of library t) → AllHavePoints (library_of t).structures
library_points (header, (dates, (first_options, (name, (options, (units, (structures, end))))))) fine =
    let a = records_of (many library_option) first_options in
    let b = records_of (many library_option) options in
    let c = records_of (many structure) structures in
    let last = entry EndLib end ∷ [] in
    let one = entry Header header ∷ entry BgnLib dates ∷ [] in
    let two = (one ++ a) ++ entry LibName name ∷ [] in
    let three = (two ++ b) ++ entry Units units ∷ [] in
    let after_a = AllFine-rest one a (entry LibName name ∷ (b ++ entry Units units ∷ (c ++ last))) fine.1.1 in
    let after_b = AllFine-rest two b (entry Units units ∷ (c ++ last)) after_a.1 in
    structures_points structures three (AllFine-front three c last after_b.1)

-- The library of a file whose records are all fine is a layout.
pub library_is_layout : (bytes : List ℕ) (t : Tree library) → records_of library t ≡ records_from bytes 0
    → AllFine [] (records_of library t) → IsLayout (library_of t)
library_is_layout bytes t spelled fine =
    let P : List (List ℕ) → Type 0 = λ l. AreDistinct l in
    let structures = (library_of t).structures in
    let distinct : AreDistinct (names structures) =
    subst P (library_names t)
    (distinct_names [] (records_of library t) fine (λ i j below. absurd (omega (arith, below)))) in
    let number = library_number t in
    let few = few_structures [] (records_of library t) fine (omega arith) in
    let count : length (names structures) ≡ length structures = length-map structures (λ s. s.name) in
    record {
      points = library_points t fine;
      distinct = λ i j first second same. distinct i j (omega (arith, count, first)) (omega (arith, count, second)) same;
      offsets = ascending_offsets bytes t spelled;
      few = omega (arith, number, few);
    }
