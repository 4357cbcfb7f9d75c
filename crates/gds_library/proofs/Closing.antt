-- The element that is being read: what a further record changes, and what it comes to.
use Rattle.std.proofs.Common.{◌≡◌, ◌≢◌, ℕ, ◌==◌, Bool, true, false, cond, refl, Option, Some, None, List, [], ◌∷◌, ◌++◌, ap, sym, ◌∙◌, inl, inr}
use Rattle.std.specs.Option.{option_map, unwrap_or}
use Rattle.std.specs.Prelude.{nat_le, slice_index}
use Rattle.std.proofs.lemmas.Bool.{cases_Bool, or_parts}
use Rattle.std.proofs.lemmas.List.Sums.{fold-append}
use Rattle.std.proofs.Math.Bool.{or-false}
use Rattle.gds_records.specs.Records.{StreamRecord}
use Rattle.gds_records.specs.Numbers.{two_bytes, signed_two, signed_four}
use Rattle.gds_model.specs.declared.record_kind.RecordKind.{RecordKind}
use Rattle.gds_model.specs.declared.record_kind.RecordKind.TheVariants as kinds
use Rattle.gds_model.specs.declared.shape.ShapeKind.TheVariants as shape_kind
use Rattle.gds_model.specs.declared.elements.Element.{Element}
use Rattle.gds_model.specs.declared.elements.Element.TheVariants as element
use Rattle.gds_model.specs.RecordKind.{code_of}
use Rattle.gds_model.specs.Body.{element_code, element_kinds, is_one_of}
use Rattle.gds_model.specs.Elements.{body_of, grid_in, path_kind, shape_of, reference_of, elements_in}
use Rattle.gds_library.specs.declared.open_element.OpenElement.{OpenElement}
use Rattle.gds_library.specs.OpenElement.{first_element, first_offset, Holds, Takes}

-- a further record that begins no element changes neither the first element nor its offset
first_element-more : (rs : List StreamRecord) (r : StreamRecord) → is_one_of element_kinds r.code ≡ false → first_element (rs ++ r ∷ []) ≡ first_element rs
first_element-more [] r other = ap (λ b. cond b r.code 0) other
first_element-more (s ∷ rs) r other = refl

first_offset-more : (rs : List StreamRecord) (r : StreamRecord) → is_one_of element_kinds r.code ≡ false → first_offset (rs ++ r ∷ []) ≡ first_offset rs
first_offset-more [] r other = ap (λ b. cond b r.offset 0) other
first_offset-more (s ∷ rs) r other = refl

-- the body of a kind, with a further record
body_of-more : (k : RecordKind) (rs : List StreamRecord) (r : StreamRecord)
    → body_of k (rs ++ r ∷ []) ≡ cond (is_one_of (k ∷ []) r.code) (Some r.body) (body_of k rs)
body_of-more k rs r =
    fold-append _ None rs (r ∷ []) ∙ ap (λ b. cond b (Some r.body) (body_of k rs)) (sym (or-false (r.code == code_of k)))

-- a choice under a function
choice_under : {A B : Type 0} (f : A → B) (b : Bool) (x y : A) → cond b (f x) (f y) ≡ f (cond b x y)
choice_under f true x y = refl
choice_under f false x y = refl

-- what is read of the body of a kind, with a further record
read-more : {A : Type 0} (f : Option (List ℕ) → A) (k : RecordKind) (rs : List StreamRecord) (r : StreamRecord) (old new : A)
    → old ≡ f (body_of k rs) → new ≡ cond (is_one_of (k ∷ []) r.code) (f (Some r.body)) old → new ≡ f (body_of k (rs ++ r ∷ []))
read-more f k rs r old new held taken =
    taken ∙ ap (λ x. cond (is_one_of (k ∷ []) r.code) (f (Some r.body)) x) held
    ∙ choice_under f (is_one_of (k ∷ []) r.code) (Some r.body) (body_of k rs) ∙ ap f (sym (body_of-more k rs r))

pub Holds-more : (old : OpenElement) (rs : List StreamRecord) (r : StreamRecord) (new : OpenElement) → Holds old rs
    → is_one_of element_kinds r.code ≡ false → Takes old r.code r.body new → Holds new (rs ++ r ∷ [])
Holds-more old rs r new held other taken = record {
  kind = ap element_code taken.kind ∙ held.kind ∙ sym (first_element-more rs r other);
  offset = taken.offset ∙ held.offset ∙ sym (first_offset-more rs r other);
  layer = read-more (λ o. two_bytes (unwrap_or o []) 0) kinds.Layer rs r old.layer new.layer held.layer taken.layer;
  datatype = read-more (λ o. two_bytes (unwrap_or o []) 0) kinds.Datatype rs r old.datatype new.datatype held.datatype taken.datatype;
  box_type = read-more (λ o. two_bytes (unwrap_or o []) 0) kinds.BoxType rs r old.box_type new.box_type held.box_type taken.box_type;
  ends = read-more (λ o. signed_two (unwrap_or o []) 0) kinds.PathType rs r old.ends new.ends held.ends taken.ends;
  width = read-more (λ o. signed_four (unwrap_or o []) 0) kinds.Width rs r old.width new.width held.width taken.width;
  begin = read-more (λ o. signed_four (unwrap_or o []) 0) kinds.BgnExtn rs r old.begin new.begin held.begin taken.begin;
  extension = read-more (λ o. signed_four (unwrap_or o []) 0) kinds.EndExtn rs r old.end new.end held.extension taken.extension;
  name = read-more (λ o. unwrap_or o []) kinds.Sname rs r old.name.now new.name.now held.name taken.name;
  flip = read-more (λ o. nat_le 128 (slice_index (unwrap_or o []) 0)) kinds.Strans rs r old.flip new.flip held.flip taken.flip;
  mag = read-more (λ o. o) kinds.Mag rs r old.mag new.mag held.mag taken.mag;
  angle = read-more (λ o. o) kinds.Angle rs r old.angle new.angle held.angle taken.angle;
  array = read-more (λ o. option_map grid_in o) kinds.ColRow rs r old.array new.array held.array taken.array;
  points = read-more (λ o. unwrap_or o []) kinds.Xy rs r old.points.now new.points.now held.points taken.points;
}

-- a record of no kind that an element's value is read from changes nothing
abbrev pub value_kinds : List RecordKind
value_kinds = kinds.Layer ∷ kinds.Datatype ∷ kinds.BoxType ∷ kinds.PathType ∷ kinds.Width ∷ kinds.BgnExtn ∷ kinds.EndExtn ∷ kinds.Sname ∷ kinds.Strans ∷ kinds.Mag ∷ kinds.Angle ∷ kinds.ColRow ∷ kinds.Xy ∷ []

-- the element by the code of its first record
by_code : ℕ → ℕ → List StreamRecord → List Element
by_code code offset rs =
    cond (code == code_of kinds.Boundary) (element.Shape (shape_of offset shape_kind.Boundary kinds.Datatype rs) ∷ [])
    (cond (code == code_of kinds.Path) (element.Shape (shape_of offset (path_kind rs) kinds.Datatype rs) ∷ [])
    (cond (code == code_of kinds.Box) (element.Shape (shape_of offset shape_kind.Box kinds.BoxType rs) ∷ [])
    (cond (code == code_of kinds.Sref) (element.Reference (reference_of offset rs) ∷ [])
    (cond (code == code_of kinds.Aref) (element.Reference (reference_of offset rs) ∷ []) []))))

by_code-none : (code offset : ℕ) (rs : List StreamRecord) → is_one_of element_kinds code ≡ false → by_code code offset rs ≡ []
unfolding by_code
by_code-none code offset rs other =
    let one = or_parts (code == code_of kinds.Boundary) _ other in
    let two = or_parts (code == code_of kinds.Path) _ one.1 in
    let three = or_parts (code == code_of kinds.Sref) _ two.1 in
    let four = or_parts (code == code_of kinds.Aref) _ three.1 in
    let five = or_parts (code == code_of kinds.Text) _ four.1 in
    let six = or_parts (code == code_of kinds.Node) _ five.1 in
    let seven = or_parts (code == code_of kinds.Box) _ six.1 in
    rw (one.0, two.0, seven.0, three.0, four.0) refl

elements_in-by_code : (rs : List StreamRecord) → elements_in rs ≡ by_code (first_element rs) (first_offset rs) rs
unfolding by_code
elements_in-by_code [] = refl
elements_in-by_code (r ∷ rs) =
    elim (cases_Bool (is_one_of element_kinds r.code)) [
      | inl begins ↦ rw begins refl
      | inr other ↦
          let none : elements_in (r ∷ rs) ≡ [] = by_code-none r.code r.offset (r ∷ rs) other in
          none ∙ sym (ap (λ b. by_code (cond b r.code 0) (cond b r.offset 0) (r ∷ rs)) other)
    ]

-- what an element comes to
abbrev pub comes_to : Option RecordKind → ℕ → List StreamRecord → List Element
comes_to (Some kinds.Boundary) offset rs = element.Shape (shape_of offset shape_kind.Boundary kinds.Datatype rs) ∷ []
comes_to (Some kinds.Path) offset rs = element.Shape (shape_of offset (path_kind rs) kinds.Datatype rs) ∷ []
comes_to (Some kinds.Box) offset rs = element.Shape (shape_of offset shape_kind.Box kinds.BoxType rs) ∷ []
comes_to (Some kinds.Sref) offset rs = element.Reference (reference_of offset rs) ∷ []
comes_to (Some kinds.Aref) offset rs = element.Reference (reference_of offset rs) ∷ []
comes_to other offset rs = []

comes_to-by_code : (kind : Option RecordKind) (offset : ℕ) (rs : List StreamRecord) → by_code (element_code kind) offset rs ≡ comes_to kind offset rs
unfolding by_code
comes_to-by_code (Some kinds.Boundary) offset rs = refl
comes_to-by_code (Some kinds.Path) offset rs = refl
comes_to-by_code (Some kinds.Box) offset rs = refl
comes_to-by_code (Some kinds.Sref) offset rs = refl
comes_to-by_code (Some kinds.Aref) offset rs = refl
comes_to-by_code other offset rs = refl

pub elements_in-comes_to : (o : OpenElement) (rs : List StreamRecord) → Holds o rs → elements_in rs ≡ comes_to o.kind (first_offset rs) rs
elements_in-comes_to o rs held =
    elements_in-by_code rs ∙ ap (λ c. by_code c (first_offset rs) rs) (sym held.kind) ∙ comes_to-by_code o.kind (first_offset rs) rs

-- what no shape and no reference comes to
pub comes_to-other : (kind : RecordKind) (offset : ℕ) (rs : List StreamRecord) → kind ≢ kinds.Boundary → kind ≢ kinds.Path
    → kind ≢ kinds.Box → kind ≢ kinds.Sref → kind ≢ kinds.Aref → comes_to (Some kind) offset rs ≡ []
comes_to-other kinds.Boundary offset rs a b c d e = absurd (a refl)
comes_to-other kinds.Path offset rs a b c d e = absurd (b refl)
comes_to-other kinds.Box offset rs a b c d e = absurd (c refl)
comes_to-other kinds.Sref offset rs a b c d e = absurd (d refl)
comes_to-other kinds.Aref offset rs a b c d e = absurd (e refl)
comes_to-other other offset rs a b c d e = refl

pub elements_in-of : (o : OpenElement) (kind : Option RecordKind) (rs : List StreamRecord) → Holds o rs → o.kind ≡ kind
    → elements_in rs ≡ comes_to kind (first_offset rs) rs
elements_in-of o kind rs held same = elements_in-comes_to o rs held ∙ ap (λ k. comes_to k (first_offset rs) rs) same

-- ENDEL says nothing of the element
pub Holds-end : (o : OpenElement) (rs : List StreamRecord) (offset : ℕ) (body : List ℕ) → Holds o rs
    → Holds o (rs ++ record { offset = offset; code = code_of kinds.EndEl; body = body } ∷ [])
Holds-end o rs offset body held =
    Holds-more o rs (record { offset = offset; code = code_of kinds.EndEl; body = body }) o held refl
    (record {
      kind = refl;
      offset = refl;
      layer = refl;
      datatype = refl;
      box_type = refl;
      ends = refl;
      width = refl;
      begin = refl;
      extension = refl;
      name = refl;
      flip = refl;
      mag = refl;
      angle = refl;
      array = refl;
      points = refl;
    })
