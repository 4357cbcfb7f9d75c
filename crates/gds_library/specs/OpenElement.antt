-- The element that is being read, as its records have it.
use Rattle.std.specs.Prelude.{◌≡◌, ℕ, ◌==◌, nat_le, true, Bool, Some, List, [], ◌∷◌, length, slice_index, if◌then◌else◌}
use Rattle.std.specs.Option.{option_map}
use Rattle.gds_records.specs.Records.{StreamRecord}
use Rattle.gds_model.specs.declared.record_kind.RecordKind.TheVariants as kinds
use Rattle.gds_records.specs.Numbers.{two_bytes, signed_two, signed_four}
use Rattle.gds_model.specs.Body.{Body, bytes, element_code, element_kinds, is_one_of}
use Rattle.gds_model.specs.Elements.{body_of, bytes_of, unsigned_of, signed_two_of, signed_four_of, grid_in}
use Rattle.gds_library.specs.declared.open_element.OpenElement.{OpenElement}

-- the code of the element that the records begin, or 0 where they begin none
abbrev pub first_element : List StreamRecord → ℕ
first_element [] = 0
first_element (r ∷ rs) = if is_one_of element_kinds r.code then r.code else 0

abbrev pub first_offset : List StreamRecord → ℕ
first_offset [] = 0
first_offset (r ∷ rs) = if is_one_of element_kinds r.code then r.offset else 0

pub record Holds (open_element : OpenElement) (rs : List StreamRecord) : Type 0 where
  pub kind : element_code open_element.kind ≡ first_element rs
  pub offset : open_element.offset ≡ first_offset rs
  pub layer : open_element.layer ≡ unsigned_of kinds.Layer rs
  pub datatype : open_element.datatype ≡ unsigned_of kinds.Datatype rs
  pub box_type : open_element.box_type ≡ unsigned_of kinds.BoxType rs
  pub ends : open_element.ends ≡ signed_two_of kinds.PathType rs
  pub width : open_element.width ≡ signed_four_of kinds.Width rs
  pub begin : open_element.begin ≡ signed_four_of kinds.BgnExtn rs
  pub extension : open_element.end ≡ signed_four_of kinds.EndExtn rs
  pub name : open_element.name.now ≡ bytes_of kinds.Sname rs
  pub flip : open_element.flip ≡ nat_le 128 (slice_index (bytes_of kinds.Strans rs) 0)
  pub mag : open_element.mag ≡ body_of kinds.Mag rs
  pub angle : open_element.angle ≡ body_of kinds.Angle rs
  pub array : open_element.array ≡ option_map grid_in (body_of kinds.ColRow rs)
  pub points : open_element.points.now ≡ bytes_of kinds.Xy rs

-- the body is as long as the numbers that a record of this kind holds
abbrev pub has_size : Body → List ℕ → Bool
has_size (bytes n) body = length body == n
has_size other body = true

-- a further record with this code and body has been taken
pub record Takes (old : OpenElement) (code : ℕ) (body : List ℕ) (new : OpenElement) : Type 0 where
  pub kind : new.kind ≡ old.kind
  pub offset : new.offset ≡ old.offset
  pub layer : new.layer ≡ (if is_one_of (kinds.Layer ∷ []) code then two_bytes body 0 else old.layer)
  pub datatype : new.datatype ≡ (if is_one_of (kinds.Datatype ∷ []) code then two_bytes body 0 else old.datatype)
  pub box_type : new.box_type ≡ (if is_one_of (kinds.BoxType ∷ []) code then two_bytes body 0 else old.box_type)
  pub ends : new.ends ≡ (if is_one_of (kinds.PathType ∷ []) code then signed_two body 0 else old.ends)
  pub width : new.width ≡ (if is_one_of (kinds.Width ∷ []) code then signed_four body 0 else old.width)
  pub begin : new.begin ≡ (if is_one_of (kinds.BgnExtn ∷ []) code then signed_four body 0 else old.begin)
  pub extension : new.end ≡ (if is_one_of (kinds.EndExtn ∷ []) code then signed_four body 0 else old.end)
  pub name : new.name.now ≡ (if is_one_of (kinds.Sname ∷ []) code then body else old.name.now)
  pub flip : new.flip ≡ (if is_one_of (kinds.Strans ∷ []) code then nat_le 128 (slice_index body 0) else old.flip)
  pub mag : new.mag ≡ (if is_one_of (kinds.Mag ∷ []) code then Some body else old.mag)
  pub angle : new.angle ≡ (if is_one_of (kinds.Angle ∷ []) code then Some body else old.angle)
  pub array : new.array ≡ (if is_one_of (kinds.ColRow ∷ []) code then Some (grid_in body) else old.array)
  pub points : new.points.now ≡ (if is_one_of (kinds.Xy ∷ []) code then body else old.points.now)
