-- How fragments near a rectangle are found.
use Rattle.std.specs.Prelude.{◌≡◌, ℕ, zero, suc, ◌+◌, ◌-◌, ◌/◌, ◌<◌, ◌≤◌, ℤ, pos, ◌+ℤ◌, ◌-ℤ◌, ◌≤ℤ◌, int_le, int_lt, Bool, true, false, ◌&&◌, if◌then◌else◌, Option, MatchOption, List, [], ◌∷◌, length, get_or, filter, map}
use Rattle.std.specs.List.{range_with_len}
use Rattle.std.specs.List.Sorted.{IsPermutation}
use Rattle.opc_base.specs.declared.plane.Rect.{Rect}
use Rattle.outline_model.specs.declared.fragment.Fragment.{Fragment}
use Rattle.outline_model.specs.Limits.{IsFragmentList}
use Rattle.outline_model.specs.Outline.{is_vertical}

-- the points within 128 of a fragment's piece on the target: x from x0 to x1 and y from y0 to y1, both included
abbrev pub area_of : Fragment → Rect
area_of f =
    if is_vertical f.side
    then record { x0 = f.edge -ℤ pos 128; y0 = f.lo -ℤ pos 128; x1 = f.edge +ℤ pos 128; y1 = f.hi +ℤ pos 128 }
    else record { x0 = f.lo -ℤ pos 128; y0 = f.edge -ℤ pos 128; x1 = f.hi +ℤ pos 128; y1 = f.edge +ℤ pos 128 }

-- such an area has a pixel of the rectangle
abbrev pub reaches : Rect → Rect → Bool
reaches area rect = ((int_le rect.x0 area.x1 && int_lt area.x0 rect.x1) && int_le rect.y0 area.y1) && int_lt area.y0 rect.y1

-- the sides of the smaller rectangle are at most this much further in
pub record IsShrunk (r : Rect) (margin : ℤ) (s : Rect) : Type 0 where
  pub left : s.x0 ≤ℤ (r.x0 +ℤ margin)
  pub below : s.y0 ≤ℤ (r.y0 +ℤ margin)
  pub right : (r.x1 -ℤ margin) ≤ℤ s.x1
  pub above : (r.y1 -ℤ margin) ≤ℤ s.y1

abbrev pub area_at : List Rect → ℕ → Rect
area_at areas k = get_or areas k (record { x0 = pos 0; y0 = pos 0; x1 = pos 0; y1 = pos 0 })

abbrev pub is_met : List Rect → Rect → ℕ → Bool
is_met areas rect k = reaches (area_at areas k) rect

-- n numbers from `from` on
abbrev pub numbers : ℕ → ℕ → List ℕ
numbers from zero = []
numbers from (suc n) = from ∷ numbers (suc from) n

-- the areas from one number on that are met
abbrev pub met_from : List Rect → Rect → ℕ → List ℕ
met_from areas rect from = filter (is_met areas rect) (numbers from (length areas - from))

-- the first of them
abbrev pub IsFirstMet : List Rect → Rect → ℕ → Option ℕ → Type 0
IsFirstMet areas rect from found =
    MatchOption found
    ((j : ℕ) → from ≤ j → j < length areas → is_met areas rect j ≡ false)
    (λ k. (from ≤ k) × (k < length areas) × (is_met areas rect k ≡ true) × ((j : ℕ) → from ≤ j → j < k → is_met areas rect j ≡ false))

-- none of so many areas from k on is met
abbrev pub NoneMet : List Rect → Rect → ℕ → ℕ → Type 0
NoneMet areas rect k count = (j : ℕ) → k ≤ j → j < k + count → j < length areas → is_met areas rect j ≡ false

-- ---- areas round many

pub record IsInside (inner outer : Rect) : Type 0 where
  pub left : outer.x0 ≤ℤ inner.x0
  pub below : outer.y0 ≤ℤ inner.y0
  pub right : inner.x1 ≤ℤ outer.x1
  pub above : inner.y1 ≤ℤ outer.y1

-- each 16 areas have one round them
abbrev pub AreEnclosed : List Rect → List Rect → Type 0
AreEnclosed areas outer = (k : ℕ) → k < length areas → (k / 16 < length outer) × IsInside (area_at areas k) (area_at outer (k / 16))

abbrev pub areas_of : List Fragment → List Rect
areas_of fs = map area_of fs

-- areas, one round each 16 of them, one round each 16 of these, and one round each 16 of these
pub record AreNested (areas blocks groups clusters : List Rect) : Type 0 where
  pub few : length areas ≤ 32768
  pub blocks_enclose : AreEnclosed areas blocks
  pub groups_enclose : AreEnclosed blocks groups
  pub clusters_enclose : AreEnclosed groups clusters

-- ---- fragments by number and by place

-- each number below n once
abbrev pub IsOrder : ℕ → List ℕ → Type 0
IsOrder n order = IsPermutation (range_with_len 0 n) order

abbrev pub in_order : List Rect → List ℕ → List Rect
in_order areas order = map (area_at areas) order

-- fragments, their areas, and these in another order
pub record IsIndex (fs : List Fragment) (by_number by_place : List Rect) (order : List ℕ) : Type 0 where
  pub list : IsFragmentList fs
  pub number : by_number ≡ areas_of fs
  pub place : by_place ≡ in_order (areas_of fs) order
  pub all : IsOrder (length fs) order

-- the numbers of the areas that are met from one place on
abbrev pub within_from : List Rect → List ℕ → Rect → ℕ → List ℕ
within_from areas order rect from = map (λ k. get_or order k 0) (met_from areas rect from)
