-- The outline of a list of fragments, and the mask that it encloses.
use Rattle.std.specs.Prelude.{◌≡◌, ◌≢◌, ℕ, zero, suc, ◌<◌, ℤ, pos, negsuc, ◌+ℤ◌, ◌-ℤ◌, neg_ℤ, Bool, true, false, not, unsigned_abs, ◌/◌, if◌then◌else◌, List, length, get_or, int_le, int_lt}
use Rattle.std.specs.Int.{int_min, int_max}
use Rattle.std.specs.Ordering.{int_eq}
use Rattle.opc_base.specs.declared.plane.Side.{Side}
use Rattle.opc_base.specs.declared.plane.Side.TheVariants.{Left, Right, Down, Up}
use Rattle.outline_model.specs.declared.fragment.Join.{Join}
use Rattle.outline_model.specs.declared.fragment.Join.TheVariants.{Cut, Corner}
use Rattle.outline_model.specs.declared.fragment.Fragment.{Fragment}
use Rattle.opc_base.specs.declared.plane.Pix.{Pix}
use Rattle.opc_base.specs.declared.plane.Rect.{Rect}
use Rattle.opc_base.specs.Plane.{rect_cover}
pub use Rattle.opc_base.specs.Plane.{IsSweep}

-- ---- a fragment at its offset

-- a fragment by its number
abbrev pub fragment_at : List Fragment → ℕ → Fragment
fragment_at fs k = get_or fs k (record { side = Left; edge = pos 0; lo = pos 0; hi = pos 0; low = Cut 0; high = Cut 0 })

abbrev pub side_of : List Fragment → ℕ → Side
side_of fs k = (fragment_at fs k).side

-- the signed distance toward greater coordinates of a move outward
abbrev pub outward : Side → ℤ → ℤ
outward Left distance = neg_ℤ distance
outward Right distance = distance
outward Down distance = neg_ℤ distance
outward Up distance = distance

-- where each fragment's line lies: its edge, moved outward by its offset
abbrev pub lines : List Fragment → List ℤ → ℕ → ℤ
lines fs offsets k = (fragment_at fs k).edge +ℤ outward (side_of fs k) (get_or offsets k (pos 0))

-- a fragment's end: at a cut it stays at its place, and at a corner it is the line of the fragment there
abbrev pub end_at : (ℕ → ℤ) → Join → ℤ → ℤ
end_at line (Cut _) place = place
end_at line (Corner j) place = line j

abbrev pub low_end : List Fragment → (ℕ → ℤ) → ℕ → ℤ
low_end fs line k = end_at line (fragment_at fs k).low (fragment_at fs k).lo

abbrev pub high_end : List Fragment → (ℕ → ℤ) → ℕ → ℤ
high_end fs line k = end_at line (fragment_at fs k).high (fragment_at fs k).hi

-- ---- the walk round the outline, with the inside on the left hand

pub record Point : Type 0 where
  pub x : ℤ
  pub y : ℤ

-- a straight part of the outline
pub record Piece : Type 0 where
  pub from : Point
  pub to : Point

abbrev pub is_vertical : Side → Bool
is_vertical Left = true
is_vertical Right = true
is_vertical Down = false
is_vertical Up = false

-- right and lower sides are walked from their low end to their high end
abbrev pub is_rising : Side → Bool
is_rising Left = false
is_rising Right = true
is_rising Down = true
is_rising Up = false

-- the point of a line at a place along it
abbrev pub point_on : Side → ℤ → ℤ → Point
point_on side line place = if is_vertical side then record { x = line; y = place } else record { x = place; y = line }

-- the join and the place at the start of a fragment's walk, and at its finish
abbrev pub start_join : Fragment → Join
start_join f = if is_rising f.side then f.low else f.high

abbrev pub start_place : Fragment → ℤ
start_place f = if is_rising f.side then f.lo else f.hi

abbrev pub finish_join : Fragment → Join
finish_join f = if is_rising f.side then f.high else f.low

abbrev pub finish_place : Fragment → ℤ
finish_place f = if is_rising f.side then f.hi else f.lo

abbrev pub joined : Join → ℕ
joined (Cut j) = j
joined (Corner j) = j

-- the fragments before and after a fragment on the walk
abbrev pub previous : List Fragment → ℕ → ℕ
previous fs k = joined (start_join (fragment_at fs k))

abbrev pub next : List Fragment → ℕ → ℕ
next fs k = joined (finish_join (fragment_at fs k))

unfoldable pub start : List Fragment → (ℕ → ℤ) → ℕ → Point
start fs line k =
    let f = fragment_at fs k in point_on f.side (line k) (end_at line (start_join f) (start_place f))

unfoldable pub finish : List Fragment → (ℕ → ℤ) → ℕ → Point
finish fs line k =
    let f = fragment_at fs k in point_on f.side (line k) (end_at line (finish_join f) (finish_place f))

-- the fragment itself, and the jog from it to the next one, which has no length at a corner
abbrev pub own_piece : List Fragment → (ℕ → ℤ) → ℕ → Piece
own_piece fs line k = record { from = start fs line k; to = finish fs line k }

abbrev pub jog : List Fragment → (ℕ → ℤ) → ℕ → Piece
jog fs line k = record { from = finish fs line k; to = start fs line (next fs k) }

-- Each fragment gives one vertical and one horizontal piece: itself, and the jog after it.
abbrev pub vertical_piece : List Fragment → (ℕ → ℤ) → ℕ → Piece
vertical_piece fs line k = if is_vertical (side_of fs k) then own_piece fs line k else jog fs line k

abbrev pub horizontal_piece : List Fragment → (ℕ → ℤ) → ℕ → Piece
horizontal_piece fs line k = if is_vertical (side_of fs k) then jog fs line k else own_piece fs line k

-- ---- the count and the mask

abbrev pub step : ℤ → ℤ → ℤ
step a b = if int_le a b then pos 1 else pos 0

-- What a vertical piece counts at a pixel: 0 unless it is in the pixel's row, at or left of its left side;
-- else 1 where it is walked downward, and -1 where it is walked upward.
unfoldable pub crossing : Piece → ℤ → ℤ → ℤ
crossing piece x y = if int_le piece.from.x x then step piece.to.y y -ℤ step piece.from.y y else pos 0

-- f 0 + .. + f (n - 1)
abbrev pub total : ℕ → (ℕ → ℤ) → ℤ
total zero f = pos 0
total (suc n) f = total n f +ℤ f n

-- the signed count of a pixel
unfoldable pub count : List Fragment → (ℕ → ℤ) → ℤ → ℤ → ℤ
count fs line x y = total (length fs) (λ k. crossing (vertical_piece fs line k) x y)

abbrev pub mask : List Fragment → (ℕ → ℤ) → ℤ → ℤ → Bool
mask fs line x y = int_eq (count fs line x y) (pos 1)

-- ---- what makes a list of fragments an outline

-- The fragments form closed walks on the edges of a target: what fragment i meets at its finish meets it at its
-- start, at a cut on the same edge at the same place, and at a corner across it, each at the place of the other's edge.
pub record IsOutline (fs : List Fragment) : Type 0 where
  pub cut : (i j : ℕ) → i < length fs → finish_join (fragment_at fs i) ≡ Cut j
      → (start_join (fragment_at fs j) ≡ Cut i) × (side_of fs j ≡ side_of fs i)
      × (start_place (fragment_at fs j) ≡ finish_place (fragment_at fs i)) × ((fragment_at fs j).edge ≡ (fragment_at fs i).edge)
  pub corner : (i j : ℕ) → i < length fs → finish_join (fragment_at fs i) ≡ Corner j
      → (start_join (fragment_at fs j) ≡ Corner i) × (is_vertical (side_of fs j) ≡ not (is_vertical (side_of fs i)))
      × (finish_place (fragment_at fs i) ≡ (fragment_at fs j).edge) × (start_place (fragment_at fs j) ≡ (fragment_at fs i).edge)
  pub next_in : (i : ℕ) → i < length fs → next fs i < length fs
  pub previous_in : (i : ℕ) → i < length fs → previous fs i < length fs
  pub next_of_previous : (i : ℕ) → i < length fs → next fs (previous fs i) ≡ i

-- ---- the move of one fragment

-- the rectangle between two lines of a side, over these ends
abbrev pub rect_between : Side → ℤ → ℤ → ℤ → ℤ → Rect
rect_between side a b low high =
    if is_vertical side
    then record { x0 = int_min a b; y0 = low; x1 = int_max a b; y1 = high }
    else record { x0 = low; y0 = int_min a b; x1 = high; y1 = int_max a b }

-- what fragment i sweeps between its line and another line, over its present ends
abbrev pub swept : List Fragment → (ℕ → ℤ) → ℕ → ℤ → Rect
swept fs line i to = rect_between (side_of fs i) (line i) to (low_end fs line i) (high_end fs line i)

abbrev pub is_outward : Side → ℤ → ℤ → Bool
is_outward Left from to = int_lt to from
is_outward Right from to = int_lt from to
is_outward Down from to = int_lt to from
is_outward Up from to = int_lt from to

-- what that move adds to the count of a pixel
abbrev pub swept_count : List Fragment → (ℕ → ℤ) → ℕ → ℤ → ℤ → ℤ → ℤ
swept_count fs line i to x y =
    if rect_cover (swept fs line i to) x y then (if is_outward (side_of fs i) (line i) to then pos 1 else negsuc 0) else pos 0

-- two placements of the lines that differ at fragment i alone
abbrev pub DiffersOnlyAt : ℕ → (ℕ → ℤ) → (ℕ → ℤ) → Type 0
DiffersOnlyAt i old new = (k : ℕ) → k ≢ i → new k ≡ old k

-- ---- where the error of a fragment is measured

-- half way along the fragment on the target, rounded toward its low end
abbrev pub middle_of : Fragment → ℤ
middle_of f = f.lo +ℤ pos (unsigned_abs (f.hi -ℤ f.lo) / 2)

-- across the edge, sample -1 is the last pixel inside the target, and sample 0 the first outside
abbrev pub sample_place : Side → ℤ → ℤ → ℤ
sample_place Left edge t = (edge -ℤ pos 1) -ℤ t
sample_place Right edge t = edge +ℤ t
sample_place Down edge t = (edge -ℤ pos 1) -ℤ t
sample_place Up edge t = edge +ℤ t

-- the pixel of sample t
abbrev pub site_of : Fragment → ℤ → Pix
site_of f t =
    if is_vertical f.side
    then record { x = sample_place f.side f.edge t; y = middle_of f }
    else record { x = middle_of f; y = sample_place f.side f.edge t }
