-- Rectangles that meet, and what one that is too far adds.
use Rattle.std.proofs.Common.{◌≡◌, ℕ, ◌+◌, ◌<◌, ◌≤◌, ℤ, pos, negsuc, neg_ℤ, ◌+ℤ◌, ◌-ℤ◌, ◌*ℤ◌, ◌≤ℤ◌, ◌<ℤ◌, int_le, int_lt, unsigned_abs, Bool, true, false, ◌&&◌, if◌then◌else◌, IsTrue, IsFalse, arith}
use Rattle.std.proofs.lemmas.Int.{ints, clamps}
use Rattle.std.specs.Int.{int_max, int_min}
use Rattle.opc_base.specs.Lanes.{lane_entry, part_of_lane}
use Rattle.opc_base.specs.Plane.{rect_cover}
use Rattle.opc_base.specs.declared.kernels.KernelSet.{KernelSet}
use Rattle.opc_base.specs.declared.plane.Pix.{Pix}
use Rattle.opc_base.specs.declared.plane.Rect.{Rect}
use Rattle.opc_base.specs.declared.plane.Side.{Side}
use Rattle.opc_base.specs.declared.plane.Side.TheVariants.{Left, Right, Down, Up}
use Rattle.opc_base.proofs.ClampLaws.{seen_sum-far}
use Rattle.outline_model.specs.declared.fragment.Fragment.{Fragment}
use Rattle.outline_model.specs.Outline.{is_vertical, middle_of, sample_place, site_of}
use Rattle.tiles.specs.Meets.{AddsNothing, meet}
use Rattle.tiles.specs.Tiles.{IsInTile, Listed}

-- ---- a pixel in both
within : (a b c d x : ℤ) → IsTrue (int_le a x && int_lt x b) → IsTrue (int_le c x && int_lt x d) → IsTrue (int_lt (int_max a c) (int_min b d))
within a b c d x in_first in_second = grind (arith, ints, clamps)

halves : (a b c d : Bool) → IsTrue (a && b && c && d) → IsTrue (a && b) × IsTrue (c && d)
halves a b c d all = (grind arith, grind arith)

and : (a b : Bool) → IsTrue a → IsTrue b → IsTrue (a && b)
and a b first second = grind arith

four : (a b c d : Bool) → IsTrue (a && b) → IsTrue (c && d) → IsTrue (a && b && c && d)
four a b c d first second = grind arith

-- rectangles with a pixel in both meet
pub meet-shared : (r s : Rect) (x y : ℤ) → IsTrue (rect_cover r x y) → IsTrue (rect_cover s x y) → IsTrue (meet r s)
meet-shared r s x y in_r in_s =
    let first = halves (int_le r.x0 x) (int_lt x r.x1) (int_le r.y0 y) (int_lt y r.y1) in_r in
    let second = halves (int_le s.x0 x) (int_lt x s.x1) (int_le s.y0 y) (int_lt y s.y1) in_s in
    and _ _ (within r.x0 r.x1 s.x0 s.x1 x first.0 second.0) (within r.y0 r.y1 s.y0 s.y1 y first.1 second.1)

from_low : (a b c d : ℤ) → IsTrue (int_lt (int_max a c) (int_min b d)) →
    IsTrue (int_le a (int_max a c) && int_lt (int_max a c) b) × IsTrue (int_le c (int_max a c) && int_lt (int_max a c) d)
from_low a b c d below = (grind (arith, ints, clamps), grind (arith, ints, clamps))

pair : (a b : Bool) → IsTrue (a && b) → IsTrue a × IsTrue b
pair a b all = (grind arith, grind arith)

-- rectangles that meet have a pixel in both
pub shared-meet : (r s : Rect) → IsTrue (meet r s) → (x : ℤ) × (y : ℤ) × IsTrue (rect_cover r x y) × IsTrue (rect_cover s x y)
shared-meet r s both =
    let x = int_max r.x0 s.x0 in
    let y = int_max r.y0 s.y0 in
    let sides = pair (int_lt x (int_min r.x1 s.x1)) (int_lt y (int_min r.y1 s.y1)) both in
    let across = from_low r.x0 r.x1 s.x0 s.x1 sides.0 in
    let along = from_low r.y0 r.y1 s.y0 s.y1 sides.1 in (
      x,
      y,
      four (int_le r.x0 x) (int_lt x r.x1) (int_le r.y0 y) (int_lt y r.y1) across.0 along.0,
      four (int_le s.x0 x) (int_lt x s.x1) (int_le s.y0 y) (int_lt y s.y1) across.1 along.1,
    )

-- ---- a row in which a rectangle can't lie
pub low_row_fails : (r s : Rect) → r.y1 ≤ℤ s.y0 → meet r s ≡ false
low_row_fails r s apart = rows (int_lt (int_max r.x0 s.x0) (int_min r.x1 s.x1)) r.y0 r.y1 s.y0 s.y1 apart
  where
    rows : (b : Bool) (a c d e : ℤ) → c ≤ℤ d → (b && int_lt (int_max a d) (int_min c e)) ≡ false
    rows b a c d e apart = grind (arith, ints, clamps)

pub high_row_fails : (r s : Rect) → s.y1 ≤ℤ r.y0 → meet r s ≡ false
high_row_fails r s apart = rows (int_lt (int_max r.x0 s.x0) (int_min r.x1 s.x1)) r.y0 r.y1 s.y0 s.y1 apart
  where
    rows : (b : Bool) (a c d e : ℤ) → e ≤ℤ a → (b && int_lt (int_max a d) (int_min c e)) ≡ false
    rows b a c d e apart = grind (arith, ints, clamps)

-- ---- a column in which it can't lie
pub left_column_fails : (r s : Rect) → r.x1 ≤ℤ s.x0 → meet r s ≡ false
left_column_fails r s apart = columns (int_lt (int_max r.y0 s.y0) (int_min r.y1 s.y1)) r.x0 r.x1 s.x0 s.x1 apart
  where
    columns : (b : Bool) (a c d e : ℤ) → c ≤ℤ d → (int_lt (int_max a d) (int_min c e) && b) ≡ false
    columns b a c d e apart = grind (arith, ints, clamps)

pub right_column_fails : (r s : Rect) → s.x1 ≤ℤ r.x0 → meet r s ≡ false
right_column_fails r s apart = columns (int_lt (int_max r.y0 s.y0) (int_min r.y1 s.y1)) r.x0 r.x1 s.x0 s.x1 apart
  where
    columns : (b : Bool) (a c d e : ℤ) → e ≤ℤ a → (int_lt (int_max a d) (int_min c e) && b) ≡ false
    columns b a c d e apart = grind (arith, ints, clamps)

-- ---- what a sample sees
-- the samples of a fragment lie no further from where it stands than there are samples to a side
abbrev pub IsNearBy : ℕ → Pix → Pix → Type 0
IsNearBy n p q = (unsigned_abs (p.x -ℤ q.x) ≤ n) × (unsigned_abs (p.y -ℤ q.y) ≤ n)

sample_near : (side : Side) (edge : ℤ) (k n : ℕ) → k < n + n → unsigned_abs (sample_place side edge (pos k -ℤ pos n) -ℤ sample_place side edge (negsuc 0)) ≤ n
sample_near Left edge k n below = omega (arith, ints)
sample_near Right edge k n below = omega (arith, ints)
sample_near Down edge k n below = omega (arith, ints)
sample_near Up edge k n below = omega (arith, ints)

itself_near : (z : ℤ) (n : ℕ) → unsigned_abs (z -ℤ z) ≤ n
itself_near z n = omega (arith, ints)

pub site_near : (f : Fragment) (k n : ℕ) → k < n + n → IsNearBy n (site_of f (pos k -ℤ pos n)) (site_of f (negsuc 0))
site_near f k n below = by (is_vertical f.side)
  where
    by : (b : Bool) → IsNearBy n (if b then record { x = sample_place f.side f.edge (pos k -ℤ pos n); y = middle_of f } else record { x = middle_of f; y = sample_place f.side f.edge (pos k -ℤ pos n) })
        (if b then record { x = sample_place f.side f.edge (negsuc 0); y = middle_of f } else record { x = middle_of f; y = sample_place f.side f.edge (negsuc 0) })
    by true = (sample_near f.side f.edge k n below, itself_near (middle_of f) n)
    by false = (itself_near (middle_of f) n, sample_near f.side f.edge k n below)

not_in : (b c : Bool) → (IsTrue b → IsTrue c) → c ≡ false → IsFalse b
not_in b c leads away = grind arith

-- all that a kernel of this reach sees from a pixel lies in the rectangle
pub record SeesWithin (reach : ℕ) (at : Pix) (r : Rect) : Type 0 where
  pub left : r.x0 ≤ℤ (at.x -ℤ pos reach)
  pub right : (at.x +ℤ pos reach) <ℤ r.x1
  pub below : r.y0 ≤ℤ (at.y -ℤ pos reach)
  pub above : (at.y +ℤ pos reach) <ℤ r.y1

-- a rectangle that doesn't meet it adds nothing at the pixel
pub unmet : (set : KernelSet) (at : Pix) (window rect : Rect) (lane : ℕ) → SeesWithin set.reach at window → meet window rect ≡ false →
    part_of_lane set (rect_cover rect) at.x at.y lane ≡ pos 0
unmet set at window rect lane sees away =
    seen_sum-far set.reach (lane_entry set lane) (rect_cover rect) at.x at.y
    (λ u v low_u high_u low_v high_v. not_in (rect_cover rect (at.x -ℤ u) (at.y -ℤ v)) (meet window rect)
    (λ covered. meet-shared window rect (at.x -ℤ u) (at.y -ℤ v)
    (four (int_le window.x0 (at.x -ℤ u)) (int_lt (at.x -ℤ u) window.x1) (int_le window.y0 (at.y -ℤ v)) (int_lt (at.y -ℤ v) window.y1)
    (between window.x0 window.x1 at.x u set.reach sees.left sees.right low_u high_u)
    (between window.y0 window.y1 at.y v set.reach sees.below sees.above low_v high_v)) covered) away)
  where
    both : (a b x : ℤ) → a ≤ℤ x → x <ℤ b → IsTrue (int_le a x && int_lt x b)
    both a b x first second = grind (arith, ints)

    between : (a b p u : ℤ) (reach : ℕ) → a ≤ℤ (p -ℤ pos reach) → (p +ℤ pos reach) <ℤ b → neg_ℤ (pos reach) ≤ℤ u → u ≤ℤ pos reach →
        IsTrue (int_le a (p -ℤ u) && int_lt (p -ℤ u) b)
    between a b p u reach low high least most = both a b (p -ℤ u) (omega (arith, ints)) (omega (arith, ints))

-- one coordinate of what a sample sees lies in the grown square
in_grown : (low side halo p q : ℤ) (reach n : ℕ) → pos (reach + n) ≤ℤ halo → low ≤ℤ q → q <ℤ (low +ℤ side) → unsigned_abs (p -ℤ q) ≤ n →
    ((low -ℤ halo) ≤ℤ (p -ℤ pos reach)) × ((p +ℤ pos reach) <ℤ (low +ℤ side +ℤ halo))
in_grown low side halo p q reach n wide from upto near = (omega (arith, ints), omega (arith, ints))

-- a rectangle that doesn't meet a tile's grown square adds nothing at the samples of the tile's fragments
pub far : (set : KernelSet) (n : ℕ) (f : Fragment) (tile : Listed) (side halo : ℤ) (rect : Rect) → pos (set.reach + n) ≤ℤ halo →
    IsInTile side tile (site_of f (negsuc 0)) →
    meet (record { x0 = tile.a *ℤ side -ℤ halo; y0 = tile.b *ℤ side -ℤ halo; x1 = tile.a *ℤ side +ℤ side +ℤ halo; y1 = tile.b *ℤ side +ℤ side +ℤ halo }) rect ≡ false →
    AddsNothing set n f rect
far set n f tile side halo rect wide stands away k lane below =
    unmet set here square rect lane (record { left = across.0; right = across.1; below = along.0; above = along.1 }) away
  where
    here : Pix
    here = site_of f (pos k -ℤ pos n)

    near : IsNearBy n here (site_of f (negsuc 0))
    near = site_near f k n below

    square : Rect
    square = record { x0 = tile.a *ℤ side -ℤ halo; y0 = tile.b *ℤ side -ℤ halo; x1 = tile.a *ℤ side +ℤ side +ℤ halo; y1 = tile.b *ℤ side +ℤ side +ℤ halo }

    across : ((tile.a *ℤ side -ℤ halo) ≤ℤ (here.x -ℤ pos set.reach)) × ((here.x +ℤ pos set.reach) <ℤ (tile.a *ℤ side +ℤ side +ℤ halo))
    across = in_grown (tile.a *ℤ side) side halo here.x (site_of f (negsuc 0)).x set.reach n wide stands.left stands.right near.0

    along : ((tile.b *ℤ side -ℤ halo) ≤ℤ (here.y -ℤ pos set.reach)) × ((here.y +ℤ pos set.reach) <ℤ (tile.b *ℤ side +ℤ side +ℤ halo))
    along = in_grown (tile.b *ℤ side) side halo here.y (site_of f (negsuc 0)).y set.reach n wide stands.below stands.above near.1

-- all that a kernel sees from a sample of a fragment of the tile lies in the tile's grown square
pub square_shows : (reach n : ℕ) (f : Fragment) (tile : Listed) (side halo : ℤ) (k : ℕ) → pos (reach + n) ≤ℤ halo → IsInTile side tile (site_of f (negsuc 0)) → k < n + n →
    SeesWithin reach (site_of f (pos k -ℤ pos n))
    (record { x0 = tile.a *ℤ side -ℤ halo; y0 = tile.b *ℤ side -ℤ halo; x1 = tile.a *ℤ side +ℤ side +ℤ halo; y1 = tile.b *ℤ side +ℤ side +ℤ halo })
square_shows reach n f tile side halo k wide stands below =
    let near = site_near f k n below in
    let across = in_grown (tile.a *ℤ side) side halo (site_of f (pos k -ℤ pos n)).x (site_of f (negsuc 0)).x reach n wide stands.left stands.right near.0 in
    let along = in_grown (tile.b *ℤ side) side halo (site_of f (pos k -ℤ pos n)).y (site_of f (negsuc 0)).y reach n wide stands.below stands.above near.1 in
    record { left = across.0; right = across.1; below = along.0; above = along.1 }
