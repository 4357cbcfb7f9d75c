-- Where the seams of holes end.
use Rattle.std.specs.Prelude.{◌≡◌, ◌⊎◌, ℕ, ◌<◌, ◌≤◌, ℤ, pos, ◌-ℤ◌, ◌≤ℤ◌, ◌<ℤ◌, true, false, List, length, AllPairs, Contains}
use Rattle.opc_base.specs.declared.plane.Pix.{Pix}
use Rattle.opc_base.specs.declared.plane.Side.TheVariants.{Left}
use Rattle.opc_base.specs.Plane.{PixelSet}
use Rattle.opc_base.specs.Runs.{IsRun}
use Rattle.outline_model.specs.declared.fragment.Fragment.{Fragment}
use Rattle.outline_model.specs.Outline.{fragment_at, is_vertical, side_of}
use Rattle.mask_polygons.specs.Scripts.{row_at}
use Rattle.mask_polygons.specs.Walks.{pix_at}

-- the pixels left of the corner of a hole and below it are in the set, and the hole's is not
pub record IsHoleCorner (inside : PixelSet) (q : Pix) : Type 0 where
  pub out : inside q.x q.y ≡ false
  pub left : inside (q.x -ℤ pos 1) q.y ≡ true
  pub below : inside q.x (q.y -ℤ pos 1) ≡ true

-- the seam of the hole with this corner ends on the edge: at the left end of the covered run that ends at the corner
pub record EndsOn (inside : PixelSet) (f : Fragment) (q : Pix) : Type 0 where
  pub left : f.side ≡ Left
  pub run : IsRun (λ s. inside s q.y) f.edge q.x
  pub from : f.lo ≤ℤ q.y
  pub to : q.y <ℤ f.hi

-- each hole stands at the edge on which its seam ends, and the holes of an edge are numbered downward
pub record EndRight (inside : PixelSet) (fs : List Fragment) (starts : List Pix) (hung : List (List ℕ)) : Type 0 where
  pub ends : (k h : ℕ) → Contains (row_at hung k) h → EndsOn inside (fragment_at fs k) (pix_at starts h)
  pub later : (k h : ℕ) → Contains (row_at hung k) h → 0 < h
  pub below : (k h : ℕ) → Contains (row_at hung k) h → h < length starts
  pub falling : (k : ℕ) → AllPairs (λ h i. i < h) (row_at hung k)
  pub all : (h : ℕ) → 0 < h → h < length starts → (k : ℕ) × (k < length fs) × Contains (row_at hung k) h

-- ---- how they are found

-- so many of the fragments are horizontal, and the others follow
pub record IsSplit (fs : List Fragment) (first : ℕ) : Type 0 where
  pub within : first ≤ length fs
  pub level : (k : ℕ) → k < first → is_vertical (side_of fs k) ≡ false
  pub upright : (k : ℕ) → first ≤ k → k < length fs → is_vertical (side_of fs k) ≡ true

-- the fragment has this place of this line
abbrev pub HasPlace : Fragment → ℤ → ℤ → Type 0
HasPlace f line place = (f.edge ≡ line) × (f.lo ≤ℤ place) × (place <ℤ f.hi)

-- the fragment begins at this place of this line, or before it
abbrev pub BeginsBy : Fragment → ℤ → ℤ → Type 0
BeginsBy f line place = (f.edge <ℤ line) ⊎ ((f.edge ≡ line) × (f.lo ≤ℤ place))
