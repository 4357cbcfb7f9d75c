-- Fragments that lie on the boundary of a set of pixels.
use Rattle.std.specs.Prelude.{◌≡◌, ◌≢◌, ℕ, ◌<◌, ℤ, pos, ◌-ℤ◌, ◌≤ℤ◌, ◌<ℤ◌, Bool, true, false, not, List, length}
use Rattle.opc_base.specs.declared.plane.Side.{Side}
use Rattle.opc_base.specs.declared.plane.Side.TheVariants.{Left, Right, Down, Up}
use Rattle.outline_model.specs.declared.fragment.Fragment.{Fragment}
use Rattle.outline_model.specs.declared.fragment.Join.{Join}
use Rattle.outline_model.specs.declared.fragment.Join.TheVariants.{Cut, Corner}
use Rattle.outline_model.specs.Outline.{Point, fragment_at, is_vertical, point_on, start_place, finish_place, start_join, finish_join}

-- the fragment, where no offset moves it, is the left side of the pixel, or its lower side
abbrev pub LiesLeftOf : Fragment → ℤ → ℤ → Type 0
LiesLeftOf f x y = (is_vertical f.side ≡ true) × (f.edge ≡ x) × (f.lo ≤ℤ y) × (y <ℤ f.hi)

abbrev pub LiesBelow : Fragment → ℤ → ℤ → Type 0
LiesBelow f x y = (is_vertical f.side ≡ false) × (f.edge ≡ y) × (f.lo ≤ℤ x) × (x <ℤ f.hi)

-- the inside is on the side of greater coordinates
abbrev pub opens : Side → Bool
opens Left = true
opens Right = false
opens Down = true
opens Up = false

-- Each fragment has the inside on one side and the outside on the other all along, and each place where the two meet
-- is on exactly one fragment.
pub record IsBoundary (inside : ℤ → ℤ → Bool) (fs : List Fragment) : Type 0 where
  pub some : (k : ℕ) → k < length fs → (fragment_at fs k).lo <ℤ (fragment_at fs k).hi
  pub upright : (k : ℕ) (x y : ℤ) → k < length fs → LiesLeftOf (fragment_at fs k) x y
      → (inside x y ≡ opens (fragment_at fs k).side) × (inside (x -ℤ pos 1) y ≡ not (opens (fragment_at fs k).side))
  pub level : (k : ℕ) (x y : ℤ) → k < length fs → LiesBelow (fragment_at fs k) x y
      → (inside x y ≡ opens (fragment_at fs k).side) × (inside x (y -ℤ pos 1) ≡ not (opens (fragment_at fs k).side))
  pub upright_all : (x y : ℤ) → inside x y ≢ inside (x -ℤ pos 1) y
      → (k : ℕ) × (k < length fs) × LiesLeftOf (fragment_at fs k) x y
  pub level_all : (x y : ℤ) → inside x y ≢ inside x (y -ℤ pos 1)
      → (k : ℕ) × (k < length fs) × LiesBelow (fragment_at fs k) x y
  pub upright_once : (j k : ℕ) (x y : ℤ) → j < length fs → k < length fs
      → LiesLeftOf (fragment_at fs j) x y → LiesLeftOf (fragment_at fs k) x y → j ≡ k
  pub level_once : (j k : ℕ) (x y : ℤ) → j < length fs → k < length fs
      → LiesBelow (fragment_at fs j) x y → LiesBelow (fragment_at fs k) x y → j ≡ k

-- ---- how the fragments of a target are joined

-- where the walk of a fragment that has not moved starts and finishes
abbrev pub start_point : Fragment → Point
start_point f = point_on f.side f.edge (start_place f)

abbrev pub finish_point : Fragment → Point
finish_point f = point_on f.side f.edge (finish_place f)

-- the join at one end names a fragment of which another end is at this point: of the same side at a cut, and across
-- it at a corner
abbrev pub Names : (Fragment → Point) → List Fragment → Fragment → Join → Point → Type 0
Names other_end fs f (Cut j) point = (j < length fs) × (other_end (fragment_at fs j) ≡ point) × ((fragment_at fs j).side ≡ f.side)
Names other_end fs f (Corner j) point =
    (j < length fs) × (other_end (fragment_at fs j) ≡ point) × (is_vertical (fragment_at fs j).side ≡ not (is_vertical f.side))

pub record IsJoined (fs : List Fragment) : Type 0 where
  pub finishes : (k : ℕ) → k < length fs
      → Names start_point fs (fragment_at fs k) (finish_join (fragment_at fs k)) (finish_point (fragment_at fs k))
  pub starts : (k : ℕ) → k < length fs
      → Names finish_point fs (fragment_at fs k) (start_join (fragment_at fs k)) (start_point (fragment_at fs k))
