-- The rules of a mask, and where one of them is broken.
use Rattle.std.specs.Prelude.{◌≡◌, ◌⊎◌, ℕ, ◌<◌, ℤ, pos, neg_ℤ, ◌≤ℤ◌, ◌<ℤ◌, List, length, get_or, set}
use Rattle.outline_model.specs.declared.fragment.Fragment.{Fragment}
use Rattle.opc_base.specs.declared.plane.Pix.{Pix}
use Rattle.opc_base.specs.declared.rules.MaskRules.{MaskRules}
use Rattle.opc_base.specs.declared.broken.RuleName.{RuleName}
use Rattle.opc_base.specs.declared.broken.RuleName.TheVariants.{M0, M1, M2, M3, M4, M5}
use Rattle.opc_base.specs.declared.broken.Place.{Place}
use Rattle.opc_base.specs.declared.broken.Place.TheVariants.{Pixel, Fragment as FragmentNumber}
use Rattle.outline_model.specs.Near.{IsNear}
use Rattle.outline_model.specs.Outline.{Piece, lines, low_end, high_end, next, previous, swept, vertical_piece, horizontal_piece, count, mask}
use Rattle.opc_base.specs.Runs.{IsTooNarrow, IsCornerTouch}
use Rattle.opc_base.specs.Plane.{PixelSet, outside}

-- a vertical piece stands on the left side of a pixel, and is walked downward or upward there
abbrev pub FallsOn : Piece → ℤ → ℤ → Type 0
FallsOn piece x y = (piece.from.x ≡ x) × (piece.to.y ≤ℤ y) × (y <ℤ piece.from.y)

abbrev pub RisesOn : Piece → ℤ → ℤ → Type 0
RisesOn piece x y = (piece.from.x ≡ x) × (piece.from.y ≤ℤ y) × (y <ℤ piece.to.y)

-- a horizontal piece lies on the lower side of a pixel, and is walked to the left or to the right there
abbrev pub LeftwardOn : Piece → ℤ → ℤ → Type 0
LeftwardOn piece x y = (piece.from.y ≡ y) × (piece.to.x ≤ℤ x) × (x <ℤ piece.from.x)

abbrev pub RightwardOn : Piece → ℤ → ℤ → Type 0
RightwardOn piece x y = (piece.from.y ≡ y) × (piece.from.x ≤ℤ x) × (x <ℤ piece.to.x)

-- two vertical pieces of opposite sign on the left side of a pixel, or two horizontal ones on its lower side
pub record MeetUpright (fs : List Fragment) (line : ℕ → ℤ) (x y : ℤ) : Type 0 where
  pub j : ℕ
  pub k : ℕ
  pub j_below : j < length fs
  pub k_below : k < length fs
  pub falls : FallsOn (vertical_piece fs line j) x y
  pub rises : RisesOn (vertical_piece fs line k) x y

pub record MeetLevel (fs : List Fragment) (line : ℕ → ℤ) (x y : ℤ) : Type 0 where
  pub j : ℕ
  pub k : ℕ
  pub j_below : j < length fs
  pub k_below : k < length fs
  pub leftward : LeftwardOn (horizontal_piece fs line j) x y
  pub rightward : RightwardOn (horizontal_piece fs line k) x y

abbrev pub CrossesAt : List Fragment → (ℕ → ℤ) → ℤ → ℤ → Type 0
CrossesAt fs line x y =
    ¬ ((count fs line x y ≡ pos 0) ⊎ (count fs line x y ≡ pos 1))
    ⊎ (MeetUpright fs line x y ⊎ MeetLevel fs line x y)

-- the outline neither crosses nor touches itself along a line: rule M0 holds at each pixel
abbrev pub NoneCrosses : List Fragment → (ℕ → ℤ) → Type 0
NoneCrosses fs line = (x y : ℤ) → ¬ CrossesAt fs line x y

-- M1: a covered run is too narrow.  M2: an uncovered run between covered pixels is.  M3: two pixels touch at a corner.
abbrev pub BreaksRuns : MaskRules → PixelSet → RuleName → Pix → Type 0
BreaksRuns rules pixels M1 p = IsTooNarrow pixels rules.width p.x p.y
BreaksRuns rules pixels M2 p = IsTooNarrow (outside pixels) rules.space p.x p.y
BreaksRuns rules pixels M3 p = IsCornerTouch pixels p.x p.y
BreaksRuns rules pixels M0 p = ⊥
BreaksRuns rules pixels M4 p = ⊥
BreaksRuns rules pixels M5 p = ⊥

-- M5: the offset is out of range.  M4: the ends are not in order.  M0: the outline crosses or touches itself.
abbrev pub Breaks : MaskRules → List Fragment → List ℤ → RuleName → Place → Type 0
Breaks rules fs offsets M5 (FragmentNumber k) =
    (k < length fs) × ¬ ((neg_ℤ rules.max_in ≤ℤ get_or offsets k (pos 0)) × (get_or offsets k (pos 0) ≤ℤ rules.max_out))
Breaks rules fs offsets M4 (FragmentNumber k) =
    (k < length fs) × ¬ (low_end fs (lines fs offsets) k <ℤ high_end fs (lines fs offsets) k)
Breaks rules fs offsets M0 (Pixel p) = CrossesAt fs (lines fs offsets) p.x p.y
Breaks rules fs offsets M1 (Pixel p) = BreaksRuns rules (mask fs (lines fs offsets)) M1 p
Breaks rules fs offsets M2 (Pixel p) = BreaksRuns rules (mask fs (lines fs offsets)) M2 p
Breaks rules fs offsets M3 (Pixel p) = BreaksRuns rules (mask fs (lines fs offsets)) M3 p
Breaks rules fs offsets M5 (Pixel p) = ⊥
Breaks rules fs offsets M4 (Pixel p) = ⊥
Breaks rules fs offsets M0 (FragmentNumber k) = ⊥
Breaks rules fs offsets M1 (FragmentNumber k) = ⊥
Breaks rules fs offsets M2 (FragmentNumber k) = ⊥
Breaks rules fs offsets M3 (FragmentNumber k) = ⊥

-- all six rules hold
abbrev pub KeepsRules : MaskRules → List Fragment → List ℤ → Type 0
KeepsRules rules fs offsets = (rule : RuleName) (place : Place) → ¬ Breaks rules fs offsets rule place

-- the order in which the rules are judged
abbrev pub rank : RuleName → ℕ
rank M5 = 0
rank M4 = 1
rank M0 = 2
rank M1 = 3
rank M2 = 4
rank M3 = 5

-- the lowest fragment, and the pixel of lowest y, then of lowest x
abbrev pub ComesBefore : Place → Place → Type 0
ComesBefore (FragmentNumber j) (FragmentNumber k) = j < k
ComesBefore (Pixel p) (Pixel q) = (p.y <ℤ q.y) ⊎ ((p.y ≡ q.y) × (p.x <ℤ q.x))
ComesBefore (FragmentNumber j) (Pixel q) = ⊥
ComesBefore (Pixel p) (FragmentNumber k) = ⊥

-- the first broken rule, with its first place
pub record IsFirstBroken (rules : MaskRules) (fs : List Fragment) (offsets : List ℤ) (rule : RuleName) (place : Place) : Type 0 where
  pub broken : Breaks rules fs offsets rule place
  pub rules_before : (r : RuleName) (p : Place) → rank r < rank rule → ¬ Breaks rules fs offsets r p
  pub places_before : (p : Place) → ComesBefore p place → ¬ Breaks rules fs offsets rule p

-- how far from the swept rectangle of a move a rule can come to be broken
abbrev pub reach_of : MaskRules → RuleName → ℤ
reach_of rules M0 = pos 1
reach_of rules M1 = rules.width
reach_of rules M2 = rules.space
reach_of rules M3 = pos 1
reach_of rules M4 = pos 0
reach_of rules M5 = pos 0

-- where the move of fragment i can come to break a rule: near the rectangle that it sweeps, at its own offset, and at the
-- ends of the fragments before and after it
abbrev pub IsNearMove : MaskRules → List Fragment → List ℤ → ℕ → ℤ → RuleName → Place → Type 0
IsNearMove rules fs offsets i to rule (Pixel p) =
    IsNear (swept fs (lines fs offsets) i (lines fs (set offsets i to) i)) (reach_of rules rule) p.x p.y
IsNearMove rules fs offsets i to M5 (FragmentNumber k) = k ≡ i
IsNearMove rules fs offsets i to M4 (FragmentNumber k) = (k ≡ previous fs i) ⊎ (k ≡ next fs i)
IsNearMove rules fs offsets i to rule (FragmentNumber k) = ⊥
