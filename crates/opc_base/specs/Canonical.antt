-- The canonical rectangles of a set of pixels.
use Rattle.std.specs.Prelude.{◌≡◌, ◌≢◌, ◌⊎◌, ℤ, pos, ◌-ℤ◌, ◌≤ℤ◌, ◌<ℤ◌, Bool, List, Contains, All, AllPairs}
use Rattle.opc_base.specs.declared.plane.Rect.{Rect}
use Rattle.opc_base.specs.Runs.{IsRun}

-- a row has the rectangle's columns as a maximal run
abbrev pub RunsInRow : (ℤ → ℤ → Bool) → Rect → ℤ → Type 0
RunsInRow inside r y = IsRun (λ s. inside s y) r.x0 r.x1

-- the rectangle is a maximal stack of rows that have the same maximal run
pub record IsStack (inside : ℤ → ℤ → Bool) (r : Rect) : Type 0 where
  pub some : r.y0 <ℤ r.y1
  pub rows : (y : ℤ) → r.y0 ≤ℤ y → y <ℤ r.y1 → RunsInRow inside r y
  pub before : ¬ RunsInRow inside r (r.y0 -ℤ pos 1)
  pub after : ¬ RunsInRow inside r r.y1

-- the lower rectangle first, then the one further left
abbrev pub StartsBefore : Rect → Rect → Type 0
StartsBefore r s = (r.y0 <ℤ s.y0) ⊎ ((r.y0 ≡ s.y0) × (r.x0 <ℤ s.x0))

-- the list has exactly the stacks of the set, in order
pub record IsCanonical (inside : ℤ → ℤ → Bool) (rects : List Rect) : Type 0 where
  pub sorted : AllPairs StartsBefore rects
  pub stacks : (r : Rect) → Contains rects r → IsStack inside r
  pub complete : (r : Rect) → IsStack inside r → Contains rects r

-- ---- canonical lists, without a set

pub record IsSolid (r : Rect) : Type 0 where
  pub wide : r.x0 <ℤ r.x1
  pub high : r.y0 <ℤ r.y1

-- Two rectangles in order: those that share a row have a gap between them, and no two with the same columns touch.
pub record Precedes (r s : Rect) : Type 0 where
  pub sorted : StartsBefore r s
  pub apart : s.y0 <ℤ r.y1 → (r.x1 <ℤ s.x0) ⊎ (s.x1 <ℤ r.x0)
  pub maximal : r.y1 ≡ s.y0 → r.x0 ≡ s.x0 → r.x1 ≢ s.x1

-- the list is canonical for the pixels that it covers
pub record AreCanonical (rects : List Rect) : Type 0 where
  pub solid : All IsSolid rects
  pub pairs : AllPairs Precedes rects
