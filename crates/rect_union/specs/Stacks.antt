-- Slabs of rows, stacked from the bottom into rectangles.
use Rattle.std.specs.Prelude.{◌≡◌, ◌≢◌, ◌⊎◌, ℕ, ◌<◌, ◌≤◌, ℤ, ◌≤ℤ◌, ◌<ℤ◌, int_le, int_lt, Bool, ◌&&◌, List, [], ◌∷◌, ◌++◌, length, get_or, slice_set, All, AllPairs}
use Rattle.opc_base.specs.declared.plane.Rect.{Rect}
use Rattle.rect_union.specs.declared.run.Run.{Run}
use Rattle.rect_union.specs.declared.stack.Growing.{Growing}
use Rattle.rect_union.specs.RowRuns.{in_runs}
use Rattle.opc_base.specs.Canonical.{AreCanonical}

-- the pixels of the runs in the rows from `bottom` up to but not including `top`
abbrev pub slab_cover : ℤ → ℤ → List Run → ℤ → ℤ → Bool
slab_cover bottom top runs x y = (int_le bottom y && int_lt y top) && in_runs runs x

-- the rectangle at this place has these columns
pub record HasColumns (rects : List Rect) (g : Growing) : Type 0 where
  pub placed : g.place < length rects
  pub first : (d : Rect) → (get_or rects g.place d).x0 ≡ g.run.first
  pub past : (d : Rect) → (get_or rects g.place d).x1 ≡ g.run.past

abbrev pub EndsAt : List Rect → ℤ → ℕ → Type 0
EndsAt rects y place = (d : Rect) → (get_or rects place d).y1 ≡ y

abbrev pub HasPlace : List Growing → ℕ → Type 0
HasPlace growing place = (k : ℕ) × (k < length growing) × ((d : Growing) → (get_or growing k d).place ≡ place)

-- each rectangle that ends at the height is one of these
abbrev pub HasAllAt : List Rect → List Growing → ℤ → Type 0
HasAllAt rects growing y = (i : ℕ) → i < length rects → EndsAt rects y i → HasPlace growing i

-- from left to right, the rectangles that end at the height
pub record AreGrowing (rects : List Rect) (growing : List Growing) (y : ℤ) : Type 0 where
  pub sorted : AllPairs (λ g h. g.run.first <ℤ h.run.first) growing
  pub columns : All (HasColumns rects) growing
  pub ends : All (λ g. EndsAt rects y g.place) growing
  pub complete : HasAllAt rects growing y

-- rectangles below the height, canonical, with those that end there
pub record AreStacked (rects : List Rect) (growing : List Growing) (y : ℤ) : Type 0 where
  pub canonical : AreCanonical rects
  pub below : All (λ r. r.y1 ≤ℤ y) rects
  pub grows : AreGrowing rects growing y

-- the number is left of the runs from the n-th on
abbrev pub IsLeftOfRuns : List Run → ℕ → ℤ → Type 0
IsLeftOfRuns runs n x = (m : ℕ) (d : Run) → n ≤ m → m < length runs → x <ℤ (get_or runs m d).first

-- while a slab is added: a rectangle is below it, or in it and left of the runs from the n-th on
pub record IsDoneInSlab (bottom top : ℤ) (runs : List Run) (n : ℕ) (r : Rect) : Type 0 where
  pub low : r.y0 ≤ℤ bottom
  pub done : (r.y1 ≤ℤ bottom) ⊎ ((r.y1 ≡ top) × IsLeftOfRuns runs n r.x1)

-- A slab is added as far as its n-th run: `grown` has its rectangles, and the runs to come do not have the columns
-- of `growing` before `next`.
pub record IsAddingSlab (bottom top : ℤ) (runs : List Run) (growing : List Growing) (rects : List Rect)
    (grown : List Growing) (next n : ℕ) : Type 0 where
  pub canonical : AreCanonical rects
  pub placed : All (IsDoneInSlab bottom top runs n) rects
  pub sorted : AllPairs (λ g h. g.run.first <ℤ h.run.first) growing
  pub columns : All (HasColumns rects) growing
  pub complete : HasAllAt rects growing bottom
  pub next_within : next ≤ length growing
  pub passed : (k : ℕ) (d : Growing) → k < next → IsLeftOfRuns runs n (get_or growing k d).run.first
  pub ends : All (λ g. IsLeftOfRuns runs n g.run.first ⊎ EndsAt rects bottom g.place) growing
  pub grown_count : length grown ≡ n
  pub grown_runs : (k : ℕ) (d : Growing) (e : Run) → k < n → (get_or grown k d).run ≡ get_or runs k e
  pub grown_columns : All (HasColumns rects) grown
  pub grown_ends : All (λ g. EndsAt rects top g.place) grown
  pub grown_complete : HasAllAt rects grown top

-- the first place of `growing` from `next` on whose columns do not begin left of x
pub record IsFirstFrom (growing : List Growing) (next : ℕ) (x : ℤ) (found : ℕ) : Type 0 where
  pub within : found ≤ length growing
  pub later : next ≤ found
  pub passed : (k : ℕ) (d : Growing) → next ≤ k → k < found → (get_or growing k d).run.first <ℤ x
  pub reached : (d : Growing) → found < length growing → x ≤ℤ (get_or growing found d).run.first

-- the rectangle at `place`, which has the columns of the run, grows to the top
pub record Extends (old new : List Rect) (growing : List Growing) (next : ℕ) (top : ℤ) (run : Run) (place : ℕ) : Type 0 where
  pub within : next < length growing
  pub same_run : (d : Growing) → (get_or growing next d).run ≡ run
  pub same_place : (d : Growing) → (get_or growing next d).place ≡ place
  pub changed : (d : Rect) → new ≡ slice_set old place (record (get_or old place d) { y1 = top })

-- a new rectangle follows the others
pub record Appends (old new : List Rect) (growing : List Growing) (next : ℕ) (bottom top : ℤ) (run : Run) (place : ℕ) : Type 0 where
  pub other : (d : Growing) → next < length growing → (get_or growing next d).run ≢ run
  pub last : place ≡ length old
  pub changed : new ≡ old ++ record { x0 = run.first; y0 = bottom; x1 = run.past; y1 = top } ∷ []

abbrev pub PlacesRun : List Rect → List Rect → List Growing → ℕ → ℤ → ℤ → Run → ℕ → Type 0
PlacesRun old new growing next bottom top run place =
    Extends old new growing next top run place ⊎ Appends old new growing next bottom top run place
