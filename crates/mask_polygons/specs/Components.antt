-- The parts of a region.
use Rattle.std.specs.Prelude.{◌≡◌, ◌≢◌, ◌⊎◌, ℕ, nat_lt, ◌+◌, ◌-◌, ◌<◌, ◌≤◌, ◌==◌, ℤ, if◌then◌else◌, List, [], ◌∷◌, ◌++◌, length, get_or, set, map, All, AllPairs, Contains, Vec}
use Rattle.std.specs.declared.alloc.Global.{Global}
use Rattle.std.specs.List.{list_any}
use Rattle.opc_base.specs.declared.plane.Rect.{Rect}
use Rattle.opc_base.specs.Canonical.{AreCanonical, StartsBefore}
use Rattle.opc_base.specs.Plane.{IsRectWithin, cover}
use Rattle.opc_base.specs.Runs.{IsCornerTouch}
use Rattle.outline_model.specs.MaskRange.{mask_limit}
use Rattle.mask_polygons.specs.Links.{AreLinks, Reaches, rect_at}
use Rattle.mask_polygons.specs.Scripts.{row_at}
use Rattle.mask_polygons.specs.Walk.{IsComponent}

-- lists of rectangles, however they lie in memory
abbrev pub rect_lists : List (Vec Rect Global) → List (List Rect)
rect_lists rows = map (λ v. v.items) rows

abbrev pub part_at : List (List Rect) → ℕ → List Rect
part_at parts k = get_or parts k []

-- Canonical lists that cover together what the rectangles cover. Each has the rectangles of one component, and they come
-- by their first rectangles.
pub record ArePartsOf (rects : List Rect) (parts : List (List Rect)) : Type 0 where
  pub canonical : All AreCanonical parts
  pub within : All (All (IsRectWithin mask_limit)) parts
  pub covers : (x y : ℤ) → list_any (λ part. cover part x y) parts ≡ cover rects x y
  pub some : All (λ part. 0 < length part) parts
  pub components : All (λ part. IsComponent (cover rects) (cover part)) parts
  pub sorted : AllPairs (λ p q. StartsBefore (rect_at p 0) (rect_at q 0)) parts

-- the rectangles cover one component, which touches itself at no corner
pub record IsOneComponent (part : List Rect) : Type 0 where
  pub some : 0 < length part
  pub component : IsComponent (cover part) (cover part)
  pub no_touch : (x y : ℤ) → ¬ IsCornerTouch (cover part) x y

-- ---- how they are found

-- a rectangle is added to the part with this number, or is the first one of a new part
abbrev pub placed : List (List Rect) → ℕ → Rect → List (List Rect)
placed parts label rect =
    if nat_lt label (length parts) then set parts label (part_at parts label ++ rect ∷ []) else parts ++ (rect ∷ []) ∷ []

abbrev pub number_at : List ℕ → ℕ → ℕ
number_at numbers k = get_or numbers k 0

-- what it is linked to has its label
abbrev pub IsClosedAt : List (List ℕ) → List ℕ → ℕ → Type 0
IsClosedAt rows labels k = (j : ℕ) → Contains (row_at rows k) j → number_at labels j ≡ number_at labels k

-- it is reached from the root of its label, which does not come after it
abbrev pub IsRooted : List (List ℕ) → List ℕ → List ℕ → ℕ → Type 0
IsRooted rows labels roots k =
    (number_at labels k < length roots) × Reaches rows (number_at roots (number_at labels k)) k × (number_at roots (number_at labels k) ≤ k)

-- The search for what is reached from the last root has come so far in its order. The label of a number that was not seen
-- is the number of rows.
pub record IsSearching (rows : List (List ℕ)) (labels order roots : List ℕ) (at : ℕ) : Type 0 where
  pub size : length labels ≡ length rows
  pub few : length roots ≤ length rows
  pub some : 0 < length roots
  pub listed : (k : ℕ) → k < length rows → number_at labels k ≢ length rows → Contains order k
  pub members : (m : ℕ) → m < length order → (number_at order m < length rows) × (number_at labels (number_at order m) ≢ length rows)
  pub others : (k : ℕ) → k < length rows → number_at labels k ≢ length rows → number_at labels k ≢ length roots - 1 → IsClosedAt rows labels k
  pub before : (m : ℕ) → m < at → m < length order → IsClosedAt rows labels (number_at order m)
  pub behind : (m : ℕ) → at ≤ m → m < length order → number_at labels (number_at order m) ≡ length roots - 1
  pub rooted : (k : ℕ) → k < length rows → number_at labels k ≢ length rows → IsRooted rows labels roots k
  pub own : (c : ℕ) → c < length roots → (number_at roots c < length rows) × (number_at labels (number_at roots c) ≡ c)
  pub passed : (k : ℕ) → k < number_at roots (length roots - 1) → number_at labels k ≢ length rows

-- the searches from all roots below n are over
pub record AreLabelled (rows : List (List ℕ)) (labels order roots : List ℕ) (n : ℕ) : Type 0 where
  pub size : length labels ≡ length rows
  pub few : length roots ≤ n
  pub listed : (k : ℕ) → k < length rows → number_at labels k ≢ length rows → Contains order k
  pub members : (m : ℕ) → m < length order → (number_at order m < length rows) × (number_at labels (number_at order m) ≢ length rows)
  pub closed : (k : ℕ) → k < length rows → number_at labels k ≢ length rows → IsClosedAt rows labels k
  pub rooted : (k : ℕ) → k < length rows → number_at labels k ≢ length rows → IsRooted rows labels roots k
  pub own : (c : ℕ) → c < length roots → (number_at roots c < length rows) × (number_at labels (number_at roots c) ≡ c)
  pub passed : (k : ℕ) → k < n → number_at labels k ≢ length rows
  pub rising : AllPairs (λ a b. a < b) roots
  pub below : (c : ℕ) → c < length roots → number_at roots c < n

-- a number that was not seen got the label, or nothing changed
abbrev pub IsVisited : ℕ → ℕ → ℕ → List ℕ → List ℕ → List ℕ → List ℕ → Type 0
IsVisited none number label labels order new_labels new_order =
    ((number_at labels number ≢ none) × (new_labels ≡ labels) × (new_order ≡ order))
    ⊎ ((number_at labels number ≡ none) × (new_labels ≡ set labels number label) × (new_order ≡ order ++ number ∷ []))

-- how many were not seen
unfoldable pub unseen : ℕ → List ℕ → ℕ
unseen none [] = 0
unseen none (label ∷ labels) = (if label == none then 1 else 0) + unseen none labels

-- The rectangles that share a side have one label. Each is reached from the root of its label, the first rectangle that has
-- it, and the roots rise.
pub record AreLabels (rects : List Rect) (labels roots : List ℕ) : Type 0 where
  pub size : length labels ≡ length rects
  pub rows : List (List ℕ)
  pub links : AreLinks rects rows
  pub closed : (k : ℕ) → k < length rects → IsClosedAt rows labels k
  pub rooted : (k : ℕ) → k < length rects → IsRooted rows labels roots k
  pub own : (c : ℕ) → c < length roots → (number_at roots c < length rects) × (number_at labels (number_at roots c) ≡ c)
  pub rising : AllPairs (λ a b. a < b) roots
