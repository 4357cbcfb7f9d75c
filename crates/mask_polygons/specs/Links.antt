-- Which rectangles share a side.
use Rattle.std.specs.Prelude.{◌≡◌, ◌⊎◌, ℕ, ◌<◌, ℤ, pos, ◌≤ℤ◌, ◌<ℤ◌, List, [], ◌∷◌, ◌++◌, length, get_or, set, Contains}
use Rattle.opc_base.specs.declared.plane.Rect.{Rect}
use Rattle.mask_polygons.specs.Scripts.{row_at}

abbrev pub rect_at : List Rect → ℕ → Rect
rect_at rects k = get_or rects k (record { x0 = pos 0; y0 = pos 0; x1 = pos 0; y1 = pos 0 })

-- the second rectangle lies on the upper side of the first
abbrev pub IsUpper : Rect → Rect → Type 0
IsUpper r s = (s.y0 ≡ r.y1) × (r.x0 <ℤ s.x1) × (s.x0 <ℤ r.x1)

abbrev pub ShareEdge : List Rect → ℕ → ℕ → Type 0
ShareEdge rects i j = IsUpper (rect_at rects i) (rect_at rects j) ⊎ IsUpper (rect_at rects j) (rect_at rects i)

-- the rows have for each rectangle those that share a side with it
pub record AreLinks (rects : List Rect) (rows : List (List ℕ)) : Type 0 where
  pub size : length rows ≡ length rects
  pub sound : (i j : ℕ) → Contains (row_at rows i) j → (i < length rects) × (j < length rects) × ShareEdge rects i j
  pub complete : (i j : ℕ) → i < length rects → j < length rects → ShareEdge rects i j → Contains (row_at rows i) j

-- links go both ways, and to rows
pub record AreMutual (rows : List (List ℕ)) : Type 0 where
  pub within : (i j : ℕ) → Contains (row_at rows i) j → j < length rows
  pub back : (i j : ℕ) → Contains (row_at rows i) j → Contains (row_at rows j) i

-- from one rectangle over others to this one
pub data Reaches (rows : List (List ℕ)) (from : ℕ) : ℕ → Type 0 where
  at_root : Reaches rows from from
  by_link : {j k : ℕ} → Reaches rows from j → Contains (row_at rows j) k → Reaches rows from k

-- ---- how they are found

-- the rectangle lies before those that begin at this height and reach past this column
abbrev pub LiesBefore : Rect → ℤ → ℤ → Type 0
LiesBefore r height column = (r.y0 <ℤ height) ⊎ ((r.y0 ≡ height) × (r.x1 ≤ℤ column))

-- it begins on the upper side of the other, and left of its right end
abbrev pub IsOver : Rect → Rect → Type 0
IsOver r s = (s.y0 ≡ r.y1) × (s.x0 <ℤ r.x1)

-- one number more in a row, and a link both ways round
abbrev pub pushed : List (List ℕ) → ℕ → ℕ → List (List ℕ)
pushed rows k number = set rows k (row_at rows k ++ number ∷ [])

abbrev pub linked : List (List ℕ) → ℕ → ℕ → List (List ℕ)
linked rows i j = pushed (pushed rows i j) j i

-- all links of the first n rectangles to those above, and of the next one to those of the first m
pub record AreLinksTo (rects : List Rect) (rows : List (List ℕ)) (n m : ℕ) : Type 0 where
  pub size : length rows ≡ length rects
  pub sound : (i j : ℕ) → Contains (row_at rows i) j → (i < length rects) × (j < length rects) × ShareEdge rects i j
  pub before : (i j : ℕ) → i < n → i < length rects → j < length rects → IsUpper (rect_at rects i) (rect_at rects j)
      → Contains (row_at rows i) j × Contains (row_at rows j) i
  pub here : (j : ℕ) → j < m → j < length rects → IsUpper (rect_at rects n) (rect_at rects j) → Contains (row_at rows n) j × Contains (row_at rows j) n
