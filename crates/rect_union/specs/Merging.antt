-- Sorted quadrants, merged point by point.
use Rattle.std.specs.Prelude.{◌≡◌, ◌≢◌, ◌⊎◌, ℕ, ◌+◌, ◌<◌, ◌≤◌, ℤ, pos, ◌+ℤ◌, ◌<ℤ◌, unsigned_abs, ◌&&◌, if◌then◌else◌, List, [], ◌∷◌, ◌++◌, length, get_or, take, All, AllPairs}
use Rattle.std.specs.Ordering.{int_eq}
use Rattle.opc_base.specs.Sums.{sum_each}
use Rattle.opc_base.specs.Plane.{PixelSet}
use Rattle.opc_base.specs.Corners.{sign_at}
use Rattle.rect_union.specs.declared.quadrants.Quadrant.{Quadrant}
use Rattle.rect_union.specs.Quadrants.{quadrant_weight}

-- the quadrant's sign, at its own point
abbrev pub sign_there : Quadrant → ℤ → ℤ → ℤ
sign_there q x y = if int_eq q.column.x x && int_eq q.y y then q.column.sign else pos 0

-- the sum of the signs at the point (x, y)
abbrev pub signs_there : List Quadrant → ℤ → ℤ → ℤ
signs_there quadrants x y = sum_each (λ q. sign_there q x y) quadrants

-- lower, or in the same row and further left
abbrev pub IsBefore : Quadrant → Quadrant → Type 0
IsBefore p q = (p.y <ℤ q.y) ⊎ ((p.y ≡ q.y) × (p.column.x <ℤ q.column.x))

-- each point once, no sign 0, and the same sums at all points
pub record AreMerged (quadrants merged : List Quadrant) : Type 0 where
  pub ascending : AllPairs IsBefore merged
  pub signed : All (λ q. q.column.sign ≢ pos 0) merged
  pub sums : (x y : ℤ) → signs_there merged x y ≡ signs_there quadrants x y

-- the corners of a set, each once, by rows from the bottom
pub record AreCornersIn (pixels : PixelSet) (merged : List Quadrant) : Type 0 where
  pub ascending : AllPairs IsBefore merged
  pub signed : All (λ q. q.column.sign ≢ pos 0) merged
  pub signs : (x y : ℤ) → sign_at pixels x y ≡ signs_there merged x y

abbrev pub IsAtPointOf : Quadrant → Quadrant → Type 0
IsAtPointOf p q = (p.y ≡ q.y) × (p.column.x ≡ q.column.x)

-- the next quadrant, if there is one, is at another point
abbrev pub EndsPoint : List Quadrant → ℕ → Type 0
EndsPoint quadrants i = (d e : Quadrant) → i + 1 < length quadrants → IsAtPointOf (get_or quadrants (i + 1) d) (get_or quadrants i e) → ⊥

-- there is a next quadrant, at the same point
abbrev pub GoesOn : List Quadrant → ℕ → Type 0
GoesOn quadrants i = (i + 1 < length quadrants) × ((d e : Quadrant) → IsAtPointOf (get_or quadrants (i + 1) d) (get_or quadrants i e))

abbrev pub with_sign : Quadrant → ℤ → Quadrant
with_sign q sign = record q { column = record q.column { sign = sign } }

-- a quadrant of this sign is added, if the sign is not 0
abbrev pub PushesSigned : List Quadrant → List Quadrant → Quadrant → ℤ → Type 0
PushesSigned old new q sign = ((sign ≢ pos 0) × (new ≡ old ++ with_sign q sign ∷ [])) ⊎ ((sign ≡ pos 0) × (new ≡ old))

-- the sign is left at the last quadrant of a point, and kept before it
abbrev pub Settles : List Quadrant → List Quadrant → List Quadrant → ℕ → ℤ → ℤ → Type 0
Settles old new quadrants i sign left =
    (EndsPoint quadrants i × (left ≡ pos 0) × ((d : Quadrant) → PushesSigned old new (get_or quadrants i d) sign))
    ⊎ (GoesOn quadrants i × (left ≡ sign) × (new ≡ old))

-- the first i quadrants are merged, but for the sign so far at the point of the next one
pub record IsMergingTo (quadrants : List Quadrant) (i : ℕ) (sign : ℤ) (merged : List Quadrant) : Type 0 where
  pub ascending : AllPairs IsBefore merged
  pub signed : All (λ q. q.column.sign ≢ pos 0) merged
  pub passed : (d : Quadrant) → i < length quadrants → All (λ q. IsBefore q (get_or quadrants i d)) merged
  pub sums : (d : Quadrant) (x y : ℤ) → signs_there merged x y +ℤ sign_there (with_sign (get_or quadrants i d) sign) x y ≡ signs_there (take i quadrants) x y
  pub done : length quadrants ≤ i → sign ≡ pos 0
  pub small : unsigned_abs sign ≤ quadrant_weight (take i quadrants)
