-- What an index of fragments by tiles keeps.
use Rattle.std.specs.Prelude.{◌≡◌, ℕ, ◌+◌, ◌<◌, ◌≤◌, ℤ, pos, ◌≤ℤ◌, List, [], ◌∷◌, Some, length, get_or, slice_get, slice_range}
use Rattle.tiles.specs.Tiles.{Listed, Tiling}
use Rattle.tiles.specs.Keys.{IsSquareWithin, SquarePrecedes, key_at, square_at}
use Rattle.tiles.specs.declared.key.Key.{Key}
use Rattle.tiles.specs.declared.key.Square.{Square}

-- the tiles from number k on, with their parts of the list of all fragments
abbrev pub listed_from : List Square → List ℕ → List ℕ → ℕ → List Listed
listed_from [] firsts numbers k = []
listed_from (s ∷ ss) firsts numbers k =
    record { a = s.a; b = s.b; fragments = slice_range numbers (get_or firsts k 0) (get_or firsts (k + 1) 0) } ∷ listed_from ss firsts numbers (k + 1)

-- an index as contracts see it
abbrev pub tiling_from : ℤ → ℤ → List Square → List ℕ → List ℕ → Tiling
tiling_from side halo squares firsts numbers = record { side = side; halo = halo; tiles = listed_from squares firsts numbers 0 }

-- the first place of each tile, and the number of all places
pub record AreFirsts (firsts : List ℕ) (tiles places : ℕ) : Type 0 where
  pub count : length firsts ≡ tiles + 1
  pub few : tiles ≤ 32768
  pub begins : get_or firsts 0 0 ≡ 0
  pub ends : get_or firsts tiles 0 ≡ places
  pub ascend : (i j : ℕ) → i ≤ j → j ≤ tiles → get_or firsts i 0 ≤ get_or firsts j 0

-- the tiles of all keys, and where each begins
pub record HoldGroups (keys : List Key) (squares : List Square) (firsts : List ℕ) : Type 0 where
  pub firsts_are : AreFirsts firsts (length squares) (length keys)
  pub some : (k : ℕ) → k < length squares → get_or firsts k 0 < get_or firsts (k + 1) 0
  pub in_square : (k q : ℕ) → k < length squares → get_or firsts k 0 ≤ q → q < get_or firsts (k + 1) 0 → (key_at keys q).square ≡ square_at squares k
  pub ascend : (k : ℕ) → k + 1 < length squares → SquarePrecedes (square_at squares k) (square_at squares (k + 1))

-- each is before all later ones
abbrev pub AreInOrder : List Square → Type 0
AreInOrder squares = (j k : ℕ) → j < k → k < length squares → SquarePrecedes (square_at squares j) (square_at squares k)

pub record AreSizes (side halo : ℤ) : Type 0 where
  pub least_side : pos 16 ≤ℤ side
  pub most_side : side ≤ℤ pos 4096
  pub least_halo : pos 0 ≤ℤ halo
  pub most_halo : halo ≤ℤ pos 80

-- squares by rows, where each begins, the fragments by place, and the place of each
pub record AreTiles (side halo : ℤ) (squares : List Square) (firsts numbers places : List ℕ) : Type 0 where
  pub sizes : AreSizes side halo
  pub near : (k : ℕ) → k < length squares → IsSquareWithin side (square_at squares k)
  pub order : AreInOrder squares
  pub few : length numbers ≤ 32768
  pub firsts_are : AreFirsts firsts (length squares) (length numbers)
  pub same_count : length places ≡ length numbers
  pub placed : (i : ℕ) → i < length places → slice_get numbers (get_or places i 0) ≡ Some i
