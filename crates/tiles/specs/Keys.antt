-- Fragments in the order of their places, and the tiles in which they stand.
use Rattle.std.specs.Prelude.{◌≡◌, ◌≢◌, ◌⊎◌, ℕ, ◌+◌, ◌-◌, ◌<◌, ◌≤◌, ℤ, pos, ◌*ℤ◌, ◌<ℤ◌, int_lt, unsigned_abs, Bool, ◌&&◌, ◌||◌, List, length, get_or, All, Contains}
use Rattle.std.specs.Int.{int_div_euclid}
use Rattle.std.specs.Ordering.{int_eq}
use Rattle.outline_model.specs.declared.fragment.Fragment.{Fragment}
use Rattle.tiles.specs.Tiles.{standing}
use Rattle.tiles.specs.declared.key.Key.{Key}
use Rattle.tiles.specs.declared.key.Square.{Square}

-- the square of the tile in which a fragment stands, with its number
abbrev pub key_of : List Fragment → ℤ → ℕ → Key
key_of fs side i = record {
  square = record { b = int_div_euclid (standing fs i).y side; a = int_div_euclid (standing fs i).x side };
  number = i;
}

abbrev pub square_at : List Square → ℕ → Square
square_at squares k = get_or squares k (record { b = pos 0; a = pos 0 })

abbrev pub key_at : List Key → ℕ → Key
key_at keys k = get_or keys k (record { square = record { b = pos 0; a = pos 0 }; number = 0 })

-- how far from 0 a square and its sides may lie
pub record IsSquareWithin (side : ℤ) (square : Square) : Type 0 where
  pub a : unsigned_abs square.a ≤ 1053000
  pub b : unsigned_abs square.b ≤ 1053000
  pub x : unsigned_abs (square.a *ℤ side) ≤ 1053000
  pub y : unsigned_abs (square.b *ℤ side) ≤ 1053000

-- by b, and those of one b by a
abbrev pub SquarePrecedes : Square → Square → Type 0
SquarePrecedes s t = (s.b <ℤ t.b) ⊎ ((s.b ≡ t.b) × (s.a <ℤ t.a))

-- it stands before this column of this row
abbrev pub is_before : Square → ℤ → ℤ → Bool
is_before s row column = int_lt s.b row || (int_eq s.b row && int_lt s.a column)

-- the keys of the first n fragments by number
pub record ListsKeys (fs : List Fragment) (side : ℤ) (n : ℕ) (keys : List Key) : Type 0 where
  pub count : length keys ≡ n
  pub few : n ≤ 32768
  pub each : (i : ℕ) (d : Key) → i < n → get_or keys i d ≡ key_of fs side i
  pub near : All (λ k. IsSquareWithin side k.square) keys

-- each key is before the next, by its tile or else by its number
abbrev pub IsAscending : List Key → Type 0
IsAscending keys = (q : ℕ) → q + 1 < length keys →
    SquarePrecedes (key_at keys q).square (key_at keys (q + 1)).square
    ⊎ (((key_at keys q).square ≡ (key_at keys (q + 1)).square) × ((key_at keys q).number < (key_at keys (q + 1)).number))

-- a key for each fragment, ascending by tile and in each tile by number
pub record AreKeys (fs : List Fragment) (side : ℤ) (keys : List Key) : Type 0 where
  pub count : length keys ≡ length fs
  pub few : length keys ≤ 32768
  pub each : (q : ℕ) → q < length keys → ((key_at keys q).number < length fs) × (key_at keys q ≡ key_of fs side (key_at keys q).number)
  pub complete : (i : ℕ) → i < length fs → Contains keys (key_of fs side i)
  pub near : All (λ k. IsSquareWithin side k.square) keys
  pub distinct : (p q : ℕ) → p < q → q < length keys → (key_at keys p).number ≢ (key_at keys q).number
  pub ascend : IsAscending keys

abbrev pub IsLastOf : Square → List Square → Type 0
IsLastOf square squares = (0 < length squares) × (square_at squares (length squares - 1) ≡ square)

-- another one is the last, or there is none
abbrev pub IsNoLastOf : Square → List Square → Type 0
IsNoLastOf square squares = 0 < length squares → square_at squares (length squares - 1) ≢ square

-- the tiles of the first n keys, and where each begins among them
pub record AreGroups (keys : List Key) (n : ℕ) (squares : List Square) (firsts : List ℕ) : Type 0 where
  pub same : length firsts ≡ length squares
  pub few : length squares ≤ n
  pub begins : get_or firsts 0 n ≡ 0
  pub some : (k : ℕ) → k < length squares → get_or firsts k n < get_or firsts (k + 1) n
  pub in_square : (k q : ℕ) → k < length squares → get_or firsts k n ≤ q → q < get_or firsts (k + 1) n → (key_at keys q).square ≡ square_at squares k
  pub ascend : (k : ℕ) → k + 1 < length squares → SquarePrecedes (square_at squares k) (square_at squares (k + 1))
