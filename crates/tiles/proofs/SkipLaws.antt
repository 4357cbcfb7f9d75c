-- The tiles that a walk over those that a rectangle reaches leaves out.
use Rattle.std.proofs.Common.{◌≡◌, ◌⊎◌, inl, inr, ℕ, ◌<◌, ◌≤◌, ℤ, ◌+ℤ◌, ◌-ℤ◌, ◌*ℤ◌, ◌≤ℤ◌, ◌<ℤ◌, int_lt, true, false, ◌&&◌, ◌||◌, List, length, arith, ⊎_elim}
use Rattle.std.specs.Ordering.{int_eq}
use Rattle.std.specs.List.Sorted.{IsPartitionedBy}
use Rattle.std.proofs.lemmas.Bool.{cases_lt}
use Rattle.std.proofs.lemmas.Int.{ints}
use Rattle.std.proofs.lemmas.List.{get_or_default}
use Rattle.opc_base.specs.declared.plane.Rect.{Rect}
use Rattle.tiles.specs.Index.{AreInOrder, tiling_from}
use Rattle.tiles.specs.Keys.{SquarePrecedes, is_before, square_at}
use Rattle.tiles.specs.Meets.{meet_tile}
use Rattle.tiles.specs.Tiles.{Tiling}
use Rattle.tiles.specs.declared.key.Square.{Square}
use Rattle.tiles.proofs.ListedLaws.{left-fails, over-fails, right-fails, under-fails}

-- ---- the first square from a place on
earlier : (s t : Square) (row column : ℤ) → SquarePrecedes s t → is_before t row column ≡ true → is_before s row column ≡ true
earlier s t row column (inl up) before = in_row s.b s.a t.b t.a up before
  where
    in_row : (b a d c : ℤ) → b <ℤ d → (int_lt d row || (int_eq d row && int_lt c column)) ≡ true → (int_lt b row || (int_eq b row && int_lt a column)) ≡ true
    in_row b a d c up before = grind (arith, ints)
earlier s t row column (inr level) before = rw level.0 (in_column t.b s.a t.a level.1 before)
  where
    in_column : (b a c : ℤ) → a <ℤ c → (int_lt b row || (int_eq b row && int_lt c column)) ≡ true → (int_lt b row || (int_eq b row && int_lt a column)) ≡ true
    in_column b a c less before = grind (arith, ints)

pub parted : (squares : List Square) (row column : ℤ) → AreInOrder squares → IsPartitionedBy (λ s. is_before s row column) squares
parted squares row column order i j d le within test =
    let first = get_or_default squares i d _ (omega arith) in
    let second = get_or_default squares j d _ within in
    let there : is_before (square_at squares j) row column ≡ true = rw second at test in
    rw first (⊎_elim
    (λ less. earlier (square_at squares i) (square_at squares j) row column (order i j less within) there)
    (λ later. let same : i ≡ j = omega arith in rw same there)
    (cases_lt i j))

-- ---- what is left out
-- later squares are in no lower row, and those of one row in no column further to the left
row_later : (ss : List Square) (at k : ℕ) → AreInOrder ss → at < k → k < length ss → (square_at ss at).b ≤ℤ (square_at ss k).b
row_later ss at k order later below = by (order at k later below)
  where
    by : SquarePrecedes (square_at ss at) (square_at ss k) → (square_at ss at).b ≤ℤ (square_at ss k).b
    by (inl up) = omega (arith, ints)
    by (inr level) = omega (arith, ints, level.0)

column_later : (ss : List Square) (at k : ℕ) → AreInOrder ss → at < k → k < length ss → (square_at ss k).b ≡ (square_at ss at).b → (square_at ss at).a ≤ℤ (square_at ss k).a
column_later ss at k order later below same = by (order at k later below)
  where
    by : SquarePrecedes (square_at ss at) (square_at ss k) → (square_at ss at).a ≤ℤ (square_at ss k).a
    by (inl up) = absurd (omega (arith, ints, same))
    by (inr level) = omega (arith, ints, level.1)

-- in a lower row, or in no such one and further to the left
before_cases : (s : Square) (row column low : ℤ) → is_before s row column ≡ true → (s.b <ℤ low) ⊎ ((s.a <ℤ column) ⊎ ((low ≤ℤ s.b) × (s.b <ℤ row)))
before_cases s row column low before = by s.b s.a before
  where
    by : (b a : ℤ) → (int_lt b row || (int_eq b row && int_lt a column)) ≡ true → (b <ℤ low) ⊎ ((a <ℤ column) ⊎ ((low ≤ℤ b) × (b <ℤ row)))
    by b a before = grind (arith, ints)

module _ (side halo : ℤ) (ss : List Square) (firsts numbers : List ℕ) (now : Tiling) (is : tiling_from side halo ss firsts numbers ≡ now)
    (order : AreInOrder ss) (rect : Rect) where
  -- the tiles from one on whose row begins at or above the rectangle
  pub above-fail : (high : ℤ) (at k : ℕ) → ((n : ℤ) → high ≤ℤ n → rect.y1 ≤ℤ (n *ℤ side -ℤ halo)) → high ≤ℤ (square_at ss at).b → at ≤ k → k < length ss →
      meet_tile now rect k ≡ false
  above-fail high at k over up from below = over-fails side halo ss firsts numbers now is rect k below (over (square_at ss k).b (⊎_elim
      (λ later. climb high (square_at ss at).b (square_at ss k).b up (row_later ss at k order later below))
      (λ here. let same : k ≡ at = omega arith in rw same up)
      (cases_lt at k)))
    where
      climb : (x y z : ℤ) → x ≤ℤ y → y ≤ℤ z → x ≤ℤ z
      climb x y z first second = omega (arith, ints)

  -- the tiles after one that stand before the place at which the walk goes on
  pub between-fail : (low left right row : ℤ) (at k : ℕ) → ((n : ℤ) → n <ℤ low → (n *ℤ side +ℤ side +ℤ halo) ≤ℤ rect.y0) →
      ((n : ℤ) → n <ℤ left → (n *ℤ side +ℤ side +ℤ halo) ≤ℤ rect.x0) → ((n : ℤ) → right ≤ℤ n → rect.x1 ≤ℤ (n *ℤ side -ℤ halo)) →
      ((b : ℤ) → low ≤ℤ b → (square_at ss at).b ≤ℤ b → b <ℤ row → (b ≡ (square_at ss at).b) × (right ≤ℤ (square_at ss at).a)) →
      at < k → k < length ss → is_before (square_at ss k) row left ≡ true → meet_tile now rect k ≡ false
  between-fail low left right row at k under to_left to_right between later below before = ⊎_elim
      (λ lower. under-fails side halo ss firsts numbers now is rect k below (under _ lower))
      (λ rest. ⊎_elim
      (λ beside. left-fails side halo ss firsts numbers now is rect k below (to_left _ beside))
      (λ inner. let past = between _ inner.0 (row_later ss at k order later below) inner.1 in
      right-fails side halo ss firsts numbers now is rect k below (to_right _ (climb right (square_at ss at).a (square_at ss k).a past.1 (column_later ss at k order later below past.0))))
      rest)
      (before_cases (square_at ss k) row left low before)
    where
      climb : (x y z : ℤ) → x ≤ℤ y → y ≤ℤ z → x ≤ℤ z
      climb x y z first second = omega (arith, ints)
