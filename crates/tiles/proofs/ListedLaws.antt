-- The tiles of an index, as contracts see them.
use Rattle.std.proofs.Common.{◌≡◌, ℤ, ◌+ℤ◌, ◌-ℤ◌, ◌*ℤ◌, ◌≤ℤ◌, false, ℕ, zero, suc, ◌+◌, ◌-◌, ◌<◌, ◌≤◌, List, [], ◌∷◌, ◌++◌, take, drop, length, get_or, slice_range, refl, sym, ap, ◌∙◌, arith}
use Rattle.std.specs.List.{flat_map}
use Rattle.std.proofs.lemmas.List.{drop-drop, take_all, length-take, length-drop}
use Rattle.std.proofs.Math.Seq.{take-add}
use Rattle.tiles.specs.Index.{AreFirsts, listed_from, tiling_from}
use Rattle.tiles.specs.Keys.{square_at}
use Rattle.tiles.specs.Meets.{meet_tile}
use Rattle.tiles.specs.Tiles.{Listed, Tiling, by_place, first_of, square_of, tile_at, tile_count}
use Rattle.opc_base.specs.declared.plane.Rect.{Rect}
use Rattle.tiles.proofs.MeetLaws.{high_row_fails, left_column_fails, low_row_fails, right_column_fails}
use Rattle.tiles.specs.declared.key.Square.{Square}

pub length-listed : (ss : List Square) (firsts numbers : List ℕ) (k : ℕ) → length (listed_from ss firsts numbers k) ≡ length ss
length-listed [] firsts numbers k = refl
length-listed (s ∷ ss) firsts numbers k = ap suc (length-listed ss firsts numbers (k + 1))

-- tile j of those from number k on
abbrev pub listed_at : List Square → List ℕ → List ℕ → ℕ → ℕ → Listed
listed_at ss firsts numbers j n = record {
  a = (square_at ss j).a;
  b = (square_at ss j).b;
  fragments = slice_range numbers (get_or firsts n 0) (get_or firsts (n + 1) 0);
}

pub get-listed : (ss : List Square) (firsts numbers : List ℕ) (k j n : ℕ) (d : Listed) → j < length ss → n ≡ k + j →
    get_or (listed_from ss firsts numbers k) j d ≡ listed_at ss firsts numbers j n
get-listed [] firsts numbers k j n d below is = absurd (omega arith)
get-listed (s ∷ ss) firsts numbers k zero n d below is =
    let same : k ≡ n = omega arith in
    ap (λ (m : ℕ). listed_at (s ∷ ss) firsts numbers 0 m) same
get-listed (s ∷ ss) firsts numbers k (suc j) n d below is = get-listed ss firsts numbers (k + 1) j n d (omega arith) (omega arith)

-- two ranges of a list, one after the other
slice_range-join : (xs : List ℕ) (a b c : ℕ) → a ≤ b → b ≤ c → slice_range xs a b ++ slice_range xs b c ≡ slice_range xs a c
slice_range-join xs a b c first second =
    let size : b - a + (c - b) ≡ c - a = omega arith in
    let place : a + (b - a) ≡ b = omega arith in
    ap (λ (ys : List ℕ). slice_range xs a b ++ take (c - b) ys) (ap (λ (n : ℕ). drop n xs) (sym place) ∙ sym (drop-drop (b - a) a xs))
    ∙ sym (take-add (b - a) (c - b) (drop a xs))
    ∙ ap (λ (n : ℕ). take n (drop a xs)) size

-- the fragments of the first j tiles
pub listed-joined : (ss : List Square) (firsts numbers : List ℕ) (k j n : ℕ) → j ≤ length ss → n ≡ k + j →
    ((p q : ℕ) → p ≤ q → q ≤ k + length ss → get_or firsts p 0 ≤ get_or firsts q 0) →
    flat_map (λ t. t.fragments) (take j (listed_from ss firsts numbers k)) ≡ slice_range numbers (get_or firsts k 0) (get_or firsts n 0)
listed-joined ss firsts numbers k zero n below is ascend =
    let same : n ≡ k = omega arith in
    let none : get_or firsts k 0 - get_or firsts k 0 ≡ 0 = omega arith in
    rw (same, none) refl
listed-joined [] firsts numbers k (suc j) n below is ascend = absurd (omega arith)
listed-joined (s ∷ ss) firsts numbers k (suc j) n below is ascend =
    ap (λ (ys : List ℕ). slice_range numbers (get_or firsts k 0) (get_or firsts (k + 1) 0) ++ ys)
    (listed-joined ss firsts numbers (k + 1) j n (omega arith) (omega arith) (λ p q le upto. ascend p q le (omega arith)))
    ∙ slice_range-join numbers (get_or firsts k 0) (get_or firsts (k + 1) 0) (get_or firsts n 0) (ascend k (k + 1) (omega arith) (omega arith)) (ascend (k + 1) n (omega arith) (omega arith))

-- the number of fragments in the tiles before
pub first_of-is : (ss : List Square) (firsts numbers : List ℕ) (j : ℕ) → AreFirsts firsts (length ss) (length numbers) → j ≤ length ss →
    length (flat_map (λ (t : Listed). t.fragments) (take j (listed_from ss firsts numbers 0))) ≡ get_or firsts j 0
first_of-is ss firsts numbers j are below =
    let joined = listed-joined ss firsts numbers 0 j j below (omega arith) (λ p q le upto. are.ascend p q le (omega arith)) in
    let upto : get_or firsts j 0 ≤ length numbers = omega (arith, are.ends, are.ascend j (length ss) below (omega arith)) in
    let start : get_or firsts 0 0 ≡ 0 = are.begins in
    ap length joined ∙ simp (length-take, length-drop) (omega arith)

-- all fragments, by place
pub by_place-is : (ss : List Square) (firsts numbers : List ℕ) → AreFirsts firsts (length ss) (length numbers) →
    flat_map (λ (t : Listed). t.fragments) (listed_from ss firsts numbers 0) ≡ numbers
by_place-is ss firsts numbers are =
    let all : take (length ss) (listed_from ss firsts numbers 0) ≡ listed_from ss firsts numbers 0 =
    take_all (length ss) (listed_from ss firsts numbers 0) (omega (arith, length-listed ss firsts numbers 0)) in
    ap (flat_map (λ (t : Listed). t.fragments)) (sym all)
    ∙ listed-joined ss firsts numbers 0 (length ss) (length ss) (omega arith) (omega arith) (λ p q le upto. are.ascend p q le (omega arith))
    ∙ rw (are.begins, are.ends) (take_all (length numbers - 0) numbers (omega arith))

-- ---- an index as it is seen
module _ (side halo : ℤ) (ss : List Square) (firsts numbers : List ℕ) (now : Tiling) (is : tiling_from side halo ss firsts numbers ≡ now) where
  pub count-seen : tile_count now ≡ length ss
  count-seen = sym (ap tile_count is) ∙ length-listed ss firsts numbers 0

  pub tile-seen : (j : ℕ) → j < length ss → tile_at now j ≡ listed_at ss firsts numbers j j
  tile-seen j below = sym (ap (λ t. tile_at t j) is) ∙ get-listed ss firsts numbers 0 j j _ below (omega arith)

  pub first-seen : (j : ℕ) → AreFirsts firsts (length ss) (length numbers) → j ≤ length ss → first_of now j ≡ get_or firsts j 0
  first-seen j are below = sym (ap (λ t. first_of t j) is) ∙ first_of-is ss firsts numbers j are below

  pub places-seen : AreFirsts firsts (length ss) (length numbers) → by_place now ≡ numbers
  places-seen are = sym (ap by_place is) ∙ by_place-is ss firsts numbers are

  -- a tile whose row ends at or below a rectangle, and one whose row begins at or above it
  pub under-fails : (rect : Rect) (k : ℕ) → k < length ss → ((square_at ss k).b *ℤ side +ℤ side +ℤ halo) ≤ℤ rect.y0 → meet_tile now rect k ≡ false
  under-fails rect k below apart = low_row_fails (square_of now k) rect (rw (sym (ap (λ t. t.side) is), sym (ap (λ t. t.halo) is), tile-seen k below) apart)

  pub over-fails : (rect : Rect) (k : ℕ) → k < length ss → rect.y1 ≤ℤ ((square_at ss k).b *ℤ side -ℤ halo) → meet_tile now rect k ≡ false
  over-fails rect k below apart = high_row_fails (square_of now k) rect (rw (sym (ap (λ t. t.side) is), sym (ap (λ t. t.halo) is), tile-seen k below) apart)

  -- and so a column that ends to the left of it, and one that begins to the right
  pub left-fails : (rect : Rect) (k : ℕ) → k < length ss → ((square_at ss k).a *ℤ side +ℤ side +ℤ halo) ≤ℤ rect.x0 → meet_tile now rect k ≡ false
  left-fails rect k below apart = left_column_fails (square_of now k) rect (rw (sym (ap (λ t. t.side) is), sym (ap (λ t. t.halo) is), tile-seen k below) apart)

  pub right-fails : (rect : Rect) (k : ℕ) → k < length ss → rect.x1 ≤ℤ ((square_at ss k).a *ℤ side -ℤ halo) → meet_tile now rect k ≡ false
  right-fails rect k below apart = right_column_fails (square_of now k) rect (rw (sym (ap (λ t. t.side) is), sym (ap (λ t. t.halo) is), tile-seen k below) apart)
