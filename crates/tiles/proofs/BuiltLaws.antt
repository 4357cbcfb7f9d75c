-- The index of fragments, from their keys in order.
use Rattle.std.proofs.Common.{◌≡◌, inl, inr, ℕ, zero, suc, ◌+◌, ◌-◌, ◌<◌, ◌≤◌, ℤ, pos, ◌<ℤ◌, List, Contains, Some, length, get_or, drop, map, slice_get, slice_range, sym, ap, ◌∙◌, subst, arith, ⊎_elim}
use Rattle.std.proofs.lemmas.Bool.{cases_lt}
use Rattle.std.proofs.lemmas.Int.{ints}
use Rattle.std.proofs.lemmas.List.{get_or_default, get_or-drop, get_or-map, get_or-take, length-drop, length-map, length-take}
use Rattle.std.specs.List.Sorted.{IsStrictlyIncreasing}
use Rattle.outline_model.specs.declared.fragment.Fragment.{Fragment}
use Rattle.tiles.specs.Index.{AreFirsts, AreInOrder, AreSizes, AreTiles, HoldGroups, tiling_from}
use Rattle.tiles.specs.Keys.{AreKeys, IsSquareWithin, SquarePrecedes, key_at, key_of, square_at}
use Rattle.tiles.specs.Places.{AreOneEach}
use Rattle.tiles.specs.Tiles.{IsInTile, IsTilingOf, Tiling, by_place, standing, tile_at, tile_count}
use Rattle.tiles.specs.declared.key.Key.{Key}
use Rattle.tiles.specs.declared.key.Square.{Square}
use Rattle.tiles.proofs.DivLaws.{div_from, div_upto}
use Rattle.tiles.proofs.ListedLaws.{count-seen, listed_at, places-seen, tile-seen}

-- a number at its place
number_at : (keys : List Key) (q : ℕ) → q < length keys → get_or (map (λ k. k.number) keys) q 0 ≡ (key_at keys q).number
number_at keys q below = get_or-map (λ (k : Key). k.number) keys q _ 0 below

-- each fragment has one place
pub one_each : (fs : List Fragment) (side : ℤ) (keys : List Key) → AreKeys fs side keys → AreOneEach (map (λ k. k.number) keys)
one_each fs side keys are = record {
  below = λ q within. omega (arith, number_at keys q (omega (arith, size)), (are.each q (omega (arith, size))).0, are.count, size);
  distinct = λ p q before within same.
      are.distinct p q before (omega (arith, size)) (sym (number_at keys p (omega (arith, size))) ∙ same ∙ number_at keys q (omega (arith, size)));
  complete = λ i below. all i (omega (arith, size, are.count));
}
  where
    size : length (map (λ k. k.number) keys) ≡ length keys
    size = length-map keys (λ (k : Key). k.number)

    all : (i : ℕ) → i < length fs → Contains (map (λ k. k.number) keys) i
    all i below =
        let has = are.complete i below in
        (has.0, omega (arith, has.1, size), get_or-map (λ (k : Key). k.number) keys has.0 (key_of fs side i) i has.1 ∙ ap (λ k. k.number) has.2)

precedes-trans : (r s t : Square) → SquarePrecedes r s → SquarePrecedes s t → SquarePrecedes r t
precedes-trans r s t (inl up) (inl more) = inl (omega (arith, ints))
precedes-trans r s t (inl up) (inr level) = inl (omega (arith, ints, level.0))
precedes-trans r s t (inr level) (inl up) = inl (omega (arith, ints, level.0))
precedes-trans r s t (inr level) (inr more) = inr (level.0 ∙ more.0, omega (arith, ints, level.1, more.1))

-- squares of which each is before the next
in_order : (squares : List Square) → ((k : ℕ) → k + 1 < length squares → SquarePrecedes (square_at squares k) (square_at squares (k + 1))) → AreInOrder squares
in_order squares ascend j zero less below = absurd (omega arith)
in_order squares ascend j (suc k) less below = ⊎_elim
    (λ before. precedes-trans _ _ _ (in_order squares ascend j k before (omega arith)) (step k below))
    (λ later. let same : j ≡ k = at_top j k less later in rw same (step k below))
    (cases_lt j k)
  where
    at_top : (j k : ℕ) → j < suc k → k ≤ j → j ≡ k
    at_top j k less later = omega arith

    step : (k : ℕ) → suc k < length squares → SquarePrecedes (square_at squares k) (square_at squares (suc k))
    step k below = let next : k + 1 ≡ suc k = omega arith in subst (λ m. SquarePrecedes (square_at squares k) (square_at squares m)) next (ascend k (omega arith))

-- a square lies in no row or column before itself
not_itself : (s : Square) → ¬ SquarePrecedes s s
not_itself s (inl up) = absurd (omega (arith, ints))
not_itself s (inr right) = absurd (omega (arith, ints, right.1))

-- a number of a part of a list
part_at : (xs : List ℕ) (a b j d : ℕ) → j < length (slice_range xs a b) → (a + j < b) × (a + j < length xs) × (get_or (slice_range xs a b) j d ≡ get_or xs (a + j) d)
part_at xs a b j d below =
    let short : length (slice_range xs a b) ≤ b - a = simp length-take (omega arith) in
    let inner : length (slice_range xs a b) ≤ length xs - a = simp (length-take, length-drop) (omega arith) in
    (omega (arith, short), omega (arith, inner), get_or-take (b - a) (drop a xs) j d (omega (arith, short)) ∙ get_or-drop a xs j d)

module _ (fs : List Fragment) (side halo : ℤ) (keys : List Key) (squares : List Square) (firsts : List ℕ)
    (are : AreKeys fs side keys) (groups : HoldGroups keys squares firsts) where
  -- what is kept
  pub tiles_kept : (numbers places : List ℕ) → AreSizes side halo → numbers ≡ map (λ k. k.number) keys → length places ≡ length numbers →
      ((i : ℕ) → i < length places → slice_get numbers (get_or places i 0) ≡ Some i) → AreTiles side halo squares firsts numbers places
  tiles_kept numbers places sizes is same placed = record {
    sizes = sizes;
    near = λ k below. near k below;
    order = in_order squares groups.ascend;
    few = omega (arith, size, are.few);
    firsts_are = rw size groups.firsts_are;
    same_count = same;
    placed = placed;
  }
    where
      size : length numbers ≡ length keys
      size = ap length is ∙ length-map keys (λ (k : Key). k.number)

      near : (k : ℕ) → k < length squares → IsSquareWithin side (square_at squares k)
      near k below =
          let q : ℕ = get_or firsts k 0 in
          let end : get_or firsts (k + 1) 0 ≤ length keys = omega (arith, groups.firsts_are.ends, groups.firsts_are.ascend (k + 1) (length squares) (omega arith) (omega arith)) in
          subst (IsSquareWithin side) (groups.in_square k q below (omega arith) (groups.some k below)) (are.near q _ (omega (arith, groups.some k below, end)))

  -- what it is seen as
  pub tiling_is : (tiling : Tiling) → tiling_from side halo squares firsts (map (λ k. k.number) keys) ≡ tiling → pos 0 <ℤ side → IsTilingOf fs side halo tiling
  tiling_is tiling is above = record {
    side_is = sym (ap (λ t. t.side) is);
    halo_is = sym (ap (λ t. t.halo) is);
    count = ap length places ∙ size ∙ are.count;
    below = rw places (λ q d within. rw (get_or_default numbers q d 0 within) (omega (arith, (one_each fs side keys are).below q within, size, are.count)));
    complete = λ i below. rw places ((one_each fs side keys are).complete i (omega (arith, size, are.count, below)));
    in_tile = λ k i below has. subst (λ t. IsInTile side t (standing fs i)) (sym (tile k (omega (arith, count, below)))) (in_tile k i (omega (arith, count, below)) (rw (ap (λ t. t.fragments) (tile k (omega (arith, count, below)))) at has));
    some = λ k below. rw (ap (λ t. t.fragments) (tile k (omega (arith, count, below)))) (some k (omega (arith, count, below)));
    tiles_ascend = λ k below. rw (tile k (omega (arith, count, below)), tile (k + 1) (omega (arith, count, below))) (groups.ascend k (omega (arith, count, below)));
    numbers_ascend = λ k below. rw (ap (λ t. t.fragments) (tile k (omega (arith, count, below)))) (ascend k (omega (arith, count, below)));
  }
    where
      numbers : List ℕ
      numbers = map (λ k. k.number) keys

      size : length numbers ≡ length keys
      size = length-map keys (λ (k : Key). k.number)

      firsts_are : AreFirsts firsts (length squares) (length numbers)
      firsts_are = rw size groups.firsts_are

      count : tile_count tiling ≡ length squares
      count = count-seen side halo squares firsts numbers tiling is

      tile : (k : ℕ) → k < length squares → tile_at tiling k ≡ listed_at squares firsts numbers k k
      tile k below = tile-seen side halo squares firsts numbers tiling is k below

      places : by_place tiling ≡ numbers
      places = places-seen side halo squares firsts numbers tiling is firsts_are

      part : ℕ → List ℕ
      part k = slice_range numbers (get_or firsts k 0) (get_or firsts (k + 1) 0)

      end : (k : ℕ) → k < length squares → get_or firsts (k + 1) 0 ≤ length numbers
      end k below = omega (arith, firsts_are.ends, firsts_are.ascend (k + 1) (length squares) (omega arith) (omega arith))

      some : (k : ℕ) → k < length squares → 0 < length (part k)
      some k below =
          let least = groups.some k below in
          let most = end k below in
          simp (length-take, length-drop) (omega arith)

      in_tile : (k i : ℕ) → k < length squares → Contains (part k) i → IsInTile side (listed_at squares firsts numbers k k) (standing fs i)
      in_tile k i below has =
          let at = part_at numbers (get_or firsts k 0) (get_or firsts (k + 1) 0) has.0 i has.1 in
          let q : ℕ = get_or firsts k 0 + has.0 in
          let within : q < length keys = omega (arith, at.1, size) in
          let number : (key_at keys q).number ≡ i = sym (number_at keys q within) ∙ sym (get_or_default numbers q i 0 at.1) ∙ sym at.2 ∙ has.2 in
          let key : key_at keys q ≡ key_of fs side i = (are.each q within).1 ∙ ap (key_of fs side) number in
          let square : square_at squares k ≡ (key_of fs side i).square = sym (groups.in_square k q below (omega arith) at.0) ∙ ap (λ k. k.square) key in
          rw square (record {
            left = div_from (standing fs i).x side above;
            right = div_upto (standing fs i).x side above;
            below = div_from (standing fs i).y side above;
            above = div_upto (standing fs i).y side above;
          })

      ascend : (k : ℕ) → k < length squares → IsStrictlyIncreasing (part k)
      ascend k below j within =
          let a = part_at numbers (get_or firsts k 0) (get_or firsts (k + 1) 0) j 0 (omega arith) in
          let b = part_at numbers (get_or firsts k 0) (get_or firsts (k + 1) 0) (j + 1) 0 within in
          let q : ℕ = get_or firsts k 0 + j in
          let next : get_or firsts k 0 + (j + 1) ≡ q + 1 = omega arith in
          let first = groups.in_square k q below (omega arith) a.0 in
          let second = groups.in_square k (q + 1) below (omega arith) (omega (arith, b.0)) in
          let less : (key_at keys q).number < (key_at keys (q + 1)).number = ⊎_elim
          (λ before. absurd (not_itself (square_at squares k) (subst (λ s. SquarePrecedes (square_at squares k) s) second (subst (λ s. SquarePrecedes s (key_at keys (q + 1)).square) first before))))
          (λ same. same.1)
          (are.ascend q (omega (arith, b.1, size))) in
          omega (arith, less, a.2, b.2, ap (λ m. get_or numbers m 0) next, number_at keys q (omega (arith, a.1, size)), number_at keys (q + 1) (omega (arith, b.1, size)))
