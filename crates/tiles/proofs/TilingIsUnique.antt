-- Fragments have one tiling at most.
use Rattle.std.proofs.Common.{◌≡◌, inl, inr, ℕ, zero, suc, ◌+◌, ◌-◌, ◌<◌, ℤ, pos, ◌+ℤ◌, ◌*ℤ◌, ◌≤ℤ◌, ◌<ℤ◌, List, [], ◌∷◌, length, get_or, sym, ◌∙◌, ap, subst, arith, ⊎_elim}
use Rattle.std.specs.Prelude.{Contains, AllPairs}
use Rattle.std.specs.List.{flat_map}
use Rattle.std.proofs.lemmas.Bool.{cases_lt}
use Rattle.std.proofs.lemmas.Int.{ints, by_lt_z}
use Rattle.std.proofs.lemmas.List.{get_or_default}
use Rattle.std.proofs.lemmas.List.Elements.{Contains-append_cases, Contains-get_or}
use Rattle.std.proofs.lemmas.List.Kept.{AllPairs-from_increasing}
use Rattle.opc_base.specs.declared.plane.Pix.{Pix}
use Rattle.opc_base.proofs.ListsInOrder.{none_in_empty, same_if_ordered}
use Rattle.outline_model.specs.declared.fragment.Fragment.{Fragment}
use Rattle.tiles.specs.Tiles.{IsInTile, IsTilingOf, Listed, StandsBefore, Tiling, first_of, fragments_of, standing, tile_at, tile_count}
use Rattle.tiles.proofs.DivLaws.{row-below}
use Rattle.tiles.proofs.TilingLaws.{first_of-within, number-in_tile}

-- ---- squares
before_once : (s t : Listed) → StandsBefore s t → ¬ StandsBefore t s
before_once s t (inl low) (inl high) = omega (arith, ints)
before_once s t (inl low) (inr level) = let same = level.0 in omega (arith, ints)
before_once s t (inr level) (inl high) = let same = level.0 in omega (arith, ints)
before_once s t (inr level) (inr other) = let left = level.1 in let right = other.1 in omega (arith, ints)

before_next : (s t u : Listed) → StandsBefore s t → StandsBefore t u → StandsBefore s u
before_next s t u (inl low) (inl high) = inl (omega (arith, ints))
before_next s t u (inl low) (inr level) = let same = level.0 in inl (omega (arith, ints))
before_next s t u (inr level) (inl high) = let same = level.0 in inl (omega (arith, ints))
before_next s t u (inr level) (inr other) =
    let first = level.0 in let second = other.0 in let left = level.1 in let right = other.1 in
    inr (first ∙ second, omega (arith, ints))

-- a tile whose square is the other's doesn't come before it
not_before : (s t : Listed) → s.a ≡ t.a → s.b ≡ t.b → ¬ StandsBefore s t
not_before s t same_a same_b (inl low) = omega (arith, ints)
not_before s t same_a same_b (inr level) = let left = level.1 in omega (arith, ints)

-- a place lies in one row of squares
one_row : (a b side x : ℤ) → pos 0 <ℤ side → (a *ℤ side) ≤ℤ x → x <ℤ (a *ℤ side +ℤ side) → (b *ℤ side) ≤ℤ x → x <ℤ (b *ℤ side +ℤ side) → a ≡ b
one_row a b side x above from upto other_from other_upto =
    by_lt_z a b (λ less. absurd (let under = row-below a b side less above in omega (arith, ints)))
    (λ not_less. by_lt_z b a (λ more. absurd (let under = row-below b a side more above in omega (arith, ints)))
    (λ not_more. omega (arith, ints)))

record AreSameSquare (s t : Listed) : Type 0 where
  pub a : s.a ≡ t.a
  pub b : s.b ≡ t.b

one_square : (side : ℤ) (s t : Listed) (p : Pix) → pos 0 <ℤ side → IsInTile side s p → IsInTile side t p → AreSameSquare s t
one_square side s t p above in_s in_t = record {
  a = one_row s.a t.a side p.x above in_s.left in_s.right in_t.left in_t.right;
  b = one_row s.b t.b side p.y above in_s.below in_s.above in_t.below in_t.above;
}

in_same : (side : ℤ) (s t : Listed) (p : Pix) → AreSameSquare s t → IsInTile side s p → IsInTile side t p
in_same side s t p same is =
    let left = is.left in let right = is.right in let below = is.below in let above = is.above in record {
      left = subst (λ (z : ℤ). (z *ℤ side) ≤ℤ p.x) same.a left;
      right = subst (λ (z : ℤ). p.x <ℤ (z *ℤ side +ℤ side)) same.a right;
      below = subst (λ (z : ℤ). (z *ℤ side) ≤ℤ p.y) same.b below;
      above = subst (λ (z : ℤ). p.y <ℤ (z *ℤ side +ℤ side)) same.b above;
    }

-- ---- the tiles of one tiling
abbrev none : Listed
none = record { a = pos 0; b = pos 0; fragments = [] }

joined_in : (ts : List Listed) (d : Listed) (i : ℕ) → Contains (flat_map (λ (t : Listed). t.fragments) ts) i → (k : ℕ) × (k < length ts) × Contains (get_or ts k d).fragments i
joined_in [] d i has = absurd (none_in_empty i has)
joined_in (t ∷ ts) d i has = elim (Contains-append_cases t.fragments (flat_map (λ (t : Listed). t.fragments) ts) i has) [
  | inl here ↦ (0, omega arith, here)
  | inr later ↦ (let found = joined_in ts d i later in (suc found.0, (let below = found.1 in omega arith), found.2))
]

module _ (fs : List Fragment) (side halo : ℤ) (above : pos 0 <ℤ side) where
  -- a fragment that stands in a tile's square
  record StandsIn (tile : Listed) (i : ℕ) : Type 0 where
    pub below : i < length fs
    pub inside : IsInTile side tile (standing fs i)

  ascend : (t : Tiling) → IsTilingOf fs side halo t → (i n : ℕ) → i + suc n < tile_count t → StandsBefore (tile_at t i) (tile_at t (i + suc n))
  ascend t is i zero below = let next : i + 1 ≡ i + suc 0 = omega arith in
      subst (λ m. StandsBefore (tile_at t i) (tile_at t m)) next (is.tiles_ascend i (omega arith))
  ascend t is i (suc n) below = let next : i + suc n + 1 ≡ i + suc (suc n) = omega arith in
      before_next (tile_at t i) (tile_at t (i + suc n)) (tile_at t (i + suc (suc n))) (ascend t is i n (omega arith))
      (subst (λ m. StandsBefore (tile_at t (i + suc n)) (tile_at t m)) next (is.tiles_ascend (i + suc n) (omega arith)))

  ascend_to : (t : Tiling) → IsTilingOf fs side halo t → (i j : ℕ) → i < j → j < tile_count t → StandsBefore (tile_at t i) (tile_at t j)
  ascend_to t is i j before below =
      let far : i + suc (j - i - 1) ≡ j = omega arith in
      subst (λ m. StandsBefore (tile_at t i) (tile_at t m)) far (ascend t is i (j - i - 1) (omega arith))

  in_order : (t : Tiling) → IsTilingOf fs side halo t → AllPairs StandsBefore t.tiles
  in_order t is i j d before below =
      let first = get_or_default t.tiles i none d (omega arith) in
      let second = get_or_default t.tiles j none d below in
      subst (λ (u : Listed). StandsBefore u (get_or t.tiles j d)) first
      (subst (λ (u : Listed). StandsBefore (tile_at t i) u) second (ascend_to t is i j before below))

  -- two tiles of one square are one
  same_number : (t : Tiling) → IsTilingOf fs side halo t → (k l : ℕ) → k < tile_count t → l < tile_count t → AreSameSquare (tile_at t k) (tile_at t l) → k ≡ l
  same_number t is k l k_below l_below same = ⊎_elim
      (λ less. absurd (not_before (tile_at t k) (tile_at t l) same.a same.b (ascend_to t is k l less l_below)))
      (λ not_less. ⊎_elim
      (λ more. absurd (not_before (tile_at t l) (tile_at t k) (sym same.a) (sym same.b) (ascend_to t is l k more k_below)))
      (λ not_more. omega arith)
      (cases_lt l k))
      (cases_lt k l)

  stands_in : (t : Tiling) → IsTilingOf fs side halo t → (k i : ℕ) → k < tile_count t → Contains (fragments_of t k) i → StandsIn (tile_at t k) i
  stands_in t is k i below has = record {
    below = subst (λ m. m < length fs) (number-in_tile t k has.0 i below has.1 ∙ has.2)
        (is.below (first_of t k + has.0) i (let room = first_of-within t k below in let here = has.1 in omega arith));
    inside = is.in_tile k i below has;
  }

  -- the tile in which a fragment stands
  record FoundIn (t : Tiling) (i : ℕ) : Type 0 where
    pub tile : ℕ
    pub within : tile < tile_count t
    pub has : Contains (fragments_of t tile) i
    pub inside : IsInTile side (tile_at t tile) (standing fs i)

  find : (t : Tiling) → IsTilingOf fs side halo t → (i : ℕ) → i < length fs → FoundIn t i
  find t is i below =
      let found = joined_in t.tiles none i (is.complete i below) in
      record { tile = found.0; within = found.1; has = found.2; inside = is.in_tile found.0 i found.1 found.2 }

  has_it : (t : Tiling) → IsTilingOf fs side halo t → (k i : ℕ) → k < tile_count t → StandsIn (tile_at t k) i → Contains (fragments_of t k) i
  has_it t is k i below stands =
      let found = find t is i stands.below in
      let square = one_square side (tile_at t found.tile) (tile_at t k) (standing fs i) above found.inside stands.inside in
      let same = same_number t is found.tile k found.within below square in
      subst (λ m. Contains (fragments_of t m) i) same found.has

  -- ---- two tilings
  same_fragments : (t u : Tiling) → IsTilingOf fs side halo t → IsTilingOf fs side halo u → (k l : ℕ) → k < tile_count t → l < tile_count u →
      AreSameSquare (tile_at t k) (tile_at u l) → fragments_of t k ≡ fragments_of u l
  same_fragments t u t_is u_is k l k_below l_below same =
      same_if_ordered (λ x y. x < y) (λ x y less more. omega arith) (fragments_of t k) (fragments_of u l)
      (AllPairs-from_increasing (fragments_of t k) (t_is.numbers_ascend k k_below)) (AllPairs-from_increasing (fragments_of u l) (u_is.numbers_ascend l l_below))
      (λ i has. let stands = stands_in t t_is k i k_below has in
      has_it u u_is l i l_below (record { below = stands.below; inside = in_same side (tile_at t k) (tile_at u l) (standing fs i) same stands.inside }))
      (λ i has. let stands = stands_in u u_is l i l_below has in
      has_it t t_is k i k_below (record {
        below = stands.below;
        inside = in_same side (tile_at u l) (tile_at t k) (standing fs i) (record { a = sym same.a; b = sym same.b }) stands.inside;
      }))

  tile_is : (s t : Listed) → AreSameSquare s t → s.fragments ≡ t.fragments → s ≡ t
  tile_is s t same fragments =
      ap (λ z. let one : Listed = record { a = z; b = s.b; fragments = s.fragments } in one) same.a
      ∙ ap (λ z. let one : Listed = record { a = t.a; b = z; fragments = s.fragments } in one) same.b
      ∙ ap (λ z. let one : Listed = record { a = t.a; b = t.b; fragments = z } in one) fragments

  there : (t u : Tiling) → IsTilingOf fs side halo t → IsTilingOf fs side halo u → (tile : Listed) → Contains t.tiles tile → Contains u.tiles tile
  there t u t_is u_is tile has =
      let k = has.0 in
      let here : tile_at t k ≡ tile = get_or_default t.tiles k none tile has.1 ∙ has.2 in
      let first = Contains-get_or (fragments_of t k) 0 0 (t_is.some k has.1) in
      let stands = stands_in t t_is k (get_or (fragments_of t k) 0 0) has.1 first in
      let found = find u u_is (get_or (fragments_of t k) 0 0) stands.below in
      let square = one_square side (tile_at u found.tile) (tile_at t k) (standing fs (get_or (fragments_of t k) 0 0)) above found.inside stands.inside in
      let fragments = same_fragments u t u_is t_is found.tile k found.within has.1 square in
      let same : tile_at u found.tile ≡ tile = tile_is (tile_at u found.tile) (tile_at t k) square fragments ∙ here in
      (found.tile, found.within, get_or_default u.tiles found.tile tile none found.within ∙ same)

  -- the fragments, the side and the halo decide the tiling
  pub IsTilingOf-unique : (t u : Tiling) → IsTilingOf fs side halo t → IsTilingOf fs side halo u → t ≡ u
  IsTilingOf-unique t u t_is u_is =
      let tiles : t.tiles ≡ u.tiles = same_if_ordered StandsBefore before_once t.tiles u.tiles (in_order t t_is) (in_order u u_is) (there t u t_is u_is) (there u t u_is t_is) in
      ap (λ z. let one : Tiling = record { side = z; halo = t.halo; tiles = t.tiles } in one) (t_is.side_is ∙ sym u_is.side_is)
      ∙ ap (λ z. let one : Tiling = record { side = u.side; halo = z; tiles = t.tiles } in one) (t_is.halo_is ∙ sym u_is.halo_is)
      ∙ ap (λ z. let one : Tiling = record { side = u.side; halo = u.halo; tiles = z } in one) tiles
