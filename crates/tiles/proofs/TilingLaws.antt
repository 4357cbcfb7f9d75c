-- Places in the lists of tiles.
use Rattle.std.proofs.Common.{◌≡◌, ℕ, zero, suc, ◌+◌, ◌*◌, ◌<◌, ◌≤◌, List, [], ◌∷◌, length, get_or, take, ap, ◌∙◌, subst, arith, ⊎_elim, length-append}
use Rattle.std.specs.List.{flat_map}
use Rattle.std.proofs.lemmas.Bool.{cases_lt}
use Rattle.std.proofs.lemmas.Grind.{flat_map-append}
use Rattle.std.proofs.lemmas.List.{take_all, take_more}
use Rattle.std.proofs.lemmas.List.Concat.{get_or-flat_map}
use Rattle.std.proofs.lemmas.List.Folds.{length-flat_map-take}
use Rattle.std.proofs.lemmas.Nat.{mul-le}
use Rattle.tiles.specs.Tiles.{Listed, Tiling, by_place, first_of, fragments_of, tile_at, tile_count}

-- the next tile begins after the fragments of this one
pub first_of-next : (tiling : Tiling) (k : ℕ) → k < tile_count tiling → first_of tiling (k + 1) ≡ first_of tiling k + length (fragments_of tiling k)
first_of-next tiling k below =
    ap (λ (ts : List Listed). length (flat_map (λ (t : Listed). t.fragments) ts)) (take_more tiling.tiles k _ below)
    ∙ ap length (flat_map-append (λ (t : Listed). t.fragments) (take k tiling.tiles) (tile_at tiling k ∷ []))
    ∙ length-append (flat_map (λ (t : Listed). t.fragments) (take k tiling.tiles)) (flat_map (λ (t : Listed). t.fragments) (tile_at tiling k ∷ []))
    ∙ ap (λ n. first_of tiling k + n) (length-append (fragments_of tiling k) [] ∙ omega arith)

-- the tile's fragments are within all of them
pub first_of-within : (tiling : Tiling) (k : ℕ) → k < tile_count tiling → first_of tiling k + length (fragments_of tiling k) ≤ length (by_place tiling)
first_of-within tiling k below = length-flat_map-take (λ (t : Listed). t.fragments) tiling.tiles k _ below

pub first_of-end : (tiling : Tiling) → first_of tiling (tile_count tiling) ≡ length (by_place tiling)
first_of-end tiling = ap (λ (ts : List Listed). length (flat_map (λ (t : Listed). t.fragments) ts)) (take_all (tile_count tiling) tiling.tiles (omega arith))

-- later tiles begin later
pub first_of-ascend : (tiling : Tiling) (i j : ℕ) → i ≤ j → j ≤ tile_count tiling → first_of tiling i ≤ first_of tiling j
first_of-ascend tiling i zero le within = let same : i ≡ 0 = omega arith in rw same (omega arith)
first_of-ascend tiling i (suc j) le within = ⊎_elim
    (λ later. let same : i ≡ suc j = at_top i j le later in rw same (omega arith))
    (λ before. step (first_of-ascend tiling i j before (omega arith)))
    (cases_lt j i)
  where
    at_top : (i j : ℕ) → i ≤ suc j → j < i → i ≡ suc j
    at_top i j le later = omega arith

    step : first_of tiling i ≤ first_of tiling j → first_of tiling i ≤ first_of tiling (suc j)
    step before =
        let next : j + 1 ≡ suc j = omega arith in
        omega (arith, before, subst (λ n. first_of tiling n ≡ first_of tiling j + length (fragments_of tiling j)) next (first_of-next tiling j (omega arith)))

-- the fragment at a place of a tile
pub number-in_tile : (tiling : Tiling) (k j d : ℕ) → k < tile_count tiling → j < length (fragments_of tiling k) →
    get_or (by_place tiling) (first_of tiling k + j) d ≡ get_or (fragments_of tiling k) j d
number-in_tile tiling k j d below within = get_or-flat_map (λ (t : Listed). t.fragments) tiling.tiles k j _ d below within

-- what is stored for a tile is within what is stored for it and the later ones
pub stored-within : (tiling : Tiling) (k stride size : ℕ) → k < tile_count tiling → stride * first_of tiling k + size ≡ stride * length (by_place tiling) →
    stride * length (fragments_of tiling k) ≤ size
stored-within tiling k stride size below is =
    let all = first_of-within tiling k below in
    let more = mul-le stride (first_of tiling k + length (fragments_of tiling k)) stride (length (by_place tiling)) (omega arith) all in
    omega (arith, is, more)
