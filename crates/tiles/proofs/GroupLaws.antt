-- Keys by tile, one key after the other.
use Rattle.std.proofs.Common.{◌≡◌, ◌≢◌, ℕ, zero, suc, ◌+◌, ◌-◌, ◌<◌, ◌≤◌, pos, List, [], ◌∷◌, ◌++◌, length, get_or, refl, sym, ap, ◌∙◌, subst, arith, ⊎_elim, length-append}
use Rattle.std.proofs.lemmas.Bool.{cases_lt}
use Rattle.std.proofs.lemmas.List.{get_or_append_left, get_or_default}
use Rattle.std.proofs.Math.ListN.{get_or-eq_default}
use Rattle.std.proofs.Math.Seq.{get_or-append_seam}
use Rattle.tiles.specs.Index.{HoldGroups}
use Rattle.tiles.specs.Keys.{AreGroups, IsAscending, IsLastOf, IsNoLastOf, SquarePrecedes, key_at, square_at}
use Rattle.tiles.specs.declared.key.Key.{Key}
use Rattle.tiles.specs.declared.key.Square.{Square}

pub groups-none : (keys : List Key) (squares : List Square) (firsts : List ℕ) → squares ≡ [] → firsts ≡ [] → AreGroups keys 0 squares firsts
groups-none keys squares firsts no_squares no_firsts = record {
  same = rw (no_squares, no_firsts) refl;
  few = rw no_squares (omega arith);
  begins = rw no_firsts refl;
  some = λ k below. absurd (omega (arith, ap length no_squares));
  in_square = λ k q below. absurd (omega (arith, ap length no_squares));
  ascend = λ k below. absurd (omega (arith, ap length no_squares));
}

-- where a tile begins or the last one ends, one key on
begins_later : (firsts : List ℕ) (k n : ℕ) → k < length firsts → get_or firsts k (n + 1) ≡ get_or firsts k n
begins_later firsts k n below = get_or_default firsts k (n + 1) n below

ends_at : (firsts : List ℕ) (k n : ℕ) → length firsts ≤ k → get_or firsts k n ≡ n
ends_at firsts k n past = get_or-eq_default firsts n past

-- the next key stands in the last tile
pub groups-same : (keys : List Key) (n : ℕ) (squares : List Square) (firsts : List ℕ) → n < length keys →
    IsLastOf (key_at keys n).square squares → AreGroups keys n squares firsts → AreGroups keys (n + 1) squares firsts
groups-same keys n squares firsts within last groups = record {
  same = groups.same;
  few = omega (arith, groups.few);
  begins = begins_later firsts 0 n (omega (arith, last.0, groups.same)) ∙ groups.begins;
  some = λ k below. ⊎_elim
      (λ inner. rw (begins_later firsts k n (omega (arith, groups.same)), begins_later firsts (k + 1) n (omega (arith, groups.same))) (groups.some k below))
      (λ outer. omega (arith, begins_later firsts k n (omega (arith, groups.same)), ends_at firsts (k + 1) (n + 1) (omega (arith, groups.same)), ends_at firsts (k + 1) n (omega (arith, groups.same)), groups.some k below))
      (cases_lt (k + 1) (length squares));
  in_square = λ k q below from upto. ⊎_elim
      (λ inner. groups.in_square k q below (omega (arith, from, begins_later firsts k n (omega (arith, groups.same))))
      (omega (arith, upto, begins_later firsts (k + 1) n (omega (arith, groups.same)))))
      (λ outer. ⊎_elim
      (λ before. groups.in_square k q below (omega (arith, from, begins_later firsts k n (omega (arith, groups.same))))
      (omega (arith, before, ends_at firsts (k + 1) n (omega (arith, groups.same)))))
      (λ at. let here : q ≡ n = omega (arith, upto, ends_at firsts (k + 1) (n + 1) (omega (arith, groups.same))) in
      let there : length squares - 1 ≡ k = omega arith in
      rw here (sym last.1 ∙ ap (λ j. square_at squares j) there))
      (cases_lt q n))
      (cases_lt (k + 1) (length squares));
  ascend = groups.ascend;
}

-- it stands in a tile of its own
pub groups-new : (keys : List Key) (n : ℕ) (squares : List Square) (firsts : List ℕ) → n < length keys → IsAscending keys →
    IsNoLastOf (key_at keys n).square squares → AreGroups keys n squares firsts →
    AreGroups keys (n + 1) (squares ++ (key_at keys n).square ∷ []) (firsts ++ n ∷ [])
groups-new keys n squares firsts within ascending other groups = record {
  same = omega (arith, groups.same, length-append squares ((key_at keys n).square ∷ []), length-append firsts (n ∷ []));
  few = omega (arith, groups.few, length-append squares ((key_at keys n).square ∷ []));
  begins = place 0 (omega arith) ∙ groups.begins;
  some = λ k below. ⊎_elim
      (λ inner. rw (place k (omega arith), place (k + 1) (omega arith)) (groups.some k inner))
      (λ outer. omega (arith, place k (omega (arith, size, below)), at_end (k + 1) (omega (arith, outer)), ends_at firsts k n (omega (arith, outer, groups.same))))
      (cases_lt k (length squares));
  in_square = λ k q below from upto. ⊎_elim
      (λ inner. groups.in_square k q inner (omega (arith, from, place k (omega arith))) (omega (arith, upto, place (k + 1) (omega arith)))
      ∙ sym (get_or_append_left squares ((key_at keys n).square ∷ []) _ k inner))
      (λ outer. let last : length squares ≡ k = omega (arith, size, below) in
      let here : q ≡ n = omega (arith, from, upto, place k (omega arith), at_end (k + 1) (omega arith), ends_at firsts k n (omega (arith, groups.same))) in
      rw (here, ← last) (sym (get_or-append_seam squares (key_at keys n).square [] _)))
      (cases_lt k (length squares));
  ascend = λ k below. ⊎_elim
      (λ inner. rw (
        get_or_append_left squares ((key_at keys n).square ∷ []) (record { b = pos 0; a = pos 0 }) k (omega arith),
        get_or_append_left squares ((key_at keys n).square ∷ []) (record { b = pos 0; a = pos 0 }) (k + 1) inner,
      ) (groups.ascend k inner))
      (λ outer. let last : length squares ≡ k + 1 = omega (arith, size, below) in
      rw (
        get_or_append_left squares ((key_at keys n).square ∷ []) (record { b = pos 0; a = pos 0 }) k (omega arith),
        ← last,
        get_or-append_seam squares (key_at keys n).square [] (record { b = pos 0; a = pos 0 }),
      ) (after k last))
      (cases_lt (k + 1) (length squares));
}
  where
    size : length (squares ++ (key_at keys n).square ∷ []) ≡ length squares + 1
    size = length-append squares ((key_at keys n).square ∷ [])

    -- where a tile begins stays
    place : (k : ℕ) → k ≤ length squares → get_or (firsts ++ n ∷ []) k (n + 1) ≡ get_or firsts k n
    place k upto = ⊎_elim
        (λ inner. get_or_append_left firsts (n ∷ []) (n + 1) k inner ∙ begins_later firsts k n inner)
        (λ outer. let last : length firsts ≡ k = omega (arith, groups.same) in
        ap (λ j. get_or (firsts ++ n ∷ []) j (n + 1)) (sym last) ∙ get_or-append_seam firsts n [] (n + 1) ∙ sym (ends_at firsts k n (omega arith)))
        (cases_lt k (length firsts))

    at_end : (k : ℕ) → length squares < k → get_or (firsts ++ n ∷ []) k (n + 1) ≡ n + 1
    at_end k past = ends_at (firsts ++ n ∷ []) k (n + 1) (omega (arith, groups.same, length-append firsts (n ∷ [])))

    -- the last tile is before the new one
    after : (k : ℕ) → length squares ≡ k + 1 → SquarePrecedes (square_at squares k) (key_at keys n).square
    after k last =
        let some = groups.some k (omega arith) in
        let end : get_or firsts (k + 1) n ≡ n = ends_at firsts (k + 1) n (omega (arith, groups.same)) in
        let back : n - 1 + 1 ≡ n = omega (arith, some, end) in
        let there : (key_at keys (n - 1)).square ≡ square_at squares k = groups.in_square k (n - 1) (omega arith) (omega (arith, some, end)) (omega (arith, some, end)) in
        let apart : square_at squares k ≢ (key_at keys n).square =
        subst (λ j. square_at squares j ≢ (key_at keys n).square) (let z : length squares - 1 ≡ k = omega arith in z) (other (omega arith)) in
        ⊎_elim
        (λ before. subst (λ s. SquarePrecedes s (key_at keys n).square) there (subst (λ j. SquarePrecedes (key_at keys (n - 1)).square (key_at keys j).square) back before))
        (λ equal. absurd (apart (sym there ∙ equal.0 ∙ ap (λ j. (key_at keys j).square) back)))
        (ascending (n - 1) (omega (arith, back)))

-- all keys
pub groups-whole : (keys : List Key) (squares : List Square) (firsts : List ℕ) → length keys ≤ 32768 → AreGroups keys (length keys) squares firsts →
    HoldGroups keys squares (firsts ++ length keys ∷ [])
groups-whole keys squares firsts few groups = record {
  firsts_are = record {
    count = omega (arith, groups.same, length-append firsts (length keys ∷ []));
    few = omega (arith, groups.few);
    begins = place 0 (omega arith) ∙ groups.begins;
    ends = place (length squares) (omega arith) ∙ ends_at firsts (length squares) (length keys) (omega (arith, groups.same));
    ascend = λ i j le upto. climb i j le upto;
  };
  some = λ k below. rw (place k (omega arith), place (k + 1) (omega arith)) (groups.some k below);
  in_square = λ k q below from upto. groups.in_square k q below (omega (arith, from, place k (omega arith))) (omega (arith, upto, place (k + 1) (omega arith)));
  ascend = groups.ascend;
}
  where
    place : (k : ℕ) → k ≤ length squares → get_or (firsts ++ length keys ∷ []) k 0 ≡ get_or firsts k (length keys)
    place k upto = ⊎_elim
        (λ inner. get_or_append_left firsts (length keys ∷ []) 0 k inner ∙ get_or_default firsts k 0 (length keys) inner)
        (λ outer. let last : length firsts ≡ k = omega (arith, groups.same) in
        ap (λ j. get_or (firsts ++ length keys ∷ []) j 0) (sym last) ∙ get_or-append_seam firsts (length keys) [] 0 ∙ sym (ends_at firsts k (length keys) (omega arith)))
        (cases_lt k (length firsts))

    climb : (i j : ℕ) → i ≤ j → j ≤ length squares → get_or (firsts ++ length keys ∷ []) i 0 ≤ get_or (firsts ++ length keys ∷ []) j 0
    climb i zero le upto = let same : i ≡ 0 = omega arith in rw same (omega arith)
    climb i (suc j) le upto = ⊎_elim
        (λ later. let same : i ≡ suc j = at_top i j le later in rw same (omega arith))
        (λ before. omega (arith, climb i j before (omega arith), place j (omega arith), place (suc j) (omega arith), step j (omega arith)))
        (cases_lt j i)
      where
        at_top : (i j : ℕ) → i ≤ suc j → j < i → i ≡ suc j
        at_top i j le later = omega arith

        step : (j : ℕ) → j < length squares → get_or firsts j (length keys) < get_or firsts (suc j) (length keys)
        step j below = let next : j + 1 ≡ suc j = omega arith in subst (λ m. get_or firsts j (length keys) < get_or firsts m (length keys)) next (groups.some j below)
