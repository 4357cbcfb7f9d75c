-- The tiles that a rectangle reaches, as the iterator finds them.
use Rattle.std.proofs.Common.{◌≡◌, ℕ, zero, suc, ◌+◌, ◌-◌, ◌<◌, ◌≤◌, Bool, true, false, List, [], ◌∷◌, Option, Some, None, filter, refl, sym, ap, ◌∙◌, subst, arith, ⊎_elim}
use Rattle.std.specs.List.{range_with_len}
use Rattle.std.proofs.lemmas.Bool.{cases_lt}
use Rattle.opc_base.specs.declared.plane.Rect.{Rect}
use Rattle.tiles.specs.Meets.{IsFirstMet, meet_tile, touched_between, touched_tiles}
use Rattle.tiles.specs.Tiles.{Tiling, tile_count}

taken : (p : ℕ → Bool) (n count : ℕ) → n < count → p n ≡ true →
    filter p (range_with_len n (count - n)) ≡ n ∷ filter p (range_with_len (n + 1) (count - (n + 1)))
taken p n count below passes =
    let longer : count - n ≡ suc (count - (n + 1)) = omega arith in
    rw (longer, passes) refl

left_out : (p : ℕ → Bool) (n count : ℕ) → n < count → p n ≡ false →
    filter p (range_with_len n (count - n)) ≡ filter p (range_with_len (n + 1) (count - (n + 1)))
left_out p n count below fails =
    let longer : count - n ≡ suc (count - (n + 1)) = omega arith in
    rw (longer, fails) refl

past : (p : ℕ → Bool) (n count : ℕ) → count ≤ n → filter p (range_with_len n (count - n)) ≡ []
past p n count beyond =
    let none : count - n ≡ 0 = omega arith in
    rw none refl

-- m numbers that fail, from n on
skipped : (p : ℕ → Bool) (m n k count : ℕ) → k ≡ n + m → k ≤ count → ((j : ℕ) → n ≤ j → j < k → p j ≡ false) →
    filter p (range_with_len n (count - n)) ≡ filter p (range_with_len k (count - k))
skipped p zero n k count is within fails = let same : k ≡ n = omega arith in rw same refl
skipped p (suc m) n k count is within fails =
    left_out p n count (omega arith) (fails n (omega arith) (omega arith))
    ∙ skipped p m (n + 1) k count (omega arith) within (λ j from below. fails j (omega arith) below)

-- ---- as the iterator goes
pub steps_none : (tiling : Tiling) (rect : Rect) (from end : ℕ) (now : List ℕ) (found : Option ℕ) → touched_between tiling rect from end ≡ now →
    IsFirstMet tiling rect from end found → found ≡ None → (now ≡ []) × (now ≡ [])
steps_none tiling rect from end now found left first none =
    let empty : now ≡ [] = sym left ∙ ended (subst (IsFirstMet tiling rect from end) none first) in (empty, empty)
  where
    ended : ((k : ℕ) → from ≤ k → k < end → meet_tile tiling rect k ≡ false) → touched_between tiling rect from end ≡ []
    ended fails = ⊎_elim
        (λ before. skipped (meet_tile tiling rect) (end - from) from end end (omega arith) (omega arith) fails ∙ past (meet_tile tiling rect) end end (omega arith))
        (λ beyond. past (meet_tile tiling rect) from end beyond)
        (cases_lt from end)

pub steps_some : (tiling : Tiling) (rect : Rect) (from end k : ℕ) (now : List ℕ) (found : Option ℕ) → touched_between tiling rect from end ≡ now →
    IsFirstMet tiling rect from end found → found ≡ Some k → now ≡ k ∷ touched_between tiling rect (k + 1) end
steps_some tiling rect from end k now found left first some =
    let at = subst (IsFirstMet tiling rect from end) some first in
    sym left ∙ skipped (meet_tile tiling rect) (k - from) from k end (omega (arith, at.0)) (omega (arith, at.1)) at.3
    ∙ taken (meet_tile tiling rect) k end at.1 at.2

-- all tiles are those from the first to the last
pub touched_between-all : (tiling : Tiling) (rect : Rect) → touched_between tiling rect 0 (tile_count tiling) ≡ touched_tiles tiling rect
touched_between-all tiling rect = ap (λ n. filter (meet_tile tiling rect) (range_with_len 0 n)) (let all : tile_count tiling - 0 ≡ tile_count tiling = omega arith in all)
