-- What it costs to add a rectangle to the tiles that it reaches.
use Rattle.std.proofs.Common.{◌≡◌, ℕ, ◌+◌, ◌*◌, ◌≤◌, List, Option, Some, length, refl, ◌∷◌, ap, ◌∙◌, arith}
use Rattle.std.proofs.lemmas.List.Sums.{sum_by-cons}
use Rattle.opc_base.specs.declared.plane.Rect.{Rect}
use Rattle.tiles.specs.Meets.{IsFirstMet, touched_between}
use Rattle.tiles.specs.Tiles.{Tiling, fragments_of}
use Rattle.tiles.proofs.TouchedLaws.{steps_some}
use Rattle.opc_parallel.specs.Stored.{most_steps}

most_steps-cons : (samples : ℕ) (tiling : Tiling) (k : ℕ) (rest : List ℕ) → most_steps samples tiling (k ∷ rest) ≡ 8 * samples * length (fragments_of tiling k) + most_steps samples tiling rest
most_steps-cons samples tiling k rest = ap (λ n. 8 * samples * n) (sum_by-cons (λ k. length (fragments_of tiling k)) k rest) ∙ omega arith

-- the steps so far, and the most that the tiles after the next one that is met can take
pub step_cost : (samples : ℕ) (tiling : Tiling) (rect : Rect) (from end tile steps more most : ℕ) (found : Option ℕ) →
    IsFirstMet tiling rect from end found → found ≡ Some tile →
    steps + most_steps samples tiling (touched_between tiling rect from end) ≤ most → more ≤ steps + 8 * samples * length (fragments_of tiling tile) →
    more + most_steps samples tiling (touched_between tiling rect (tile + 1) end) ≤ most
step_cost samples tiling rect from end tile steps more most found first is before cost =
    let all = ap (most_steps samples tiling) (steps_some tiling rect from end tile _ found refl first is)
    ∙ most_steps-cons samples tiling tile (touched_between tiling rect (tile + 1) end) in
    omega (arith, before, cost, all)
