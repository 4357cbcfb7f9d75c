use Rattle.std.proofs.Common.{◌≡◌, ◌-◌, ◌≤◌, List, [], ◌∷◌, get_or, length, refl, ap, arith, ◌∙◌}
use Rattle.gds_model.specs.declared.position.Position.{Position}
use Rattle.gds_model.specs.PlaceFaults.{last_after}
use Rattle.gds_expand.proofs.shapes.last_after.Goals as goal

last_is : (p d q : Position) (rest : List Position) → get_or (q ∷ rest) (length rest) d ≡ last_after p (q ∷ rest)
last_is p d q [] = refl
last_is p d q (r ∷ rest) = last_is q d r rest

last_of : (p d : Position) (rest : List Position) → 1 ≤ length rest → get_or rest (length rest - 1) d ≡ last_after p rest
last_of p d [] some = absurd (omega arith)
last_of p d (q ∷ rest) some = let n : length (q ∷ rest) - 1 ≡ length rest = omega arith in ap (λ k. get_or (q ∷ rest) k d) n ∙ last_is p d q rest

pub returns-in-len1-up : goal.returns-in-len1-up
returns-in-len1-up c = last_of c.args.first _ c.args.rest.now c.in-len1-up.len_at_least
