use Rattle.std.proofs.Common.{◌≡◌, ℕ, zero, suc, ◌+◌, ◌<◌, List, [], ◌∷◌, length, drop, get_or, Contains, refl, ap, sym, ◌∙◌, arith, rules}
use Rattle.std.proofs.lemmas.List.{drop_all}
use Rattle.gds_expand.specs.declared.points.Part.{Part}
use Rattle.gds_expand.specs.declared.points.Part.TheVariants.{Points, Copies}
use Rattle.gds_expand.specs.Points.{parts_points, targets_of}
use Rattle.gds_model.specs.PlaceFaults.{saturated}
use Rattle.gds_expand.proofs.PointLemmas.{running, running_is}
use Rattle.gds_expand.proofs.points.points_of.Goals as goal

target_at : (parts : List Part) (i copies s : ℕ) (d : Part) → i < length parts → get_or parts i d ≡ Copies copies s → Contains (targets_of parts) s
target_at [] i copies s d there e = absurd (omega arith)
target_at (Points n ∷ parts) zero copies s d there e = cc
target_at (Copies m t ∷ parts) zero copies s d there e = let same : t ≡ s = cc in (zero, omega arith, same)
target_at (Points n ∷ parts) (suc i) copies s d there e = let k : i < length parts = omega arith in target_at parts i copies s d k e
target_at (Copies m t ∷ parts) (suc i) copies s d there e =
    let k : i < length parts = omega arith in
    let found = target_at parts i copies s d k e in
    let below : found.0 < length (targets_of parts) = found.1 in
    (suc found.0, omega arith, found.2)

from_zero : (n : ℕ) → 0 + n ≡ n
from_zero n = omega arith

pub bounds-counts-structure : goal.bounds-counts-structure
bounds-counts-structure c =
    c.requires c.in-Copies.structure (target_at c.args.parts.now c.loop-part.part-index c.in-Copies.copies c.in-Copies.structure (Points 0) c.loop-part-test.true c.in-Copies.is)

pub offset_bounds-counts-structure : goal.offset_bounds-counts-structure
offset_bounds-counts-structure c =
    let there : c.in-Copies.structure < length c.args.counts.now =
    c.requires c.in-Copies.structure (target_at c.args.parts.now c.loop-part.part-index c.in-Copies.copies c.in-Copies.structure (Points 0) c.loop-part-test.true c.in-Copies.is) in
    search rules

pub returns : goal.returns
returns c = λ inner right.
    let ended : drop c.loop-part.part-index c.args.parts.now ≡ [] = drop_all c.loop-part.part-index c.args.parts.now (omega arith) in
    ap (running c.args.counts.now c.loop-part.points) (sym ended) ∙ c.loop-part.invariant
    ∙ running_is inner c.args.counts.now c.args.parts.now 0 0 refl right
    ∙ ap saturated (from_zero (parts_points inner c.args.parts.now))
