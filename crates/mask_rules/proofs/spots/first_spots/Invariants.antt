-- The first pixels so far are those of the fragments so far.
use Rattle.std.proofs.Common.{◌≡◌, true, false, None, not}
use Rattle.mask_rules.specs.Placements.{line_of}
use Rattle.mask_rules.specs.Spots.{lowest, spot_pixel}
use Rattle.mask_rules.specs.Stretches.{stretch_at}
use Rattle.mask_rules.proofs.Firsts.{first_from}
use Rattle.mask_rules.proofs.spots.first_spots.Given as goal

abbrev pub invariant-loop-k : goal.invariant-loop-k
invariant-loop-k l =
    let fs = l.fn.outline.fragments.now in
    let line = line_of l.fn.outline in
    (l.across ≡ first_from (λ k. spot_pixel true l.fn.rect l.opens (stretch_at fs line true k)) None l.yielded)
    × (l.along ≡ first_from (λ k. spot_pixel false (lowest false l.fn.rect) l.opens (stretch_at fs line false k)) None l.yielded)
    × (l.begins ≡ first_from (λ k. spot_pixel l.vertical (lowest l.vertical l.fn.rect) l.opens (stretch_at fs line l.vertical k)) None l.yielded)
    × (l.ends ≡ first_from (λ k. spot_pixel l.vertical (lowest l.vertical l.fn.rect) (not l.opens) (stretch_at fs line l.vertical k)) None l.yielded)
