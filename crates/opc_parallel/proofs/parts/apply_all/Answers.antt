use Rattle.std.proofs.Common.{◌≡◌, ℕ, ◌*◌, ◌≤◌, unsigned_abs, length, min, w32, sym, subst, ap, ◌∙◌, arith}
use Rattle.std.proofs.lemmas.Int.{to_z-of_z}
use Rattle.opc_base.specs.Changes.{RisesBy}
use Rattle.tiles.specs.Tiles.{by_place, tile_count}
use Rattle.opc_parallel.specs.Conditions.{IsReady}
use Rattle.opc_parallel.specs.Parts.{IsRun}
use Rattle.opc_parallel.specs.Stored.{CanTake, Setting, list_change, start_at, stride_of}
use Rattle.opc_parallel.proofs.PartLaws.{IsRun-whole}
use Rattle.opc_parallel.proofs.StoredLaws.{adds_all, can_take, few_samples, halo_is, no_places, ready_is, some_samples, start_end, start_zero}
use Rattle.opc_parallel.proofs.parts.apply_all.Goals as goal

no_tiles : (workers tiles parts : ℕ) → 1 ≤ workers → parts ≡ min workers tiles → parts ≤ 0 → tiles ≡ 0
no_tiles workers tiles parts some is none = omega (arith, is)

pub run_parts-requires-clause-ready : goal.run_parts-requires-clause-ready
run_parts-requires-clause-ready g c κs within =
    let n_is = c.unsigned_abs.ensures.value ∙ ap unsigned_abs (to_z-of_z w32 c.args.samples c.ranges.samples) in
    let s : Setting = record { set = c.args.tables.now; fragments = c.args.fragments.now; tiling = c.args.index.now; samples = unsigned_abs c.args.samples } in
    let few = c.count.ensures.few in
    subst (λ n. IsReady (record { set = c.args.tables.now; fragments = c.args.fragments.now; tiling = c.args.index.now; samples = n })) (sym n_is)
    (ready_is s c.lanes.ensures.bounds c.requires.index (halo_is c.args.index.now.halo c.args.samples c.args.tables.now.reach c.requires.samples.0 c.requires.halo)
    (some_samples c.args.samples c.requires.samples.0) (few_samples c.args.samples c.requires.samples.0 c.requires.samples.1) (omega (arith, few, c.count.ensures.count)))

pub run_parts-requires-clause-run : goal.run_parts-requires-clause-run
run_parts-requires-clause-run g c κs within =
    let n_is = c.unsigned_abs.ensures.value ∙ ap unsigned_abs (to_z-of_z w32 c.args.samples c.ranges.samples) in
    let s : Setting = record { set = c.args.tables.now; fragments = c.args.fragments.now; tiling = c.args.index.now; samples = unsigned_abs c.args.samples } in
    let size : length c.args.sums.now ≡ stride_of s * length (by_place c.args.index.now) = c.requires.size ∙ ap (λ n. stride_of s * n) (sym c.requires.index.count) in
    subst (λ n. IsRun (start_at (record { set = c.args.tables.now; fragments = c.args.fragments.now; tiling = c.args.index.now; samples = n })) (tile_count c.args.index.now)
    c.min-parts.result 0 c.min-parts.result 0 (length c.args.sums.now)) (sym n_is)
    (IsRun-whole (start_at s) (tile_count c.args.index.now) c.min-parts.result (length c.args.sums.now) c.if-parts-gt0.true (start_zero s) (start_end s (length c.args.sums.now) size))

pub run_parts-requires-clause-fits : goal.run_parts-requires-clause-fits
run_parts-requires-clause-fits g c κs within =
    let n_is = c.unsigned_abs.ensures.value ∙ ap unsigned_abs (to_z-of_z w32 c.args.samples c.ranges.samples) in
    let s : Setting = record { set = c.args.tables.now; fragments = c.args.fragments.now; tiling = c.args.index.now; samples = unsigned_abs c.args.samples } in
    let few = c.count.ensures.few in
    let ready = ready_is s c.lanes.ensures.bounds c.requires.index (halo_is c.args.index.now.halo c.args.samples c.args.tables.now.reach c.requires.samples.0 c.requires.halo)
    (some_samples c.args.samples c.requires.samples.0) (few_samples c.args.samples c.requires.samples.0 c.requires.samples.1) (omega (arith, few, c.count.ensures.count)) in
    let size : length c.args.sums.now ≡ stride_of s * length (by_place c.args.index.now) = c.requires.size ∙ ap (λ n. stride_of s * n) (sym c.requires.index.count) in
    subst (λ n. CanTake (record { set = c.args.tables.now; fragments = c.args.fragments.now; tiling = c.args.index.now; samples = n }) c.args.swept.now 0 c.args.sums.now) (sym n_is)
    (can_take s c.args.swept.now c.args.sums.now ready size c.requires.small)

pub returns-then-parts-gt0-clause-adds : goal.returns-then-parts-gt0-clause-adds
returns-then-parts-gt0-clause-adds g c =
    let n_is = c.unsigned_abs.ensures.value ∙ ap unsigned_abs (to_z-of_z w32 c.args.samples c.ranges.samples) in
    let s : Setting = record { set = c.args.tables.now; fragments = c.args.fragments.now; tiling = c.args.index.now; samples = unsigned_abs c.args.samples } in
    let size : length c.args.sums.now ≡ stride_of s * length (by_place c.args.index.now) = c.requires.size ∙ ap (λ n. stride_of s * n) (sym c.requires.index.count) in
    adds_all s c.args.swept.now c.args.sums.now c.run_parts.new.sums c.lanes.ensures.bounds size
    (subst (λ n. RisesBy (list_change (record { set = c.args.tables.now; fragments = c.args.fragments.now; tiling = c.args.index.now; samples = n }) c.args.swept.now) 0 c.args.sums.now c.run_parts.new.sums)
    n_is c.run_parts.ensures)

pub returns-else-parts-gt0-clause-adds : goal.returns-else-parts-gt0-clause-adds
returns-else-parts-gt0-clause-adds g c q i k lane is in_samples in_lanes =
    let none = no_tiles c.args.workers c.count-2.result c.min-parts.result c.requires.workers.0 c.min-parts.ensures (omega (arith, c.if-parts-gt0.false)) in
    absurd (omega (arith, no_places c.args.index.now q i (sym c.count-2.ensures.count ∙ none) is))
