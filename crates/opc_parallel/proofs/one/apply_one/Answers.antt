use Rattle.std.proofs.Common.{◌≡◌, ◌*◌, [], ◌∷◌, unsigned_abs, length, w32, sym, subst, ap, ◌∙◌, arith}
use Rattle.std.proofs.lemmas.Int.{to_z-of_z}
use Rattle.opc_base.specs.Changes.{RisesBy}
use Rattle.tiles.specs.Tiles.{by_place}
use Rattle.opc_parallel.specs.Conditions.{IsReady}
use Rattle.opc_parallel.specs.Stored.{Setting, change_at, start_at, stride_of}
use Rattle.tiles.proofs.TouchedLaws.{touched_between-all}
use Rattle.opc_parallel.proofs.StoredLaws.{adds_one, all_small, can_take, few_samples, halo_is, ready_is, some_samples, start_end, start_zero}
use Rattle.opc_parallel.proofs.one.apply_one.Goals as goal

pub add_to_tiles-requires-clause-ready : goal.add_to_tiles-requires-clause-ready
add_to_tiles-requires-clause-ready g c =
    let n_is = c.unsigned_abs.ensures.value ∙ ap unsigned_abs (to_z-of_z w32 c.args.samples c.ranges.samples) in
    let s : Setting = record { set = c.args.tables.now; fragments = c.args.fragments.now; tiling = c.args.index.now; samples = unsigned_abs c.args.samples } in
    let few = c.count.ensures.few in
    subst (λ n. IsReady (record { set = c.args.tables.now; fragments = c.args.fragments.now; tiling = c.args.index.now; samples = n })) (sym n_is)
    (ready_is s c.lanes.ensures.bounds c.requires.index (halo_is c.args.index.now.halo c.args.samples c.args.tables.now.reach c.requires.samples.0 c.requires.halo)
    (some_samples c.args.samples c.requires.samples.0) (few_samples c.args.samples c.requires.samples.0 c.requires.samples.1) (omega (arith, few, c.count.ensures.count)))

pub add_to_tiles-requires-clause-size : goal.add_to_tiles-requires-clause-size
add_to_tiles-requires-clause-size g c =
    let n_is = c.unsigned_abs.ensures.value ∙ ap unsigned_abs (to_z-of_z w32 c.args.samples c.ranges.samples) in
    let s : Setting = record { set = c.args.tables.now; fragments = c.args.fragments.now; tiling = c.args.index.now; samples = unsigned_abs c.args.samples } in
    let size : length c.args.sums.now ≡ stride_of s * length (by_place c.args.index.now) = c.requires.size ∙ ap (λ n. stride_of s * n) (sym c.requires.index.count) in
    rw (c.count-2.ensures.count, n_is) (omega (arith, start_zero s, start_end s (length c.args.sums.now) size))

pub add_to_tiles-requires-clause-small : goal.add_to_tiles-requires-clause-small
add_to_tiles-requires-clause-small g c =
    let s : Setting = record { set = c.args.tables.now; fragments = c.args.fragments.now; tiling = c.args.index.now; samples = unsigned_abs c.args.samples } in
    let few = c.count.ensures.few in
    let ready = ready_is s c.lanes.ensures.bounds c.requires.index (halo_is c.args.index.now.halo c.args.samples c.args.tables.now.reach c.requires.samples.0 c.requires.halo)
    (some_samples c.args.samples c.requires.samples.0) (few_samples c.args.samples c.requires.samples.0 c.requires.samples.1) (omega (arith, few, c.count.ensures.count)) in
    let size : length c.args.sums.now ≡ stride_of s * length (by_place c.args.index.now) = c.requires.size ∙ ap (λ n. stride_of s * n) (sym c.requires.index.count) in
    all_small s (c.args.swept ∷ []) c.args.sums.now (can_take s (c.args.swept ∷ []) c.args.sums.now ready size c.requires.small)

pub returns-clause-adds : goal.returns-clause-adds
returns-clause-adds g c =
    let n_is = c.unsigned_abs.ensures.value ∙ ap unsigned_abs (to_z-of_z w32 c.args.samples c.ranges.samples) in
    let s : Setting = record { set = c.args.tables.now; fragments = c.args.fragments.now; tiling = c.args.index.now; samples = unsigned_abs c.args.samples } in
    let size : length c.args.sums.now ≡ stride_of s * length (by_place c.args.index.now) = c.requires.size ∙ ap (λ n. stride_of s * n) (sym c.requires.index.count) in
    let rises = subst (λ n. RisesBy (change_at (record { set = c.args.tables.now; fragments = c.args.fragments.now; tiling = c.args.index.now; samples = n }) c.args.swept)
    (start_at (record { set = c.args.tables.now; fragments = c.args.fragments.now; tiling = c.args.index.now; samples = n }) 0) c.args.sums.now c.add_to_tiles.new.sums) n_is c.add_to_tiles.ensures.rises in
    adds_one s c.args.swept c.args.sums.now c.add_to_tiles.new.sums c.lanes.ensures.bounds size
    (subst (λ n. RisesBy (change_at s c.args.swept) n c.args.sums.now c.add_to_tiles.new.sums) (start_zero s) rises)

pub returns-clause-cost : goal.returns-clause-cost
returns-clause-cost g c =
    let n_is = c.unsigned_abs.ensures.value ∙ ap unsigned_abs (to_z-of_z w32 c.args.samples c.ranges.samples) in
    let all = touched_between-all c.args.index.now c.args.swept.rect in
    rw all at (rw (n_is, c.count-2.ensures.count) at c.add_to_tiles.ensures.cost)
