use Rattle.std.proofs.Common.{◌∙◌, arith}
use Rattle.opc_parallel.specs.Stored.{Setting}
use Rattle.opc_parallel.proofs.SmallLaws.{stays_small, zeros_small}
use Rattle.bench_parallel.proofs.sums.counted_sums.Goals as goal

pub apply_all-requires-clause-small : goal.apply_all-requires-clause-small
apply_all-requires-clause-small g c κs within =
    let s : Setting = record { set = c.args.tables.now; fragments = c.args.fragments.now; tiling = c.args.index.now; samples = 8 } in
    stays_small s c.args.swept.now _ c.lanes.ensures.bounds (λ i. zeros_small _ i _ (c.deref_mut.ensures.value ∙ c.in_ok-sums.ensures.items_if_clones_equal (λ y e. e))) c.requires.swept (omega (arith, c.requires.few))
