use Rattle.std.proofs.lemmas.Result.{err_from_is_err_and}
use Rattle.std.proofs.Common.{[], ◌∷◌, refl}
use Rattle.opc_cli.proofs.Planned.{ends, ends_without_memory, stops}
use Rattle.opc_cli.specs.Plan.{both_stored}
use Rattle.opc_cli.specs.declared.command.Command.TheVariants.{Polygons}
use Rattle.opc_cli.proofs.polygons.polygons.Goals as goal

pub returns-in_err-given-clause-stop : goal.returns-in_err-given-clause-stop
returns-in_err-given-clause-stop g c =
    let outside = g.H.Host.outside in
    let p = err_from_is_err_and c.from_residual-in_err-given.result c.from_residual-in_err-given.ensures.1 in
    rw (p.1, p.2) (stops (Polygons c.args.layout.now c.args.kernels.now c.args.rules.now c.args.mask.now c.args.table.now) (c.in_ok-sources.sources.layout ∷ c.in_ok-sources.sources.kernels ∷ c.in_ok-sources.sources.rules ∷ [])
    (outside c.args.host.now) (outside c.load_sources.new.host) _ c.in_ok-sources.ensures.loaded (rw (c.as_slice.ensures.list, c.as_slice-2.ensures.list, c.as_slice-3.ensures.list) at c.in_err-given.ensures.refusal))

pub returns-clause-answer : goal.returns-clause-answer
returns-clause-answer g c =
    let outside = g.H.Host.outside in
    ends (Polygons c.args.layout.now c.args.kernels.now c.args.rules.now c.args.mask.now c.args.table.now) (c.in_ok-sources.sources.layout ∷ c.in_ok-sources.sources.kernels ∷ c.in_ok-sources.sources.rules ∷ [])
    (outside c.args.host.now) (both_stored c.args.mask.now c.args.table.now c.in_ok-given.given) c.mask_and_table.result c.in_ok-sources.ensures.loaded
    (c.in_ok-given.given, (rw (c.as_slice.ensures.list, c.as_slice-2.ensures.list, c.as_slice-3.ensures.list) at c.in_ok-given.ensures.answer, refl)) c.mask_and_table.ensures.answer

pub returns-clause-stop : goal.returns-clause-stop
returns-clause-stop g c =
    let outside = g.H.Host.outside in
    ends_without_memory (Polygons c.args.layout.now c.args.kernels.now c.args.rules.now c.args.mask.now c.args.table.now) (outside c.args.host.now) (outside c.load_sources.new.host)
    c.mask_and_table.result c.mask_and_table.ensures.stop
