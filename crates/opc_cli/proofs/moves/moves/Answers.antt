use Rattle.std.proofs.lemmas.Result.{err_from_is_err_and}
use Rattle.std.proofs.Common.{[], ◌∷◌, refl}
use Rattle.opc_cli.proofs.Planned.{ends, ends_without_memory, stops}
use Rattle.opc_cli.specs.Plan.{both_stored}
use Rattle.opc_cli.specs.declared.command.Command.TheVariants.{Moves}
use Rattle.opc_cli.proofs.moves.moves.Goals as goal

pub returns-in_err-given-clause-stop : goal.returns-in_err-given-clause-stop
returns-in_err-given-clause-stop g c =
    let outside = g.H.Host.outside in
    let p = err_from_is_err_and c.from_residual-in_err-given.result c.from_residual-in_err-given.ensures.1 in
    rw (p.1, p.2) (stops (Moves c.args.layout.now c.args.kernels.now c.args.rules.now c.args.moves.now c.args.mask.now c.args.table.now) (c.in_ok-sources.sources.layout ∷ c.in_ok-sources.sources.kernels ∷ c.in_ok-sources.sources.rules ∷ c.in_ok-moves.moves ∷ [])
    (outside c.args.host.now) (outside c.load_named.new.host) _ (c.in_ok-sources.ensures.loaded.0, (c.in_ok-sources.ensures.loaded.1.0, (c.in_ok-sources.ensures.loaded.1.1.0, (rw c.load_sources.ensures.rest.files at c.in_ok-moves.ensures.bytes, tt)))) (rw (c.as_slice.ensures.list, c.as_slice-2.ensures.list, c.as_slice-3.ensures.list, c.as_slice-4.ensures.list) at c.in_err-given.ensures.refusal))

pub returns-clause-answer : goal.returns-clause-answer
returns-clause-answer g c =
    let outside = g.H.Host.outside in
    ends (Moves c.args.layout.now c.args.kernels.now c.args.rules.now c.args.moves.now c.args.mask.now c.args.table.now) (c.in_ok-sources.sources.layout ∷ c.in_ok-sources.sources.kernels ∷ c.in_ok-sources.sources.rules ∷ c.in_ok-moves.moves ∷ [])
    (outside c.args.host.now) (both_stored c.args.mask.now c.args.table.now c.in_ok-given.given) c.mask_and_table.result (c.in_ok-sources.ensures.loaded.0, (c.in_ok-sources.ensures.loaded.1.0, (c.in_ok-sources.ensures.loaded.1.1.0, (rw c.load_sources.ensures.rest.files at c.in_ok-moves.ensures.bytes, tt))))
    (c.in_ok-given.given, (rw (c.as_slice.ensures.list, c.as_slice-2.ensures.list, c.as_slice-3.ensures.list, c.as_slice-4.ensures.list) at c.in_ok-given.ensures.answer, refl)) c.mask_and_table.ensures.answer

pub returns-clause-stop : goal.returns-clause-stop
returns-clause-stop g c =
    let outside = g.H.Host.outside in
    ends_without_memory (Moves c.args.layout.now c.args.kernels.now c.args.rules.now c.args.moves.now c.args.mask.now c.args.table.now) (outside c.args.host.now) (outside c.load_named.new.host)
    c.mask_and_table.result c.mask_and_table.ensures.stop
