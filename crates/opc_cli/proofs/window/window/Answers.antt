use Rattle.std.proofs.lemmas.Result.{err_from_is_err_and}
use Rattle.std.proofs.Common.{◌∷◌, ◌++◌, ◌∙◌, List, ap, length, refl, sym, ℕ}
use Rattle.opc_engine.specs.Prepared.{window_subject_of}
use Rattle.opc_cli.specs.Plan.{both_stored}
use Rattle.opc_cli.specs.declared.command.Command.TheVariants.{Window}
use Rattle.opc_cli.proofs.ConditionLaws.{corrects_under, one_set_each}
use Rattle.opc_cli.proofs.LoadLaws.{kernels_count, window_loaded, window_stops}
use Rattle.opc_cli.proofs.Planned.{ends, ends_without_memory, stops}
use Rattle.opc_cli.proofs.window.window.Goals as goal

pub returns-in_err-load_kernels-clause-stop : goal.returns-in_err-load_kernels-clause-stop
returns-in_err-load_kernels-clause-stop g c =
    let outside = g.H.Host.outside in
    let p = err_from_is_err_and c.from_residual-in_err-load_kernels.result c.from_residual-in_err-load_kernels.ensures.1 in
    rw (p.1, p.2) (window_stops (outside c.args.host.now) (outside c.load_named.new.host) (outside c.load_named-2.new.host) c.load_named.ensures.rest c.load_named-2.ensures.rest
    c.args.layout.now c.args.rules.now c.args.mask.now c.args.table.now c.args.conditions.now c.as_slice.result.now c.as_slice.ensures.list c.in_ok-layout.layout c.in_ok-rules.rules
    c.in_ok-layout.ensures.bytes c.in_ok-rules.ensures.bytes
    (outside c.load_kernels.new.host) _ c.in_err-load_kernels.ensures.stop)

pub answer_under-requires-clause-one_each : goal.answer_under-requires-clause-one_each
answer_under-requires-clause-one_each g c κs within =
    let loaded = c.in_ok-load_kernels.ensures.loaded in
    one_set_each c.as_slice-2.result.now c.deref.result.now c.as_slice-3.result.now (window_subject_of c.in_ok-prepared.prepared) c.in_ok-prepared.ensures.accepted
    ∙ ap length c.deref.ensures.value ∙ ap length loaded.1 ∙ ap (λ (o : List (List ℕ)). length (o ++ loaded.0)) c.new-kernels.ensures.items
    ∙ kernels_count (g.H.Host.outside c.load_named-2.new.host).files c.as_slice.result.now loaded.0 loaded.2 ∙ ap length (c.as_slice.ensures.list ∙ sym c.as_slice-4.ensures.list)

pub returns-in_err-prepared-clause-stop : goal.returns-in_err-prepared-clause-stop
returns-in_err-prepared-clause-stop g c =
    let outside = g.H.Host.outside in
    let p = err_from_is_err_and c.from_residual-in_err-prepared.result c.from_residual-in_err-prepared.ensures.1 in
    rw (p.1, p.2) (stops (Window c.args.layout.now c.args.rules.now c.args.mask.now c.args.table.now c.args.conditions.now) (c.in_ok-layout.layout ∷ c.in_ok-rules.rules ∷ c.load_kernels.new.kernels.items)
    (outside c.args.host.now) (outside c.load_kernels.new.host) _
    (window_loaded (outside c.args.host.now) (outside c.load_named.new.host) (outside c.load_named-2.new.host) c.load_named.ensures.rest c.load_named-2.ensures.rest
    c.args.layout.now c.args.rules.now c.args.mask.now c.args.table.now c.args.conditions.now c.as_slice.result.now c.as_slice.ensures.list c.in_ok-layout.layout c.in_ok-rules.rules
    c.in_ok-layout.ensures.bytes c.in_ok-rules.ensures.bytes
    c.new-kernels.result.items c.load_kernels.new.kernels.items c.new-kernels.ensures.items c.in_ok-load_kernels.ensures.loaded.0 c.in_ok-load_kernels.ensures.loaded.1 c.in_ok-load_kernels.ensures.loaded.2)
    (rw (c.as_slice-2.ensures.list, c.deref.ensures.value, c.as_slice-3.ensures.list) at c.in_err-prepared.ensures.refusal))

pub returns-clause-answer : goal.returns-clause-answer
returns-clause-answer g c =
    let outside = g.H.Host.outside in
    ends (Window c.args.layout.now c.args.rules.now c.args.mask.now c.args.table.now c.args.conditions.now) (c.in_ok-layout.layout ∷ c.in_ok-rules.rules ∷ c.load_kernels.new.kernels.items)
    (outside c.args.host.now) (both_stored c.args.mask.now c.args.table.now c.in_ok-given.given) c.mask_and_table.result
    (window_loaded (outside c.args.host.now) (outside c.load_named.new.host) (outside c.load_named-2.new.host) c.load_named.ensures.rest c.load_named-2.ensures.rest
    c.args.layout.now c.args.rules.now c.args.mask.now c.args.table.now c.args.conditions.now c.as_slice.result.now c.as_slice.ensures.list c.in_ok-layout.layout c.in_ok-rules.rules
    c.in_ok-layout.ensures.bytes c.in_ok-rules.ensures.bytes
    c.new-kernels.result.items c.load_kernels.new.kernels.items c.new-kernels.ensures.items c.in_ok-load_kernels.ensures.loaded.0 c.in_ok-load_kernels.ensures.loaded.1 c.in_ok-load_kernels.ensures.loaded.2) (
      c.in_ok-given.given,
      (
        corrects_under c.in_ok-layout.layout c.load_kernels.new.kernels.items c.in_ok-rules.rules c.args.conditions.now c.as_slice-4.result.now
            (window_subject_of c.in_ok-prepared.prepared) c.in_ok-given.given
            (rw (c.as_slice-2.ensures.list, c.deref.ensures.value, c.as_slice-3.ensures.list) at c.in_ok-prepared.ensures.accepted) c.as_slice-4.ensures.list c.in_ok-given.ensures,
        refl,
      ),
    )
    c.mask_and_table.ensures.answer

pub returns-clause-stop : goal.returns-clause-stop
returns-clause-stop g c =
    let outside = g.H.Host.outside in
    ends_without_memory (Window c.args.layout.now c.args.rules.now c.args.mask.now c.args.table.now c.args.conditions.now) (outside c.args.host.now) (outside c.load_kernels.new.host)
    c.mask_and_table.result c.mask_and_table.ensures.stop
