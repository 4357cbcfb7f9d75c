use Rattle.std.proofs.Common.{[], ◌∷◌, ap, ◌∙◌, refl}
use Rattle.std.proofs.lemmas.Int.{to_z-of_z}
use Rattle.std.proofs.lemmas.Result.{err_from_is_err_and}
use Rattle.std.specs.Int.{w64}
use Rattle.opc_cli.specs.Plan.{intensity_line, intensity_said}
use Rattle.opc_cli.specs.declared.command.Command.TheVariants.{Probe}
use Rattle.opc_cli.proofs.Planned.{answers, stops}
use Rattle.opc_cli.proofs.probe.probe.Goals as goal

pub returns-in_err-intensity-clause-stop : goal.returns-in_err-intensity-clause-stop
returns-in_err-intensity-clause-stop g c =
    let outside = g.H.Host.outside in
    let p = err_from_is_err_and c.from_residual-in_err-intensity.result c.from_residual-in_err-intensity.ensures.1 in
    rw (p.1, p.2) (stops (Probe c.args.layout.now c.args.kernels.now c.args.ask.now) (c.in_ok-layout.layout ∷ c.in_ok-kernels.kernels ∷ [])
    (outside c.args.host.now) (outside c.load_named-2.new.host) _ (c.in_ok-layout.ensures.bytes, (rw c.load_named.ensures.rest.files at c.in_ok-kernels.ensures.bytes, tt))
    (rw (c.as_slice.ensures.list, c.as_slice-2.ensures.list) at c.in_err-intensity.ensures.refusal))

pub returns-clause-answer : goal.returns-clause-answer
returns-clause-answer g c =
    let outside = g.H.Host.outside in
    answers (Probe c.args.layout.now c.args.kernels.now c.args.ask.now) (c.in_ok-layout.layout ∷ c.in_ok-kernels.kernels ∷ [])
    (outside c.args.host.now) (intensity_said c.in_ok-intensity.intensity) (record { outputs = c.new.result; line = c.in_ok-intensity_line.field-0 })
    (c.in_ok-layout.ensures.bytes, (rw c.load_named.ensures.rest.files at c.in_ok-kernels.ensures.bytes, tt))
    (c.in_ok-intensity.intensity, (rw (c.as_slice.ensures.list, c.as_slice-2.ensures.list) at c.in_ok-intensity.ensures.answer, refl))
    (rw (c.new.ensures.items, c.in_ok-intensity_line.ensures, to_z-of_z w64 c.in_ok-intensity.intensity c.in_ok-intensity.ensures.range) refl)
