use Rattle.std.proofs.Common.{◌≡◌, ◌+◌, ◌-◌, take, ap, sym, ◌∙◌, arith}
use Rattle.gds_model.specs.Names.{name_of}
use Rattle.gds_library.proofs.NameLemmas.{name_of-take_zero, name_of-take_other}
use Rattle.gds_library.proofs.names.name_in.Goals as goal
use Rattle.gds_library.proofs.names.name_in.Goals.{then-loop-end-test+else-body-end-eq0, else-loop-end-test}

pub loop-end-preserved : goal.loop-end-preserved
loop-end-preserved c =
    let known = c.loop-end.invariant in
    let last : c.loop-end.end ≡ c.loop-end.end - 1 + 1 = omega (arith, c.loop-end-test.true) in (
      omega (arith, known.0),
      known.1 ∙ ap (λ n. name_of (take n c.args.body.now)) last
          ∙ name_of-take_zero c.args.body.now (c.loop-end.end - 1) (omega (arith, known.0, c.loop-end-test.true)) c.if-body-end-eq0.true,
    )

pub returns : goal.returns
returns c =
    let known = c.loop-end.invariant in
    elim c.loop-end-test.branch [
      | then-loop-end-test+else-body-end-eq0 w ↦
          let last : c.loop-end.end ≡ c.loop-end.end - 1 + 1 = omega (arith, w.loop-end-test.true) in
          sym
          (known.1 ∙ ap (λ n. name_of (take n c.args.body.now)) last
          ∙ name_of-take_other c.args.body.now (c.loop-end.end - 1) (omega (arith, known.0, w.loop-end-test.true)) w.if-body-end-eq0.false
          ∙ ap (λ n. take n c.args.body.now) (sym last))
      | else-loop-end-test w ↦
          let none : c.loop-end.end ≡ 0 = omega (arith, w.loop-end-test.false) in
          ap (λ n. take n c.args.body.now) none ∙ sym (known.1 ∙ ap (λ n. name_of (take n c.args.body.now)) none)
    ]
