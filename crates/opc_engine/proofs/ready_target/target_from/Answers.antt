use Rattle.std.proofs.lemmas.Result.{err_from_is_err_and}
use Rattle.std.proofs.Common.{inr, refl}
use Rattle.opc_base.specs.Plane.{cover}
use Rattle.opc_base.specs.declared.broken.Place.TheVariants.{Pixel}
use Rattle.opc_base.specs.declared.broken.RuleName.TheVariants.{M3}
use Rattle.opc_engine.proofs.PrepareLaws.{at_cut, at_library, at_mask_rules, at_target, layout_accepted}
use Rattle.opc_engine.proofs.ready_target.target_from.Goals as goal

pub returns-in_err-library-clause-refusal : goal.returns-in_err-library-clause-refusal
returns-in_err-library-clause-refusal c =
    let p = err_from_is_err_and c.from_residual.result c.from_residual.ensures.1 in
    rw (p.1, p.2) (at_library c.args.layout.now c.args.rules.now _ c.in_err-library.ensures.refusal)

pub returns-in_err-region-clause-refusal : goal.returns-in_err-region-clause-refusal
returns-in_err-region-clause-refusal c =
    let p = err_from_is_err_and c.from_residual-in_err-region.result c.from_residual-in_err-region.ensures.1 in
    rw (p.1, p.2) (at_target c.args.layout.now c.args.rules.now c.in_ok-library.library c.in_ok-library.ensures.library _ c.in_err-region.ensures.refusal)

pub returns-in_err-judge_target-clause-refusal : goal.returns-in_err-judge_target-clause-refusal
returns-in_err-judge_target-clause-refusal c =
    let p = err_from_is_err_and c.from_residual-in_err-judge_target.result c.from_residual-in_err-judge_target.ensures.1 in
    rw (p.1, p.2) (at_mask_rules c.args.layout.now c.args.rules.now c.in_ok-library.library c.in_ok-library.ensures.library (cover c.in_ok-region.region) c.in_ok-region.ensures.target _ c.in_err-judge_target.ensures.refusal)

pub fragments_of-requires-clause-no_touch : goal.fragments_of-requires-clause-no_touch
fragments_of-requires-clause-no_touch c = λ x y touch. c.in_ok-judge_target.ensures.keeps M3 (Pixel (record { x = x; y = y })) touch

pub returns-in_err-fragments-clause-refusal : goal.returns-in_err-fragments-clause-refusal
returns-in_err-fragments-clause-refusal c =
    let p = err_from_is_err_and c.from_residual-in_err-fragments.result c.from_residual-in_err-fragments.ensures.1 in
    rw (p.1, p.2) (at_cut c.args.layout.now c.args.rules.now c.in_ok-library.library c.in_ok-library.ensures.library (cover c.in_ok-region.region) c.in_ok-region.ensures.target (inr (c.in_ok-judge_target.ensures.keeps, refl)) _ c.in_err-fragments.ensures.refusal)

pub returns-clause-accepted : goal.returns-clause-accepted
returns-clause-accepted c =
    rw (c.in_ok-head.ensures) (layout_accepted c.args.layout.now c.args.rules.now c.in_ok-library.library c.in_ok-library.ensures.library (cover c.in_ok-region.region) c.in_ok-region.ensures.target (inr (c.in_ok-judge_target.ensures.keeps, refl)) c.in_ok-fragments.fragments c.in_ok-fragments.ensures.fragments)

pub returns-in_err-judge_target-clause-memory : goal.returns-in_err-judge_target-clause-memory
returns-in_err-judge_target-clause-memory c =
    let p = err_from_is_err_and c.from_residual-in_err-judge_target.result c.from_residual-in_err-judge_target.ensures.1 in
    rw (p.1, p.2) c.in_err-judge_target.ensures.memory

pub returns-in_err-fragments-clause-memory : goal.returns-in_err-fragments-clause-memory
returns-in_err-fragments-clause-memory c =
    let p = err_from_is_err_and c.from_residual-in_err-fragments.result c.from_residual-in_err-fragments.ensures.1 in
    rw (p.1, p.2) c.in_err-fragments.ensures.memory
