use Rattle.std.proofs.Common.{◌≡◌, ◌∙◌, List, SFits, ap, rules, subst, sym, w32}
use Rattle.std.proofs.lemmas.Int.{to_z-of_z}
use Rattle.process_window.specs.Conditions.{AreConditions}
use Rattle.process_window.specs.declared.condition.Condition.{Condition}
use Rattle.opc_engine.specs.Prepared.{window_subject_of}
use Rattle.opc_cli.specs.SeveralConditions.{conditions_with}
use Rattle.opc_cli.proofs.ConditionLaws.{are_conditions, corrected_under}
use Rattle.opc_cli.proofs.window.answer_under.Goals as goal

pub run-requires-clause-conditions : goal.run-requires-clause-conditions
run-requires-clause-conditions g c κs within =
    let are : c.deref.result.now ≡ conditions_with c.args.words.now c.args.given.sets =
    c.deref.ensures.value ∙ c.in_ok-conditions.ensures ∙ ap (conditions_with c.args.words.now) c.into_vec.ensures.list in
    subst (λ (cs : List Condition). AreConditions cs) (sym are)
    (are_conditions c.args.words.now c.args.given.sets c.requires.conditions c.requires.ready.bounds c.requires.one_each)

pub returns : goal.returns
returns g c =
    let grid : SFits w32 c.args.given.rules.pick.grid = search rules in
    corrected_under (window_subject_of c.args.given) c.args.words.now c.deref.result.now c.in_ok-outcome.outcome c.in_ok-mask.mask _
    (c.deref.ensures.value ∙ c.in_ok-conditions.ensures ∙ ap (conditions_with c.args.words.now) c.into_vec.ensures.list)
    c.in_ok-outcome.ensures.outcome (to_z-of_z w32 c.args.given.rules.pick.grid grid) c.in_ok-mask.ensures.file c.in_ok-mask.ensures.expands
