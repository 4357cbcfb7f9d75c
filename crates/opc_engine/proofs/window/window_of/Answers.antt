use Rattle.std.proofs.Common.{SFits, w32, rules, arith}
use Rattle.std.proofs.lemmas.Int.{to_z-of_z}
use Rattle.opc_engine.proofs.WindowLaws.{not_too_wide, too_wide}
use Rattle.opc_engine.specs.Ready.{subject_of}
use Rattle.opc_engine.proofs.window.window_of.Goals as goal

pub returns-then-pixels-gt-MAX_WINDOW-clause-gives : goal.returns-then-pixels-gt-MAX_WINDOW-clause-gives
returns-then-pixels-gt-MAX_WINDOW-clause-gives c =
    let fits : SFits w32 c.margin_of-margin.result = search rules in
    let window = simp to_z-of_z at c.window_with-window.ensures.is in
    too_wide (subject_of c.args.given.now) c.margin_of-margin.result c.window_with-window.result c.area_of-pixels.result window
    c.margin_of-margin.ensures.is c.area_of-pixels.ensures (omega (arith, c.if-pixels-gt-MAX_WINDOW.true))

pub returns-clause-gives : goal.returns-clause-gives
returns-clause-gives c =
    let fits : SFits w32 c.margin_of-margin.result = search rules in
    let window = simp to_z-of_z at c.window_with-window.ensures.is in
    not_too_wide (subject_of c.args.given.now) c.margin_of-margin.result c.window_with-window.result c.area_of-pixels.result window
    c.margin_of-margin.ensures.is c.area_of-pixels.ensures (omega (arith, c.if-pixels-gt-MAX_WINDOW.false))
