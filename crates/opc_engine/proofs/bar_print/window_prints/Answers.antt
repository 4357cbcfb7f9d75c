use Rattle.std.proofs.Common.{SFits, w64, rules}
use Rattle.std.proofs.lemmas.Int.{to_z-of_z}
use Rattle.opc_engine.proofs.BarPrintLaws.{few_pixels, near_too, tells_some}
use Rattle.opc_engine.proofs.bar_print.window_prints.Goals as goal

pub print_all-requires-clause-window : goal.print_all-requires-clause-window
print_all-requires-clause-window g c κs within = near_too c.args.window c.requires.window.near

pub print_all-requires-clause-pixels : goal.print_all-requires-clause-pixels
print_all-requires-clause-pixels g c κs within = few_pixels c.args.window c.requires.window

pub returns : goal.returns
returns g c =
    let threshold : SFits w64 c.args.light.now.rules.now.site.threshold = search rules in
    let is = to_z-of_z w64 c.args.light.now.rules.now.site.threshold threshold in
    tells_some c.args.light.now c.args.window c.in_ok-printed.printed c.rects-count.result.now c.rects-count.ensures.list c.rects-count.ensures.canonical (rw is at c.in_ok-printed.ensures.pixels)
