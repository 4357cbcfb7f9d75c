use Rattle.std.proofs.Common.{◌+◌, ◌/◌, ap, ◌∙◌, arith}
use Rattle.opc_base.proofs.ChangeLaws.{RisesBy-append}
use Rattle.opc_parallel.specs.Conditions.{setting_of}
use Rattle.opc_parallel.specs.Parts.{first_tile}
use Rattle.opc_parallel.specs.Stored.{start_at}
use Rattle.opc_parallel.proofs.PartLaws.{IsRun-split, IsRun-front, IsRun-back}
use Rattle.opc_parallel.proofs.StoredLaws.{CanTake-front, CanTake-back, starts}
use Rattle.opc_parallel.proofs.parts.+parts.Goals as goal

pub run_parts-overflow_sub-middle : goal.run_parts-overflow_sub-middle
run_parts-overflow_sub-middle g t c =
    let s = setting_of c.args.work.now in
    let middle = c.start_of_tile-middle.ensures
    ∙ ap (start_at s) (c.tile_of_part-tile.ensures.is ∙ ap (λ n. first_tile n c.args.parts (c.args.from + c.args.count / 2)) c.count.ensures.count) in
    let inside = IsRun-split (start_at s) _ _ _ _ (c.args.count / 2) _ _ c.start_of_tile-middle.result (starts s)
    (omega (arith, c.requires.run.some)) (omega (arith, c.requires.run.some)) c.requires.run middle in
    inside.0

pub run_parts-split_at_mut-front-requires : goal.run_parts-split_at_mut-front-requires
run_parts-split_at_mut-front-requires g t c =
    let s = setting_of c.args.work.now in
    let middle = c.start_of_tile-middle.ensures
    ∙ ap (start_at s) (c.tile_of_part-tile.ensures.is ∙ ap (λ n. first_tile n c.args.parts (c.args.from + c.args.count / 2)) c.count.ensures.count) in
    let inside = IsRun-split (start_at s) _ _ _ _ (c.args.count / 2) _ _ c.start_of_tile-middle.result (starts s)
    (omega (arith, c.requires.run.some)) (omega (arith, c.requires.run.some)) c.requires.run middle in
    omega (arith, inside.0, inside.1)

pub run_parts-run_both-requires-clause-front : goal.run_parts-run_both-requires-clause-front
run_parts-run_both-requires-clause-front g t c κs within =
    let s = setting_of c.args.work.now in
    let middle = c.start_of_tile-middle.ensures
    ∙ ap (start_at s) (c.tile_of_part-tile.ensures.is ∙ ap (λ n. first_tile n c.args.parts (c.args.from + c.args.count / 2)) c.count.ensures.count) in
    let inside = IsRun-split (start_at s) _ _ _ _ (c.args.count / 2) _ _ c.start_of_tile-middle.result (starts s)
    (omega (arith, c.requires.run.some)) (omega (arith, c.requires.run.some)) c.requires.run middle in
    IsRun-front (start_at s) _ _ _ _ _ _ _ c.start_of_tile-middle.result _ (omega (arith, c.requires.run.some)) (omega (arith, c.requires.run.some)) c.requires.run middle
    (omega (arith, inside.0, c.split_at_mut-front.ensures.front_len))

pub run_parts-run_both-requires-clause-back : goal.run_parts-run_both-requires-clause-back
run_parts-run_both-requires-clause-back g t c κs within =
    let s = setting_of c.args.work.now in
    let middle = c.start_of_tile-middle.ensures
    ∙ ap (start_at s) (c.tile_of_part-tile.ensures.is ∙ ap (λ n. first_tile n c.args.parts (c.args.from + c.args.count / 2)) c.count.ensures.count) in
    let inside = IsRun-split (start_at s) _ _ _ _ (c.args.count / 2) _ _ c.start_of_tile-middle.result (starts s)
    (omega (arith, c.requires.run.some)) (omega (arith, c.requires.run.some)) c.requires.run middle in
    IsRun-back (start_at s) _ _ _ _ _ _ _ _ _ (omega (arith, c.requires.run.some)) (omega (arith, c.requires.run.some)) c.requires.run middle
    (omega (arith, inside.0, c.split_at_mut-front.ensures.back_len))

pub run_parts-run_both-requires-clause-front_fits : goal.run_parts-run_both-requires-clause-front_fits
run_parts-run_both-requires-clause-front_fits g t c κs within =
    CanTake-front (setting_of c.args.work.now) c.args.swept.now c.args.base c.args.sums.now _ c.split_at_mut-front.result.1.now c.split_at_mut-front.ensures.value c.requires.fits

pub run_parts-run_both-requires-clause-back_fits : goal.run_parts-run_both-requires-clause-back_fits
run_parts-run_both-requires-clause-back_fits g t c κs within =
    let s = setting_of c.args.work.now in
    let middle = c.start_of_tile-middle.ensures
    ∙ ap (start_at s) (c.tile_of_part-tile.ensures.is ∙ ap (λ n. first_tile n c.args.parts (c.args.from + c.args.count / 2)) c.count.ensures.count) in
    let inside = IsRun-split (start_at s) _ _ _ _ (c.args.count / 2) _ _ c.start_of_tile-middle.result (starts s)
    (omega (arith, c.requires.run.some)) (omega (arith, c.requires.run.some)) c.requires.run middle in
    CanTake-back s c.args.swept.now c.args.base _ c.args.sums.now c.split_at_mut-front.result.0.now _ c.split_at_mut-front.ensures.value
    (omega (arith, inside.0, c.split_at_mut-front.ensures.front_len)) c.requires.fits

pub run_parts-returns : goal.run_parts-returns
run_parts-returns g t c =
    let s = setting_of c.args.work.now in
    let middle = c.start_of_tile-middle.ensures
    ∙ ap (start_at s) (c.tile_of_part-tile.ensures.is ∙ ap (λ n. first_tile n c.args.parts (c.args.from + c.args.count / 2)) c.count.ensures.count) in
    let inside = IsRun-split (start_at s) _ _ _ _ (c.args.count / 2) _ _ c.start_of_tile-middle.result (starts s)
    (omega (arith, c.requires.run.some)) (omega (arith, c.requires.run.some)) c.requires.run middle in
    RisesBy-append _ c.args.base c.start_of_tile-middle.result c.args.sums.now c.split_at_mut-front.result.0.now c.split_at_mut-front.result.1.now _ _
    c.split_at_mut-front.ensures.value (omega (arith, inside.0, c.split_at_mut-front.ensures.front_len)) c.run_both.ensures.front c.run_both.ensures.back
