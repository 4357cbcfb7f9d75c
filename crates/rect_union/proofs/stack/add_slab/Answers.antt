use Rattle.std.proofs.Common.{◌≡◌, ◌<◌, pos, length, get_or, take, take_all, SFits, w32, to_z-of_z, arith, rules}
use Rattle.std.proofs.lemmas.List.{get_or_default}
use Rattle.opc_base.specs.declared.plane.Rect.{Rect}
use Rattle.rect_union.specs.declared.run.Run.{Run}
use Rattle.rect_union.proofs.StackLaws.{adding_starts, adding_ends, adding_step, pixels_step, no_pixels}
use Rattle.rect_union.proofs.stack.add_slab.Goals as goal

pub loop-run-init : goal.loop-run-init
loop-run-init c =
    let bottom_fits : SFits w32 c.args.bottom = c.ranges.bottom in
    let top_fits : SFits w32 c.args.top = c.ranges.top in
    simp (to_z-of_z, c.in_ok-grown.ensures.items)
    (record {
      adding = adding_starts c.args.bottom c.args.top c.args.runs.now c.args.growing.now c.args.rects.now.items c.requires.high c.requires.stacked;
      pixels = λ x y. no_pixels _ _;
    })

pub loop-run-preserved : goal.loop-run-preserved
loop-run-preserved c =
    let bottom_fits : SFits w32 c.args.bottom = c.ranges.bottom in
    let top_fits : SFits w32 c.args.top = c.ranges.top in
    let run : Run = get_or c.args.runs.now c.loop-run.run-index (record { first = pos 0; past = pos 0 }) in
    let first_fits : SFits w32 run.first = search rules in
    let at : c.loop-run.run-index < length c.args.runs.now = omega arith in
    let is : (e : Run) → get_or c.args.runs.now c.loop-run.run-index e ≡ run = λ e. get_or_default c.args.runs.now c.loop-run.run-index e _ at in
    let so_far = simp to_z-of_z at c.loop-run.invariant in
    let first = simp to_z-of_z at c.first_from-next.ensures in
    let placed = simp to_z-of_z at c.in_ok-place.ensures in
    let d : Rect = record { x0 = pos 0; y0 = pos 0; x1 = pos 0; y1 = pos 0 } in
    rw c.in_ok-push.ensures.items
    (simp to_z-of_z
    (record {
      adding = adding_step c.args.bottom c.args.top c.args.runs.now c.args.growing.now c.loop-run.rects.items c.place_run.new.rects.items
          c.loop-run.grown.items c.loop-run.next c.loop-run.run-index c.first_from-next.result run c.in_ok-place.place d
          c.requires.high c.requires.runs at is so_far.adding first placed;
      pixels = pixels_step c.args.bottom c.args.top c.args.runs.now c.args.growing.now c.args.rects.now.items c.loop-run.rects.items c.place_run.new.rects.items
          c.loop-run.grown.items c.loop-run.next c.loop-run.run-index c.first_from-next.result run c.in_ok-place.place d
          c.requires.high at is so_far.adding placed so_far.pixels;
    }))

pub returns-clause-stacked : goal.returns-clause-stacked
returns-clause-stacked c =
    let bottom_fits : SFits w32 c.args.bottom = c.ranges.bottom in
    let top_fits : SFits w32 c.args.top = c.ranges.top in
    adding_ends c.args.bottom c.args.top c.args.runs.now c.args.growing.now c.loop-run.rects.items c.loop-run.grown.items c.loop-run.next c.loop-run.run-index
    c.requires.high c.requires.runs (omega arith) (simp to_z-of_z at c.loop-run.invariant.adding)

pub returns-clause-pixels : goal.returns-clause-pixels
returns-clause-pixels c =
    let bottom_fits : SFits w32 c.args.bottom = c.ranges.bottom in
    let top_fits : SFits w32 c.args.top = c.ranges.top in
    let whole : take c.loop-run.run-index c.args.runs.now ≡ c.args.runs.now = take_all c.loop-run.run-index c.args.runs.now (omega arith) in
    λ x y. rw whole at ((simp to_z-of_z at c.loop-run.invariant.pixels) x y)
