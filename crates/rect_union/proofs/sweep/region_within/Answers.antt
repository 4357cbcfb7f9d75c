use Rattle.std.proofs.Common.{◌≡◌, ◌≢◌, ◌∙◌, ◌<◌, [], pos, length, get_or, sym, ap, SFits, w32, to_z, of_z, refl, to_z-of_z, arith, rules}
use Rattle.std.proofs.lemmas.Int.{of_z-to_z}
use Rattle.rect_union.specs.declared.columns.Column.{Column}
use Rattle.rect_union.specs.declared.quadrants.Quadrant.{Quadrant}
use Rattle.rect_union.specs.Quadrants.{is_wound}
use Rattle.rect_union.proofs.LowerSides.{more_by_rows}
use Rattle.rect_union.proofs.SweepLaws.{sweeping_starts, sweeping_closed, sweeping_raises, sweeping_pushes, sweeping_ends}
use Rattle.rect_union.proofs.sweep.region_within.Goals as goal
use Rattle.rect_union.proofs.sweep.region_within.Goals.{then-quadrant-bottom+in_ok-raise+else-len-most+else-met-columns, else-quadrant-bottom}

pub loop-quadrant-init : goal.loop-quadrant-init
loop-quadrant-init c =
    let bottom_fits : SFits w32 c.first_row-bottom.result = search rules in
    let made = c.in_ok-state.ensures in
    simp to_z-of_z
    (sweeping_starts c.args.quadrants.now c.args.owners c.in_ok-state.state c.new-row.result.items c.first_row-bottom.result c.requires.order
    c.first_row-bottom.ensures (made.valid c.first_row-bottom.result) (omega (arith, made.size)) made.columns made.rects c.new-row.ensures.items)

pub raise-requires-clause-closed : goal.raise-requires-clause-closed
raise-requires-clause-closed c =
    let column : Column = record { x = pos 0; owner = 0; sign = pos 0 } in
    let quadrant : Quadrant = record { y = pos 0; column = column } in
    let next : (get_or c.args.quadrants.now c.loop-quadrant.quadrant-index quadrant).y ≢ to_z w32 c.loop-quadrant.bottom-bits =
    λ same. c.if-quadrant-bottom.true (ap (of_z w32) same ∙ of_z-to_z w32 c.loop-quadrant.bottom-bits (omega arith)) in
    λ owner. rw c.deref.ensures.value
    (sweeping_closed c.args.quadrants.now c.args.owners c.loop-quadrant.state c.loop-quadrant.row.items (to_z w32 c.loop-quadrant.bottom-bits)
    c.loop-quadrant.quadrant-index quadrant c.requires.order c.requires.closed_right c.loop-quadrant.invariant (omega arith) next owner)

pub loop-quadrant-preserved : goal.loop-quadrant-preserved
loop-quadrant-preserved c =
    let column : Column = record { x = pos 0; owner = 0; sign = pos 0 } in
    let quadrant : Quadrant = record { y = pos 0; column = column } in
    let at : c.loop-quadrant.quadrant-index < length c.args.quadrants.now = omega arith in
    elim c.if-quadrant-bottom.branch [
      | then-quadrant-bottom+in_ok-raise+else-len-most+else-met-columns w ↦
          let y_fits : SFits w32 (get_or c.args.quadrants.now c.loop-quadrant.quadrant-index quadrant).y = search rules in
          let next : (get_or c.args.quadrants.now c.loop-quadrant.quadrant-index quadrant).y ≢ to_z w32 c.loop-quadrant.bottom-bits =
          λ same. w.if-quadrant-bottom.true (ap (of_z w32) same ∙ of_z-to_z w32 c.loop-quadrant.bottom-bits (omega arith)) in
          let raises = rw w.deref.ensures.value at (simp to_z-of_z at w.in_ok-raise.ensures.pixels) in
          let valid = simp to_z-of_z at w.in_ok-raise.ensures.valid in
          let begun = sweeping_raises c.args.quadrants.now c.args.owners c.loop-quadrant.state w.raise.new.self c.loop-quadrant.row.items
          (to_z w32 c.loop-quadrant.bottom-bits) c.loop-quadrant.quadrant-index quadrant c.requires.order c.loop-quadrant.invariant at next valid raises in
          rw (c.in_ok-push.ensures.items, w.state-is, w.row-is, w.clear.ensures.items, w.bottom-is)
          (simp to_z-of_z
          (sweeping_pushes c.args.quadrants.now c.args.owners w.raise.new.self [] (get_or c.args.quadrants.now c.loop-quadrant.quadrant-index quadrant).y
          c.loop-quadrant.quadrant-index quadrant c.requires.order c.requires.owners begun at refl))
      | else-quadrant-bottom w ↦
          let y_fits : SFits w32 (get_or c.args.quadrants.now c.loop-quadrant.quadrant-index quadrant).y = search rules in
          let level : (get_or c.args.quadrants.now c.loop-quadrant.quadrant-index quadrant).y ≡ to_z w32 c.loop-quadrant.bottom-bits =
          sym (to_z-of_z y_fits) ∙ ap (to_z w32) w.if-quadrant-bottom.false in
          rw (c.in_ok-push.ensures.items, w.state-is, w.row-is, w.bottom-is)
          (sweeping_pushes c.args.quadrants.now c.args.owners c.loop-quadrant.state c.loop-quadrant.row.items (to_z w32 c.loop-quadrant.bottom-bits)
          c.loop-quadrant.quadrant-index quadrant c.requires.order c.requires.owners c.loop-quadrant.invariant at level)
    ]

pub returns-then-len-most-clause-stopped : goal.returns-then-len-most-clause-stopped
returns-then-len-most-clause-stopped c =
    let column : Column = record { x = pos 0; owner = 0; sign = pos 0 } in
    let quadrant : Quadrant = record { y = pos 0; column = column } in
    let at : c.loop-quadrant.quadrant-index < length c.args.quadrants.now = omega arith in
    let y_fits : SFits w32 (get_or c.args.quadrants.now c.loop-quadrant.quadrant-index quadrant).y = search rules in
    let next : (get_or c.args.quadrants.now c.loop-quadrant.quadrant-index quadrant).y ≢ to_z w32 c.loop-quadrant.bottom-bits =
    λ same. c.if-quadrant-bottom.true (ap (of_z w32) same ∙ of_z-to_z w32 c.loop-quadrant.bottom-bits (omega arith)) in
    let raises = rw c.deref.ensures.value at (simp to_z-of_z at c.in_ok-raise.ensures.pixels) in
    let valid = simp to_z-of_z at c.in_ok-raise.ensures.valid in
    let begun = sweeping_raises c.args.quadrants.now c.args.owners c.loop-quadrant.state c.raise.new.self c.loop-quadrant.row.items
    (to_z w32 c.loop-quadrant.bottom-bits) c.loop-quadrant.quadrant-index quadrant c.requires.order c.loop-quadrant.invariant at next valid raises in
    more_by_rows c.args.most (is_wound c.args.owners c.args.quadrants.now) c.raise.new.self.rects.items
    (get_or c.args.quadrants.now c.loop-quadrant.quadrant-index quadrant).y (omega arith) begun.valid.stacked.canonical begun.valid.stacked.below begun.pixels

pub returns-clause-pixels : goal.returns-clause-pixels
returns-clause-pixels c =
    sweeping_ends c.args.quadrants.now c.args.owners c.loop-quadrant.state c.loop-quadrant.row.items _ c.loop-quadrant.quadrant-index (omega arith)
    c.requires.closed_above c.loop-quadrant.invariant
