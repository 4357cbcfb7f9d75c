use Rattle.std.proofs.Common.{◌≡◌, ◌<◌, ◌≤◌, pos, get_or, length-set, SFits, w32, to_z-of_z, arith, rules, sym, ◌∙◌, ap, subst, ◌+◌, length}
use Rattle.std.specs.Int.{w128}
use Rattle.rect_union.specs.declared.columns.Column.{Column}
use Rattle.rect_union.specs.Columns.{EndsColumn, IsCountedTo}
use Rattle.rect_union.specs.Windings.{AreZero}
use Rattle.rect_union.proofs.ColumnLaws.{counting_starts, counting_step, next_count_fits, building_starts, building_switches, building_waits, building_ends, counts_end}
use Rattle.rect_union.proofs.columns.runs_of.Goals as goal
use Rattle.rect_union.proofs.columns.runs_of.Goals.{then-ends_column+in_ok-switch, else-ends_column}

pub loop-index-init : goal.loop-index-init
loop-index-init c =
    let zeros : AreZero c.args.windings.now.counts.items = c.requires.zero in
    let made = c.new-builder.ensures in
    record {
      size = search rules;
      counted = counting_starts c.args.columns.now c.args.windings.now.counts.items zeros;
      built = building_starts c.args.columns.now c.args.windings.now.counts.items c.new-builder.result zeros made.valid made.fresh made.closed made.off;
    }

pub add-requires-clause-fits : goal.add-requires-clause-fits
add-requires-clause-fits c =
    let column : Column = record { x = pos 0; owner = 0; sign = pos 0 } in
    let sign_fits : SFits w128 (get_or c.args.columns.now c.loop-index.index column).sign = search rules in
    let owned = c.requires.owners c.loop-index.index column (omega arith) in
    let size = c.loop-index.invariant.size in
    simp to_z-of_z
    (next_count_fits c.args.columns.now c.loop-index.windings.counts.items c.loop-index.index column (omega arith) (omega arith) c.requires.small c.loop-index.invariant.counted)

pub loop-index-preserved : goal.loop-index-preserved
loop-index-preserved c =
    let column : Column = record { x = pos 0; owner = 0; sign = pos 0 } in
    let sign_fits : SFits w128 (get_or c.args.columns.now c.loop-index.index column).sign = search rules in
    let at : c.loop-index.index < length c.args.columns.now = omega arith in
    let owned = c.requires.owners c.loop-index.index column at in
    let below : (get_or c.args.columns.now c.loop-index.index column).owner < length c.loop-index.windings.counts.items =
    (let size = c.loop-index.invariant.size in omega arith) in
    let changed = simp to_z-of_z at c.add.ensures in
    let same_size : length c.add.new.self.counts.items ≡ length c.loop-index.windings.counts.items = ap length changed ∙ simp length-set in
    let counted : IsCountedTo c.args.columns.now (c.loop-index.index + 1) c.add.new.self.counts.items =
    subst (IsCountedTo c.args.columns.now (c.loop-index.index + 1)) (sym changed)
    (counting_step c.args.columns.now c.loop-index.windings.counts.items c.loop-index.index column at below c.loop-index.invariant.counted) in
    record {
      size = same_size ∙ c.loop-index.invariant.size;
      counted = counted;
      built = elim c.if-ends_column.branch [
        | then-ends_column+in_ok-switch w ↦
            let ends : EndsColumn c.args.columns.now c.loop-index.index = c.ends_column.ensures.0 w.if-ends_column.true in
            let x_fits : SFits w32 (get_or c.args.columns.now c.loop-index.index column).x = search rules in
            let set = simp to_z-of_z at w.in_ok-switch.ensures.set in
            let upto = simp to_z-of_z at w.in_ok-switch.ensures.upto in
            rw w.builder-is
            (building_switches c.args.columns.now c.loop-index.index column c.loop-index.windings.counts.items c.add.new.self.counts.items
            c.loop-index.builder w.switch.new.self w.is_covered.result c.requires.order at same_size counted c.loop-index.invariant.built
            ends w.is_covered.ensures w.in_ok-switch.ensures.valid upto w.in_ok-switch.ensures.state set)
        | else-ends_column w ↦
            let waits : ¬ EndsColumn c.args.columns.now c.loop-index.index = λ ends. (let yes = c.ends_column.ensures.1 ends in let no = w.if-ends_column.false in cc) in
            rw w.builder-is
            (building_waits c.args.columns.now c.loop-index.index column c.loop-index.windings.counts.items c.add.new.self.counts.items
            c.loop-index.builder c.requires.order at same_size c.loop-index.invariant.built waits)
      ];
    }

pub returns-clause-pixels : goal.returns-clause-pixels
returns-clause-pixels c =
    let all : length c.args.columns.now ≤ c.loop-index.index = omega arith in
    building_ends c.args.columns.now c.loop-index.index _ c.loop-index.windings.counts.items c.loop-index.builder all
    (counts_end c.args.columns.now c.loop-index.index c.loop-index.windings.counts.items all c.requires.closed c.loop-index.invariant.counted)
    (omega arith) c.loop-index.invariant.built
