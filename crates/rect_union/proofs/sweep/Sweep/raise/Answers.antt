use Rattle.std.proofs.Common.{◌≡◌, ◌∙◌, ◌&&◌, ◌||◌, Bool, List, ℕ, int_le, int_lt, vec_len, length, sym, ap, SFits, w32, to_z-of_z, arith}
use Rattle.rect_union.specs.declared.columns.Column.{Column}
use Rattle.rect_union.specs.declared.run.Run.{Run}
use Rattle.rect_union.specs.Columns.{row_cover}
use Rattle.opc_base.specs.Plane.{cover}
use Rattle.rect_union.specs.RowRuns.{in_runs}
use Rattle.rect_union.proofs.sweep.Sweep.raise.Goals as goal

pub returns-clause-pixels : goal.returns-clause-pixels
returns-clause-pixels c =
    let bottom_fits : SFits w32 c.args.bottom = c.ranges.bottom in
    let top_fits : SFits w32 c.args.top = c.ranges.top in
    let merge = rw c.deref.ensures.value at c.in_ok-self.ensures in
    let size : length c.args.self.now.windings.counts.items ≡ vec_len c.args.self.now.windings.counts = omega arith in
    let added = simp to_z-of_z at c.in_ok-self-2.ensures.pixels in
    record {
      size = omega (arith, c.in_ok-runs.ensures.size);
      counts = merge.counts;
      totals = merge.totals;
      weight = merge.weight;
      pixels = λ x y. added x y
          ∙ ap (λ (b : Bool). cover c.args.self.now.rects.items x y || ((int_le c.args.bottom y && int_lt y c.args.top) && b))
          (ap (λ (runs : List Run). in_runs runs x) c.deref-4.ensures.value
          ∙ c.in_ok-runs.ensures.pixels x
          ∙ ap (λ (columns : List Column). row_cover (vec_len c.args.self.now.windings.counts) columns x) c.deref-2.ensures.value
          ∙ ap (λ (n : ℕ). row_cover n c.in_ok-self.field-0.items x) (sym size));
    }
