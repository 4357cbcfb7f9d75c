use Rattle.std.proofs.Common.{Bool, ◌&&◌, int_lt, SFits, w32, to_z-of_z, ◌∙◌, sym, ap, rules}
use Rattle.std.specs.Int.{int_max, int_min}
use Rattle.tiles.proofs.touched.meet.Goals as goal

pub returns-then-overlap : goal.returns-then-overlap
returns-then-overlap c =
    let r = c.args.r.now in
    let s = c.args.s.now in
    let r_x0 : SFits w32 r.x0 = search rules in
    let r_x1 : SFits w32 r.x1 = search rules in
    let r_y0 : SFits w32 r.y0 = search rules in
    let r_y1 : SFits w32 r.y1 = search rules in
    let s_x0 : SFits w32 s.x0 = search rules in
    let s_x1 : SFits w32 s.x1 = search rules in
    let s_y0 : SFits w32 s.y0 = search rules in
    let s_y1 : SFits w32 s.y1 = search rules in
    let across = simp to_z-of_z at (sym c.overlap.ensures ∙ c.if-overlap.true) in
    let along = simp to_z-of_z at c.overlap-then-overlap.ensures in
    along ∙ sym (ap (λ (b : Bool). b && int_lt (int_max r.y0 s.y0) (int_min r.y1 s.y1)) across)
