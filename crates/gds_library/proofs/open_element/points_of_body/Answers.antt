use Rattle.std.proofs.Common.{ℕ, ◌++◌, ◌∷◌, [], map, ap, sym, ◌∙◌, arith}
use Rattle.std.specs.List.{range_with_len}
use Rattle.std.proofs.lemmas.List.FromFn.{map-range_with_len_more}
use Rattle.gds_records.specs.declared.points.Point.{Point}
use Rattle.gds_records.specs.Points.{point_in}
use Rattle.gds_library.proofs.open_element.points_of_body.Goals as goal

pub loop-i-preserved : goal.loop-i-preserved
loop-i-preserved c =
    let at : ℕ → Point = λ k. point_in c.args.body.now k in
    c.in_ok-push.ensures.items ∙ ap (λ l. l ++ c.point_at.result ∷ []) c.loop-i.invariant
    ∙ ap (λ p. map at (range_with_len 0 c.loop-i.i) ++ p ∷ []) c.point_at.ensures
    ∙ sym (map-range_with_len_more at 0 c.loop-i.i c.loop-i.i (omega arith))
