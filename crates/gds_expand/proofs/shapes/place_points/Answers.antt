use Rattle.std.proofs.Common.{◌≡◌, ℕ, ◌+◌, ◌^◌, ◌≤◌, pos, List, [], ◌∷◌, ◌++◌, take, get_or, map, ap, ap₂, sym, ◌∙◌, arith}
use Rattle.std.proofs.lemmas.List.{map_push, take_more}
use Rattle.std.proofs.lemmas.List.Elements.{All-push, All-same}
use Rattle.gds_records.specs.declared.points.Point.{Point}
use Rattle.gds_model.specs.declared.position.Position.{Position}
use Rattle.gds_model.specs.Outlines.{position_of}
use Rattle.gds_model.specs.Placement.{IsPositionWithin}
use Rattle.gds_expand.specs.Placement.{placed}
use Rattle.gds_expand.proofs.WalkLemmas.{IsPositionWithin-le}
use Rattle.gds_expand.proofs.shapes.place_points.Goals as goal

pub loop-point-preserved : goal.loop-point-preserved
loop-point-preserved c =
    let i : ℕ = c.loop-point.point-index in
    let origin : Point = record { x = pos 0; y = pos 0 } in
    let put : Point → Position = λ p. placed c.args.placement.now (position_of p) in
    let here : c.place.result ≡ put (get_or c.args.points.now i origin) = c.place.ensures.value ∙ ap (placed c.args.placement.now) c.position_of.ensures.value in
    let small : 2 ^ 50 + 2 ^ 31 ≤ 2 ^ 51 = omega arith in
    record {
      made = c.in_ok-push.ensures.items ∙ ap₂ (λ (xs : List Position) (x : Position). xs ++ x ∷ []) c.loop-point.invariant.made here
          ∙ sym (map_push put (take i c.args.points.now) (get_or c.args.points.now i origin)) ∙ ap (map put) (sym (take_more c.args.points.now i origin c.loop-point-test.true));
      near = All-same (IsPositionWithin (2 ^ 51)) _ _ c.in_ok-push.ensures.items
          (All-push (IsPositionWithin (2 ^ 51)) c.loop-point.positions.items c.place.result c.loop-point.invariant.near
          (IsPositionWithin-le (2 ^ 50 + 2 ^ 31) (2 ^ 51) c.place.result small (c.place.ensures.bound (2 ^ 50) (2 ^ 31) c.requires.near c.position_of.ensures.near)));
    }
