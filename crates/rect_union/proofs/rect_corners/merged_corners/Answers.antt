use Rattle.std.proofs.Common.{◌∙◌, sym, arith}
use Rattle.opc_base.specs.Plane.{cover}
use Rattle.rect_union.proofs.CornerLaws.{sorted_signs, sorted_weight}
use Rattle.rect_union.proofs.MergingLaws.{corners_merged}
use Rattle.rect_union.proofs.PointLaws.{sign_of_corners}
use Rattle.rect_union.proofs.RectCornerLaws.{count_is_cover}
use Rattle.rect_union.proofs.rect_corners.merged_corners.Goals as goal

pub merge_points-requires-clause-small : goal.merge_points-requires-clause-small
merge_points-requires-clause-small c =
    rw c.deref-2.ensures.value
    (let weight = sorted_weight c.deref.result.now c.in_ok-quadrants.quadrants.items c.sort_rows.new.quadrants.items c.in_ok-quadrants.ensures.quadrants c.in_ok-quadrants.ensures.small c.sort_rows.ensures.permutation in omega arith)

pub returns : goal.returns
returns c =
    let merged = rw c.deref-2.ensures.value at c.in_ok-merged.ensures.merged in
    let sums = rw (sym c.deref.ensures.value) at c.in_ok-corners.ensures.sums in
    record {
      corners = corners_merged (cover c.args.rects.now) c.sort_rows.new.quadrants.items c.in_ok-merged.merged.items merged
          (λ x y. sign_of_corners (cover c.args.rects.now) c.deref.result.now (λ x y. sums x y ∙ count_is_cover c.args.rects.now c.requires.canonical x y) x y
          ∙ sym (sorted_signs c.deref.result.now c.in_ok-quadrants.quadrants.items c.sort_rows.new.quadrants.items c.in_ok-quadrants.ensures.quadrants c.sort_rows.ensures.permutation x y));
    }
