use Rattle.std.proofs.Common.{◌≡◌, ℕ, ◌+◌, ◌^◌, ◌<◌, ℤ, pos, List, ◌∷◌, All, get_or, drop, length, subst, ap, ap₂, sym, ◌∙◌, to_z, of_z, w64, FitsSigned, arith, rules}
use Rattle.std.proofs.lemmas.Int.{ints, to_z-of_z}
use Rattle.std.proofs.lemmas.List.{take_rest}
use Rattle.std.proofs.lemmas.List.Elements.{All-get_or, All-head, All-tail}
use Rattle.gds_model.specs.Placement.{IsPositionWithin}
use Rattle.gds_model.specs.declared.position.Position.{Position}
use Rattle.gds_model.specs.declared.position.PathForm.{PathForm}
use Rattle.gds_model.specs.PathRects.{extension_before, full_width, segment_rect}
use Rattle.gds_expand.proofs.PathLemmas.{left_after_kept, left_after_passed}
use Rattle.gds_expand.proofs.path.rects_through.Goals as goal
use Rattle.gds_expand.proofs.path.rects_through.Goals.{then-has_area+in_ok-push, else-has_area}

-- a number that fits, as it is passed
passed_value : (z v : ℤ) → FitsSigned w64 z → z ≡ v → to_z w64 (of_z w64 z) ≡ v
passed_value z v fits e = to_z-of_z w64 z fits ∙ e

each_near : (corners : List Position) (first : Position) (rest : List Position) (i : ℕ) (d : Position) → corners ≡ first ∷ rest →
    All (IsPositionWithin (2 ^ 51)) corners → i < length rest → IsPositionWithin (2 ^ 51) (get_or rest i d)
each_near corners first rest i d e all there =
    All-get_or (IsPositionWithin (2 ^ 51)) rest i d there (All-tail (IsPositionWithin (2 ^ 51)) first rest (subst (λ (ps : List Position). All (IsPositionWithin (2 ^ 51)) ps) e all))

pub loop-i-preserved : goal.loop-i-preserved
loop-i-preserved c =
    let form : PathForm = c.args.form.now in
    let rest : List Position = c.in-Some.rest.now in
    let origin : Position = record { x = pos 0; y = pos 0 } in
    let to : Position = get_or rest c.loop-i.i origin in
    let before : ℤ = to_z w64 c.loop-i.before-bits in
    let there : c.loop-i.i < length rest = c.loop-i-test.true in
    let width_fits : FitsSigned w64 c.full_width-width.result = search rules in
    let after_fits : FitsSigned w64 c.extension_before-after.result = search rules in
    let width : to_z w64 (of_z w64 c.full_width-width.result) ≡ full_width form = passed_value _ _ width_fits c.full_width-width.ensures.value in
    let after : to_z w64 (of_z w64 c.extension_before-after.result) ≡ extension_before form (drop (c.loop-i.i + 1) rest) =
    passed_value _ _ after_fits (c.extension_before-after.ensures.value ∙ ap (extension_before form) (take_rest rest (c.loop-i.i + 1))) in
    let rect : c.segment_rect-rect.result ≡ segment_rect (full_width form) c.loop-i.from before to (extension_before form (drop (c.loop-i.i + 1) rest)) =
    c.segment_rect-rect.ensures ∙ ap₂ (λ w a. segment_rect w c.loop-i.from before to a) width after in
    record {
      made = elim c.if-has_area.branch [
        | then-has_area+in_ok-push w ↦
            rw (w.rects-is, w.in_ok-push.ensures.items, width)
            (left_after_kept form before c.loop-i.from rest c.loop-i.i origin c.segment_rect-rect.result _ _ there rect
            (sym c.has_area.ensures ∙ w.if-has_area.true) c.loop-i.invariant.made)
        | else-has_area w ↦
            rw (w.rects-is, width)
            (left_after_passed form before c.loop-i.from rest c.loop-i.i origin c.segment_rect-rect.result _ _ there rect
            (sym c.has_area.ensures ∙ w.if-has_area.false) c.loop-i.invariant.made)
      ];
      small = rw width (omega (arith, ints, c.full_width-width.ensures.bound, c.full_width-width.ensures.value));
      near = each_near c.args.corners.now c.in-Some.first.now rest c.loop-i.i origin c.in-Some.ensures.cases.0 c.requires there;
    }

pub segment_rect-rect-requires-clause-to : goal.segment_rect-rect-requires-clause-to
segment_rect-rect-requires-clause-to c =
    each_near c.args.corners.now c.in-Some.first.now c.in-Some.rest.now c.loop-i.i _ c.in-Some.ensures.cases.0 c.requires c.loop-i-test.true

pub loop-i-init : goal.loop-i-init
loop-i-init c =
    let all : All (IsPositionWithin (2 ^ 51)) (c.in-Some.first.now ∷ c.in-Some.rest.now) =
    subst (λ (ps : List Position). All (IsPositionWithin (2 ^ 51)) ps) c.in-Some.ensures.cases.0 c.requires in
    record { made = search rules; small = search rules; near = All-head (IsPositionWithin (2 ^ 51)) c.in-Some.first.now c.in-Some.rest.now all }
