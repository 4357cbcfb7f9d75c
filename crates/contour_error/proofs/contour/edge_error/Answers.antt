use Rattle.std.proofs.Common.{◌≡◌, ◌-◌, Some, FitsSigned, w64, rules, arith, sym, ◌∙◌, subst, unsigned_abs, ◌≤◌, ◌*◌}
use Rattle.std.proofs.lemmas.Int.{ints, to_z-of_z}
use Rattle.contour_error.specs.Contour.{sample, side, contour, IsContour, LiesAtContour}
use Rattle.contour_error.proofs.ContourLaws.{error_of-Some, size_at, lies_at, sum_of, at_contour}
use Rattle.contour_error.proofs.contour.edge_error.Goals as goal

pub overflow_add-result : goal.overflow_add-result
overflow_add-result c = omega (arith, ints, c.in-Some.ensures.contour.last)

pub returns-in-Some-clause-error : goal.returns-in-Some-clause-error
returns-in-Some-clause-error c =
    let threshold : FitsSigned w64 c.args.threshold = c.ranges.threshold in
    let after : FitsSigned w64 (sample c.args.samples.now c.in-Some.place) = search rules in
    let before : FitsSigned w64 (sample c.args.samples.now (c.in-Some.place - 1)) = search rules in
    let place : Some c.in-Some.place ≡ contour c.args.threshold c.args.samples.now = simp to_z-of_z at c.in-Some.ensures.place in
    let at : IsContour c.args.threshold c.args.samples.now c.in-Some.place = simp to_z-of_z at c.in-Some.ensures.contour in
    let part = simp to_z-of_z at c.crossing-past_centre.ensures.part in
    let sum = sum_of c.centre.result c.crossing-past_centre.result _ _ c.centre.ensures part (omega (arith, ints, at.last)) (omega (arith, ints)) in
    sum ∙ sym (error_of-Some c.args.threshold c.args.samples.now c.in-Some.place place)

pub returns-in-Some-clause-size : goal.returns-in-Some-clause-size
returns-in-Some-clause-size c =
    let threshold : FitsSigned w64 c.args.threshold = c.ranges.threshold in
    let after : FitsSigned w64 (sample c.args.samples.now c.in-Some.place) = search rules in
    let before : FitsSigned w64 (sample c.args.samples.now (c.in-Some.place - 1)) = search rules in
    let place : Some c.in-Some.place ≡ contour c.args.threshold c.args.samples.now = simp to_z-of_z at c.in-Some.ensures.place in
    let at : IsContour c.args.threshold c.args.samples.now c.in-Some.place = simp to_z-of_z at c.in-Some.ensures.contour in
    let part = simp to_z-of_z at c.crossing-past_centre.ensures.part in
    let sum = sum_of c.centre.result c.crossing-past_centre.result _ _ c.centre.ensures part (omega (arith, ints, at.last)) (omega (arith, ints)) in
    subst (λ e. unsigned_abs e ≤ 16 * side c.args.samples.now) (sym sum) (size_at c.args.threshold c.args.samples.now c.in-Some.place c.requires.even at)

pub returns-in-Some-clause-near : goal.returns-in-Some-clause-near
returns-in-Some-clause-near c =
    let threshold : FitsSigned w64 c.args.threshold = c.ranges.threshold in
    let after : FitsSigned w64 (sample c.args.samples.now c.in-Some.place) = search rules in
    let before : FitsSigned w64 (sample c.args.samples.now (c.in-Some.place - 1)) = search rules in
    let place : Some c.in-Some.place ≡ contour c.args.threshold c.args.samples.now = simp to_z-of_z at c.in-Some.ensures.place in
    let at : IsContour c.args.threshold c.args.samples.now c.in-Some.place = simp to_z-of_z at c.in-Some.ensures.contour in
    let part = simp to_z-of_z at c.crossing-past_centre.ensures.part in
    let sum = sum_of c.centre.result c.crossing-past_centre.result _ _ c.centre.ensures part (omega (arith, ints, at.last)) (omega (arith, ints)) in
    at_contour c.args.threshold c.args.samples.now _ c.in-Some.place place
    (subst (λ e. LiesAtContour c.args.threshold c.args.samples.now e c.in-Some.place) (sym sum) (lies_at c.args.threshold c.args.samples.now c.in-Some.place at))
