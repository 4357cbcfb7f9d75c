use Rattle.std.proofs.Common.{◌-◌, FitsSigned, w64, rules, sym}
use Rattle.std.proofs.lemmas.Int.{to_z-of_z}
use Rattle.contour_error.specs.Contour.{sample, side}
use Rattle.contour_error.proofs.ContourLaws.{contour-outward, contour-inward, IsContour-outward, IsContour-inward, found_outside}
use Rattle.contour_error.proofs.contour.contour.Goals as goal

pub returns-in-Some-clause-place : goal.returns-in-Some-clause-place
returns-in-Some-clause-place c =
    let threshold : FitsSigned w64 c.args.threshold = c.ranges.threshold in
    let nearest : FitsSigned w64 (sample c.args.samples.now (side c.args.samples.now - 1)) = search rules in
    let test = simp to_z-of_z at c.if-samples-side.true in
    let found = found_outside c.args.threshold _ c.args.samples.now _ (to_z-of_z w64 c.args.threshold threshold) c.in-Some.ensures in
    sym (contour-outward c.args.threshold c.args.samples.now _ test found)

pub returns-in-Some-clause-contour : goal.returns-in-Some-clause-contour
returns-in-Some-clause-contour c =
    let threshold : FitsSigned w64 c.args.threshold = c.ranges.threshold in
    let nearest : FitsSigned w64 (sample c.args.samples.now (side c.args.samples.now - 1)) = search rules in
    let test = simp to_z-of_z at c.if-samples-side.true in
    let found = found_outside c.args.threshold _ c.args.samples.now _ (to_z-of_z w64 c.args.threshold threshold) c.in-Some.ensures in
    IsContour-outward c.args.threshold c.args.samples.now _ c.requires.some test found

pub returns-in-None-clause-place : goal.returns-in-None-clause-place
returns-in-None-clause-place c =
    let threshold : FitsSigned w64 c.args.threshold = c.ranges.threshold in
    let nearest : FitsSigned w64 (sample c.args.samples.now (side c.args.samples.now - 1)) = search rules in
    let test = simp to_z-of_z at c.if-samples-side.true in
    let found = found_outside c.args.threshold _ c.args.samples.now _ (to_z-of_z w64 c.args.threshold threshold) c.in-None.ensures in
    sym (contour-outward c.args.threshold c.args.samples.now _ test found)

pub returns-in-Some-last_printed-clause-place : goal.returns-in-Some-last_printed-clause-place
returns-in-Some-last_printed-clause-place c =
    let threshold : FitsSigned w64 c.args.threshold = c.ranges.threshold in
    let nearest : FitsSigned w64 (sample c.args.samples.now (side c.args.samples.now - 1)) = search rules in
    let test = simp to_z-of_z at c.if-samples-side.false in
    let found = simp to_z-of_z at c.in-Some-last_printed.ensures in
    sym (contour-inward c.args.threshold c.args.samples.now _ test (sym found))

pub returns-in-Some-last_printed-clause-contour : goal.returns-in-Some-last_printed-clause-contour
returns-in-Some-last_printed-clause-contour c =
    let threshold : FitsSigned w64 c.args.threshold = c.ranges.threshold in
    let nearest : FitsSigned w64 (sample c.args.samples.now (side c.args.samples.now - 1)) = search rules in
    let test = simp to_z-of_z at c.if-samples-side.false in
    let found = simp to_z-of_z at c.in-Some-last_printed.ensures in
    IsContour-inward c.args.threshold c.args.samples.now _ c.requires.some test (sym found)

pub returns-in-None-last_printed-clause-place : goal.returns-in-None-last_printed-clause-place
returns-in-None-last_printed-clause-place c =
    let threshold : FitsSigned w64 c.args.threshold = c.ranges.threshold in
    let nearest : FitsSigned w64 (sample c.args.samples.now (side c.args.samples.now - 1)) = search rules in
    let test = simp to_z-of_z at c.if-samples-side.false in
    let found = simp to_z-of_z at c.in-None-last_printed.ensures in
    sym (contour-inward c.args.threshold c.args.samples.now _ test (sym found))
