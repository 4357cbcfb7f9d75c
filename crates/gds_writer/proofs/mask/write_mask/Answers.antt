use Rattle.std.proofs.Common.{arith, length, ◌<◌, ◌≤◌, ◌≡◌, ◌∙◌, ◌++◌, ap, refl, [], take, get_or, map, pos, List, FitsSigned, w32, to_z, of_z}
use Rattle.std.specs.List.{flat_map}
use Rattle.std.proofs.lemmas.Int.{to_z-of_z}
use Rattle.std.proofs.lemmas.List.{take_all, length-map}
use Rattle.opc_base.specs.declared.plane.Rect.{Rect}
use Rattle.gds_model.specs.declared.record_kind.RecordKind.TheVariants.{EndStr, EndLib}
use Rattle.gds_writer.specs.MaskFile.{MaskRecord, around, boundary, bytes_of, opening, closing}
use Rattle.gds_writer.proofs.Growing.{Grew, grew_nothing, grew_again, one_more, one_item_more}
use Rattle.gds_writer.proofs.Said.{said, all-around, boundaries-around, around-covered}
use Rattle.gds_writer.proofs.mask.write_mask.Goals as goal

pub loop-rect-preserved : goal.loop-rect-preserved
loop-rect-preserved c =
    let none : Rect = record { x0 = pos 0; y0 = pos 0; x1 = pos 0; y1 = pos 0 } in
    let element : Rect → List MaskRecord = λ r. boundary c.args.out.now (to_z w32 (of_z w32 c.args.grid)) (around r) in
    let i = c.loop-rect.rect-index in
    let listed = c.rects-rect-items.ensures.list in
    let points : c.around-corners.result ≡ around (get_or c.args.region.now i none) = c.around-corners.ensures.points ∙ ap (λ l. around (get_or l i none)) listed in
    let grew = one_item_more element (bytes_of (opening c.args.head.now c.args.out.now)) c.loop-rect.file c.put_boundary.new.file c.args.region.now i none
    (rw listed at c.loop-rect-test.true) c.loop-rect.invariant.grew
    (record { by = c.in_ok-put_boundary.ensures.written ∙ ap (λ p. c.loop-rect.file ++ bytes_of (boundary c.args.out.now (to_z w32 (of_z w32 c.args.grid)) p)) points }) in
    record { grew = grew; fits = λ _. c.put_boundary.ensures.fits }

pub returns : goal.returns
returns c =
    let out = c.args.out.now in
    let rects = c.args.region.now in
    let outlines = map around rects in
    let opened = opening c.args.head.now out in
    let elements = flat_map (boundary out c.args.grid) outlines in
    let fits : FitsSigned w32 c.args.grid = c.ranges.grid in
    let every : flat_map (λ r. boundary out (to_z w32 (of_z w32 c.args.grid)) (around r)) (take c.loop-rect.rect-index rects) ≡ elements =
    ap (λ g. flat_map (λ r. boundary out g (around r)) (take c.loop-rect.rect-index rects)) (to_z-of_z w32 c.args.grid fits)
    ∙ ap (flat_map (λ r. boundary out c.args.grid (around r))) (take_all c.loop-rect.rect-index rects (rw c.rects-rect-items.ensures.list at c.loop-rect-test.false))
    ∙ boundaries-around out c.args.grid rects in
    let filled : Grew (bytes_of opened) c.loop-rect.file elements = rw every at c.loop-rect.invariant.grew in
    let begun : Grew [] c.loop-rect.file (opened ++ elements) = grew_again [] _ _ opened elements (record { by = refl }) filled in
    let ended = one_more c.put_record.new.out EndStr [] (grew_nothing c.loop-rect.file) refl c.in_ok-put_record.ensures.appended in
    let closed = one_more c.put_record-2.new.out EndLib [] ended refl c.in_ok-put_record-2.ensures.appended in
    let whole = grew_again [] _ _ (opened ++ elements) closing begun closed in
    let args = c.requires in
    let all : length rects ≤ c.loop-rect.rect-index = rw c.rects-rect-items.ensures.list at c.loop-rect-test.false in
    let numbers : 0 < length outlines → (out.layer < 65536) × (out.datatype < 65536) = λ some. c.loop-rect.invariant.fits (let many = length-map rects around in omega (arith, some, all, many)) in
    let told = said c.args.head.now out c.args.grid outlines c.put_record-2.new.out
    (record { header = args.header; dates = args.dates; name_even = args.name_even; units = args.units; grid_in = args.grid; numbers = numbers; right = all-around rects args.rects })
    whole.by in
    record {
      file = whole.by;
      records = told.records;
      library = told.library;
      expands = record {
        layout = told.expands.layout;
        reading = told.expands.reading;
        top = told.expands.top;
        covered = λ x y. told.expands.covered x y ∙ around-covered rects x y c.rects-rect-items.ensures.canonical.solid;
      };
      faultless = told.faultless;
    }
