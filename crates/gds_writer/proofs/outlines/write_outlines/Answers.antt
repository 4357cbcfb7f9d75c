use Rattle.std.proofs.Common.{arith, length, ◌<◌, ◌≤◌, ◌≡◌, ◌∙◌, ◌++◌, ap, refl, [], take, get_or, List, FitsSigned, w32, to_z, of_z}
use Rattle.std.specs.List.{flat_map}
use Rattle.std.proofs.lemmas.Int.{to_z-of_z}
use Rattle.std.proofs.lemmas.List.{take_all}
use Rattle.opc_base.specs.declared.plane.Pix.{Pix}
use Rattle.gds_model.specs.declared.record_kind.RecordKind.TheVariants.{EndStr, EndLib}
use Rattle.gds_writer.specs.MaskFile.{MaskRecord, boundary, bytes_of, opening, closing}
use Rattle.gds_writer.proofs.Growing.{Grew, grew_nothing, grew_again, one_more, one_item_more}
use Rattle.gds_writer.proofs.Said.{said}
use Rattle.gds_writer.proofs.outlines.write_outlines.Goals as goal

pub loop-points-preserved : goal.loop-points-preserved
loop-points-preserved c =
    let element : List Pix → List MaskRecord = boundary c.args.out.now (to_z w32 (of_z w32 c.args.grid)) in
    let i = c.loop-points.points-index in
    let item : List Pix = c.points-item.result in
    let points : c.as_slice.result.now ≡ get_or c.args.outlines.now i item = c.as_slice.ensures.list ∙ c.points-item.is in
    let grew = one_item_more element (bytes_of (opening c.args.head.now c.args.out.now)) c.loop-points.file c.put_boundary.new.file c.args.outlines.now i item
    c.loop-points-test.true c.loop-points.invariant.grew
    (record { by = c.in_ok-put_boundary.ensures.written ∙ ap (λ p. c.loop-points.file ++ bytes_of (element p)) points }) in
    record { grew = grew; fits = λ _. c.put_boundary.ensures.fits }

pub returns : goal.returns
returns c =
    let out = c.args.out.now in
    let outlines = c.args.outlines.now in
    let opened = opening c.args.head.now out in
    let elements = flat_map (boundary out c.args.grid) outlines in
    let fits : FitsSigned w32 c.args.grid = c.ranges.grid in
    let every : flat_map (boundary out (to_z w32 (of_z w32 c.args.grid))) (take c.loop-points.points-index outlines) ≡ elements =
    ap (λ g. flat_map (boundary out g) (take c.loop-points.points-index outlines)) (to_z-of_z w32 c.args.grid fits)
    ∙ ap (flat_map (boundary out c.args.grid)) (take_all c.loop-points.points-index outlines c.loop-points-test.false) in
    let filled : Grew (bytes_of opened) c.loop-points.file elements = rw every at c.loop-points.invariant.grew in
    let begun : Grew [] c.loop-points.file (opened ++ elements) = grew_again [] _ _ opened elements (record { by = refl }) filled in
    let ended = one_more c.put_record.new.out EndStr [] (grew_nothing c.loop-points.file) refl c.in_ok-put_record.ensures.appended in
    let closed = one_more c.put_record-2.new.out EndLib [] ended refl c.in_ok-put_record-2.ensures.appended in
    let whole = grew_again [] _ _ (opened ++ elements) closing begun closed in
    let args = c.requires in
    let all : length outlines ≤ c.loop-points.points-index = c.loop-points-test.false in
    let numbers : 0 < length outlines → (out.layer < 65536) × (out.datatype < 65536) = λ some. c.loop-points.invariant.fits (omega (arith, some, all)) in
    let told = said c.args.head.now out c.args.grid outlines c.put_record-2.new.out
    (record { header = args.header; dates = args.dates; name_even = args.name_even; units = args.units; grid_in = args.grid; numbers = numbers; right = args.outlines })
    whole.by in
    record {
      file = whole.by;
      records = told.records;
      library = told.library;
      expands = told.expands;
      faultless = told.faultless;
    }
