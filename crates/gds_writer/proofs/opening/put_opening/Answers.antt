use Rattle.std.proofs.Common.{◌≡◌, ◌∙◌}
use Rattle.std.proofs.lemmas.Result.{on_ok_weaker}
use Rattle.gds_model.specs.declared.record_kind.RecordKind.TheVariants.{Header, BgnLib, LibName, Units, BgnStr, StrName}
use Rattle.gds_writer.specs.MaskFile.{padded}
use Rattle.gds_writer.proofs.Growing.{grew_nothing, one_more}
use Rattle.gds_writer.proofs.opening.put_opening.Goals as goal

pub returns : goal.returns
returns c =
    let head = c.args.head.now in
    let name : c.as_slice-6.result.now ≡ padded c.args.out.now.name = c.as_slice-6.ensures.value ∙ c.in_ok-name.ensures in
    let g1 = one_more c.put_record.new.out Header head.header (grew_nothing c.args.file.now) c.as_slice.ensures.list
    c.in_ok-put_record.ensures.appended in
    let g2 = one_more c.put_record-2.new.out BgnLib head.dates g1 c.as_slice-2.ensures.list c.in_ok-put_record-2.ensures.appended in
    let g3 = one_more c.put_record-3.new.out LibName head.name g2 c.as_slice-3.ensures.list c.in_ok-put_record-3.ensures.appended in
    let g4 = one_more c.put_record-4.new.out Units head.units g3 c.as_slice-4.ensures.list c.in_ok-put_record-4.ensures.appended in
    let g5 = one_more c.put_record-5.new.out BgnStr head.dates g4 c.as_slice-5.ensures.list c.in_ok-put_record-5.ensures.appended in
    on_ok_weaker c.put_record-6.result
    (λ e. let g6 = one_more c.put_record-6.new.out StrName (padded c.args.out.now.name) g5 name e in g6.by) c.put_record-6.ensures.appended
