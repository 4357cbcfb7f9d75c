use Rattle.std.proofs.Common.{◌≡◌, ℕ, ℤ, ◌*◌, List, [], length, ap, ◌∙◌, refl, arith, FitsSigned, w32}
use Rattle.opc_base.specs.declared.plane.Pix.{Pix}
use Rattle.gds_writer.proofs.ReadBack.{length-points}
use Rattle.std.specs.List.{flat_map}
use Rattle.std.specs.Int.{w16, to_be_bytes}
use Rattle.std.proofs.lemmas.Int.{to_z-of_z}
use Rattle.std.proofs.lemmas.Result.{on_ok_weaker}
use Rattle.gds_model.specs.declared.record_kind.RecordKind.TheVariants.{Boundary, Layer, Datatype, Xy, EndEl}
use Rattle.gds_writer.specs.MaskFile.{point_bytes}
use Rattle.gds_writer.proofs.Growing.{grew_nothing, one_more}
use Rattle.gds_writer.proofs.boundary.put_boundary.Goals as goal

pub returns-clause-written : goal.returns-clause-written
returns-clause-written c =
    let out = c.args.out.now in
    let fits : FitsSigned w32 c.args.grid = c.ranges.grid in
    let points : c.as_slice.result.now ≡ flat_map (point_bytes c.args.grid) c.args.points.now =
    c.as_slice.ensures.value ∙ (simp to_z-of_z at c.in_ok-body.ensures) in
    let g1 = one_more c.put_record.new.out Boundary [] (grew_nothing c.args.file.now) refl c.in_ok-put_record.ensures.appended in
    let g2 = one_more c.put_record-2.new.out Layer (to_be_bytes w16 out.layer) g1 c.number_bytes-layer.ensures.bytes c.in_ok-put_record-2.ensures.appended in
    let g3 = one_more c.put_record-3.new.out Datatype (to_be_bytes w16 out.datatype) g2 c.number_bytes-datatype.ensures.bytes c.in_ok-put_record-3.ensures.appended in
    let g4 = one_more c.put_record-4.new.out Xy (flat_map (point_bytes c.args.grid) c.args.points.now) g3 points c.in_ok-put_record-4.ensures.appended in
    on_ok_weaker c.put_record-5.result (λ e. let g5 = one_more c.put_record-5.new.out EndEl [] g4 refl e in g5.by) c.put_record-5.ensures.appended

size : (grid : ℤ) (points : List Pix) (bytes body : List ℕ) → bytes ≡ body → body ≡ flat_map (point_bytes grid) points
    → length bytes ≡ 8 * length points
size grid points bytes body e f = ap length (e ∙ f) ∙ length-points grid points

pub put_record-requires-4-clause-even : goal.put_record-requires-4-clause-even
put_record-requires-4-clause-even c =
    let long = size _ c.args.points.now _ _ c.as_slice.ensures.value c.in_ok-body.ensures in
    omega arith

pub put_record-requires-4-clause-fits : goal.put_record-requires-4-clause-fits
put_record-requires-4-clause-fits c =
    let long = size _ c.args.points.now _ _ c.as_slice.ensures.value c.in_ok-body.ensures in
    let few = c.requires.outline.few in
    omega arith
