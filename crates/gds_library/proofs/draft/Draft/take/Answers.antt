use Rattle.std.proofs.Common.{OnOk, refl, sym, ◌∙◌, subst}
use Rattle.gds_records.specs.Records.{StreamRecord}
use Rattle.gds_model.specs.declared.record_kind.RecordKind.{RecordKind}
use Rattle.gds_model.specs.RecordKind.{code_of}
use Rattle.gds_library.specs.declared.draft.Draft.{Draft}
use Rattle.gds_library.specs.Gathered.{Gathered, with_record}
use Rattle.gds_library.specs.Draft.{HoldsGathered}
use Rattle.gds_library.proofs.Closing.{Holds-more, Holds-end}
use Rattle.gds_library.proofs.Gathering.{with_record-begin, with_record-detail}
use Rattle.gds_library.proofs.draft.Draft.take.Goals as goal

pub returns-then-is_element : goal.returns-then-is_element
returns-then-is_element c g held =
    let r : StreamRecord = record { offset = c.args.record.now.offset; code = code_of c.args.kind; body = c.args.record.now.body.now } in
    let old = c.args.self.now in
    let new : Draft = record { head = old.head; structures = old.structures; name = old.name; elements = old.elements; element = c.begin-self.result } in
    let P : Gathered → Type 0 = λ x. HoldsGathered new x in
    subst P (sym (with_record-begin g r (c.is_element.ensures ∙ c.if-is_element.true)))
    (record { head = held.head; structures = held.structures; name = held.name; elements = held.elements; element = c.begin-self.ensures r.body })

pub returns-in-EndEl : goal.returns-in-EndEl
returns-in-EndEl c g held =
    let offset = c.args.record.now.offset in
    let body = c.args.record.now.body.now in
    let P : RecordKind → Type 0 = λ k. OnOk c.close_element.result
    (HoldsGathered c.close_element.new.self (with_record g (record { offset = offset; code = code_of k; body = body }))) in
    subst P (sym c.in-EndEl.is) (c.close_element.ensures g _ held (Holds-end c.args.self.now.element g.open_records offset body held.element))

pub returns-in_default : goal.returns-in_default
returns-in_default c g held =
    let r : StreamRecord = record { offset = c.args.record.now.offset; code = code_of c.args.kind; body = c.args.record.now.body.now } in
    let other = c.is_element.ensures ∙ c.if-is_element.false in
    let d = c.in_default in
    let old = c.args.self.now in
    let new : Draft = record { head = old.head; structures = old.structures; name = old.name; elements = old.elements; element = c.take.new.self } in
    let P : Gathered → Type 0 = λ x. HoldsGathered new x in
    subst P
    (sym
    (with_record-detail g r c.args.kind refl
    (d.not-Header, (d.not-BgnLib, (d.not-LibName, (d.not-Units, (d.not-EndLib, (d.not-BgnStr, (d.not-StrName, (d.not-EndStr, (d.not-EndEl, tt))))))))) other))
    (record {
      head = held.head;
      structures = held.structures;
      name = held.name;
      elements = held.elements;
      element = Holds-more c.args.self.now.element g.open_records r c.take.new.self held.element other c.take.ensures;
    })
