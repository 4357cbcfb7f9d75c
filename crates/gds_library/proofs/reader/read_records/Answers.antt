use Rattle.std.proofs.Common.{◌≡◌, ◌≢◌, ℕ, ◌+◌, ◌<◌, length, arith, refl, sym, ◌∙◌, ap, subst, inl, inr}
use Rattle.std.proofs.lemmas.Result.{err_from_is_err_and}
use Rattle.gds_records.specs.Records.{end_of, ENDLIB}
use Rattle.gds_records.specs.NextRecord.{seen}
use Rattle.gds_records.proofs.RecordsLemmas.{record_at-some, record_at-past, record_at-cut, record_at-bad_length, cut_not_bad, end_not_bad}
use Rattle.gds_model.specs.declared.layout_fault.LayoutFault.TheVariants.{Cut, BadLength}
use Rattle.gds_model.specs.declared.record_kind.RecordKind.TheVariants.{EndLib}
use Rattle.gds_model.specs.RecordKind.{code_of}
use Rattle.gds_model.specs.Body.{body_of_kind, element_code}
use Rattle.gds_model.specs.Faults.{HasNoFault, AllZeroFrom, IsTrailingFrom}
use Rattle.gds_model.specs.Library.{StreamLibrary, IsLibraryOf, IsLayout}
use Rattle.gds_library.specs.Progress.{names_read}
use Rattle.gds_library.specs.Gathered.{nothing_gathered, with_record, with_records}
use Rattle.gds_library.specs.Draft.{HoldsGathered}
use Rattle.gds_library.proofs.Firsts.{code_differs}
use Rattle.gds_library.proofs.Reading.{Reading, at_start, stopped, faulty, read, ended, no_fault_there, trailing, library_there, layout_there, names_there, has_size-fits, another_name}
use Rattle.gds_library.proofs.reader.read_records.Goals as goal

pub loop-record-init : goal.loop-record-init
loop-record-init c = at_start c.args.bytes.now c.new-progress.result c.new-draft.result c.new-progress.ensures c.new-draft.ensures

pub returns-in-End-clause-fault : goal.returns-in-End-clause-fault
returns-in-End-clause-fault c =
    let past : length c.args.bytes.now < c.loop-record.at + 4 = omega (arith, c.in-End.ensures) in
    inr
    (stopped c.args.bytes.now c.loop-record.at c.loop-record.progress c.loop-record.draft c.loop-record.invariant
    (record_at-past c.args.bytes.now c.loop-record.at past) (Cut c.loop-record.at)
    (refl, end_not_bad c.args.bytes.now c.loop-record.at c.in-End.ensures))

pub returns-in-Cut-clause-fault : goal.returns-in-Cut-clause-fault
returns-in-Cut-clause-fault c =
    let cut = c.in-Cut.ensures.1 in
    inr
    (stopped c.args.bytes.now c.loop-record.at c.loop-record.progress c.loop-record.draft c.loop-record.invariant
    (record_at-cut c.args.bytes.now c.loop-record.at cut) (Cut c.in-Cut.offset)
    (c.in-Cut.ensures.0, cut_not_bad c.args.bytes.now c.loop-record.at cut))

pub returns-in-BadLength-clause-fault : goal.returns-in-BadLength-clause-fault
returns-in-BadLength-clause-fault c =
    let bad = c.in-BadLength.ensures.1 in
    inr
    (stopped c.args.bytes.now c.loop-record.at c.loop-record.progress c.loop-record.draft c.loop-record.invariant
    (record_at-bad_length c.args.bytes.now c.loop-record.at bad) (BadLength c.in-BadLength.offset)
    (c.in-BadLength.ensures.0, bad))

pub returns-in_err-kind-clause-fault : goal.returns-in_err-kind-clause-fault
returns-in_err-kind-clause-fault c =
    let p = err_from_is_err_and c.from_residual.result c.from_residual.ensures.1 in
    let r = seen c.in-Record.record in
    let reading = c.loop-record.invariant in
    let stands = record_at-some c.args.bytes.now c.loop-record.at r c.in-Record.ensures in
    rw (p.1, p.2)
    (inr
    (faulty c.args.bytes.now c.loop-record.at c.loop-record.progress c.loop-record.draft reading r stands c.in_err-kind.field-0.0
    (c.in_err-kind.ensures reading.before reading.follows)))

pub take-requires : goal.take-requires
take-requires c =
    let reading = c.loop-record.invariant in
    let pass = c.in_ok-kind.ensures reading.before reading.follows in
    has_size-fits (body_of_kind c.in_ok-kind.kind) (element_code c.loop-record.progress.element) c.in-Record.record.body.now pass.fit

pub advance-requires-clause-few : goal.advance-requires-clause-few
advance-requires-clause-few c = c.loop-record.invariant.follows.few

pub advance-requires-clause-another : goal.advance-requires-clause-another
advance-requires-clause-another c =
    let reading = c.loop-record.invariant in
    another_name c.loop-record.progress reading.before (seen c.in-Record.record) c.in_ok-kind.kind c.in_ok-kind.state reading.follows
    (c.in_ok-kind.ensures reading.before reading.follows)

pub returns-in_err-kind-clause-read : goal.returns-in_err-kind-clause-read
returns-in_err-kind-clause-read c =
    let p = err_from_is_err_and c.from_residual.result c.from_residual.ensures.1 in
    rw p.1 tt

pub returns-in_err-take-clause-read : goal.returns-in_err-take-clause-read
returns-in_err-take-clause-read c =
    let p = err_from_is_err_and c.from_residual-in_err-take.result c.from_residual-in_err-take.ensures.1 in
    rw p.1 tt

pub returns-in_err-take-clause-fault : goal.returns-in_err-take-clause-fault
returns-in_err-take-clause-fault c =
    let p = err_from_is_err_and c.from_residual-in_err-take.result c.from_residual-in_err-take.ensures.1 in
    rw p.1 (inl p.2)

pub returns-in_err-advance-clause-read : goal.returns-in_err-advance-clause-read
returns-in_err-advance-clause-read c =
    let p = err_from_is_err_and c.from_residual-in_err-advance.result c.from_residual-in_err-advance.ensures.1 in
    rw p.1 tt

pub returns-in_err-advance-clause-fault : goal.returns-in_err-advance-clause-fault
returns-in_err-advance-clause-fault c =
    let p = err_from_is_err_and c.from_residual-in_err-advance.result c.from_residual-in_err-advance.ensures.1 in
    rw p.1 (inl p.2)

pub returns-in_err-check_rest-clause-read : goal.returns-in_err-check_rest-clause-read
returns-in_err-check_rest-clause-read c =
    let p = err_from_is_err_and c.from_residual-in_err-check_rest.result c.from_residual-in_err-check_rest.ensures.1 in
    rw p.1 tt

pub returns-in_err-check_rest-clause-fault : goal.returns-in_err-check_rest-clause-fault
returns-in_err-check_rest-clause-fault c =
    let bytes = c.args.bytes.now in
    let r = seen c.in-Record.record in
    let reading = c.loop-record.invariant in
    let stands = record_at-some bytes c.loop-record.at r c.in-Record.ensures in
    let pass = c.in_ok-kind.ensures reading.before reading.follows in
    let draft = c.take.new.self in
    let gathered = with_records nothing_gathered reading.before in
    let Taken : ℕ → Type 0 = λ n. HoldsGathered draft (with_record gathered (record { offset = r.offset; code = n; body = r.body })) in
    let taken : HoldsGathered draft (with_record gathered r) = subst Taken pass.kind_is (c.in_ok-take.ensures gathered reading.gathered) in
    let offset = c.in-Record.ensures.offset in
    let here : end_of r ≡ c.loop-record.at + (4 + length c.in-Record.record.body.now) = omega arith in
    let last : r.code ≡ ENDLIB = sym pass.kind_is ∙ ap code_of c.in-EndLib.is in
    let end =
    ended bytes c.loop-record.at c.loop-record.progress c.loop-record.draft reading r stands c.advance.new.self draft c.in_ok-kind.kind
    c.in_ok-kind.state pass c.in_ok-advance.ensures taken last in
    let p = err_from_is_err_and c.from_residual-in_err-check_rest.result c.from_residual-in_err-check_rest.ensures.1 in
    let Wrong : ℕ → Type 0 = λ n. IsTrailingFrom bytes n c.in_err-check_rest.field-0.0 in
    rw (p.1, p.2)
    (inr (trailing bytes (end_of r) (names_read c.advance.new.self) draft.head draft.structures.items end c.in_err-check_rest.field-0.0 (subst Wrong (sym here) c.in_err-check_rest.ensures)))

pub from_parts-requires-clause-layout : goal.from_parts-requires-clause-layout
from_parts-requires-clause-layout c =
    let bytes = c.args.bytes.now in
    let r = seen c.in-Record.record in
    let reading = c.loop-record.invariant in
    let stands = record_at-some bytes c.loop-record.at r c.in-Record.ensures in
    let pass = c.in_ok-kind.ensures reading.before reading.follows in
    let draft = c.take.new.self in
    let gathered = with_records nothing_gathered reading.before in
    let Taken : ℕ → Type 0 = λ n. HoldsGathered draft (with_record gathered (record { offset = r.offset; code = n; body = r.body })) in
    let taken : HoldsGathered draft (with_record gathered r) = subst Taken pass.kind_is (c.in_ok-take.ensures gathered reading.gathered) in
    let offset = c.in-Record.ensures.offset in
    let here : end_of r ≡ c.loop-record.at + (4 + length c.in-Record.record.body.now) = omega arith in
    let last : r.code ≡ ENDLIB = sym pass.kind_is ∙ ap code_of c.in-EndLib.is in
    let end =
    ended bytes c.loop-record.at c.loop-record.progress c.loop-record.draft reading r stands c.advance.new.self draft c.in_ok-kind.kind
    c.in_ok-kind.state pass c.in_ok-advance.ensures taken last in
    layout_there bytes (end_of r) (names_read c.advance.new.self) draft.head draft.structures.items end

pub from_parts-requires-clause-named : goal.from_parts-requires-clause-named
from_parts-requires-clause-named c =
    let bytes = c.args.bytes.now in
    let r = seen c.in-Record.record in
    let reading = c.loop-record.invariant in
    let stands = record_at-some bytes c.loop-record.at r c.in-Record.ensures in
    let pass = c.in_ok-kind.ensures reading.before reading.follows in
    let draft = c.take.new.self in
    let gathered = with_records nothing_gathered reading.before in
    let Taken : ℕ → Type 0 = λ n. HoldsGathered draft (with_record gathered (record { offset = r.offset; code = n; body = r.body })) in
    let taken : HoldsGathered draft (with_record gathered r) = subst Taken pass.kind_is (c.in_ok-take.ensures gathered reading.gathered) in
    let offset = c.in-Record.ensures.offset in
    let here : end_of r ≡ c.loop-record.at + (4 + length c.in-Record.record.body.now) = omega arith in
    let last : r.code ≡ ENDLIB = sym pass.kind_is ∙ ap code_of c.in-EndLib.is in
    let end =
    ended bytes c.loop-record.at c.loop-record.progress c.loop-record.draft reading r stands c.advance.new.self draft c.in_ok-kind.kind
    c.in_ok-kind.state pass c.in_ok-advance.ensures taken last in
    names_there bytes (end_of r) (names_read c.advance.new.self) draft.head draft.structures.items end

pub returns-in-EndLib-clause-read : goal.returns-in-EndLib-clause-read
returns-in-EndLib-clause-read c =
    let bytes = c.args.bytes.now in
    let r = seen c.in-Record.record in
    let reading = c.loop-record.invariant in
    let stands = record_at-some bytes c.loop-record.at r c.in-Record.ensures in
    let pass = c.in_ok-kind.ensures reading.before reading.follows in
    let draft = c.take.new.self in
    let gathered = with_records nothing_gathered reading.before in
    let Taken : ℕ → Type 0 = λ n. HoldsGathered draft (with_record gathered (record { offset = r.offset; code = n; body = r.body })) in
    let taken : HoldsGathered draft (with_record gathered r) = subst Taken pass.kind_is (c.in_ok-take.ensures gathered reading.gathered) in
    let offset = c.in-Record.ensures.offset in
    let here : end_of r ≡ c.loop-record.at + (4 + length c.in-Record.record.body.now) = omega arith in
    let last : r.code ≡ ENDLIB = sym pass.kind_is ∙ ap code_of c.in-EndLib.is in
    let end =
    ended bytes c.loop-record.at c.loop-record.progress c.loop-record.draft reading r stands c.advance.new.self draft c.in_ok-kind.kind
    c.in_ok-kind.state pass c.in_ok-advance.ensures taken last in
    let Zero : ℕ → Type 0 = λ n. AllZeroFrom bytes n in
    let P : StreamLibrary → Type 0 = λ l. HasNoFault bytes × IsLibraryOf bytes l × IsLayout l in
    subst P (sym c.from_parts.ensures) (
      no_fault_there bytes (end_of r) (names_read c.advance.new.self) draft.head draft.structures.items end (subst Zero (sym here) c.in_ok-check_rest.ensures),
      library_there bytes (end_of r) (names_read c.advance.new.self) draft.head draft.structures.items end,
      layout_there bytes (end_of r) (names_read c.advance.new.self) draft.head draft.structures.items end,
    )

pub loop-record-preserved : goal.loop-record-preserved
loop-record-preserved c =
    let bytes = c.args.bytes.now in
    let r = seen c.in-Record.record in
    let reading = c.loop-record.invariant in
    let stands = record_at-some bytes c.loop-record.at r c.in-Record.ensures in
    let pass = c.in_ok-kind.ensures reading.before reading.follows in
    let draft = c.take.new.self in
    let gathered = with_records nothing_gathered reading.before in
    let Taken : ℕ → Type 0 = λ n. HoldsGathered draft (with_record gathered (record { offset = r.offset; code = n; body = r.body })) in
    let taken : HoldsGathered draft (with_record gathered r) = subst Taken pass.kind_is (c.in_ok-take.ensures gathered reading.gathered) in
    let offset = c.in-Record.ensures.offset in
    let here : end_of r ≡ c.loop-record.at + (4 + length c.in-Record.record.body.now) = omega arith in
    let more : r.code ≢ ENDLIB = λ e. code_differs c.in_ok-kind.kind EndLib c.in_default.not-EndLib (pass.kind_is ∙ e) in
    let P : ℕ → Type 0 = λ n. Reading bytes n c.advance.new.self draft in
    subst P here
    (read bytes c.loop-record.at c.loop-record.progress c.loop-record.draft reading r stands c.advance.new.self draft c.in_ok-kind.kind
    c.in_ok-kind.state pass c.in_ok-advance.ensures taken more)
