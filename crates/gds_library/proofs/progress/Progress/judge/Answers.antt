use Rattle.std.proofs.Common.{◌≡◌, ◌+◌, ◌*◌, ◌/◌, arith, refl, sym, ◌∙◌, ap}
use Rattle.gds_records.specs.NextRecord.{seen}
use Rattle.gds_model.specs.declared.layout_fault.LayoutFault.TheVariants.{Unexpected}
use Rattle.gds_model.specs.Faults.{unexpected, one_too_many, bad_body, duplicate}
use Rattle.gds_library.proofs.Accepting.{unknown, no_step, expected, nothing_first, unexpected_first, two_first, three_first, one_too_many_is, not_one_too_many, bad_body_is, fit_body, duplicate_is, not_duplicate, passes}
use Rattle.gds_library.proofs.progress.Progress.judge.Goals as goal

pub returns-in_default : goal.returns-in_default
returns-in_default c before f =
    let kind : c.args.record.now.kind ≡ (256 * c.args.record.now.kind + c.args.record.now.data_type) / 256 = omega arith in
    record {
      wrong = unexpected;
      is = unknown c.args.self.now before (seen c.args.record.now) f c.in_default.ensures.none;
      first = nothing_first c.args.self.now before (seen c.args.record.now) f;
      fault_is = ap (λ n. Unexpected c.args.record.now.offset n) kind;
    }

pub returns-in_default-step : goal.returns-in_default-step
returns-in_default-step c before f =
    let kind : c.args.record.now.kind ≡ (256 * c.args.record.now.kind + c.args.record.now.data_type) / 256 = omega arith in
    record {
      wrong = unexpected;
      is =
          no_step c.args.self.now before (seen c.args.record.now) f c.in-Some.kind c.in-Some.ensures.found c.in_default-step.ensures.rest;
      first = nothing_first c.args.self.now before (seen c.args.record.now) f;
      fault_is = ap (λ n. Unexpected c.args.record.now.offset n) kind;
    }

pub returns-then-is_one_too_many : goal.returns-then-is_one_too_many
returns-then-is_one_too_many c before f =
    let r = seen c.args.record.now in
    let p = c.args.self.now in
    let found = c.in-Some.ensures.found in
    let step = c.in-Some-step.ensures in
    record {
      wrong = one_too_many;
      is = one_too_many_is p before r f c.in-Some.kind found (c.is_one_too_many.ensures ∙ c.if-is_one_too_many.true);
      first = unexpected_first p before r f (expected p before r f c.in-Some.kind c.in-Some-step.state found step.rest step.possible);
      fault_is = refl;
    }

pub returns-then-not-is_body_fit : goal.returns-then-not-is_body_fit
returns-then-not-is_body_fit c before f =
    let r = seen c.args.record.now in
    let p = c.args.self.now in
    let found = c.in-Some.ensures.found in
    let step = c.in-Some-step.ensures in
    record {
      wrong = bad_body;
      is = bad_body_is p before r f c.in-Some.kind found (sym c.is_body_fit.ensures ∙ c.if-not-is_body_fit.true);
      first =
          two_first p before r f (expected p before r f c.in-Some.kind c.in-Some-step.state found step.rest step.possible)
          (not_one_too_many p before r f c.in-Some.kind found (c.is_one_too_many.ensures ∙ c.if-is_one_too_many.false));
      fault_is = refl;
    }

pub returns-then-is_duplicate : goal.returns-then-is_duplicate
returns-then-is_duplicate c before f =
    let r = seen c.args.record.now in
    let p = c.args.self.now in
    let found = c.in-Some.ensures.found in
    let step = c.in-Some-step.ensures in
    record {
      wrong = duplicate;
      is = duplicate_is p before r f c.in-Some.kind found (c.is_duplicate.ensures ∙ c.if-is_duplicate.true);
      first =
          three_first p before r f (expected p before r f c.in-Some.kind c.in-Some-step.state found step.rest step.possible)
          (not_one_too_many p before r f c.in-Some.kind found (c.is_one_too_many.ensures ∙ c.if-is_one_too_many.false))
          (fit_body p before r f c.in-Some.kind found (sym c.is_body_fit.ensures ∙ c.if-not-is_body_fit.false));
      fault_is = refl;
    }

pub returns : goal.returns
returns c before f =
    let r = seen c.args.record.now in
    let p = c.args.self.now in
    let found = c.in-Some.ensures.found in
    let step = c.in-Some-step.ensures in
    passes p before r f c.in-Some.kind c.in-Some-step.state found step.rest step.possible step.end
    (not_one_too_many p before r f c.in-Some.kind found (c.is_one_too_many.ensures ∙ c.if-is_one_too_many.false))
    (sym c.is_body_fit.ensures ∙ c.if-not-is_body_fit.false)
    (not_duplicate p before r f c.in-Some.kind found (c.is_duplicate.ensures ∙ c.if-is_duplicate.false))
