use Rattle.std.proofs.Common.{◌≡◌, length, arith}
use Rattle.std.proofs.lemmas.Grind.{common_steps}
use Rattle.std.proofs.lemmas.List.{nil_from_length}
use Rattle.gds_model.specs.PlacedList.{copy_maps}
use Rattle.gds_expand.specs.Bases.{AddsReference}
use Rattle.gds_expand.specs.Copies.{AddsCopies}
use Rattle.gds_expand.proofs.BaseLemmas.{adds_nothing, adds_reference, near_base, on_ok}
use Rattle.gds_expand.proofs.bases.push_reference.Goals as goal

pub returns-then-is_empty : goal.returns-then-is_empty
returns-then-is_empty c =
    let none : length c.args.row.now ≡ 0 = grind (arith, common_steps) in
    adds_nothing c.args.reference.now c.args.target c.args.row.now c.args.steps.now.items (nil_from_length c.args.row.now none)

pub push_copies-requires-clause-near : goal.push_copies-requires-clause-near
push_copies-requires-clause-near c = near_base c.args.row.now c.args.target c.base_of.result c.requires.near c.base_of.ensures

pub returns : goal.returns
returns c =
    on_ok c.push_copies.result (AddsCopies (copy_maps c.args.reference.now) c.base_of.result c.args.steps.now.items c.push_copies.new.steps.items)
    (AddsReference c.args.reference.now c.args.target c.args.row.now c.args.steps.now.items c.push_copies.new.steps.items)
    (adds_reference c.args.reference.now c.args.target c.args.row.now c.args.steps.now.items c.push_copies.new.steps.items c.base_of.result c.base_of.ensures)
    c.push_copies.ensures
