use Rattle.std.proofs.Common.{◌≡◌, ◌∙◌, ◌+ℤ◌, pos, sym, ap, SFits, w32, to_z, to_z-of_z, rules}
use Rattle.std.specs.Int.{w128}
use Rattle.rect_union.proofs.MergeLaws.{compacts_pair, compacts_none, pair_fits}
use Rattle.rect_union.proofs.merge.push_at_last.Goals as goal

pub returns-in_ok-push-in-Some : goal.returns-in_ok-push-in-Some
returns-in_ok-push-in-Some c =
    let last_x : SFits w32 c.in-Some.last.x = search rules in
    let last_sign : SFits w128 c.in-Some.last.sign = search rules in
    let column_x : SFits w32 c.args.column.x = search rules in
    let column_sign : SFits w128 c.args.column.sign = search rules in
    let sum_fits : SFits w128 (c.in-Some.last.sign +ℤ c.args.column.sign) =
    pair_fits c.args.columns.now.items c.pop.new.self.items c.in-Some.last c.args.column c.in-Some.ensures.items c.requires in
    let same_x : c.in-Some.last.x ≡ c.args.column.x =
    sym (to_z-of_z last_x) ∙ ap (to_z w32) c.if-last-column.true ∙ to_z-of_z column_x in
    rw (c.in_ok-push-in-Some.ensures.items, c.in-Some.ensures.items)
    (simp to_z-of_z (compacts_pair c.pop.new.self.items c.in-Some.last c.args.column same_x c.if-last-column-2.true))

pub returns-else-sign-ne0 : goal.returns-else-sign-ne0
returns-else-sign-ne0 c =
    let last_x : SFits w32 c.in-Some.last.x = search rules in
    let last_sign : SFits w128 c.in-Some.last.sign = search rules in
    let column_x : SFits w32 c.args.column.x = search rules in
    let column_sign : SFits w128 c.args.column.sign = search rules in
    let sum_fits : SFits w128 (c.in-Some.last.sign +ℤ c.args.column.sign) =
    pair_fits c.args.columns.now.items c.pop.new.self.items c.in-Some.last c.args.column c.in-Some.ensures.items c.requires in
    let same_x : c.in-Some.last.x ≡ c.args.column.x =
    sym (to_z-of_z last_x) ∙ ap (to_z w32) c.if-last-column.true ∙ to_z-of_z column_x in
    let none : c.in-Some.last.sign +ℤ c.args.column.sign ≡ pos 0 =
    sym (to_z-of_z sum_fits) ∙ ap (to_z w128) (simp to_z-of_z at c.if-sign-ne0.false) in
    rw c.in-Some.ensures.items (compacts_none c.pop.new.self.items c.in-Some.last c.args.column same_x c.if-last-column-2.true none)
