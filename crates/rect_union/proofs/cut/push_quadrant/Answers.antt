use Rattle.std.proofs.Common.{◌≡◌, ◌∙◌, ◌+ℤ◌, pos, sym, ap, SFits, w32, to_z, to_z-of_z, rules}
use Rattle.std.specs.Int.{w128}
use Rattle.rect_union.proofs.CutLaws.{adds_last, adds_none, adds_pair, pair_fits}
use Rattle.rect_union.proofs.cut.push_quadrant.Goals as goal

pub returns-in_ok-push-in-Some : goal.returns-in_ok-push-in-Some
returns-in_ok-push-in-Some c =
    let last_x : SFits w32 c.in-Some.last.column.x = search rules in
    let last_y : SFits w32 c.in-Some.last.y = search rules in
    let last_sign : SFits w128 c.in-Some.last.column.sign = search rules in
    let quadrant_sign : SFits w128 c.args.quadrant.column.sign = search rules in
    let sum_fits : SFits w128 (c.in-Some.last.column.sign +ℤ c.args.quadrant.column.sign) =
    pair_fits c.args.quadrants.now.items c.pop.new.self.items c.in-Some.last c.args.quadrant c.in-Some.ensures.items c.requires.small in
    record {
      added = rw c.in_ok-push-in-Some.ensures.items
          (simp to_z-of_z
          (adds_pair c.args.quadrants.now.items c.pop.new.self.items c.in-Some.last c.args.quadrant c.in-Some.ensures.items (c.share_place.ensures.same c.if-share_place.true)));
    }

pub returns-else-sign-ne0 : goal.returns-else-sign-ne0
returns-else-sign-ne0 c =
    let last_sign : SFits w128 c.in-Some.last.column.sign = search rules in
    let quadrant_sign : SFits w128 c.args.quadrant.column.sign = search rules in
    let sum_fits : SFits w128 (c.in-Some.last.column.sign +ℤ c.args.quadrant.column.sign) =
    pair_fits c.args.quadrants.now.items c.pop.new.self.items c.in-Some.last c.args.quadrant c.in-Some.ensures.items c.requires.small in
    let none : c.in-Some.last.column.sign +ℤ c.args.quadrant.column.sign ≡ pos 0 =
    sym (to_z-of_z sum_fits) ∙ ap (to_z w128) (simp to_z-of_z at c.if-sign-ne0.false) in
    record {
      added = adds_none c.args.quadrants.now.items c.pop.new.self.items c.in-Some.last c.args.quadrant c.in-Some.ensures.items
          (c.share_place.ensures.same c.if-share_place.true) none;
    }

pub returns-in_ok-push-in-Some-2-2 : goal.returns-in_ok-push-in-Some-2-2
returns-in_ok-push-in-Some-2-2 c = record {
  added = rw (c.in_ok-push-in-Some-2-2.ensures.items, c.in_ok-push-in-Some-2.ensures.items, c.in-Some.ensures.items) (adds_last _ c.args.quadrant);
}

pub returns-in_ok-push-in-None : goal.returns-in_ok-push-in-None
returns-in_ok-push-in-None c =
    let same : c.args.quadrants.now.items ≡ c.pop.new.self.items = search rules in
    record {
      added = rw (c.in_ok-push-in-None.ensures.items, ← same) (adds_last c.args.quadrants.now.items c.args.quadrant);
    }
