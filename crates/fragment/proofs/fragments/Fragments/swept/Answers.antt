-- The rectangle and the sign are those of the law of a move.
use Rattle.opc_base.specs.Plane.{rect_cover}
use Rattle.std.proofs.Common.{◌≡◌, sym, ◌+ℤ◌, pos, negsuc, if◌then◌else◌, get_or, set, int_lt, w8, w32, to_z, of_z, SFits, ◌∙◌, ap, arith, rules}
use Rattle.std.proofs.lemmas.Int.{ints, to_z-of_z}
use Rattle.outline_model.specs.Outline.{fragment_at, side_of, outward, lines, low_end, high_end, rect_between, count}
use Rattle.outline_model.proofs.MaskMoves.{sweeps}
use Rattle.outline_model.proofs.MoveLaw.{count-offset}
use Rattle.fragment.proofs.SweptRect.{lines_moved, rect_between-ordered, rect_between-within, swept_is}
use Rattle.fragment.proofs.fragments.Fragments.swept.Goals as goal

pub returns-clause-sign : goal.returns-clause-sign
returns-clause-sign c =
    let to_is : to_z w32 (of_z w32 c.args.to) ≡ c.args.to = to_z-of_z w32 c.args.to c.ranges.to in
    let from_near = c.requires.offsets.within c.args.i c.requires.fragment in
    let from = get_or c.args.offsets.now c.args.i (pos 0) in
    let from_is : to_z w32 (of_z w32 from) ≡ from = omega (arith, ints) in
    let sign_is : c.sign_of-sign.result ≡ (if int_lt from c.args.to then pos 1 else negsuc 0) = rw (from_is, to_is) at c.sign_of-sign.ensures in
    let fits : SFits w8 c.sign_of-sign.result = search rules in
    to_z-of_z w8 c.sign_of-sign.result fits ∙ sign_is

pub returns-clause-rectangle : goal.returns-clause-rectangle
returns-clause-rectangle c =
    let to_is : to_z w32 (of_z w32 c.args.to) ≡ c.args.to = to_z-of_z w32 c.args.to c.ranges.to in
    let new_is : c.line_at-new.result ≡ (fragment_at c.args.self.now c.args.i).edge +ℤ outward (side_of c.args.self.now c.args.i) c.args.to =
    rw to_is at c.line_at-new.ensures.line in
    let old_fits : SFits w32 c.line-old.result = search rules in
    let new_fits : SFits w32 c.line_at-new.result = search rules in
    let low_fits : SFits w32 c.ends-low.result.0 = search rules in
    let high_fits : SFits w32 c.ends-low.result.1 = search rules in
    let rect_is : c.rect_between-rect.result ≡ rect_between c.get-fragment.result.now.side c.line-old.result c.line_at-new.result c.ends-low.result.0 c.ends-low.result.1 =
    simp to_z-of_z at c.rect_between-rect.ensures in
    swept_is c.args.self.now c.args.offsets.now c.args.i c.args.to c.line_at-new.result
    c.line-old.result c.ends-low.result.0 c.ends-low.result.1 c.get-fragment.result.now.side c.rect_between-rect.result
    c.requires.fragment c.requires.offsets.one_each new_is
    c.line-old.ensures.line c.ends-low.ensures.low c.ends-low.ensures.high (ap (λ f. f.side) c.get-fragment.ensures.fragment) rect_is

pub returns-clause-counts : goal.returns-clause-counts
returns-clause-counts c x y =
    count-offset c.args.self.now c.args.offsets.now c.args.i c.args.to (lines c.args.self.now (set c.args.offsets.now c.args.i c.args.to) c.args.i)
    (to_z w8 (of_z w8 c.sign_of-sign.result)) x y
    c.get-fragment.ensures.list.outline c.requires.fragment c.requires.offsets.one_each c.requires.ordered
    (lines_moved c.args.self.now c.args.offsets.now c.args.i c.args.to c.requires.fragment c.requires.offsets.one_each)
    (returns-clause-sign c)
    ∙ ap (λ r. count c.args.self.now (lines c.args.self.now c.args.offsets.now) x y +ℤ (if rect_cover r x y then to_z w8 (of_z w8 c.sign_of-sign.result) else pos 0))
    (sym (returns-clause-rectangle c))

pub returns-clause-masks : goal.returns-clause-masks
returns-clause-masks c before after =
    sweeps c.args.self.now (lines c.args.self.now c.args.offsets.now) (lines c.args.self.now (set c.args.offsets.now c.args.i c.args.to))
    (record { rect = c.rect_between-rect.result; sign = to_z w8 (of_z w8 c.sign_of-sign.result) }) before after (returns-clause-counts c)

pub returns-clause-order : goal.returns-clause-order
returns-clause-order c =
    rw (returns-clause-rectangle c) (rect_between-ordered (side_of c.args.self.now c.args.i) (lines c.args.self.now c.args.offsets.now c.args.i) (lines c.args.self.now (set c.args.offsets.now c.args.i c.args.to) c.args.i) (low_end c.args.self.now (lines c.args.self.now c.args.offsets.now) c.args.i) (high_end c.args.self.now (lines c.args.self.now c.args.offsets.now) c.args.i) c.requires.ordered)

pub returns-clause-near : goal.returns-clause-near
returns-clause-near c =
    let old_fits : SFits w32 c.line-old.result = search rules in
    let new_fits : SFits w32 c.line_at-new.result = search rules in
    let low_fits : SFits w32 c.ends-low.result.0 = search rules in
    let high_fits : SFits w32 c.ends-low.result.1 = search rules in
    let rect_is : c.rect_between-rect.result ≡ rect_between c.get-fragment.result.now.side c.line-old.result c.line_at-new.result c.ends-low.result.0 c.ends-low.result.1 =
    simp to_z-of_z at c.rect_between-rect.ensures in
    rw rect_is (rect_between-within c.get-fragment.result.now.side 1048128 c.line-old.result c.line_at-new.result c.ends-low.result.0 c.ends-low.result.1
    c.line-old.ensures.within c.line_at-new.ensures.within c.ends-low.ensures.low_within c.ends-low.ensures.high_within)
