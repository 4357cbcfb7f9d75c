use Rattle.std.proofs.Common.{◌≡◌, ◌≤◌, ℤ, ◌≤ℤ◌, int_le, true, SFits, to_z, of_z, w32, w64, unsigned_abs, sym, subst, ap, ◌∙◌, arith, rules, ⊎_elim}
use Rattle.std.proofs.lemmas.Bool.{cases_lt}
use Rattle.std.proofs.lemmas.Int.{ints, to_z-of_z}
use Rattle.std.proofs.lemmas.List.{get_or_read}
use Rattle.tiles.specs.Index.{AreInOrder, AreSizes}
use Rattle.tiles.specs.Keys.{square_at}
use Rattle.tiles.specs.Meets.{meet_tile}
use Rattle.tiles.proofs.ListedLaws.{count-seen}
use Rattle.tiles.proofs.SkipLaws.{above-fail, between-fail}
use Rattle.tiles.proofs.index.TileIndex.missed_upto.Goals as goal

side-stored : (side halo : ℤ) → AreSizes side halo → to_z w32 (of_z w32 side) ≡ side
side-stored side halo sizes = omega (arith, ints, sizes.least_side, sizes.most_side)

halo-stored : (side halo : ℤ) → AreSizes side halo → to_z w32 (of_z w32 halo) ≡ halo
halo-stored side halo sizes = omega (arith, ints, sizes.least_halo, sizes.most_halo)

-- the row is none below the first that isn't reached
beyond : (high b row : ℤ) → SFits w64 high → unsigned_abs b ≤ 1053000 → row ≡ to_z w32 (of_z w32 b) → int_le (to_z w64 (of_z w64 high)) (to_z w64 (of_z w64 row)) ≡ true → high ≤ℤ b
beyond high b row fits near is test =
    let high_is : to_z w64 (of_z w64 high) ≡ high = to_z-of_z w64 high fits in
    let row_is : to_z w64 (of_z w64 row) ≡ b = omega (arith, ints, is) in
    under (rw (high_is, row_is) at test)
  where
    under : int_le high b ≡ true → high ≤ℤ b
    under test = grind (arith, ints)

pub index-square-requires : goal.index-square-requires
index-square-requires c =
    let seen = count-seen c.self.inside.side c.self.inside.halo c.self.inside.squares.items c.self.inside.firsts.items c.self.inside.numbers.items c.args.self.now c.self.view_is in
    omega (arith, seen, c.requires.order, c.requires.end)

pub first_from-requires-clause-order : goal.first_from-requires-clause-order
first_from-requires-clause-order c = subst AreInOrder (sym c.deref.ensures.value) c.self.invariant.order

pub returns-then-high-from-clause-missed : goal.returns-then-high-from-clause-missed
returns-then-high-from-clause-missed c k from below =
    let side = c.self.inside.side in
    let halo = c.self.inside.halo in
    let squares = c.self.inside.squares.items in
    let firsts = c.self.inside.firsts.items in
    let numbers = c.self.inside.numbers.items in
    let seen = count-seen side halo squares firsts numbers c.args.self.now c.self.view_is in
    let y1 : SFits w32 c.args.rect.now.y1 = search rules in
    let high : SFits w64 c.lines_between-low.result.1 = search rules in
    let here = get_or_read squares c.args.at c.index-square.result.now (omega (arith, seen, c.requires.order, c.requires.end)) c.index-square.ensures _ in
    above-fail side halo squares firsts numbers c.args.self.now c.self.view_is c.self.invariant.order c.args.rect.now c.lines_between-low.result.1 c.args.at k
    (λ n reached. rw (to_z-of_z w32 c.args.rect.now.y1 y1, side-stored side halo c.self.invariant.sizes, halo-stored side halo c.self.invariant.sizes) at c.lines_between-low.ensures.high n reached)
    (beyond c.lines_between-low.result.1 (square_at squares c.args.at).b c.from.result high (c.self.invariant.near c.args.at (omega (arith, seen, c.requires.order, c.requires.end))).b
    (c.from.ensures ∙ ap (λ s. to_z w32 (of_z w32 s.b)) here) c.if-high-from.true)
    from (omega (arith, below, seen, c.requires.end))

pub returns-clause-missed : goal.returns-clause-missed
returns-clause-missed c k from below =
    let side = c.self.inside.side in
    let halo = c.self.inside.halo in
    let squares = c.self.inside.squares.items in
    let firsts = c.self.inside.firsts.items in
    let numbers = c.self.inside.numbers.items in
    let sizes = c.self.invariant.sizes in
    let seen = count-seen side halo squares firsts numbers c.args.self.now c.self.view_is in
    let y0 : SFits w32 c.args.rect.now.y0 = search rules in
    let x0 : SFits w32 c.args.rect.now.x0 = search rules in
    let x1 : SFits w32 c.args.rect.now.x1 = search rules in
    let low : SFits w64 c.lines_between-low.result.0 = search rules in
    let left : SFits w64 c.lines_between-left.result.0 = search rules in
    let right : SFits w64 c.lines_between-left.result.1 = search rules in
    let row : SFits w64 c.next_row-row.result = search rules in
    let here = get_or_read squares c.args.at c.index-square.result.now (omega (arith, seen, c.requires.order, c.requires.end)) c.index-square.ensures _ in
    ⊎_elim
    (λ later.
    between-fail side halo squares firsts numbers c.args.self.now c.self.view_is c.self.invariant.order c.args.rect.now
    c.lines_between-low.result.0 c.lines_between-left.result.0 c.lines_between-left.result.1 c.next_row-row.result c.args.at k
    (λ n less. rw (to_z-of_z w32 c.args.rect.now.y0 y0, side-stored side halo sizes, halo-stored side halo sizes) at c.lines_between-low.ensures.low n less)
    (λ n less. rw (to_z-of_z w32 c.args.rect.now.x0 x0, side-stored side halo sizes, halo-stored side halo sizes) at c.lines_between-left.ensures.low n less)
    (λ n reached. rw (to_z-of_z w32 c.args.rect.now.x1 x1, side-stored side halo sizes, halo-stored side halo sizes) at c.lines_between-left.ensures.high n reached)
    (rw (to_z-of_z w64 c.lines_between-low.result.0 low, to_z-of_z w64 c.lines_between-left.result.1 right, here) at c.next_row-row.ensures.between)
    later (omega (arith, below, seen, c.requires.end, c.min.ensures))
    (rw (c.deref.ensures.value, to_z-of_z w64 c.next_row-row.result row, to_z-of_z w64 c.lines_between-left.result.0 left) at
    c.first_from.ensures.before k (omega (arith, below, later, c.min.ensures, c.max.ensures))))
    (λ first.
    let same : k ≡ c.args.at = omega arith in
    ap (meet_tile c.args.self.now c.args.rect.now) same ∙ sym c.meets.ensures ∙ c.if-meets.false)
    (cases_lt c.args.at k)
