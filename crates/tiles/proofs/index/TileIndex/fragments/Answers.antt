use Rattle.std.proofs.Common.{◌≡◌, ℕ, ◌+◌, ◌<◌, ◌≤◌, List, length, get_or, ◌∙◌, sym, ap, arith}
use Rattle.std.proofs.lemmas.Grind.{get_or_default_zero}
use Rattle.tiles.specs.Index.{AreFirsts}
use Rattle.tiles.proofs.ListedLaws.{count-seen, tile-seen}
use Rattle.tiles.proofs.index.TileIndex.fragments.Goals as goal

pub index-requires : goal.index-requires
index-requires c =
    let seen = count-seen c.self.inside.side c.self.inside.halo c.self.inside.squares.items c.self.inside.firsts.items c.self.inside.numbers.items c.args.self.now c.self.view_is in
    omega (arith, seen, c.self.invariant.firsts_are.count)

pub index-requires-2 : goal.index-requires-2
index-requires-2 c =
    let seen = count-seen c.self.inside.side c.self.inside.halo c.self.inside.squares.items c.self.inside.firsts.items c.self.inside.numbers.items c.args.self.now c.self.view_is in
    omega (arith, seen, c.self.invariant.firsts_are.count)

-- where a tile begins
first_read : (firsts : List ℕ) (k x : ℕ) → k < length firsts → x ≡ get_or firsts k x → x ≡ get_or firsts k 0
first_read firsts k x below is = is ∙ get_or_default_zero firsts k x below

bounds : (firsts : List ℕ) (tiles places k start end : ℕ) → AreFirsts firsts tiles places → k < tiles →
    start ≡ get_or firsts k start → end ≡ get_or firsts (k + 1) end → (start ≤ end) × (end ≤ places)
bounds firsts tiles places k start end are below start_is end_is =
    let s = first_read firsts k start (omega (arith, are.count)) start_is in
    let e = first_read firsts (k + 1) end (omega (arith, are.count)) end_is in
    (omega (arith, s, e, are.ascend k (k + 1) (omega arith) (omega arith)), omega (arith, e, are.ends, are.ascend (k + 1) tiles (omega arith) (omega arith)))

pub slice_bounds-result-count : goal.slice_bounds-result-count
slice_bounds-result-count c =
    let seen = count-seen c.self.inside.side c.self.inside.halo c.self.inside.squares.items c.self.inside.firsts.items c.self.inside.numbers.items c.args.self.now c.self.view_is in
    let b = bounds c.self.inside.firsts.items _ _ c.args.tile c.index.result.now c.index-2.result.now c.self.invariant.firsts_are (omega (arith, seen)) c.index.ensures c.index-2.ensures in
    omega (arith, b.0, b.1, ap length c.deref.ensures.value)

pub slice_bounds-result-start : goal.slice_bounds-result-start
slice_bounds-result-start c =
    let seen = count-seen c.self.inside.side c.self.inside.halo c.self.inside.squares.items c.self.inside.firsts.items c.self.inside.numbers.items c.args.self.now c.self.view_is in
    let b = bounds c.self.inside.firsts.items _ _ c.args.tile c.index.result.now c.index-2.result.now c.self.invariant.firsts_are (omega (arith, seen)) c.index.ensures c.index-2.ensures in
    omega (arith, b.0, b.1, ap length c.deref.ensures.value)

pub slice_bounds-result-end : goal.slice_bounds-result-end
slice_bounds-result-end c =
    let seen = count-seen c.self.inside.side c.self.inside.halo c.self.inside.squares.items c.self.inside.firsts.items c.self.inside.numbers.items c.args.self.now c.self.view_is in
    let b = bounds c.self.inside.firsts.items _ _ c.args.tile c.index.result.now c.index-2.result.now c.self.invariant.firsts_are (omega (arith, seen)) c.index.ensures c.index-2.ensures in
    omega (arith, b.0, b.1, ap length c.deref.ensures.value)

pub returns : goal.returns
returns c =
    let seen = count-seen c.self.inside.side c.self.inside.halo c.self.inside.squares.items c.self.inside.firsts.items c.self.inside.numbers.items c.args.self.now c.self.view_is in
    let s = first_read c.self.inside.firsts.items c.args.tile c.index.result.now (omega (arith, seen, c.self.invariant.firsts_are.count)) c.index.ensures in
    let e = first_read c.self.inside.firsts.items (c.args.tile + 1) c.index-2.result.now (omega (arith, seen, c.self.invariant.firsts_are.count)) c.index-2.ensures in
    rw (c.deref.ensures.value, s, e)
    (sym (ap (λ t. t.fragments) (tile-seen c.self.inside.side c.self.inside.halo c.self.inside.squares.items c.self.inside.firsts.items c.self.inside.numbers.items c.args.self.now c.self.view_is c.args.tile (omega (arith, seen)))))
