use Rattle.std.proofs.Common.{◌≡◌, ℕ, ◌<◌, ◌≤◌, List, length, get_or, ℤ, ◌+ℤ◌, ◌-ℤ◌, ◌*ℤ◌, unsigned_abs, to_z, of_z, w32, sym, ap, subst, arith}
use Rattle.std.proofs.lemmas.Int.{ints}
use Rattle.std.proofs.lemmas.List.{get_or_read}
use Rattle.opc_base.specs.declared.plane.Rect.{Rect}
use Rattle.tiles.specs.Index.{AreSizes}
use Rattle.tiles.specs.Keys.{IsSquareWithin, square_at}
use Rattle.tiles.specs.declared.key.Square.{Square}
use Rattle.tiles.proofs.ListedLaws.{count-seen, tile-seen}
use Rattle.tiles.proofs.index.TileIndex.square.Goals as goal

-- a number as it is stored
stored : (z : ℤ) → unsigned_abs z ≤ 1060000 → to_z w32 (of_z w32 z) ≡ z
stored z small = omega (arith, ints)

number-stored : (z : ℤ) → unsigned_abs z ≤ 1053000 → to_z w32 (of_z w32 z) ≡ z
number-stored z small = omega (arith, ints)

side-stored : (side halo : ℤ) → AreSizes side halo → to_z w32 (of_z w32 side) ≡ side
side-stored side halo sizes = omega (arith, ints, sizes.least_side, sizes.most_side)

halo-stored : (side halo : ℤ) → AreSizes side halo → to_z w32 (of_z w32 halo) ≡ halo
halo-stored side halo sizes = omega (arith, ints, sizes.least_halo, sizes.most_halo)

-- the square that is read
read : (squares : List Square) (tile : ℕ) (square : Square) → tile < length squares → square ≡ get_or squares tile square → square ≡ square_at squares tile
read squares tile square below is = get_or_read squares tile square below is _

near : (side : ℤ) (squares : List Square) (tile : ℕ) (square : Square) → ((k : ℕ) → k < length squares → IsSquareWithin side (square_at squares k)) →
    tile < length squares → square ≡ get_or squares tile square → IsSquareWithin side square
near side squares tile square all below is = subst (IsSquareWithin side) (sym (read squares tile square below is)) (all tile below)

pub index-square-requires : goal.index-square-requires
index-square-requires c =
    let seen = count-seen c.self.inside.side c.self.inside.halo c.self.inside.squares.items c.self.inside.firsts.items c.self.inside.numbers.items c.args.self.now c.self.view_is in
    omega (arith, seen)

pub grown-x0-requires-clause-number : goal.grown-x0-requires-clause-number
grown-x0-requires-clause-number c =
    let seen = count-seen c.self.inside.side c.self.inside.halo c.self.inside.squares.items c.self.inside.firsts.items c.self.inside.numbers.items c.args.self.now c.self.view_is in
    let n = near c.self.inside.side c.self.inside.squares.items c.args.tile c.index-square.result.now c.self.invariant.near (omega (arith, seen)) c.index-square.ensures in
    rw (number-stored c.index-square.result.now.a n.a) n.a

pub grown-x0-requires-clause-low : goal.grown-x0-requires-clause-low
grown-x0-requires-clause-low c =
    let seen = count-seen c.self.inside.side c.self.inside.halo c.self.inside.squares.items c.self.inside.firsts.items c.self.inside.numbers.items c.args.self.now c.self.view_is in
    let n = near c.self.inside.side c.self.inside.squares.items c.args.tile c.index-square.result.now c.self.invariant.near (omega (arith, seen)) c.index-square.ensures in
    rw (number-stored c.index-square.result.now.a n.a, side-stored c.self.inside.side c.self.inside.halo c.self.invariant.sizes) n.x

pub grown-y0-requires-clause-number : goal.grown-y0-requires-clause-number
grown-y0-requires-clause-number c =
    let seen = count-seen c.self.inside.side c.self.inside.halo c.self.inside.squares.items c.self.inside.firsts.items c.self.inside.numbers.items c.args.self.now c.self.view_is in
    let n = near c.self.inside.side c.self.inside.squares.items c.args.tile c.index-square.result.now c.self.invariant.near (omega (arith, seen)) c.index-square.ensures in
    rw (number-stored c.index-square.result.now.b n.b) n.b

pub grown-y0-requires-clause-low : goal.grown-y0-requires-clause-low
grown-y0-requires-clause-low c =
    let seen = count-seen c.self.inside.side c.self.inside.halo c.self.inside.squares.items c.self.inside.firsts.items c.self.inside.numbers.items c.args.self.now c.self.view_is in
    let n = near c.self.inside.side c.self.inside.squares.items c.args.tile c.index-square.result.now c.self.invariant.near (omega (arith, seen)) c.index-square.ensures in
    rw (number-stored c.index-square.result.now.b n.b, side-stored c.self.inside.side c.self.inside.halo c.self.invariant.sizes) n.y

pub returns-clause-square : goal.returns-clause-square
returns-clause-square c =
    let seen = count-seen c.self.inside.side c.self.inside.halo c.self.inside.squares.items c.self.inside.firsts.items c.self.inside.numbers.items c.args.self.now c.self.view_is in
    let n = near c.self.inside.side c.self.inside.squares.items c.args.tile c.index-square.result.now c.self.invariant.near (omega (arith, seen)) c.index-square.ensures in
    let side = c.self.inside.side in
    let halo = c.self.inside.halo in
    let square : ℤ → ℤ → Rect = λ a b. record { x0 = a *ℤ side -ℤ halo; y0 = b *ℤ side -ℤ halo; x1 = a *ℤ side +ℤ side +ℤ halo; y1 = b *ℤ side +ℤ side +ℤ halo } in
    let tile = tile-seen c.self.inside.side c.self.inside.halo c.self.inside.squares.items c.self.inside.firsts.items c.self.inside.numbers.items c.args.self.now c.self.view_is c.args.tile (omega (arith, seen)) in
    let here = read c.self.inside.squares.items c.args.tile c.index-square.result.now (omega (arith, seen)) c.index-square.ensures in
    rw (
      stored c.grown-x0.result.0 c.grown-x0.ensures.low_within,
      stored c.grown-x0.result.1 c.grown-x0.ensures.high_within,
      stored c.grown-y0.result.0 c.grown-y0.ensures.low_within,
      stored c.grown-y0.result.1 c.grown-y0.ensures.high_within,
      c.grown-x0.ensures.low,
      c.grown-x0.ensures.high,
      c.grown-y0.ensures.low,
      c.grown-y0.ensures.high,
      number-stored c.index-square.result.now.a n.a,
      number-stored c.index-square.result.now.b n.b,
      side-stored side halo c.self.invariant.sizes,
      halo-stored side halo c.self.invariant.sizes,
    )
    (rw (← ap (λ t. t.side) c.self.view_is, ← ap (λ t. t.halo) c.self.view_is, tile) (ap (λ (s : Square). square s.a s.b) here))
