use Rattle.std.proofs.Common.{◌≡◌, ℕ, ◌<◌, ℤ, ◌≤ℤ◌, ◌<ℤ◌, pos, List, Some, w32, length, get_or, slice_get, map, subst, sym, ◌∙◌, ap, refl, arith}
use Rattle.std.proofs.lemmas.Int.{ints, to_z-of_z}
use Rattle.tiles.specs.Index.{HoldGroups}
use Rattle.tiles.specs.Keys.{AreKeys}
use Rattle.tiles.specs.Places.{AreOneEach}
use Rattle.tiles.specs.declared.key.Key.{Key}
use Rattle.tiles.proofs.BuiltLaws.{one_each, tiles_kept, tiling_is}
use Rattle.tiles.proofs.index.TileIndex.build.Goals as goal

pub places_of-requires-clause-one_each : goal.places_of-requires-clause-one_each
places_of-requires-clause-one_each c =
    subst AreOneEach (sym (c.deref-3.ensures.value ∙ c.in_ok-numbers.ensures ∙ ap (map (λ (k : Key). k.number)) c.deref-2.ensures.value))
    (one_each c.args.fragments.now _ c.in_ok-keys.keys.items c.in_ok-keys.ensures)

pub invariant_of-result : goal.invariant_of-result
invariant_of-result c =
    let side_is = to_z-of_z w32 c.args.side c.ranges.side in
    let halo_is = to_z-of_z w32 c.args.halo c.ranges.halo in
    let keys = c.in_ok-keys.keys.items in
    let numbers = c.in_ok-numbers.ensures ∙ ap (map (λ (k : Key). k.number)) c.deref-2.ensures.value in
    let read = c.deref-3.ensures.value in
    rw (side_is, halo_is)
    (tiles_kept c.args.fragments.now c.args.side c.args.halo keys c.in_ok-groups.groups.squares.items c.in_ok-groups.groups.firsts.items
    (subst (λ s. AreKeys c.args.fragments.now s keys) side_is c.in_ok-keys.ensures)
    (subst (λ ks. HoldGroups ks c.in_ok-groups.groups.squares.items c.in_ok-groups.groups.firsts.items) c.deref.ensures.value c.in_ok-groups.ensures)
    c.in_ok-numbers.numbers.items c.in_ok-places.places.items
    (record { least_side = c.requires.least_side; most_side = c.requires.most_side; least_halo = c.requires.least_halo; most_halo = c.requires.most_halo })
    numbers (c.in_ok-places.ensures.count ∙ ap length read)
    (subst (λ (ns : List ℕ). (i : ℕ) → i < length c.in_ok-places.places.items → slice_get ns (get_or c.in_ok-places.places.items i 0) ≡ Some i) read c.in_ok-places.ensures.placed))

above : (side : ℤ) → pos 16 ≤ℤ side → pos 0 <ℤ side
above side least = omega (arith, ints)

pub returns : goal.returns
returns c =
    let side_is = to_z-of_z w32 c.args.side c.ranges.side in
    let halo_is = to_z-of_z w32 c.args.halo c.ranges.halo in
    let keys = c.in_ok-keys.keys.items in
    let squares = c.in_ok-groups.groups.squares.items in
    let firsts = c.in_ok-groups.groups.firsts.items in
    let numbers = c.in_ok-numbers.ensures ∙ ap (map (λ (k : Key). k.number)) c.deref-2.ensures.value in
    record {
      tiling = tiling_is c.args.fragments.now c.args.side c.args.halo keys squares firsts
          (subst (λ s. AreKeys c.args.fragments.now s keys) side_is c.in_ok-keys.ensures)
          (subst (λ ks. HoldGroups ks squares firsts) c.deref.ensures.value c.in_ok-groups.ensures)
          _ (rw (side_is, halo_is, numbers) refl) (above c.args.side c.requires.least_side);
    }
