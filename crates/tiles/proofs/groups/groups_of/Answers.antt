use Rattle.std.proofs.Common.{subst, arith}
use Rattle.tiles.specs.Keys.{AreGroups, IsLastOf, IsNoLastOf, key_at}
use Rattle.tiles.proofs.GroupLaws.{groups-none, groups-same, groups-new, groups-whole}
use Rattle.tiles.proofs.groups.groups_of.Goals as goal
use Rattle.tiles.proofs.groups.groups_of.Goals.{then-not-is_last+in_ok-push+in_ok-push-2, else-not-is_last}

pub loop-place-init : goal.loop-place-init
loop-place-init c = groups-none c.args.keys.now _ _ c.new-squares.ensures.items c.new-firsts.ensures.items

pub loop-place-preserved : goal.loop-place-preserved
loop-place-preserved c = elim c.if-not-is_last.branch [
  | then-not-is_last+in_ok-push+in_ok-push-2 w ↦
      rw (w.squares-is, w.firsts-is, w.in_ok-push.ensures.items, w.in_ok-push-2.ensures.items)
      (groups-new c.args.keys.now c.loop-place.place c.loop-place.squares.items c.loop-place.firsts.items c.loop-place-test.true c.requires.ascending
      (subst (IsNoLastOf (key_at c.args.keys.now c.loop-place.place).square) c.deref.ensures.value (c.is_last.ensures.other w.if-not-is_last.true))
      c.loop-place.invariant)
  | else-not-is_last w ↦
      rw (w.squares-is, w.firsts-is)
      (groups-same c.args.keys.now c.loop-place.place c.loop-place.squares.items c.loop-place.firsts.items c.loop-place-test.true
      (subst (IsLastOf (key_at c.args.keys.now c.loop-place.place).square) c.deref.ensures.value (c.is_last.ensures.last w.if-not-is_last.false))
      c.loop-place.invariant)
]

pub returns : goal.returns
returns c =
    rw (c.in_ok-push-3.ensures.items)
    (groups-whole c.args.keys.now c.loop-place.squares.items c.loop-place.firsts.items c.requires.few
    (subst (λ n. AreGroups c.args.keys.now n c.loop-place.squares.items c.loop-place.firsts.items) (omega (arith, c.loop-place-test.false, c.loop-place.auto.place-end)) c.loop-place.invariant))
