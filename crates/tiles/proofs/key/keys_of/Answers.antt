use Rattle.std.proofs.Common.{arith}
use Rattle.tiles.proofs.KeyLaws.{lists_none, lists_more}
use Rattle.tiles.proofs.key.keys_of.Goals as goal

pub loop-number-init : goal.loop-number-init
loop-number-init c = lists_none c.args.fragments.now _ c.new-keys.result.items c.new-keys.ensures.items

pub loop-number-preserved : goal.loop-number-preserved
loop-number-preserved c =
    let few = c.count-number-end.ensures.few in
    lists_more c.args.fragments.now _ c.loop-number.number c.loop-number.keys.items c.push.new.self.items c.key_of.result (omega arith)
    c.loop-number.invariant c.key_of.ensures.key c.key_of.ensures.near c.in_ok-push.ensures.items
