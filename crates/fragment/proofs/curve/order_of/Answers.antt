-- The numbers of the places, each once.
use Rattle.std.proofs.Common.{map, length, ◌∙◌, ap}
use Rattle.fragment.proofs.IndexLaws.{order_of_places}
use Rattle.fragment.proofs.curve.order_of.Goals as goal

pub returns : goal.returns
returns c =
    order_of_places (length c.args.areas.now) c.in_ok-places.places.items c.sort_unstable.new.self.items c.in_ok-order.order.items
    c.in_ok-places.ensures c.sort_unstable.ensures.permutation (c.in_ok-order.ensures ∙ ap (map (λ p. p.1)) c.deref.ensures.value)
