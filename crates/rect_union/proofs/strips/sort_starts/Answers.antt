use Rattle.std.proofs.Common.{◌+◌, get_or, sym, rules, arith}
use Rattle.std.proofs.lemmas.List.Sorted.{answers_always, list_any-IsPermutation}
use Rattle.opc_base.specs.declared.plane.Rect.{Rect}
use Rattle.opc_base.specs.Plane.{rect_cover}
use Rattle.rect_union.proofs.OrderLaws.{canonical_if_sorted, starts_from_key}
use Rattle.rect_union.proofs.strips.sort_starts.Goals as goal

pub returns-clause-canonical : goal.returns-clause-canonical
returns-clause-canonical c =
    let sorted = c.sort_unstable_by_key.ensures.sorted (λ (r : Rect). (r.y0, r.x0)) (answers_always _ _ _ (λ f a r g h. search rules)) in
    canonical_if_sorted c.args.rects.now.items c.sort_unstable_by_key.new.self.items c.sort_unstable_by_key.ensures.permutation c.requires.apart
    (λ k d below. starts_from_key (get_or c.sort_unstable_by_key.new.self.items k d) (get_or c.sort_unstable_by_key.new.self.items (k + 1) d) (sorted k d (omega arith) below))

pub returns-clause-pixels : goal.returns-clause-pixels
returns-clause-pixels c x y =
    sym (list_any-IsPermutation (λ r. rect_cover r x y) c.args.rects.now.items c.sort_unstable_by_key.new.self.items c.sort_unstable_by_key.ensures.permutation)
