use Rattle.std.proofs.Common.{◌∙◌, map, arith}
use Rattle.opc_base.specs.Plane.{cover}
use Rattle.outline_model.specs.MaskRange.{mask_limit}
use Rattle.outline_model.specs.Edges.{AreEdges}
use Rattle.outline_model.proofs.TargetJoins.{outline_of_target}
use Rattle.cutting.proofs.FragmentLaws.{canonical_apart, joined-map, joined_ends, met_next_on, met_previous_on, unjoined, unjoined-map}
use Rattle.mask_polygons.proofs.BorderLaws.{border-near, count-pieces, pieces-are, whole_boundary}
use Rattle.mask_polygons.proofs.border.find_border.Goals as goal

pub find_edges-requires-clause-disjoint : goal.find_edges-requires-clause-disjoint
find_edges-requires-clause-disjoint c = canonical_apart mask_limit c.args.rects.now (omega arith) c.requires.canonical c.requires.within

pub join_pieces-requires-clause-count : goal.join_pieces-requires-clause-count
join_pieces-requires-clause-count c =
    let es = c.in_ok-edges.edges.items in
    let edges : AreEdges (cover c.args.rects.now) es = c.in_ok-edges.ensures in
    let one = c.in_ok-push_whole.ensures in
    let is = pieces-are (cover c.args.rects.now) es edges c.new-pieces.result.items c.push_whole.new.pieces.items c.deref-3.result.now c.new-pieces.ensures.items
    (rw c.deref.ensures.value at c.in_ok-push_whole.ensures) (c.deref-3.ensures.value ∙ (rw c.deref-2.ensures.value at c.in_ok-push_whole-2.ensures)) in
    let few = count-pieces (cover c.args.rects.now) es edges c.deref-3.result.now is in
    let a = c.len.ensures in let b = c.if-len-gt-MAX_EDGES.false in let d = c.in_ok-edges.edges.ok in
    omega (arith, few, a, b, d)

pub join_pieces-requires-clause-met : goal.join_pieces-requires-clause-met
join_pieces-requires-clause-met c =
    let es = c.in_ok-edges.edges.items in
    let inside = cover c.args.rects.now in
    let edges : AreEdges inside es = c.in_ok-edges.ensures in
    let ps = c.deref-3.result.now in
    let is = pieces-are inside es edges c.new-pieces.result.items c.push_whole.new.pieces.items ps c.new-pieces.ensures.items
    (rw c.deref.ensures.value at c.in_ok-push_whole.ensures) (c.deref-3.ensures.value ∙ (rw c.deref-2.ensures.value at c.in_ok-push_whole-2.ensures)) in
    let none = c.requires.no_touch in
    let boundary = whole_boundary inside es edges (map unjoined ps) (unjoined-map ps ∙ is) in
    λ k below. (met_next_on inside ps k none boundary below, met_previous_on inside ps k none boundary below)

pub returns-clause-border : goal.returns-clause-border
returns-clause-border c =
    let es = c.in_ok-edges.edges.items in
    let inside = cover c.args.rects.now in
    let edges : AreEdges inside es = c.in_ok-edges.ensures in
    let ps = c.deref-3.result.now in
    let is = pieces-are inside es edges c.new-pieces.result.items c.push_whole.new.pieces.items ps c.new-pieces.ensures.items
    (rw c.deref.ensures.value at c.in_ok-push_whole.ensures) (c.deref-3.ensures.value ∙ (rw c.deref-2.ensures.value at c.in_ok-push_whole-2.ensures)) in
    let none = c.requires.no_touch in
    let fs = c.in_ok-border.border.items in
    let pieces = joined-map ps fs c.in_ok-border.ensures ∙ is in
    let boundary = whole_boundary inside es edges fs pieces in
    let joined = joined_ends ps fs c.in_ok-border.ensures in
    record {
      boundary = boundary;
      joined = joined;
      outline = outline_of_target inside fs boundary none joined;
      edges = es;
      are_edges = edges;
      pieces = pieces;
    }

pub returns-clause-near : goal.returns-clause-near
returns-clause-near c =
    let es = c.in_ok-edges.edges.items in
    let inside = cover c.args.rects.now in
    let edges : AreEdges inside es = c.in_ok-edges.ensures in
    let ps = c.deref-3.result.now in
    let is = pieces-are inside es edges c.new-pieces.result.items c.push_whole.new.pieces.items ps c.new-pieces.ensures.items
    (rw c.deref.ensures.value at c.in_ok-push_whole.ensures) (c.deref-3.ensures.value ∙ (rw c.deref-2.ensures.value at c.in_ok-push_whole-2.ensures)) in
    let fs = c.in_ok-border.border.items in
    let boundary = whole_boundary inside es edges fs (joined-map ps fs c.in_ok-border.ensures ∙ is) in
    border-near c.args.rects.now fs c.requires.within boundary

pub returns-then-len-gt-MAX_EDGES-clause-many : goal.returns-then-len-gt-MAX_EDGES-clause-many
returns-then-len-gt-MAX_EDGES-clause-many c =
    (c.in_ok-edges.edges.items, c.in_ok-edges.ensures, (let a = c.if-len-gt-MAX_EDGES.true in let b = c.len.ensures in let d = c.in_ok-edges.edges.ok in omega (arith, a, b, d)))
