-- The edges are those of the pixels.
use Rattle.std.proofs.Common.{All, sym, subst}
use Rattle.cutting.specs.Limits.{AreSorted, IsCuttable}
use Rattle.cutting.proofs.CountLaws.{edges_sorted}
use Rattle.cutting.proofs.EdgeBounds.{edges_cuttable}
use Rattle.opc_base.specs.Plane.{cover}
use Rattle.cutting.proofs.region_pieces.find_pieces.Goals as goal

pub count_pieces-count-requires-clause-edges : goal.count_pieces-count-requires-clause-edges
count_pieces-count-requires-clause-edges c = subst (All IsCuttable) (sym c.deref.ensures.value) (edges_cuttable c.args.rects.now c.in-Ok.edges.items c.requires.placed c.in-Ok.ensures)

pub count_pieces-count-requires-clause-sorted : goal.count_pieces-count-requires-clause-sorted
count_pieces-count-requires-clause-sorted c = subst AreSorted (sym c.deref.ensures.value) (edges_sorted (cover c.args.rects.now) c.in-Ok.edges.items c.in-Ok.ensures)

pub cut_edges-requires-clause-edges : goal.cut_edges-requires-clause-edges
cut_edges-requires-clause-edges c = subst (All IsCuttable) (sym c.deref-2.ensures.value) (edges_cuttable c.args.rects.now c.in-Ok.edges.items c.requires.placed c.in-Ok.ensures)
