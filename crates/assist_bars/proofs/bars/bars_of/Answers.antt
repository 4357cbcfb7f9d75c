use Rattle.std.proofs.Common.{◌<◌, List, [], false, All, length, take, get_or, pos, sym, subst, arith}
use Rattle.std.proofs.lemmas.Int.{ints}
use Rattle.edges.specs.Disjoint.{AreSolidAndApart}
use Rattle.cutting.proofs.EdgeBounds.{edges_cuttable}
use Rattle.cutting.proofs.FragmentLaws.{canonical_apart}
use Rattle.opc_base.specs.declared.plane.Side.TheVariants.{Left}
use Rattle.opc_base.specs.Canonical.{AreCanonical}
use Rattle.opc_base.specs.Plane.{IsRectWithin, cover}
use Rattle.opc_base.specs.declared.plane.Rect.{Rect}
use Rattle.outline_model.specs.declared.fragment.Fragment.{Fragment}
use Rattle.outline_model.specs.Limits.{IsFragmentList}
use Rattle.assist_bars.specs.Bars.{IsCutOf}
use Rattle.assist_bars.proofs.CountLaws.{bars_few}
use Rattle.assist_bars.proofs.CutLaws.{cut_no_touch, cut_placed}
use Rattle.outline_model.specs.declared.edge.Edge.{Edge}
use Rattle.outline_model.specs.Edges.{AreEdges}
use Rattle.assist_bars.proofs.BarLaws.{add_none, add_one, added_have_space, all_edges, bars_are_unique, no_bars, one_more_edge, thick_solid}
use Rattle.assist_bars.proofs.KeptRules.{bars_clear, keeps_with_bars}
use Rattle.assist_bars.proofs.bars.bars_of.Goals as goal
use Rattle.assist_bars.proofs.bars.bars_of.Goals.{then-is_bar+in_ok-push, else-is_bar}

placed : (region : List Rect) (fs : List Fragment) → AreCanonical region → IsFragmentList fs → IsCutOf region fs → All (IsRectWithin 1048000) region
placed region fs canonical list cut = cut_placed region fs canonical.solid list cut

pub find_edges-requires : goal.find_edges-requires
find_edges-requires c = record {
  disjoint = subst AreSolidAndApart (sym c.rects-rects.ensures.list) (canonical_apart 1048000 c.args.region.now (omega arith) c.rects-rects.ensures.canonical (placed c.args.region.now c.args.fragments.now c.rects-rects.ensures.canonical c.count.ensures.list c.requires.cut));
  no_touch = rw c.rects-rects.ensures.list (cut_no_touch c.args.region.now c.args.fragments.now c.count.ensures.list c.requires.cut);
}

pub is_bar-requires : goal.is_bar-requires
is_bar-requires c =
    let edge : Edge = record { side = Left; line = pos 0; lo = pos 0; hi = pos 0; low_convex = false; high_convex = false } in
    let width = c.args.rules.now.width_in_range.0 in let space = c.args.rules.now.space_in_range.0 in
    let at : c.loop-edge.edge-index < length c.in_ok-edges.edges.items = rw c.deref-edge-items.ensures.value at c.loop-edge-test.true in
    let are : AreEdges (cover c.args.region.now) c.in_ok-edges.edges.items = rw c.rects-rects.ensures.list at c.in_ok-edges.ensures in
    let cuttable = edges_cuttable c.args.region.now c.in_ok-edges.edges.items (placed c.args.region.now c.args.fragments.now c.rects-rects.ensures.canonical c.count.ensures.list c.requires.cut) are
    c.loop-edge.edge-index edge at in
    let so_far = added_have_space c.args.rules.now c.args.bars.now (cover c.args.region.now) [] (take c.loop-edge.edge-index c.deref-edge-items.result.now) c.loop-edge.kept.rects.items
    width (omega (arith, ints)) c.requires.suited (no_bars c.args.rules.now.width c.args.rules.now.space (cover c.args.region.now)) c.loop-edge.invariant.bars in
    record {
      line = rw c.deref-edge-items.ensures.value cuttable.line;
      lo = rw c.deref-edge-items.ensures.value cuttable.low;
      hi = rw c.deref-edge-items.ensures.value cuttable.high;
      bars = c.requires.bars;
      suited = c.requires.suited;
      target = c.in_ok-target.ensures.valid;
      kept = c.loop-edge.invariant.valid;
      solid = rw (c.in_ok-target.ensures.rects, c.rects-rects.ensures.list) c.rects-rects.ensures.canonical.solid;
      kept_solid = λ k d below. thick_solid c.args.rules.now.width (get_or c.loop-edge.kept.rects.items k d) width (so_far.thick k d below);
    }

pub loop-edge-preserved : goal.loop-edge-preserved
loop-edge-preserved c =
    let edge : Edge = record { side = Left; line = pos 0; lo = pos 0; hi = pos 0; low_convex = false; high_convex = false } in
    let at : c.loop-edge.edge-index < length c.deref-edge-items.result.now = c.loop-edge-test.true in
    elim c.if-is_bar.branch [
      | then-is_bar+in_ok-push w ↦
          let bar = rw (c.in_ok-target.ensures.rects, c.rects-rects.ensures.list) at (c.is_bar.ensures.is w.if-is_bar.true) in
          rw w.kept-is
          (record {
            valid = w.in_ok-push.ensures.valid;
            bars = rw (w.in_ok-push.ensures.rects, w.proposed.ensures)
                (one_more_edge c.args.rules.now c.args.bars.now (cover c.args.region.now) c.deref-edge-items.result.now c.loop-edge.edge-index edge _ at
                (add_one c.args.rules.now c.args.bars.now (cover c.args.region.now) [] (take c.loop-edge.edge-index c.deref-edge-items.result.now) c.loop-edge.kept.rects.items
                (get_or c.deref-edge-items.result.now c.loop-edge.edge-index edge) c.loop-edge.invariant.bars bar));
          })
      | else-is_bar w ↦
          let none = rw (c.in_ok-target.ensures.rects, c.rects-rects.ensures.list) at (c.is_bar.ensures.is_none w.if-is_bar.false) in
          rw w.kept-is
          (record {
            valid = c.loop-edge.invariant.valid;
            bars = one_more_edge c.args.rules.now c.args.bars.now (cover c.args.region.now) c.deref-edge-items.result.now c.loop-edge.edge-index edge c.loop-edge.kept.rects.items at
                (add_none c.args.rules.now c.args.bars.now (cover c.args.region.now) [] (take c.loop-edge.edge-index c.deref-edge-items.result.now) c.loop-edge.kept.rects.items
                (get_or c.deref-edge-items.result.now c.loop-edge.edge-index edge) c.loop-edge.invariant.bars none);
          })
    ]

pub returns : goal.returns
returns c =
    let width = c.args.rules.now.width_in_range.0 in let space = c.args.rules.now.space_in_range.0 in
    let found : AreEdges (cover c.args.region.now) c.in_ok-edges.edges.items = rw c.rects-rects.ensures.list at c.in_ok-edges.ensures in
    let are : AreEdges (cover c.args.region.now) c.deref-edge-items.result.now = rw c.deref-edge-items.ensures.value found in
    let added = all_edges c.args.rules.now c.args.bars.now (cover c.args.region.now) c.deref-edge-items.result.now c.loop-edge.edge-index c.loop-edge.kept.rects.items
    c.loop-edge-test.false c.loop-edge.invariant.bars in
    let space_all = added_have_space c.args.rules.now c.args.bars.now (cover c.args.region.now) [] c.deref-edge-items.result.now c.loop-edge.kept.rects.items
    width (omega (arith, ints)) c.requires.suited (no_bars c.args.rules.now.width c.args.rules.now.space (cover c.args.region.now)) added in
    record {
      few = bars_few c.args.rules.now c.args.bars.now (cover c.args.region.now) c.requires.cut.0 c.args.fragments.now c.deref-edge-items.result.now c.loop-edge.kept.rects.items c.requires.cut.1 are added;
      within = space_all.within;
      bars = (c.deref-edge-items.result.now, are, added);
      some = record {
        rules = c.args.rules.now;
        bars = c.args.bars.now;
        numbers = c.requires.bars;
        suited = c.requires.suited;
        are = (c.deref-edge-items.result.now, are, added);
      };
      clear = bars_clear c.args.rules.now.width c.args.rules.now.space (cover c.args.region.now) c.loop-edge.kept.rects.items (omega (arith, ints)) space_all;
      unique = λ others those. bars_are_unique c.args.rules.now c.args.bars.now (cover c.args.region.now) others c.loop-edge.kept.rects.items those (c.deref-edge-items.result.now, are, added);
      kept = keeps_with_bars c.args.rules.now (cover c.args.region.now) c.loop-edge.kept.rects.items space space_all;
    }

pub proposed-requires-clause-line : goal.proposed-requires-clause-line
proposed-requires-clause-line c =
    let edge : Edge = record { side = Left; line = pos 0; lo = pos 0; hi = pos 0; low_convex = false; high_convex = false } in
    let at : c.loop-edge.edge-index < length c.in_ok-edges.edges.items = rw c.deref-edge-items.ensures.value at c.loop-edge-test.true in
    let are : AreEdges (cover c.args.region.now) c.in_ok-edges.edges.items = rw c.rects-rects.ensures.list at c.in_ok-edges.ensures in
    rw c.deref-edge-items.ensures.value
    (edges_cuttable c.args.region.now c.in_ok-edges.edges.items (placed c.args.region.now c.args.fragments.now c.rects-rects.ensures.canonical c.count.ensures.list c.requires.cut) are
    c.loop-edge.edge-index edge at).line

pub proposed-requires-clause-lo : goal.proposed-requires-clause-lo
proposed-requires-clause-lo c =
    let edge : Edge = record { side = Left; line = pos 0; lo = pos 0; hi = pos 0; low_convex = false; high_convex = false } in
    let at : c.loop-edge.edge-index < length c.in_ok-edges.edges.items = rw c.deref-edge-items.ensures.value at c.loop-edge-test.true in
    let are : AreEdges (cover c.args.region.now) c.in_ok-edges.edges.items = rw c.rects-rects.ensures.list at c.in_ok-edges.ensures in
    rw c.deref-edge-items.ensures.value
    (edges_cuttable c.args.region.now c.in_ok-edges.edges.items (placed c.args.region.now c.args.fragments.now c.rects-rects.ensures.canonical c.count.ensures.list c.requires.cut) are
    c.loop-edge.edge-index edge at).low

pub proposed-requires-clause-hi : goal.proposed-requires-clause-hi
proposed-requires-clause-hi c =
    let edge : Edge = record { side = Left; line = pos 0; lo = pos 0; hi = pos 0; low_convex = false; high_convex = false } in
    let at : c.loop-edge.edge-index < length c.in_ok-edges.edges.items = rw c.deref-edge-items.ensures.value at c.loop-edge-test.true in
    let are : AreEdges (cover c.args.region.now) c.in_ok-edges.edges.items = rw c.rects-rects.ensures.list at c.in_ok-edges.ensures in
    rw c.deref-edge-items.ensures.value
    (edges_cuttable c.args.region.now c.in_ok-edges.edges.items (placed c.args.region.now c.args.fragments.now c.rects-rects.ensures.canonical c.count.ensures.list c.requires.cut) are
    c.loop-edge.edge-index edge at).high
