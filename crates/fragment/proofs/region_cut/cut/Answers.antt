-- The pieces of a region are met at their ends, and joined they are its fragments.
use Rattle.std.proofs.Common.{◌≤◌, List, length, All, sym, subst, arith}
use Rattle.edges.specs.Disjoint.{AreSolidAndApart}
use Rattle.opc_base.specs.Plane.{IsRectWithin, cover}
use Rattle.outline_model.specs.declared.fragment.Fragment.{Fragment}
use Rattle.outline_model.specs.Fragmentation.{AreFragments}
use Rattle.outline_model.specs.Limits.{IsFragmentList}
use Rattle.outline_model.specs.Target.{IsBoundary}
use Rattle.cutting.proofs.FragmentLaws.{canonical_apart}
use Rattle.cutting.proofs.UniqueLaws.{fragments_are_unique}
use Rattle.fragment.proofs.CutLaws.{cut_fragments, cut_known, cut_unmoved, met_both}
use Rattle.fragment.proofs.region_cut.cut.Goals as goal

pub find_pieces-requires-clause-disjoint : goal.find_pieces-requires-clause-disjoint
find_pieces-requires-clause-disjoint c =
    subst AreSolidAndApart (sym c.rects-rects.ensures.list) (canonical_apart 1048000 c.args.region.now (omega arith) c.rects-rects.ensures.canonical c.requires.placed)

pub find_pieces-requires-clause-placed : goal.find_pieces-requires-clause-placed
find_pieces-requires-clause-placed c = subst (All (IsRectWithin 1048000)) (sym c.rects-rects.ensures.list) c.requires.placed

pub join_pieces-requires-clause-met : goal.join_pieces-requires-clause-met
join_pieces-requires-clause-met c k below =
    met_both c.args.region.now c.rects-rects.result.now c.args.rules.now c.in_ok-pieces.pieces.items c.deref.result.now
    c.rects-rects.ensures.list c.deref.ensures.value c.requires.no_touch c.in_ok-pieces.ensures.pieces k below

pub from_vec-requires : goal.from_vec-requires
from_vec-requires c =
    (cut_known c.args.region.now c.rects-rects.result.now c.args.rules.now c.in_ok-pieces.pieces.items c.deref.result.now c.in-Ok.items.items
    c.rects-rects.ensures.list c.deref.ensures.value c.rects-rects.ensures.canonical c.requires.placed c.requires.no_touch
    c.in_ok-pieces.ensures.pieces c.in_ok-pieces.ensures.few c.in-Ok.ensures).1

pub returns-clause-fragments : goal.returns-clause-fragments
returns-clause-fragments c =
    subst (AreFragments (cover c.args.region.now) c.args.rules.now) (sym c.from_vec.ensures)
    (cut_fragments c.args.region.now c.rects-rects.result.now c.args.rules.now c.in_ok-pieces.pieces.items c.deref.result.now c.in-Ok.items.items
    c.rects-rects.ensures.list c.deref.ensures.value c.in_ok-pieces.ensures.pieces c.in-Ok.ensures)

pub returns-clause-boundary : goal.returns-clause-boundary
returns-clause-boundary c =
    subst (IsBoundary (cover c.args.region.now)) (sym c.from_vec.ensures)
    (cut_known c.args.region.now c.rects-rects.result.now c.args.rules.now c.in_ok-pieces.pieces.items c.deref.result.now c.in-Ok.items.items
    c.rects-rects.ensures.list c.deref.ensures.value c.rects-rects.ensures.canonical c.requires.placed c.requires.no_touch
    c.in_ok-pieces.ensures.pieces c.in_ok-pieces.ensures.few c.in-Ok.ensures).0

pub returns-clause-unique : goal.returns-clause-unique
returns-clause-unique c gs also =
    fragments_are_unique (cover c.args.region.now) c.args.rules.now gs c.from_vec.result c.requires.no_touch also (returns-clause-fragments c)

pub returns-clause-few : goal.returns-clause-few
returns-clause-few c =
    subst (λ (fs : List Fragment). length fs ≤ 32768) (sym c.from_vec.ensures)
    (cut_known c.args.region.now c.rects-rects.result.now c.args.rules.now c.in_ok-pieces.pieces.items c.deref.result.now c.in-Ok.items.items
    c.rects-rects.ensures.list c.deref.ensures.value c.rects-rects.ensures.canonical c.requires.placed c.requires.no_touch
    c.in_ok-pieces.ensures.pieces c.in_ok-pieces.ensures.few c.in-Ok.ensures).1.few

pub returns-clause-unmoved : goal.returns-clause-unmoved
returns-clause-unmoved c x y =
    cut_unmoved c.args.region.now c.from_vec.result c.rects-rects.ensures.canonical c.requires.placed (returns-clause-boundary c)
    (subst IsFragmentList (sym c.from_vec.ensures)
    (cut_known c.args.region.now c.rects-rects.result.now c.args.rules.now c.in_ok-pieces.pieces.items c.deref.result.now c.in-Ok.items.items
    c.rects-rects.ensures.list c.deref.ensures.value c.rects-rects.ensures.canonical c.requires.placed c.requires.no_touch
    c.in_ok-pieces.ensures.pieces c.in_ok-pieces.ensures.few c.in-Ok.ensures).1) x y
