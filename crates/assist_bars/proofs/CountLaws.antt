-- A target has no more bars than fragments.
use Rattle.std.proofs.Common.{◌≡◌, inl, inr, ℕ, zero, suc, ◌+◌, ◌<◌, ◌≤◌, pos, Bool, true, false, List, [], ◌∷◌, ◌++◌, get_or, length, length-append, map, take, take_all, refl, sym, ◌∙◌, ap, subst, arith}
use Rattle.opc_base.specs.Plane.{PixelSet}
use Rattle.opc_base.specs.declared.plane.Rect.{Rect}
use Rattle.opc_base.specs.declared.plane.Side.TheVariants.{Left}
use Rattle.opc_base.specs.declared.rules.CutRules.{CutRules}
use Rattle.opc_base.specs.declared.rules.MaskRules.{MaskRules}
use Rattle.outline_model.specs.declared.edge.Edge.{Edge}
use Rattle.outline_model.specs.declared.fragment.Fragment.{Fragment}
use Rattle.outline_model.specs.Edges.{AreEdges}
use Rattle.outline_model.specs.Fragmentation.{AreFragments, piece_of}
use Rattle.outline_model.specs.Lengths.{AreRules, is_whole, lengths}
use Rattle.outline_model.specs.Pieces.{pieces_along}
use Rattle.edges.proofs.EdgesAreUnique.{all_edges_are_unique}
use Rattle.cutting.proofs.BoundaryLaws.{length-pieces}
use Rattle.cutting.proofs.CountLaws.{length-pieces_along_more}
use Rattle.cutting.proofs.FragmentLaws.{rules_hold}
use Rattle.cutting.proofs.LengthLaws.{length-lengths_cut, length-lengths_whole}
use Rattle.assist_bars.specs.Bars.{AddBars, proposed}
use Rattle.assist_bars.specs.declared.bar_rules.BarRules.{BarRules}

some_length : (rules : CutRules) (e : Edge) → AreRules rules → 1 ≤ length (lengths rules e)
some_length rules e are = by (is_whole rules e) refl
  where
    by : (t : Bool) → is_whole rules e ≡ t → 1 ≤ length (lengths rules e)
    by true whole = omega (arith, length-lengths_whole rules e whole)
    by false cut = omega (arith, length-lengths_cut rules e are cut)

-- each edge has a piece
some_pieces : (rules : CutRules) (edges : List Edge) (i : ℕ) → AreRules rules → i ≤ length edges → i ≤ length (pieces_along rules (take i edges))
some_pieces rules edges zero are within = omega arith
some_pieces rules edges (suc i) are within =
    let d : Edge = record { side = Left; line = pos 0; lo = pos 0; hi = pos 0; low_convex = false; high_convex = false } in
    let earlier = some_pieces rules edges i are (omega (arith, within)) in
    let more = length-pieces_along_more rules edges i d (omega (arith, within)) in
    let next : i + 1 ≡ suc i = omega arith in
    subst (λ n. n ≤ length (pieces_along rules (take n edges))) next (omega (arith, earlier, more, some_length rules (get_or edges i d) are))

added_few : (rules : MaskRules) (bars : BarRules) (pixels : PixelSet) (earlier : List Rect) (edges : List Edge) (all : List Rect) → AddBars rules bars pixels earlier edges all
    → length all ≤ length earlier + length edges
added_few rules bars pixels earlier [] all is = omega (arith, ap length is)
added_few rules bars pixels earlier (e ∷ edges) all (inl added) =
    let more : length (earlier ++ proposed bars e ∷ []) ≡ length earlier + 1 = simp length-append (omega arith) in
    omega (arith, more, added_few rules bars pixels (earlier ++ proposed bars e ∷ []) edges all added.1)
added_few rules bars pixels earlier (e ∷ edges) all (inr passed) = omega (arith, added_few rules bars pixels earlier edges all passed.1)

pub bars_few : (rules : MaskRules) (bars : BarRules) (pixels : PixelSet) (cut : CutRules) (fs : List Fragment) (edges : List Edge) (all : List Rect) → AreFragments pixels cut fs
    → AreEdges pixels edges → AddBars rules bars pixels [] edges all → length all ≤ length fs
bars_few rules bars pixels cut fs edges all are found added =
    let same = all_edges_are_unique pixels edges are.pieces.edges found are.pieces.are_edges in
    let pieces : length (map piece_of fs) ≡ length (pieces_along cut edges) = ap length are.pieces.pieces ∙ ap (λ (es : List Edge). length (pieces_along cut es)) (sym same) in
    let each = some_pieces cut edges (length edges) (rules_hold cut) (omega arith) in
    let whole : length edges ≤ length (pieces_along cut edges) = subst (λ (es : List Edge). length edges ≤ length (pieces_along cut es)) (take_all (length edges) edges (omega arith)) each in
    omega (arith, added_few rules bars pixels [] edges all added, pieces, whole, length-pieces fs)
