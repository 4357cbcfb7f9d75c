-- The fragments of a region, as they are found.
use Rattle.std.proofs.Common.{◌≡◌, ℕ, ◌<◌, ◌≤◌, ℤ, pos, true, false, List, length, replicate, All, sym, ◌∙◌, ap, subst, arith}
use Rattle.opc_base.specs.declared.plane.Rect.{Rect}
use Rattle.opc_base.specs.declared.rules.CutRules.{CutRules}
use Rattle.opc_base.specs.Canonical.{AreCanonical}
use Rattle.opc_base.specs.Plane.{IsRectWithin, cover}
use Rattle.opc_base.specs.Runs.{IsCornerTouch}
use Rattle.outline_model.specs.declared.fragment.Fragment.{Fragment}
use Rattle.outline_model.specs.declared.piece.EdgePiece.{EdgePiece}
use Rattle.outline_model.specs.Fragmentation.{AreFragments, ArePieces}
use Rattle.outline_model.specs.Limits.{IsFragmentList}
use Rattle.outline_model.specs.Outline.{lines, mask}
use Rattle.outline_model.specs.Target.{IsBoundary}
use Rattle.outline_model.proofs.TargetMask.{get_or-zeros, unmoved_mask}
use Rattle.cutting.specs.Ends.{AreJoinedPieces, IsMet, piece_at}
use Rattle.cutting.proofs.FragmentLaws.{fragments_of_joined, list_of_fragments, met_next, met_previous, rules_hold}

abbrev NoTouch : List Rect → Type 0
NoTouch rects = (x y : ℤ) → ¬ IsCornerTouch (cover rects) x y

pub met_both : (region rects : List Rect) (rules : CutRules) (made ps : List EdgePiece) → rects ≡ region → ps ≡ made
    → ((x y : ℤ) → ¬ IsCornerTouch (cover region) x y) → ArePieces (cover rects) rules made
    → (k : ℕ) → k < length ps → IsMet true ps (piece_at ps k) × IsMet false ps (piece_at ps k)
met_both region rects rules made ps same lent none pieces k below =
    let are = rules_hold rules in
    let here = subst (ArePieces (cover rects) rules) (sym lent) pieces in
    let apart = subst NoTouch (sym same) none in
    (met_next (cover rects) rules ps k are apart here below, met_previous (cover rects) rules ps k are apart here below)

pub cut_fragments : (region rects : List Rect) (rules : CutRules) (made ps : List EdgePiece) (fs : List Fragment) → rects ≡ region → ps ≡ made
    → ArePieces (cover rects) rules made → AreJoinedPieces ps (length ps) fs → AreFragments (cover region) rules fs
cut_fragments region rects rules made ps fs same lent pieces joined =
    subst (λ rs. AreFragments (cover rs) rules fs) same
    (fragments_of_joined (cover rects) rules ps fs (subst (ArePieces (cover rects) rules) (sym lent) pieces) joined)

pub cut_known : (region rects : List Rect) (rules : CutRules) (made ps : List EdgePiece) (fs : List Fragment) → rects ≡ region → ps ≡ made
    → AreCanonical region → All (IsRectWithin 1048000) region → ((x y : ℤ) → ¬ IsCornerTouch (cover region) x y)
    → ArePieces (cover rects) rules made → length made ≤ 32768 → AreJoinedPieces ps (length ps) fs
    → IsBoundary (cover region) fs × IsFragmentList fs
cut_known region rects rules made ps fs same lent canonical placed none pieces few joined =
    let all : length fs ≡ length made = joined.count ∙ ap length lent in
    list_of_fragments region rules fs canonical placed none (cut_fragments region rects rules made ps fs same lent pieces joined) (omega arith)

pub cut_unmoved : (region : List Rect) (fs : List Fragment) → AreCanonical region → All (IsRectWithin 1048000) region → IsBoundary (cover region) fs → IsFragmentList fs
    → (x y : ℤ) → mask fs (lines fs (replicate (length fs) (pos 0))) x y ≡ cover region x y
cut_unmoved region fs canonical placed boundary list x y =
    unmoved_mask region fs (replicate (length fs) (pos 0)) x y
    (record { canonical = canonical; within = placed; list = list; boundary = boundary; zero = get_or-zeros (length fs) })
