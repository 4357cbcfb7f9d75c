-- Offsets that keep all rules, before and after a move.
use Rattle.std.proofs.Common.{◌≡◌, ℕ, ◌<◌, ℤ, pos, ◌≤ℤ◌, int_le, Bool, true, false, List, length, set, replicate, All, refl, ◌∙◌, arith}
use Rattle.std.proofs.lemmas.Int.{ints}
use Rattle.std.proofs.lemmas.List.{length-replicate, length-set}
use Rattle.opc_base.specs.declared.broken.RuleName.TheVariants.{M4}
use Rattle.opc_base.specs.declared.broken.Place.TheVariants.{Fragment as FragmentNumber}
use Rattle.opc_base.specs.declared.plane.Rect.{Rect}
use Rattle.opc_base.specs.declared.rules.MaskRules.{MaskRules}
use Rattle.opc_base.specs.Canonical.{AreCanonical}
use Rattle.opc_base.specs.Plane.{IsRectWithin, cover}
use Rattle.outline_model.specs.declared.fragment.Fragment.{Fragment}
use Rattle.outline_model.specs.Limits.{IsFragmentList, IsOffsets}
use Rattle.outline_model.specs.Outline.{lines, low_end, high_end}
use Rattle.outline_model.specs.Rules.{KeepsRules}
use Rattle.outline_model.specs.Target.{IsBoundary}
use Rattle.outline_model.proofs.TargetMask.{get_or-zeros}
use Rattle.mask_rules.specs.TargetRules.{KeepsTarget}
use Rattle.mask_rules.proofs.RestLaws.{unmoved_keeps}
use Rattle.mask_rules.proofs.RuleOffsets.{offsets_of_rules}

-- where nothing has moved, all rules are kept
pub at_first : (rules : MaskRules) (rects : List Rect) (fs : List Fragment) → AreCanonical rects → All (IsRectWithin 1048000) rects
    → IsFragmentList fs → IsBoundary (cover rects) fs → KeepsTarget rules (cover rects)
    → IsOffsets fs (replicate (length fs) (pos 0)) × KeepsRules rules fs (replicate (length fs) (pos 0))
at_first rules rects fs canonical within list boundary keeps = (
  record {
    one_each = length-replicate (length fs) (pos 0);
    within = λ k below. (let zero = get_or-zeros (length fs) k in (omega (arith, ints), omega (arith, ints)));
  },
  unmoved_keeps rules rects fs (replicate (length fs) (pos 0))
      (record { canonical = canonical; within = within; list = list; boundary = boundary; zero = get_or-zeros (length fs) })
      keeps,
)

-- after a move that keeps all rules, each offset is within the reach of a move
pub after_move : (rules : MaskRules) (fs : List Fragment) (offsets : List ℤ) (i : ℕ) (to : ℤ) → IsOffsets fs offsets
    → KeepsRules rules fs (set offsets i to) → IsOffsets fs (set offsets i to)
after_move rules fs offsets i to before keeps = offsets_of_rules rules fs (set offsets i to) (length-set offsets i to ∙ before.one_each) keeps

-- where all rules hold, the ends of each fragment are in order
pub ends_in_order : (rules : MaskRules) (fs : List Fragment) (offsets : List ℤ) (k : ℕ) → KeepsRules rules fs offsets → k < length fs
    → low_end fs (lines fs offsets) k ≤ℤ high_end fs (lines fs offsets) k
ends_in_order rules fs offsets k keeps below = by (int_le low high) refl
  where
    low : ℤ
    low = low_end fs (lines fs offsets) k

    high : ℤ
    high = high_end fs (lines fs offsets) k

    by : (t : Bool) → int_le low high ≡ t → low ≤ℤ high
    by true e = omega (arith, ints)
    by false e = absurd (keeps M4 (FragmentNumber k) (below, λ above. omega (arith, ints)))
