-- Where all rules hold, no offset is greater than they allow.
use Rattle.std.proofs.Common.{◌≡◌, ℕ, ◌<◌, ℤ, pos, neg_ℤ, ◌≤ℤ◌, Bool, true, false, List, length, get_or, int_le, refl, arith}
use Rattle.std.proofs.lemmas.Int.{ints}
use Rattle.opc_base.specs.declared.rules.MaskRules.{MaskRules}
use Rattle.opc_base.specs.declared.broken.RuleName.TheVariants.{M5}
use Rattle.opc_base.specs.declared.broken.Place.TheVariants.{Fragment as FragmentNumber}
use Rattle.outline_model.specs.declared.fragment.Fragment.{Fragment}
use Rattle.outline_model.specs.Limits.{IsOffsets}
use Rattle.outline_model.specs.Rules.{KeepsRules}
use Rattle.mask_rules.specs.Placements.{IsNearOffset}

pub near_of_rules : (rules : MaskRules) (fs : List Fragment) (offsets : List ℤ) (reach : ℤ) → KeepsRules rules fs offsets
    → rules.max_in ≤ℤ reach → rules.max_out ≤ℤ reach → (k : ℕ) → k < length fs → IsNearOffset reach (get_or offsets k (pos 0))
near_of_rules rules fs offsets reach keeps inward outward k below =
    by (int_le (neg_ℤ rules.max_in) (get_or offsets k (pos 0))) (int_le (get_or offsets k (pos 0)) rules.max_out) refl refl
  where
    by : (s t : Bool) → int_le (neg_ℤ rules.max_in) (get_or offsets k (pos 0)) ≡ s → int_le (get_or offsets k (pos 0)) rules.max_out ≡ t
        → IsNearOffset reach (get_or offsets k (pos 0))
    by true true e f = (omega (arith, ints), omega (arith, ints))
    by false t e f = absurd (keeps M5 (FragmentNumber k) (below, λ r. (let l = r.0 in omega (arith, ints))))
    by true false e f = absurd (keeps M5 (FragmentNumber k) (below, λ r. (let l = r.1 in omega (arith, ints))))

pub offsets_of_rules : (rules : MaskRules) (fs : List Fragment) (offsets : List ℤ) → length offsets ≡ length fs → KeepsRules rules fs offsets → IsOffsets fs offsets
offsets_of_rules rules fs offsets one_each keeps = record {
  one_each = one_each;
  within = near_of_rules rules fs offsets (pos 128) keeps rules.max_in_in_range.1 rules.max_out_in_range.1;
}
