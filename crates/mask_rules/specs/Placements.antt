-- Fragments at offsets, but for one of them.
use Rattle.std.specs.Prelude.{ℕ, ◌<◌, ℤ, pos, neg_ℤ, ◌≤ℤ◌, length, get_or, set}
use Rattle.outline_model.specs.Limits.{IsOffsets}
use Rattle.outline_model.specs.Ranges.{IsWithin}
use Rattle.outline_model.specs.Outline.{lines}
use Rattle.mask_rules.specs.declared.placement.Placement.{Placement}

-- the offset is at most this far inward or outward
abbrev pub IsNearOffset : ℤ → ℤ → Type 0
IsNearOffset reach offset = (neg_ℤ reach ≤ℤ offset) × (offset ≤ℤ reach)

pub record IsPlacement (p : Placement) : Type 0 where
  pub offsets_within : IsOffsets p.fragments.now p.offsets.now
  pub moved_below : p.moved < length p.fragments.now
  pub to_within : IsWithin 128 p.to
  pub reach_least : pos 0 ≤ℤ p.reach
  pub reach_most : p.reach ≤ℤ pos 128
  pub offsets_near : (k : ℕ) → k < length p.fragments.now → IsNearOffset p.reach (get_or p.offsets.now k (pos 0))
  pub to_near : IsNearOffset p.reach p.to

abbrev pub line_of : Placement → ℕ → ℤ
line_of p = lines p.fragments.now (set p.offsets.now p.moved p.to)

-- where the lines lie where the fragment has this offset instead
abbrev pub line_to : Placement → ℤ → ℕ → ℤ
line_to p to = lines p.fragments.now (set p.offsets.now p.moved to)
