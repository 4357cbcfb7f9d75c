-- How large the numbers are.
use Rattle.std.specs.Prelude.{pos, ◌≤ℤ◌}
use Rattle.opc_base.specs.declared.plane.Rect.{Rect}
use Rattle.opc_base.specs.declared.rules.MaskRules.{MaskRules}
use Rattle.outline_model.specs.Ranges.{IsWithin}
use Rattle.mask_rules.specs.declared.stretch.Stretch.{Stretch}

pub record IsStretchWithin (s : Stretch) : Type 0 where
  pub at : IsWithin 1048128 s.at
  pub low : IsWithin 1048128 s.low
  pub high : IsWithin 1048128 s.high

pub record IsMaskRect (r : Rect) : Type 0 where
  pub x0 : IsWithin 1048128 r.x0
  pub y0 : IsWithin 1048128 r.y0

pub record IsRules (rules : MaskRules) : Type 0 where
  pub width_least : pos 1 ≤ℤ rules.width
  pub width_most : rules.width ≤ℤ pos 1024
  pub space_least : pos 1 ≤ℤ rules.space
  pub space_most : rules.space ≤ℤ pos 1024
  pub in_least : pos 0 ≤ℤ rules.max_in
  pub in_most : rules.max_in ≤ℤ pos 128
  pub out_least : pos 0 ≤ℤ rules.max_out
  pub out_most : rules.max_out ≤ℤ pos 128
