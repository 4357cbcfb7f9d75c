-- The stretches that the move of one fragment can have changed.
use Rattle.std.specs.Prelude.{ℕ, ℤ, ◌≤ℤ◌, Bool, List}
use Rattle.fragment.specs.Index.{IsInside}
use Rattle.outline_model.specs.declared.fragment.Fragment.{Fragment}
use Rattle.outline_model.specs.Outline.{next, previous}
use Rattle.opc_base.specs.declared.plane.Rect.{Rect}
use Rattle.opc_base.specs.declared.rules.MaskRules.{MaskRules}
use Rattle.mask_rules.specs.declared.first.Found.{Found}
use Rattle.mask_rules.specs.declared.search.Changed.{Changed}
use Rattle.mask_rules.specs.declared.stretch.Stretch.{Stretch}
use Rattle.mask_rules.specs.Clashes.{clash_area}
use Rattle.mask_rules.specs.Found.{earlier_each, pair_found}
use Rattle.mask_rules.specs.Limits.{IsStretchWithin}
use Rattle.mask_rules.specs.Stretches.{stretch_at}

-- only fragment i's stretches, and those of the fragments before and after it
abbrev pub changed_at : List Fragment → (ℕ → ℤ) → Bool → ℕ → Changed
changed_at fs line v i = record { before = stretch_at fs line v (previous fs i); beside = stretch_at fs line v i; after = stretch_at fs line v (next fs i) }

pub record AreWithin (c : Changed) : Type 0 where
  pub before : IsStretchWithin c.before
  pub beside : IsStretchWithin c.beside
  pub after : IsStretchWithin c.after

-- the rectangle has the places at which others can clash with the stretches
pub record HasClashes (rules : MaskRules) (v : Bool) (c : Changed) (area : Rect) : Type 0 where
  pub far : ℤ
  pub width : rules.width ≤ℤ far
  pub space : rules.space ≤ℤ far
  pub before : IsInside (clash_area far v c.before) area
  pub beside : IsInside (clash_area far v c.beside) area
  pub after : IsInside (clash_area far v c.after) area

-- the first pixel of each kind of clash of the stretches with another
abbrev pub changed_found : MaskRules → Bool → Changed → Stretch → Found
changed_found rules v c s = earlier_each (earlier_each (pair_found rules v c.before s) (pair_found rules v c.beside s)) (pair_found rules v c.after s)
