-- The rules of a target, and where one of them is broken.
use Rattle.std.specs.Prelude.{◌<◌, Option, Some, None}
use Rattle.opc_base.specs.declared.plane.Pix.{Pix}
use Rattle.opc_base.specs.declared.rules.MaskRules.{MaskRules}
use Rattle.opc_base.specs.declared.broken.Broken.{Broken}
use Rattle.opc_base.specs.declared.broken.RuleName.{RuleName}
use Rattle.opc_base.specs.declared.broken.RuleName.TheVariants.{M1, M2, M3}
use Rattle.opc_base.specs.declared.broken.Place.{Place}
use Rattle.opc_base.specs.declared.broken.Place.TheVariants.{Pixel, Fragment as FragmentNumber}
use Rattle.opc_base.specs.Plane.{PixelSet}
use Rattle.outline_model.specs.Rules.{BreaksRuns, ComesBefore, rank}

-- a target is judged by its runs and corners, at pixels alone
abbrev pub BreaksTarget : MaskRules → PixelSet → RuleName → Place → Type 0
BreaksTarget rules pixels rule (Pixel p) = BreaksRuns rules pixels rule p
BreaksTarget rules pixels rule (FragmentNumber k) = ⊥

-- the target keeps all of them
abbrev pub KeepsTarget : MaskRules → PixelSet → Type 0
KeepsTarget rules pixels = (rule : RuleName) (place : Place) → ¬ BreaksTarget rules pixels rule place

-- the first broken one in the order M1, M2, M3, with its first pixel
pub record IsFirstBrokenOf (rules : MaskRules) (pixels : PixelSet) (b : Broken) : Type 0 where
  pub broken : BreaksTarget rules pixels b.rule b.at
  pub rules_before : (rule : RuleName) (place : Place) → rank rule < rank b.rule → ¬ BreaksTarget rules pixels rule place
  pub places_before : (place : Place) → ComesBefore place b.at → ¬ BreaksTarget rules pixels b.rule place

abbrev pub at_pixel : RuleName → Pix → Broken
at_pixel rule p = record { rule = rule; at = Pixel p }

-- the first of the three rules for which there is a pixel
abbrev pub verdict : Option Pix → Option Pix → Option Pix → Option Broken
verdict (Some p) tight touch = Some (at_pixel M1 p)
verdict None (Some p) touch = Some (at_pixel M2 p)
verdict None None (Some p) = Some (at_pixel M3 p)
verdict None None None = None
