-- What is found of a placement.
use Rattle.std.specs.Prelude.{◌≡◌, ℕ, ℤ, ◌<ℤ◌, Option, Some, None, List}
use Rattle.outline_model.specs.declared.fragment.Fragment.{Fragment}
use Rattle.opc_base.specs.declared.rules.MaskRules.{MaskRules}
use Rattle.opc_base.specs.declared.broken.RuleName.{RuleName}
use Rattle.opc_base.specs.declared.broken.Place.{Place}
use Rattle.opc_base.specs.declared.broken.Place.TheVariants.{Fragment as FragmentNumber}
use Rattle.outline_model.specs.Outline.{low_end, high_end}
use Rattle.outline_model.specs.Rules.{Breaks, IsFirstBroken, KeepsRules}
use Rattle.opc_base.specs.declared.broken.Broken.{Broken}

abbrev pub IsOrdered : List Fragment → (ℕ → ℤ) → ℕ → Type 0
IsOrdered fs line k = low_end fs line k <ℤ high_end fs line k

abbrev pub broken_fragment : RuleName → ℕ → Broken
broken_fragment rule k = record { rule = rule; at = FragmentNumber k }

-- no place breaks the rule
abbrev pub NoneBreaks : MaskRules → List Fragment → List ℤ → RuleName → Type 0
NoneBreaks rules fs offsets rule = (place : Place) → ¬ Breaks rules fs offsets rule place

-- the first broken rule, or `None` where all hold
pub record IsJudged (rules : MaskRules) (fs : List Fragment) (offsets : List ℤ) (verdict : Option Broken) : Type 0 where
  pub broken : (b : Broken) → verdict ≡ Some b → IsFirstBroken rules fs offsets b.rule b.at
  pub kept : verdict ≡ None → KeepsRules rules fs offsets
