-- What the files and the numbers of scatter bars give for a correction, and the stages in which they are judged.
use Rattle.std.specs.Prelude.{◌≡◌, ◌⊎◌, ℕ, ◌≤ℤ◌, ◌<ℤ◌, ◌-ℤ◌, ◌||◌, Result, Ok, Err, List}
use Rattle.opc_base.specs.Plane.{PixelSet, cover}
use Rattle.opc_base.specs.declared.plane.Rect.{Rect}
use Rattle.opc_base.specs.declared.rules.MaskRules.{MaskRules}
use Rattle.assist_bars.specs.Bars.{AreBars, SuitMask}
use Rattle.assist_bars.specs.declared.bar_rules.BarRules.{BarRules}
use Rattle.opc_engine.specs.declared.bar_key.BarKey.{BarKey}
use Rattle.opc_engine.specs.declared.bar_key.BarKey.TheVariants.{Gap, Width, Min}
use Rattle.opc_engine.specs.declared.fault.EngineFault.{EngineFault}
use Rattle.opc_engine.specs.declared.fault.EngineFault.TheVariants as fault
use Rattle.opc_engine.specs.Prepare.{CutGives, PreparesBy, RulesGive, Subject}
use Rattle.opc_engine.specs.Stages.{Then}

-- a target and its bars in order; and what is corrected: the target with its bars, and the fragments of both
pub record BarSubject : Type 0 where
  pub target : PixelSet
  pub bars : List Rect
  pub whole : Subject

-- the first of the numbers that doesn't suit the mask rules: bars too near their edges, too narrow, or too short where
-- their edge is as short as may be
abbrev pub IsBadKey : MaskRules → BarRules → BarKey → Type 0
IsBadKey rules bars Gap = bars.gap <ℤ rules.space
IsBadKey rules bars Width = (rules.space ≤ℤ bars.gap) × (bars.width <ℤ rules.width)
IsBadKey rules bars Min = (rules.space ≤ℤ bars.gap) × (rules.width ≤ℤ bars.width) × ((bars.min -ℤ bars.end -ℤ bars.end) <ℤ rules.width)

-- numbers that suit the mask rules, unless one doesn't
abbrev pub NumbersSuit : MaskRules → BarRules → Result BarRules EngineFault → Type 0
NumbersSuit rules bars result =
    ((key : BarKey) × (IsBadKey rules bars key × (result ≡ Err (fault.BadBars key))))
    ⊎ (SuitMask rules bars × (result ≡ Ok bars))

-- the target with its bars
abbrev pub with_bars : PixelSet → List Rect → PixelSet
with_bars target bars x y = target x y || cover bars x y

-- the bars of what is ready, which are never refused
abbrev pub BarsGive : BarRules → Subject → Result (List Rect) EngineFault → Type 0
BarsGive bars s result = (kept : List Rect) × (AreBars s.rules.mask bars s.target kept × (result ≡ Ok kept))

-- what is corrected of a subject and its bars, unless the target with its bars has too many fragments
abbrev pub WholeGives : Subject → List Rect → Result BarSubject EngineFault → Type 0
WholeGives s bars =
    Then (CutGives s.rules.cut (with_bars s.target bars)) (λ fragments result.
    result ≡ Ok (record {
      target = s.target;
      bars = bars;
      whole = record { head = s.head; target = with_bars s.target bars; fragments = fragments; set = s.set; rules = s.rules };
    }))

-- What the three files and the numbers give for a correction with bars, or the first refusal: the numbers are judged right
-- after the rule file, and the target is cut alone before it is cut with its bars.
abbrev pub PreparesBars : List ℕ → List ℕ → List ℕ → BarRules → Result BarSubject EngineFault → Type 0
PreparesBars layout kernels rules bars =
    Then (RulesGive rules) (λ r.
    Then (NumbersSuit r.mask bars) (λ _.
    Then (PreparesBy layout kernels r) (λ s.
    Then (BarsGive bars s) (λ kept.
    WholeGives s kept))))
