-- A run in which only the fragments of the target are corrected, and what it leaves of bars.
use Rattle.std.specs.Prelude.{◌≡◌, ◌↔◌, ℕ, ◌<◌, ℤ, pos, ◌≤ℤ◌, Bool, true, false, IsTrue, if◌then◌else◌, List, length, get_or}
use Rattle.opc_base.specs.Optics.{intensity}
use Rattle.opc_base.specs.Plane.{PixelSet, rect_cover}
use Rattle.opc_base.specs.declared.moves.RoundSummary.{RoundSummary}
use Rattle.opc_base.specs.declared.plane.Rect.{Rect}
use Rattle.outline_model.specs.Outline.{fragment_at}
use Rattle.opc_session.specs.Moves.{offset_at}
use Rattle.opc_session.specs.Sessions.{SessionValue, error_at, mask_of}
use Rattle.assist_bars.specs.Bars.{is_own}
use Rattle.opc_engine.specs.BarStages.{BarSubject}
use Rattle.opc_engine.specs.Runs.{Counted, IsRunBy}

-- The error of a fragment of the target. A bar's fragment counts as one without an error, so it has no wish and stays.
abbrev pub own_error : PixelSet → Counted
own_error target s i = if is_own target (fragment_at s.fragments i) then error_at s i else pos 0

-- a run by the errors of the target's fragments alone
abbrev pub IsBarRun : BarSubject → List ℤ → List RoundSummary → Type 0
IsBarRun b offsets rounds = IsRunBy (own_error b.target) b.whole offsets rounds

-- the fragments of bars have not moved
abbrev pub AreStill : BarSubject → List ℤ → Type 0
AreStill b offsets =
    (i : ℕ) → i < length b.whole.fragments → is_own b.target (fragment_at b.whole.fragments i) ≡ false → offset_at offsets i ≡ pos 0

-- ---- whether bars print

-- a pixel of the rectangle has an intensity of at least the threshold
pub record Prints (s : SessionValue) (r : Rect) : Type 0 where
  pub x : ℤ
  pub y : ℤ
  pub inside : rect_cover r x y ≡ true
  pub bright : s.rules.site.threshold ≤ℤ intensity s.set (mask_of s) x y

abbrev pub bar_at : List Rect → ℕ → Rect
bar_at bars k = get_or bars k (record { x0 = pos 0; y0 = pos 0; x1 = pos 0; y1 = pos 0 })

-- one flag for each bar: whether it prints
pub record ArePrinted (s : SessionValue) (bars : List Rect) (flags : List Bool) : Type 0 where
  pub count : length flags ≡ length bars
  pub each : (k : ℕ) → k < length bars → IsTrue (get_or flags k false) ↔ Prints s (bar_at bars k)
