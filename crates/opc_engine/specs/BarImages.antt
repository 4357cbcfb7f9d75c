-- Rectangles of which a pixel prints under a mask, as the code has it.
use Rattle.std.specs.Prelude.{◌≡◌, ◌↔◌, ℕ, ◌<◌, ◌≤◌, ℤ, pos, ◌-ℤ◌, ◌≤ℤ◌, Bool, true, false, IsTrue, List, All, length, get_or}
use Rattle.opc_base.specs.Lanes.{weights_of}
use Rattle.opc_base.specs.Plane.{IsRectWithin, cover, rect_cover}
use Rattle.opc_base.specs.declared.plane.Rect.{Rect}
use Rattle.print_check.specs.Printed.{prints}
use Rattle.opc_engine.specs.BarRuns.{bar_at}
use Rattle.opc_engine.specs.declared.bar_print.Light.{Light}

-- a mask of few rectangles near the origin, and the weights of the kernels
pub record IsLight (l : Light) : Type 0 where
  pub near : All (IsRectWithin 1048128) l.mask.now
  pub few : length l.mask.now ≤ 262144
  pub weights : l.weights.now ≡ weights_of l.tables.now

-- a pixel of the rectangle prints
pub record HasPrinted (l : Light) (r : Rect) : Type 0 where
  pub x : ℤ
  pub y : ℤ
  pub inside : rect_cover r x y ≡ true
  pub bright : prints l.tables.now (cover l.mask.now) l.rules.now.site.threshold x y ≡ true

-- one flag for each bar
pub record AreFlags (l : Light) (bars : List Rect) (flags : List Bool) : Type 0 where
  pub count : length flags ≡ length bars
  pub each : (k : ℕ) → k < length bars → IsTrue (get_or flags k false) ↔ HasPrinted l (bar_at bars k)

-- some rows of a rectangle, and some columns
abbrev pub band_of : Rect → ℤ → ℤ → Rect
band_of r y0 y1 = record { x0 = r.x0; y0 = y0; x1 = r.x1; y1 = y1 }

abbrev pub window_of : Rect → ℤ → ℤ → Rect
window_of r x0 x1 = record { x0 = x0; y0 = r.y0; x1 = x1; y1 = r.y1 }

-- of few rows
pub record IsInBand (band : Rect) : Type 0 where
  pub near : IsRectWithin 1048000 band
  pub low : (band.y1 -ℤ band.y0) ≤ℤ pos 2048

-- and of few columns
pub record IsSmallWindow (window : Rect) : Type 0 where
  pub near : IsRectWithin 1048000 window
  pub low : (window.y1 -ℤ window.y0) ≤ℤ pos 2048
  pub narrow : (window.x1 -ℤ window.x0) ≤ℤ pos 2048
