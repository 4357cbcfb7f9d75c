-- The window of a target: which pixels of a mask are printed.
use Rattle.std.specs.Prelude.{◌≡◌, ◌⊎◌, nat_lt, ℤ, pos, negsuc, ◌+ℤ◌, ◌-ℤ◌, if◌then◌else◌, true, false, Result, Ok, Err}
use Rattle.std.specs.Int.{int_max, int_min}
use Rattle.opc_base.specs.Plane.{PixelSet, rect_cover}
use Rattle.opc_base.specs.declared.plane.Rect.{Rect}
use Rattle.print_check.specs.Near.{Encloses}
use Rattle.print_check.specs.Tiles.{area_of}
use Rattle.opc_engine.specs.declared.fault.EngineFault.{EngineFault}
use Rattle.opc_engine.specs.declared.fault.EngineFault.TheVariants as fault
use Rattle.opc_engine.specs.declared.limits.TheConstants.{MAX_WINDOW}
use Rattle.opc_engine.specs.Prepare.{Subject}

-- the rectangle has all pixels of the set
abbrev pub HasAll : Rect → PixelSet → Type 0
HasAll box pixels = (x y : ℤ) → pixels x y ≡ true → rect_cover box x y ≡ true

-- the least rectangle that has them; a set without pixels has none
pub record IsLeastRect (pixels : PixelSet) (box : Rect) : Type 0 where
  pub has : HasAll box pixels
  pub least : (other : Rect) → HasAll other pixels → Encloses other box

-- the pixels at most so far from a rectangle, as far as a mask can reach
abbrev pub window_round : ℤ → Rect → Rect
window_round margin box = record {
  x0 = int_max (negsuc 1048127) (box.x0 -ℤ margin);
  y0 = int_max (negsuc 1048127) (box.y0 -ℤ margin);
  x1 = int_min (pos 1048128) (box.x1 +ℤ margin);
  y1 = int_min (pos 1048128) (box.y1 +ℤ margin);
}

-- the window without a pixel
abbrev pub no_window : Rect
no_window = record { x0 = pos 0; y0 = pos 0; x1 = pos 0; y1 = pos 0 }

abbrev pub IsWindow : PixelSet → ℤ → Rect → Type 0
IsWindow target margin window =
    (((x y : ℤ) → target x y ≡ false) × (window ≡ no_window))
    ⊎ ((box : Rect) × (IsLeastRect target box × (window ≡ window_round margin box)))

-- how far a mask can lie outside its target, and be seen from there
abbrev pub margin_of : Subject → ℤ
margin_of s = s.rules.mover.max_out +ℤ pos s.set.reach

abbrev pub window_or_fault : Rect → Result Rect EngineFault
window_or_fault window = if nat_lt MAX_WINDOW (area_of window) then Err (fault.TooWide (area_of window)) else Ok window

-- the window of a subject, unless it has too many pixels
abbrev pub WindowGives : Subject → Result Rect EngineFault → Type 0
WindowGives s result = (window : Rect) × (IsWindow s.target (margin_of s) window × (result ≡ window_or_fault window))
