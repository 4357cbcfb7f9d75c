-- Pixels near a rectangle.
use Rattle.std.specs.Prelude.{ℕ, ℤ, ◌+ℤ◌, ◌-ℤ◌, ◌≤ℤ◌, ◌<ℤ◌, if◌then◌else◌, List}
use Rattle.outline_model.specs.declared.fragment.Fragment.{Fragment}
use Rattle.opc_base.specs.declared.plane.Rect.{Rect}
use Rattle.outline_model.specs.Outline.{fragment_at, is_vertical}

-- the rectangle grown by `reach` on all sides covers the pixel
pub record IsNear (r : Rect) (reach x y : ℤ) : Type 0 where
  pub left : (r.x0 -ℤ reach) ≤ℤ x
  pub right : x <ℤ (r.x1 +ℤ reach)
  pub below : (r.y0 -ℤ reach) ≤ℤ y
  pub above : y <ℤ (r.y1 +ℤ reach)

-- the pixel has the piece on its left or lower side, or within `reach` of it
pub record IsWithinReach (f : Fragment) (reach x y : ℤ) : Type 0 where
  pub left : ((if is_vertical f.side then f.edge else f.lo) -ℤ reach) ≤ℤ x
  pub right : x ≤ℤ ((if is_vertical f.side then f.edge else f.hi) +ℤ reach)
  pub below : ((if is_vertical f.side then f.lo else f.edge) -ℤ reach) ≤ℤ y
  pub above : y ≤ℤ ((if is_vertical f.side then f.hi else f.edge) +ℤ reach)

-- each line is within `reach` of its edge
abbrev pub KeepNear : List Fragment → (ℕ → ℤ) → ℤ → Type 0
KeepNear fs line reach =
    (k : ℕ) → (((fragment_at fs k).edge -ℤ reach) ≤ℤ line k) × (line k ≤ℤ ((fragment_at fs k).edge +ℤ reach))
