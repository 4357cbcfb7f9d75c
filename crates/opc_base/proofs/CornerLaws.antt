-- The sum over a set is the signed sum of the blocks at its corners.
use Rattle.std.proofs.Common.{◌≡◌, ℕ, Bool, ℤ, pos, ◌-ℤ◌, ◌*ℤ◌, ◌&&◌, int_le, if◌then◌else◌, List, ap, ◌∙◌, sym, arith}
use Rattle.std.proofs.lemmas.Int.{ints}
use Rattle.opc_base.specs.Blocks.{block, seen_sum}
use Rattle.opc_base.specs.Lanes.{AddUpNear}
use Rattle.opc_base.specs.Plane.{PixelSet}
use Rattle.opc_base.specs.Sums.{sum_each}
use Rattle.opc_base.specs.declared.plane.Corner.{Corner}
use Rattle.opc_base.proofs.SumLaws.{sum_window-same_within, sum_window-sum_each, sum_window-scale, sum_each-same, sum_each-scale}
use Rattle.opc_base.proofs.BlockLaws.{right_of}

picked : (b : Bool) (e : ℤ) → (if b then e else pos 0) ≡ e *ℤ (if b then pos 1 else pos 0)
picked b e = grind (arith, ints)

-- one corner's share at one place of the kernel
corner_share : (a b : Bool) (sign e : ℤ) → e *ℤ (if a && b then sign else pos 0) ≡ sign *ℤ (if a && b then e else pos 0)
corner_share a b sign e = grind (arith, ints)

pub seen_sum-corners : (r : ℕ) (k : ℤ → ℤ → ℤ) (pixels : PixelSet) (corners : List Corner) (x y : ℤ) → AddUpNear r corners pixels x y →
    seen_sum r k pixels x y ≡ sum_each (λ (c : Corner). c.sign *ℤ block r k (x -ℤ c.x) (y -ℤ c.y)) corners
seen_sum-corners r k pixels corners x y counted =
    let share : Corner → ℤ → ℤ → ℤ = λ c u v. c.sign *ℤ (if int_le u (x -ℤ c.x) && int_le v (y -ℤ c.y) then k u v else pos 0) in
    sum_window-same_within r _ (λ u v. sum_each (λ c. share c u v) corners) (λ u v low_u high_u low_v high_v.
    picked (pixels (x -ℤ u) (y -ℤ v)) (k u v)
    ∙ ap (λ s. k u v *ℤ s) (sym (counted.each u v (omega (arith, ints)) (omega (arith, ints))))
    ∙ sym (sum_each-scale (k u v) (λ c. if int_le c.x (x -ℤ u) && int_le c.y (y -ℤ v) then c.sign else pos 0) corners)
    ∙ sum_each-same _ (λ c. share c u v) corners (λ c.
    rw (right_of c.x x u, right_of c.y y v) (corner_share (int_le u (x -ℤ c.x)) (int_le v (y -ℤ c.y)) c.sign (k u v))))
    ∙ sum_window-sum_each r share corners
    ∙ sum_each-same _ _ corners (λ c. sum_window-scale r c.sign (λ u v. if int_le u (x -ℤ c.x) && int_le v (y -ℤ c.y) then k u v else pos 0))
