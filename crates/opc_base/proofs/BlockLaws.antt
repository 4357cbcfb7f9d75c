-- A rectangle's sum is a difference of four blocks.
use Rattle.std.proofs.Common.{◌≡◌, ℕ, Bool, true, not, ℤ, pos, ◌+ℤ◌, ◌-ℤ◌, ◌≤ℤ◌, ◌&&◌, int_le, int_lt, if◌then◌else◌, ap, ◌∙◌, arith}
use Rattle.std.proofs.lemmas.Int.{ints}
use Rattle.opc_base.specs.Blocks.{seen_sum, four_blocks}
use Rattle.opc_base.specs.Plane.{rect_cover, IsOrdered}
use Rattle.opc_base.specs.Sums.{sum_window}
use Rattle.opc_base.specs.declared.plane.Rect.{Rect}
use Rattle.opc_base.proofs.SumLaws.{sum_window-add, sum_window-sub, sum_window-same}

-- the pixel x - u is at or right of a side exactly where u is at most what x is past the side
pub right_of : (a x u : ℤ) → int_le a (x -ℤ u) ≡ int_le u (x -ℤ a)
right_of a x u = grind (arith, ints)

left_of : (b x u : ℤ) → int_lt (x -ℤ u) b ≡ not (int_le u (x -ℤ b))
left_of b x u = grind (arith, ints)

nested : (a b x u : ℤ) → a ≤ℤ b → int_le u (x -ℤ b) ≡ true → int_le u (x -ℤ a) ≡ true
nested a b x u ordered inner = grind (arith, ints)

four : (a b c d : Bool) (e : ℤ) → (b ≡ true → a ≡ true) → (d ≡ true → c ≡ true) →
    (if a && not b && c && not d then e else pos 0)
    ≡ (if a && c then e else pos 0) -ℤ (if b && c then e else pos 0) -ℤ (if a && d then e else pos 0) +ℤ (if b && d then e else pos 0)
four a b c d e f g = grind (arith, ints)

-- at one place of the kernel
in_rect : (x0 x1 y0 y1 x y u v e : ℤ) → x0 ≤ℤ x1 → y0 ≤ℤ y1 →
    (if int_le x0 (x -ℤ u) && int_lt (x -ℤ u) x1 && int_le y0 (y -ℤ v) && int_lt (y -ℤ v) y1 then e else pos 0)
    ≡ (if int_le u (x -ℤ x0) && int_le v (y -ℤ y0) then e else pos 0)
    -ℤ (if int_le u (x -ℤ x1) && int_le v (y -ℤ y0) then e else pos 0)
    -ℤ (if int_le u (x -ℤ x0) && int_le v (y -ℤ y1) then e else pos 0)
    +ℤ (if int_le u (x -ℤ x1) && int_le v (y -ℤ y1) then e else pos 0)
in_rect x0 x1 y0 y1 x y u v e p q =
    rw (right_of x0 x u, left_of x1 x u, right_of y0 y v, left_of y1 y v)
    (four (int_le u (x -ℤ x0)) (int_le u (x -ℤ x1)) (int_le v (y -ℤ y0)) (int_le v (y -ℤ y1)) e (nested x0 x1 x u p) (nested y0 y1 y v q))

-- the sum over a rectangle is the difference of its four blocks, wherever the rectangle lies
pub seen_sum-rect : (r : ℕ) (k : ℤ → ℤ → ℤ) (rect : Rect) (x y : ℤ) → IsOrdered rect →
    seen_sum r k (rect_cover rect) x y ≡ four_blocks r k rect x y
seen_sum-rect r k rect x y ordered =
    let at : ℤ → ℤ → ℤ → ℤ → ℤ = λ dx dy u v. if int_le u dx && int_le v dy then k u v else pos 0 in
    let a : ℤ → ℤ → ℤ = at (x -ℤ rect.x0) (y -ℤ rect.y0) in
    let b : ℤ → ℤ → ℤ = at (x -ℤ rect.x1) (y -ℤ rect.y0) in
    let c : ℤ → ℤ → ℤ = at (x -ℤ rect.x0) (y -ℤ rect.y1) in
    let d : ℤ → ℤ → ℤ = at (x -ℤ rect.x1) (y -ℤ rect.y1) in
    sum_window-same r _ (λ u v. a u v -ℤ b u v -ℤ c u v +ℤ d u v) (λ u v. in_rect rect.x0 rect.x1 rect.y0 rect.y1 x y u v (k u v) ordered.0 ordered.1)
    ∙ sum_window-add r (λ u v. a u v -ℤ b u v -ℤ c u v) d
    ∙ ap (λ s. s +ℤ sum_window r d) (sum_window-sub r (λ u v. a u v -ℤ b u v) c ∙ ap (λ s. s -ℤ sum_window r c) (sum_window-sub r a b))
