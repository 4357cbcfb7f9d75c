-- Five points whose first and third are opposite, and whose second and fourth are too, walk round a rectangle.
use Rattle.std.proofs.Common.{◌≡◌, ◌≢◌, ◌⊎◌, inl, inr, ℤ, pos, ◌+ℤ◌, ◌-ℤ◌, int_eq, int_le, int_lt, Bool, true, false, not, ◌&&◌, if◌then◌else◌, List, [], ◌∷◌, length, get_or, refl, sym, ◌∙◌, ap, ap₂, arith}
use Rattle.std.specs.Int.{int_max, int_min}
use Rattle.std.proofs.lemmas.Int.{ints}
use Rattle.opc_base.specs.declared.plane.Pix.{Pix}
use Rattle.opc_base.specs.declared.plane.Rect.{Rect}
use Rattle.opc_base.specs.Cover.{IsPolygon, IsStraight, crossings}
use Rattle.opc_base.specs.Plane.{rect_cover}
use Rattle.rect_union.specs.Boxes.{AreOpposite, CoversWalk}

-- one of the two is below the number, and not the other
one_of : Bool → Bool → Bool
one_of p q = if p then not q else q

between : (a c x : ℤ) → (int_le (int_min a c) x && int_lt x (int_max a c)) ≡ (if int_le a x then not (int_le c x) else int_le c x)
between a c x = grind (arith, ints)

in_pairs : (a b c d : Bool) → (a && b && c && d) ≡ ((a && b) && (c && d))
in_pairs a b c d = grind arith

-- up or down first, and along first
counted_up : (p q s t : Bool) → ((if p then not q else q) && (if s then not t else t))
    ≡ not (int_eq ((if p then (if t then pos 1 else pos 0) -ℤ (if s then pos 1 else pos 0) else pos 0)
    +ℤ ((if p then (if t then pos 1 else pos 0) -ℤ (if t then pos 1 else pos 0) else pos 0)
    +ℤ ((if q then (if s then pos 1 else pos 0) -ℤ (if t then pos 1 else pos 0) else pos 0)
    +ℤ ((if q then (if s then pos 1 else pos 0) -ℤ (if s then pos 1 else pos 0) else pos 0) +ℤ pos 0)))) (pos 0))
counted_up true true true true = refl
counted_up true true true false = refl
counted_up true true false true = refl
counted_up true true false false = refl
counted_up true false true true = refl
counted_up true false true false = refl
counted_up true false false true = refl
counted_up true false false false = refl
counted_up false true true true = refl
counted_up false true true false = refl
counted_up false true false true = refl
counted_up false true false false = refl
counted_up false false true true = refl
counted_up false false true false = refl
counted_up false false false true = refl
counted_up false false false false = refl

counted_along : (p q s t : Bool) → ((if p then not q else q) && (if s then not t else t))
    ≡ not (int_eq ((if p then (if s then pos 1 else pos 0) -ℤ (if s then pos 1 else pos 0) else pos 0)
    +ℤ ((if q then (if t then pos 1 else pos 0) -ℤ (if s then pos 1 else pos 0) else pos 0)
    +ℤ ((if q then (if t then pos 1 else pos 0) -ℤ (if t then pos 1 else pos 0) else pos 0)
    +ℤ ((if p then (if s then pos 1 else pos 0) -ℤ (if t then pos 1 else pos 0) else pos 0) +ℤ pos 0)))) (pos 0))
counted_along true true true true = refl
counted_along true true true false = refl
counted_along true true false true = refl
counted_along true true false false = refl
counted_along true false true true = refl
counted_along true false true false = refl
counted_along true false false true = refl
counted_along true false false false = refl
counted_along false true true true = refl
counted_along false true true false = refl
counted_along false true false true = refl
counted_along false true false false = refl
counted_along false false true true = refl
counted_along false false true false = refl
counted_along false false false true = refl
counted_along false false false false = refl

-- the rectangle between two points
between_cover : (p q : Pix) (x y : ℤ) (r : Rect) → r.x0 ≡ int_min p.x q.x → r.y0 ≡ int_min p.y q.y → r.x1 ≡ int_max p.x q.x → r.y1 ≡ int_max p.y q.y
    → rect_cover r x y
    ≡ ((if int_le p.x x then not (int_le q.x x) else int_le q.x x) && (if int_le p.y y then not (int_le q.y y) else int_le q.y y))
between_cover p q x y r left low right high =
    rw (left, low, right, high)
    (in_pairs (int_le (int_min p.x q.x) x) (int_lt x (int_max p.x q.x)) (int_le (int_min p.y q.y) y) (int_lt y (int_max p.y q.y))
    ∙ ap₂ (λ s t. s && t) (between p.x q.x x) (between p.y q.y y))

-- each corner between two opposite ones has a coordinate of either
corner_between : (s p q : Pix) → IsStraight p s → IsStraight s q → p.x ≢ q.x → p.y ≢ q.y → ((p.x ≡ s.x) × (s.y ≡ q.y)) ⊎ ((p.y ≡ s.y) × (s.x ≡ q.x))
corner_between s p q (inl up) (inl right) wide high = absurd (wide (up ∙ right))
corner_between s p q (inl up) (inr level) wide high = inl (up, level)
corner_between s p q (inr level) (inl right) wide high = inr (level, right)
corner_between s p q (inr level) (inr along) wide high = absurd (high (level ∙ along))

walk_round : (p s q t e : Pix) (x y : ℤ) → IsStraight p s → IsStraight s q → IsStraight q t → IsStraight t e → e ≡ p → p.x ≢ q.x → p.y ≢ q.y → s.x ≢ t.x
    → ((if int_le p.x x then not (int_le q.x x) else int_le q.x x) && (if int_le p.y y then not (int_le q.y y) else int_le q.y y))
    ≡ not (int_eq (crossings (p ∷ s ∷ q ∷ t ∷ e ∷ []) x y) (pos 0))
walk_round p s q t e x y one two three four closed wide high apart =
    let last : e.x ≡ p.x = ap (λ (z : Pix). z.x) closed in let top : e.y ≡ p.y = ap (λ (z : Pix). z.y) closed in
    elim (corner_between s p q one two wide high) [
      | inl first ↦ elim (corner_between t q e three four (λ h. wide (sym last ∙ sym h)) (λ h. high (sym top ∙ sym h))) [
        | inl second ↦ rw (sym first.0, first.1, sym second.0, second.1, top) (counted_up (int_le p.x x) (int_le q.x x) (int_le p.y y) (int_le q.y y))
        | inr second ↦ absurd (apart (sym first.0 ∙ sym last ∙ sym second.1))
      ]
      | inr first ↦ elim (corner_between t q e three four (λ h. wide (sym last ∙ sym h)) (λ h. high (sym top ∙ sym h))) [
        | inl second ↦ absurd (apart (first.1 ∙ second.0))
        | inr second ↦ rw (sym first.0, first.1, sym second.0, second.1, last, top) (counted_along (int_le p.x x) (int_le q.x x) (int_le p.y y) (int_le q.y y))
      ]
    ]

-- an edge's end that shares a coordinate with both of two opposite points shares the other one with the other
pub box_covers : (points : List Pix) (d : Pix) (r : Rect) → IsPolygon points → length points ≡ 5
    → AreOpposite (get_or points 0 d) (get_or points 2 d) → (get_or points 1 d).x ≢ (get_or points 3 d).x
    → r.x0 ≡ int_min (get_or points 0 d).x (get_or points 2 d).x → r.y0 ≡ int_min (get_or points 0 d).y (get_or points 2 d).y
    → r.x1 ≡ int_max (get_or points 0 d).x (get_or points 2 d).x → r.y1 ≡ int_max (get_or points 0 d).y (get_or points 2 d).y
    → CoversWalk points r
box_covers (p ∷ s ∷ q ∷ t ∷ e ∷ []) d r polygon size opposite apart left low right high x y =
    between_cover p q x y r left low right high
    ∙ walk_round p s q t e x y (polygon.straight 0 d (omega arith)) (polygon.straight 1 d (omega arith)) (polygon.straight 2 d (omega arith))
    (polygon.straight 3 d (omega arith)) polygon.closed opposite.0 opposite.1 apart
box_covers [] d r polygon size opposite apart left low right high x y = absurd (omega arith)
box_covers (p ∷ []) d r polygon size opposite apart left low right high x y = absurd (omega arith)
box_covers (p ∷ s ∷ []) d r polygon size opposite apart left low right high x y = absurd (omega arith)
box_covers (p ∷ s ∷ q ∷ []) d r polygon size opposite apart left low right high x y = absurd (omega arith)
box_covers (p ∷ s ∷ q ∷ t ∷ []) d r polygon size opposite apart left low right high x y = absurd (omega arith)
box_covers (p ∷ s ∷ q ∷ t ∷ e ∷ f ∷ points) d r polygon size opposite apart left low right high x y = absurd (omega arith)
