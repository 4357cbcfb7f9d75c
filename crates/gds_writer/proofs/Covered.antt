-- The walk around a rectangle covers exactly the rectangle.
use Rattle.std.proofs.Common.{◌≡◌, ℤ, pos, ◌+ℤ◌, ◌-ℤ◌, ◌<ℤ◌, int_le, int_lt, Bool, true, false, not, ◌&&◌, if◌then◌else◌, refl, sym, ◌∙◌, arith}
use Rattle.std.specs.Ordering.{int_eq}
use Rattle.std.proofs.lemmas.Int.{ints}
use Rattle.opc_base.specs.declared.plane.Rect.{Rect}
use Rattle.opc_base.specs.declared.outline.Outline.TheVariants.{Polygon}
use Rattle.opc_base.specs.Canonical.{IsSolid}
use Rattle.opc_base.specs.Cover.{outline_cover}
use Rattle.opc_base.specs.Plane.{rect_cover}
use Rattle.gds_writer.specs.MaskFile.{around}

lt-is : (a b : ℤ) → int_lt a b ≡ not (int_le b a)
lt-is a b = grind (arith, ints)

further : (a b x : ℤ) → a <ℤ b → int_le b x ≡ true → int_le a x ≡ true
further a b x below past = grind (arith, ints)

abbrev one : Bool → ℤ
one b = if b then pos 1 else pos 0

-- a, b: the pixel is not left of the left and of the right side; c, d: it is not below the lower and the upper side
cases : (a b c d : Bool) → (b ≡ true → a ≡ true) → (d ≡ true → c ≡ true)
    → not (int_eq
    ((if a then one c -ℤ one c else pos 0)
    +ℤ ((if b then one d -ℤ one c else pos 0) +ℤ ((if b then one d -ℤ one d else pos 0) +ℤ ((if a then one c -ℤ one d else pos 0) +ℤ pos 0))))
    (pos 0))
    ≡ (a && not b && c && not d)
cases true true true true h k = refl
cases true true true false h k = refl
cases true true false true h k = let wrong : false ≡ true = k refl in cc
cases true true false false h k = refl
cases true false true true h k = refl
cases true false true false h k = refl
cases true false false true h k = let wrong : false ≡ true = k refl in cc
cases true false false false h k = refl
cases false true true true h k = let wrong : false ≡ true = h refl in cc
cases false true true false h k = let wrong : false ≡ true = h refl in cc
cases false true false true h k = let wrong : false ≡ true = h refl in cc
cases false true false false h k = let wrong : false ≡ true = h refl in cc
cases false false true true h k = refl
cases false false true false h k = refl
cases false false false true h k = let wrong : false ≡ true = k refl in cc
cases false false false false h k = refl

pub rect-covered : (r : Rect) → IsSolid r → (x y : ℤ) → outline_cover (Polygon (around r)) x y ≡ rect_cover r x y
rect-covered r solid x y =
    let wide = lt-is x r.x1 in
    let high = lt-is y r.y1 in
    let same : rect_cover r x y ≡ (int_le r.x0 x && not (int_le r.x1 x) && int_le r.y0 y && not (int_le r.y1 y)) = rw (wide, high) refl in
    cases (int_le r.x0 x) (int_le r.x1 x) (int_le r.y0 y) (int_le r.y1 y) (further r.x0 r.x1 x solid.wide) (further r.y0 r.y1 y solid.high)
    ∙ sym same
