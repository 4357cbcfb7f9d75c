-- What lists of polygons and of rectangles cover, one after another.
use Rattle.std.proofs.Common.{◌≡◌, ◌∙◌, ◌<◌, ◌+◌, ℕ, ℤ, pos, Bool, true, false, not, if◌then◌else◌, List, [], ◌∷◌, ◌++◌, ◌||◌, length, get_or, take, map, All, refl, ap, ap₂, sym, subst}
use Rattle.std.specs.List.{list_any}
use Rattle.std.specs.Ordering.{int_eq}
use Rattle.std.proofs.lemmas.List.{take_more}
use Rattle.std.proofs.lemmas.List.Elements.{All-append, All-cons, All-nil, All-head}
use Rattle.opc_base.specs.declared.plane.Pix.{Pix}
use Rattle.opc_base.specs.declared.plane.Rect.{Rect}
use Rattle.opc_base.specs.declared.outline.Outline.TheVariants.{Polygon}
use Rattle.opc_base.specs.Canonical.{IsSolid}
use Rattle.opc_base.specs.Cover.{outline_cover}
use Rattle.opc_base.specs.Plane.{IsRectWithin, PixelSet, cover, rect_cover}
use Rattle.opc_base.specs.Target.{target}
use Rattle.outline_model.specs.MaskRange.{mask_limit}
use Rattle.gds_writer.specs.MaskFile.{around}
use Rattle.gds_writer.specs.Outlines.{IsOutline}
use Rattle.gds_writer.proofs.Covered.{rect-covered}
use Rattle.gds_writer.proofs.Said.{all-around}
use Rattle.mask_polygons.specs.Polygons.{IsPolygonOf}

pub or-false : (a : Bool) → (a || false) ≡ a
or-false true = refl
or-false false = refl

pub or-assoc : (a b c : Bool) → ((a || b) || c) ≡ (a || (b || c))
or-assoc true b c = refl
or-assoc false b c = refl

pub any-push : {A : Type 0} (p : A → Bool) (xs : List A) (x : A) → list_any p (xs ++ x ∷ []) ≡ (list_any p xs || p x)
any-push p [] x = or-false (p x)
any-push p (y ∷ xs) x = ap (λ b. p y || b) (any-push p xs x) ∙ sym (or-assoc (p y) (list_any p xs) (p x))

pub any-more : {A : Type 0} (p : A → Bool) (xs : List A) (i : ℕ) (d : A) → i < length xs → list_any p (take (i + 1) xs) ≡ (list_any p (take i xs) || p (get_or xs i d))
any-more p xs i d below = ap (list_any p) (take_more xs i d below) ∙ any-push p (take i xs) (get_or xs i d)

pub target-push : (polygons new : List (List Pix)) (points : List Pix) (x y : ℤ) → new ≡ polygons ++ points ∷ []
    → target (map Polygon new) x y ≡ (target (map Polygon polygons) x y || outline_cover (Polygon points) x y)
target-push polygons new points x y e =
    ap (λ l. target (map Polygon l) x y) e ∙ by polygons
  where
    by : (polygons : List (List Pix)) → target (map Polygon (polygons ++ points ∷ [])) x y ≡ (target (map Polygon polygons) x y || outline_cover (Polygon points) x y)
    by [] = or-false (outline_cover (Polygon points) x y)
    by (p ∷ polygons) = ap (λ b. outline_cover (Polygon p) x y || b) (by polygons) ∙ sym (or-assoc (outline_cover (Polygon p) x y) (target (map Polygon polygons) x y) (outline_cover (Polygon points) x y))

-- a polygon of a set covers it
pub polygon-covers : (inside : PixelSet) (points : List Pix) (x y : ℤ) → IsPolygonOf inside points → outline_cover (Polygon points) x y ≡ inside x y
polygon-covers inside points x y is = ap (λ c. not (int_eq c (pos 0))) (is.winds x y) ∙ by (inside x y)
  where
    by : (b : Bool) → not (int_eq (if b then pos 1 else pos 0) (pos 0)) ≡ b
    by true = refl
    by false = refl

pub outline-push : (polygons new : List (List Pix)) (points : List Pix) → All IsOutline polygons → IsOutline points → new ≡ polygons ++ points ∷ [] → All IsOutline new
outline-push polygons new points all here e =
    subst (All IsOutline) (sym e) (All-append IsOutline polygons (points ∷ []) all (All-cons IsOutline points [] here (All-nil IsOutline)))

pub around-is : (r : Rect) → IsRectWithin mask_limit r → IsOutline (around r)
around-is r near = All-head IsOutline (around r) [] (all-around (r ∷ []) (All-cons (IsRectWithin mask_limit) r [] near (All-nil (IsRectWithin mask_limit))))

-- one more rectangle's walk
pub rect-more : (rects : List Rect) (polygons new old : List (List Pix)) (points : List Pix) (i : ℕ) (d : Rect) (x y : ℤ) → i < length rects → IsSolid (get_or rects i d)
    → target (map Polygon polygons) x y ≡ (target (map Polygon old) x y || cover (take i rects) x y) → new ≡ polygons ++ points ∷ [] → points ≡ around (get_or rects i d)
    → target (map Polygon new) x y ≡ (target (map Polygon old) x y || cover (take (i + 1) rects) x y)
rect-more rects polygons new old points i d x y below solid before pushed is =
    target-push polygons new points x y pushed
    ∙ ap₂ (λ a b. a || b) before (ap (λ p. outline_cover (Polygon p) x y) is ∙ rect-covered (get_or rects i d) solid x y)
    ∙ or-assoc (target (map Polygon old) x y) (cover (take i rects) x y) (rect_cover (get_or rects i d) x y)
    ∙ ap (λ b. target (map Polygon old) x y || b) (sym (any-more (λ r. rect_cover r x y) rects i d below))
