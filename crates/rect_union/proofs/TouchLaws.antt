-- Points whose sign is 2 or -2 are those round which two pixels touch at a corner only.
use Rattle.std.proofs.Common.{◌≡◌, ◌≢◌, inl, inr, ℕ, ◌<◌, ℤ, pos, neg_ℤ, ◌+ℤ◌, ◌-ℤ◌, ◌<ℤ◌, Bool, true, false, if◌then◌else◌, Option, Some, None, List, length, get_or, refl, sym, ◌∙◌, ap, ap₂, subst, arith}
use Rattle.std.specs.Prelude.{All, IfSome, IfNone}
use Rattle.std.proofs.lemmas.Int.{ints, by_lt_z}
use Rattle.std.proofs.lemmas.Bool.{cases_order}
use Rattle.std.proofs.lemmas.List.{get_or_default}
use Rattle.opc_base.specs.declared.plane.Pix.{Pix}
use Rattle.opc_base.specs.declared.plane.Rect.{Rect}
use Rattle.opc_base.specs.Plane.{IsRectWithin, PixelSet, cover}
use Rattle.opc_base.specs.Corners.{sign_at}
use Rattle.opc_base.specs.Runs.{IsCornerTouch}
use Rattle.rect_union.specs.declared.quadrants.Quadrant.{Quadrant}
use Rattle.rect_union.specs.Merging.{AreCornersIn}
use Rattle.rect_union.specs.Touches.{IsDouble, IsFirstDouble, IsFirstTouch, IsNearPoint}
use Rattle.rect_union.proofs.MergingLaws.{corner_there, sign_of}
use Rattle.rect_union.proofs.WithinLaws.{rects_within}

double_corner : (a b c d : Bool) → IsDouble ((if d then pos 1 else pos 0) -ℤ (if c then pos 1 else pos 0) -ℤ (if b then pos 1 else pos 0) +ℤ (if a then pos 1 else pos 0))
    → (a ≡ d) × (b ≡ c) × (a ≢ b)
double_corner true false false true is = (refl, refl, λ same. cc)
double_corner false true true false is = (refl, refl, λ same. cc)
double_corner true true true true is = elim is [ inl e ↦ absurd (omega (arith, ints)) | inr e ↦ absurd (omega (arith, ints)) ]
double_corner true true true false is = elim is [ inl e ↦ absurd (omega (arith, ints)) | inr e ↦ absurd (omega (arith, ints)) ]
double_corner true true false true is = elim is [ inl e ↦ absurd (omega (arith, ints)) | inr e ↦ absurd (omega (arith, ints)) ]
double_corner true true false false is = elim is [ inl e ↦ absurd (omega (arith, ints)) | inr e ↦ absurd (omega (arith, ints)) ]
double_corner true false true true is = elim is [ inl e ↦ absurd (omega (arith, ints)) | inr e ↦ absurd (omega (arith, ints)) ]
double_corner true false true false is = elim is [ inl e ↦ absurd (omega (arith, ints)) | inr e ↦ absurd (omega (arith, ints)) ]
double_corner true false false false is = elim is [ inl e ↦ absurd (omega (arith, ints)) | inr e ↦ absurd (omega (arith, ints)) ]
double_corner false true true true is = elim is [ inl e ↦ absurd (omega (arith, ints)) | inr e ↦ absurd (omega (arith, ints)) ]
double_corner false true false true is = elim is [ inl e ↦ absurd (omega (arith, ints)) | inr e ↦ absurd (omega (arith, ints)) ]
double_corner false true false false is = elim is [ inl e ↦ absurd (omega (arith, ints)) | inr e ↦ absurd (omega (arith, ints)) ]
double_corner false false true true is = elim is [ inl e ↦ absurd (omega (arith, ints)) | inr e ↦ absurd (omega (arith, ints)) ]
double_corner false false true false is = elim is [ inl e ↦ absurd (omega (arith, ints)) | inr e ↦ absurd (omega (arith, ints)) ]
double_corner false false false true is = elim is [ inl e ↦ absurd (omega (arith, ints)) | inr e ↦ absurd (omega (arith, ints)) ]
double_corner false false false false is = elim is [ inl e ↦ absurd (omega (arith, ints)) | inr e ↦ absurd (omega (arith, ints)) ]

corner_double : (a b c d : Bool) → a ≡ d → b ≡ c → a ≢ b
    → IsDouble ((if d then pos 1 else pos 0) -ℤ (if c then pos 1 else pos 0) -ℤ (if b then pos 1 else pos 0) +ℤ (if a then pos 1 else pos 0))
corner_double true true c d rising falling apart = absurd (apart refl)
corner_double false false c d rising falling apart = absurd (apart refl)
corner_double true false c d rising falling apart = rw (sym rising, sym falling) (inl refl)
corner_double false true c d rising falling apart = rw (sym rising, sym falling) (inr refl)

back : (x : ℤ) → (x +ℤ pos 1) -ℤ pos 1 ≡ x
back x = omega (arith, ints)

-- the sign of the point in the middle of a block
touch_sign : (pixels : PixelSet) (x y : ℤ) → sign_at pixels (x +ℤ pos 1) (y +ℤ pos 1)
    ≡ (if pixels (x +ℤ pos 1) (y +ℤ pos 1) then pos 1 else pos 0) -ℤ (if pixels x (y +ℤ pos 1) then pos 1 else pos 0)
    -ℤ (if pixels (x +ℤ pos 1) y then pos 1 else pos 0) +ℤ (if pixels x y then pos 1 else pos 0)
touch_sign pixels x y =
    let a : pixels ((x +ℤ pos 1) -ℤ pos 1) (y +ℤ pos 1) ≡ pixels x (y +ℤ pos 1) = ap (λ t. pixels t (y +ℤ pos 1)) (back x) in
    let b : pixels (x +ℤ pos 1) ((y +ℤ pos 1) -ℤ pos 1) ≡ pixels (x +ℤ pos 1) y = ap (pixels (x +ℤ pos 1)) (back y) in
    let c : pixels ((x +ℤ pos 1) -ℤ pos 1) ((y +ℤ pos 1) -ℤ pos 1) ≡ pixels x y = ap₂ pixels (back x) (back y) in
    rw (a, b, c) refl

touch_if_double : (pixels : PixelSet) (x y : ℤ) → IsDouble (sign_at pixels (x +ℤ pos 1) (y +ℤ pos 1)) → IsCornerTouch pixels x y
touch_if_double pixels x y double =
    let four = double_corner (pixels x y) (pixels (x +ℤ pos 1) y) (pixels x (y +ℤ pos 1)) (pixels (x +ℤ pos 1) (y +ℤ pos 1)) (subst IsDouble (touch_sign pixels x y) double) in
    record { rising = four.0; falling = four.1; apart = four.2 }

double_if_touch : (pixels : PixelSet) (x y : ℤ) → IsCornerTouch pixels x y → IsDouble (sign_at pixels (x +ℤ pos 1) (y +ℤ pos 1))
double_if_touch pixels x y touch =
    subst IsDouble (sym (touch_sign pixels x y))
    (corner_double (pixels x y) (pixels (x +ℤ pos 1) y) (pixels x (y +ℤ pos 1)) (pixels (x +ℤ pos 1) (y +ℤ pos 1)) touch.rising touch.falling touch.apart)

double_some : (z : ℤ) → IsDouble z → z ≢ pos 0
double_some z double none = elim double [ inl e ↦ omega (arith, ints) | inr e ↦ omega (arith, ints) ]

-- ---- the first touch

no_touch : (pixels : PixelSet) (merged : List Quadrant) → AreCornersIn pixels merged → All (λ q. ¬ IsDouble q.column.sign) merged → (x y : ℤ) → ¬ IsCornerTouch pixels x y
no_touch pixels merged are none x y touch =
    let d : Quadrant = record { y = x; column = record { x = x; owner = 0; sign = x } } in
    let double = double_if_touch pixels x y touch in
    let at = corner_there pixels merged (x +ℤ pos 1) (y +ℤ pos 1) d are (double_some (sign_at pixels (x +ℤ pos 1) (y +ℤ pos 1)) double) in
    none at.0 d at.1 (subst IsDouble (sym at.4) double)

first_touch_is : (pixels : PixelSet) (merged : List Quadrant) (p : Pix) → AreCornersIn pixels merged → IsFirstDouble merged p → IsFirstTouch pixels (Some p)
first_touch_is pixels merged p are first =
    let d : Quadrant = record { y = p.x; column = record { x = p.x; owner = 0; sign = p.x } } in
    let k : ℕ = first.k in
    let across = first.across d in let up = first.up d in
    let sign : sign_at pixels (p.x +ℤ pos 1) (p.y +ℤ pos 1) ≡ (get_or merged first.k d).column.sign =
    sym (ap₂ (sign_at pixels) (first.across d) (first.up d)) ∙ are.signs (get_or merged first.k d).column.x (get_or merged first.k d).y ∙ sign_of merged first.k d are.ascending first.below in (
      touch_if_double pixels p.x p.y (subst IsDouble (sym sign) (first.double d)),
      λ x y before touch.
          let double = double_if_touch pixels x y touch in
          let at = corner_there pixels merged (x +ℤ pos 1) (y +ℤ pos 1) d are (double_some (sign_at pixels (x +ℤ pos 1) (y +ℤ pos 1)) double) in
          let here = at.2 in let high = at.3 in
          elim (cases_order at.0 first.k) [
            | inl same ↦ (let x_is : p.x +ℤ pos 1 ≡ x +ℤ pos 1 = sym (first.across d) ∙ subst (λ n. (get_or merged n d).column.x ≡ x +ℤ pos 1) same at.2 in
                let y_is : p.y +ℤ pos 1 ≡ y +ℤ pos 1 = sym (first.up d) ∙ subst (λ n. (get_or merged n d).y ≡ y +ℤ pos 1) same at.3 in
                elim before [ inl less ↦ omega (arith, ints) | inr level ↦ (let left = level.1 in omega (arith, ints)) ])
            | inr other ↦ elim other [
              | inl earlier ↦ first.others at.0 d earlier (subst IsDouble (sym at.4) double)
              | inr later ↦ elim (are.ascending first.k at.0 d later at.1) [
                | inl less ↦ elim before [ inl lower ↦ omega (arith, ints) | inr level ↦ (let same = level.0 in omega (arith, ints)) ]
                | inr row ↦ (let same_row = row.0 in let right = row.1 in elim before [ inl lower ↦ omega (arith, ints) | inr level ↦ (let left = level.1 in omega (arith, ints)) ])
              ]
            ]
          ],
    )

pub touch_found : (pixels : PixelSet) (merged : List Quadrant) (found : Option Pix) → AreCornersIn pixels merged
    → IfSome found (IsFirstDouble merged) → IfNone found (All (λ q. ¬ IsDouble q.column.sign) merged) → IsFirstTouch pixels found
touch_found pixels merged None are some none = no_touch pixels merged are none
touch_found pixels merged (Some p) are some none = first_touch_is pixels merged p are some

pub first_double_at : (merged : List Quadrant) (k : ℕ) (d : Quadrant) → k < length merged → IsDouble (get_or merged k d).column.sign
    → ((j : ℕ) (d : Quadrant) → j < k → ¬ IsDouble (get_or merged j d).column.sign)
    → IsFirstDouble merged (record { x = (get_or merged k d).column.x -ℤ pos 1; y = (get_or merged k d).y -ℤ pos 1 })
first_double_at merged k d at double others = record {
  k = k;
  below = at;
  double = λ e. subst (λ (q : Quadrant). IsDouble q.column.sign) (get_or_default merged k d e at) double;
  across = λ e. let same = ap (λ (q : Quadrant). q.column.x) (get_or_default merged k d e at) in omega (arith, ints);
  up = λ e. let same = ap (λ (q : Quadrant). q.y) (get_or_default merged k d e at) in omega (arith, ints);
  others = others;
}

-- ---- coordinates

no_corner : (a b c d : Bool) → a ≡ false → b ≡ false → c ≡ false → d ≡ false
    → (if d then pos 1 else pos 0) -ℤ (if c then pos 1 else pos 0) -ℤ (if b then pos 1 else pos 0) +ℤ (if a then pos 1 else pos 0) ≡ pos 0
no_corner a b c d p q r s = rw (p, q, r, s) refl

off_unless : (b : Bool) → (b ≡ true → ⊥) → b ≡ false
off_unless true never = absurd (never refl)
off_unless false never = refl

-- the corners of rectangles within the limit
pub corners_near : (rects : List Rect) (merged : List Quadrant) → All (IsRectWithin 1048576) rects → AreCornersIn (cover rects) merged → All IsNearPoint merged
corners_near rects merged within are k d below =
    let q : Quadrant = get_or merged k d in
    let signed : sign_at (cover rects) (get_or merged k d).column.x (get_or merged k d).y ≢ pos 0 = λ none.
    are.signed k d below (sym (sign_of merged k d are.ascending below) ∙ sym (are.signs (get_or merged k d).column.x (get_or merged k d).y) ∙ none) in
    let left_of : (x y : ℤ) → x <ℤ neg_ℤ (pos 1048576) → cover rects x y ≡ false = λ x y less.
    off_unless (cover rects x y) (λ is. let inside = rects_within 1048576 rects x y within is in let left = inside.left in omega (arith, ints)) in
    let below_of : (x y : ℤ) → y <ℤ neg_ℤ (pos 1048576) → cover rects x y ≡ false = λ x y less.
    off_unless (cover rects x y) (λ is. let inside = rects_within 1048576 rects x y within is in let low = inside.low in omega (arith, ints)) in
    let x : ℤ = (get_or merged k d).column.x in let y : ℤ = (get_or merged k d).y in (
      by_lt_z x (neg_ℤ (pos 1048576))
          (λ less. absurd (signed (no_corner (cover rects (x -ℤ pos 1) (y -ℤ pos 1)) (cover rects x (y -ℤ pos 1)) (cover rects (x -ℤ pos 1) y) (cover rects x y)
          (left_of (x -ℤ pos 1) (y -ℤ pos 1) (omega (arith, ints))) (left_of x (y -ℤ pos 1) less) (left_of (x -ℤ pos 1) y (omega (arith, ints))) (left_of x y less))))
          (λ most. most),
      by_lt_z y (neg_ℤ (pos 1048576))
          (λ less. absurd (signed (no_corner (cover rects (x -ℤ pos 1) (y -ℤ pos 1)) (cover rects x (y -ℤ pos 1)) (cover rects (x -ℤ pos 1) y) (cover rects x y)
          (below_of (x -ℤ pos 1) (y -ℤ pos 1) (omega (arith, ints))) (below_of x (y -ℤ pos 1) (omega (arith, ints))) (below_of (x -ℤ pos 1) y less) (below_of x y less))))
          (λ most. most),
    )
