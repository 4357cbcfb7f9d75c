-- The lower side of a canonical rectangle has a corner of its own.
use Rattle.std.proofs.Common.{◌≡◌, ◌≢◌, ◌⊎◌, inl, inr, ℕ, zero, suc, ◌<◌, ◌≤◌, ℤ, pos, ◌+ℤ◌, ◌-ℤ◌, ◌≤ℤ◌, ◌<ℤ◌, int_eq, int_le, int_lt, unsigned_abs, Bool, true, false, ◌&&◌, if◌then◌else◌, List, [], ◌∷◌, length, get_or, refl, sym, ◌∙◌, ap, subst, arith}
use Rattle.std.specs.Prelude.{Contains}
use Rattle.std.proofs.lemmas.Int.{ints, by_lt_z}
use Rattle.std.proofs.lemmas.List.{get_or_default}
use Rattle.opc_base.specs.declared.plane.Pix.{Pix}
use Rattle.opc_base.specs.declared.plane.Rect.{Rect}
use Rattle.opc_base.specs.Plane.{PixelSet, cover}
use Rattle.opc_base.specs.Corners.{sign_at}
use Rattle.opc_base.specs.Canonical.{AreCanonical, IsSolid, IsStack, Precedes, RunsInRow}
use Rattle.opc_base.specs.Target.{AreDistinctCorners, HasMoreCornersThan}
use Rattle.opc_base.proofs.CanonicalLaws.{canonical_for_cover}
use Rattle.rect_union.specs.CornerCount.{HasAllCorners, HasCornerCount}
use Rattle.rect_union.proofs.Pigeonhole.{at_most_partners}

-- ---- a lower side without corners

pub known : (b : Bool) → (b ≡ true) ⊎ (b ≡ false)
known true = inl refl
known false = inr refl

-- a run starts where one starts in the row above and the point is no corner
starts_below : (here left below corner : Bool) → (if here then pos 1 else pos 0) -ℤ (if left then pos 1 else pos 0) -ℤ (if below then pos 1 else pos 0)
    +ℤ (if corner then pos 1 else pos 0) ≡ pos 0 → here ≡ true → left ≡ false → (below ≡ true) × (corner ≡ false)
starts_below true false true false none here left = (refl, refl)
starts_below true false true true none here left = absurd (omega (arith, ints))
starts_below true false false true none here left = absurd (omega (arith, ints))
starts_below true false false false none here left = absurd (omega (arith, ints))
starts_below true true below corner none here left = absurd (cc)
starts_below false left below corner none here is = absurd (cc)

-- it goes on where the one above goes on
goes_on_below : (here left below corner : Bool) → (if here then pos 1 else pos 0) -ℤ (if left then pos 1 else pos 0) -ℤ (if below then pos 1 else pos 0)
    +ℤ (if corner then pos 1 else pos 0) ≡ pos 0 → here ≡ true → left ≡ true → corner ≡ true → below ≡ true
goes_on_below true true true true none here left corner = refl
goes_on_below true true false true none here left corner = absurd (omega (arith, ints))
goes_on_below true true below false none here left corner = absurd (cc)
goes_on_below true false below corner none here left is = absurd (cc)
goes_on_below false left below corner none here is at = absurd (cc)

-- it ends where the one above ends
ends_below : (here left below corner : Bool) → (if here then pos 1 else pos 0) -ℤ (if left then pos 1 else pos 0) -ℤ (if below then pos 1 else pos 0)
    +ℤ (if corner then pos 1 else pos 0) ≡ pos 0 → here ≡ false → left ≡ true → corner ≡ true → below ≡ false
ends_below false true false true none here left corner = refl
ends_below false true true true none here left corner = absurd (omega (arith, ints))
ends_below false true below false none here left corner = absurd (cc)
ends_below false false below corner none here left is = absurd (cc)
ends_below true left below corner none here is at = absurd (cc)

-- no lattice point of the rectangle's lower side is a corner
abbrev HasNoCornerBelow : PixelSet → Rect → Type 0
HasNoCornerBelow pixels r = (x : ℤ) → r.x0 ≤ℤ x → x ≤ℤ r.x1 → sign_at pixels x r.y0 ≡ pos 0

row_below_from : (pixels : PixelSet) (r : Rect) → RunsInRow pixels r r.y0 → HasNoCornerBelow pixels r
    → (n : ℕ) → (r.x0 +ℤ pos n) <ℤ r.x1 → pixels (r.x0 +ℤ pos n) (r.y0 -ℤ pos 1) ≡ true
row_below_from pixels r run none zero within =
    let start : r.x0 +ℤ pos zero ≡ r.x0 = omega (arith, ints) in
    let some = run.some in
    subst (λ x. pixels x (r.y0 -ℤ pos 1) ≡ true) (sym start)
    (starts_below (pixels r.x0 r.y0) (pixels (r.x0 -ℤ pos 1) r.y0) (pixels r.x0 (r.y0 -ℤ pos 1)) (pixels (r.x0 -ℤ pos 1) (r.y0 -ℤ pos 1))
    (none r.x0 (omega (arith, ints)) (omega (arith, ints))) (run.all r.x0 (omega (arith, ints)) some) run.before).0
row_below_from pixels r run none (suc n) within =
    let x : ℤ = r.x0 +ℤ pos (suc n) in
    let back : r.x0 +ℤ pos n ≡ (r.x0 +ℤ pos (suc n)) -ℤ pos 1 = omega (arith, ints) in
    let so_far : pixels ((r.x0 +ℤ pos (suc n)) -ℤ pos 1) (r.y0 -ℤ pos 1) ≡ true =
    subst (λ t. pixels t (r.y0 -ℤ pos 1) ≡ true) back (row_below_from pixels r run none n (omega (arith, ints))) in
    goes_on_below (pixels (r.x0 +ℤ pos (suc n)) r.y0) (pixels ((r.x0 +ℤ pos (suc n)) -ℤ pos 1) r.y0)
    (pixels (r.x0 +ℤ pos (suc n)) (r.y0 -ℤ pos 1)) (pixels ((r.x0 +ℤ pos (suc n)) -ℤ pos 1) (r.y0 -ℤ pos 1))
    (none (r.x0 +ℤ pos (suc n)) (omega (arith, ints)) (omega (arith, ints)))
    (run.all (r.x0 +ℤ pos (suc n)) (omega (arith, ints)) within)
    (run.all ((r.x0 +ℤ pos (suc n)) -ℤ pos 1) (omega (arith, ints)) (omega (arith, ints)))
    so_far

-- an integer from a on is a and a natural number
ahead : (a t : ℤ) → a ≤ℤ t → (n : ℕ) × (t ≡ a +ℤ pos n)
ahead a t from = (unsigned_abs (t -ℤ a), omega (arith, ints))

-- the row below has the same run
row_below : (pixels : PixelSet) (r : Rect) → RunsInRow pixels r r.y0 → HasNoCornerBelow pixels r → RunsInRow pixels r (r.y0 -ℤ pos 1)
row_below pixels r run none =
    let some = run.some in
    let all : (t : ℤ) → r.x0 ≤ℤ t → t <ℤ r.x1 → pixels t (r.y0 -ℤ pos 1) ≡ true = λ t from to.
    let steps = ahead r.x0 t from in
    subst (λ x. pixels x (r.y0 -ℤ pos 1) ≡ true) (sym steps.1) (row_below_from pixels r run none steps.0 (subst (λ x. x <ℤ r.x1) steps.1 to)) in
    record {
      some = run.some;
      all = all;
      before = (starts_below (pixels r.x0 r.y0) (pixels (r.x0 -ℤ pos 1) r.y0) (pixels r.x0 (r.y0 -ℤ pos 1)) (pixels (r.x0 -ℤ pos 1) (r.y0 -ℤ pos 1))
          (none r.x0 (omega (arith, ints)) (omega (arith, ints))) (run.all r.x0 (omega (arith, ints)) some) run.before).1;
      after = ends_below (pixels r.x1 r.y0) (pixels (r.x1 -ℤ pos 1) r.y0) (pixels r.x1 (r.y0 -ℤ pos 1)) (pixels (r.x1 -ℤ pos 1) (r.y0 -ℤ pos 1))
          (none r.x1 (omega (arith, ints)) (omega (arith, ints))) run.after
          (run.all (r.x1 -ℤ pos 1) (omega (arith, ints)) (omega (arith, ints)))
          (all (r.x1 -ℤ pos 1) (omega (arith, ints)) (omega (arith, ints)));
    }

-- ---- a corner of its own

-- the point lies on the lower side of the rectangle
abbrev IsOnLowerSide : Rect → Pix → Type 0
IsOnLowerSide r p = (p.y ≡ r.y0) × (r.x0 ≤ℤ p.x) × (p.x ≤ℤ r.x1)

on_lower_side : Rect → Pix → Bool
on_lower_side r p = int_eq p.y r.y0 && int_le r.x0 p.x && int_le p.x r.x1

on_if : (r : Rect) (p : Pix) → on_lower_side r p ≡ true → IsOnLowerSide r p
unfolding on_lower_side
on_if r p is = (grind (arith, ints), grind (arith, ints), grind (arith, ints))

if_on : (r : Rect) (p : Pix) → p.y ≡ r.y0 → r.x0 ≤ℤ p.x → p.x ≤ℤ r.x1 → on_lower_side r p ≡ true
unfolding on_lower_side
if_on r p level left right = grind (arith, ints)

elsewhere : (r : Rect) (q : Pix) (points : List Pix) (p : Pix) → on_lower_side r q ≡ false → ((p : Pix) → Contains points p → IsOnLowerSide r p → ⊥)
    → Contains (q ∷ points) p → IsOnLowerSide r p → ⊥
elsewhere r q points p not none (zero, below, is) on =
    let there : IsOnLowerSide r q = subst (IsOnLowerSide r) (sym is) on in
    let yes = if_on r q there.0 there.1 there.2 in cc
elsewhere r q points p not none (suc k, below, is) on = none p (k, omega arith, is) on

-- one of the points is on the lower side, or none is
find_on : (r : Rect) (points : List Pix) → ((p : Pix) × Contains points p × IsOnLowerSide r p) ⊎ ((p : Pix) → Contains points p → IsOnLowerSide r p → ⊥)
find_on r [] = inr (λ p at on. let below = at.1 in omega arith)
find_on r (q ∷ points) = elim (known (on_lower_side r q)) [
  | inl is ↦ inl (q, (0, omega arith, refl), on_if r q is)
  | inr not ↦ elim (find_on r points) [
    | inl found ↦ inl (found.0, (suc found.1.0, (let below = found.1.1 in omega arith), found.1.2), found.2)
    | inr none ↦ inr (λ p at on. elsewhere r q points p not none at on)
  ]
]

zero_unless : (z : ℤ) → (z ≢ pos 0 → ⊥) → z ≡ pos 0
zero_unless z never = by_lt_z z (pos 0)
    (λ less. absurd (never (λ is. omega (arith, ints))))
    (λ most. by_lt_z (pos 0) z (λ more. absurd (never (λ is. omega (arith, ints)))) (λ least. omega (arith, ints)))

own_corner : (pixels : PixelSet) (r : Rect) (points : List Pix) → IsStack pixels r → HasAllCorners pixels points
    → (p : Pix) × Contains points p × IsOnLowerSide r p
own_corner pixels r points stack complete = elim (find_on r points) [
  | inl found ↦ found
  | inr none ↦ absurd (
      let high = stack.some in
      stack.before (row_below pixels r (stack.rows r.y0 (omega (arith, ints)) high)
      (λ x from to. zero_unless (sign_at pixels x r.y0) (λ corner. none (record { x = x; y = r.y0 }) (complete x r.y0 corner) (refl, from, to)))))
]

no_shared_side : (r s : Rect) → IsSolid r → IsSolid s → Precedes r s → (p : Pix) → IsOnLowerSide r p → IsOnLowerSide s p → ⊥
no_shared_side r s first second pair p one two =
    let a = one.0 in let b = one.1 in let c = one.2 in let d = two.0 in let e = two.1 in let f = two.2 in
    let wide = first.wide in let broad = second.wide in let high = first.high in
    elim pair.sorted [
      | inl less ↦ omega (arith, ints)
      | inr level ↦ (let left = level.1 in elim (pair.apart (omega (arith, ints))) [ inl gap ↦ omega (arith, ints) | inr gap ↦ omega (arith, ints) ])
    ]

-- canonical rectangles are at most as many as the points among which all corners are
pub at_most_corners : (rects : List Rect) (points : List Pix) → AreCanonical rects → HasAllCorners (cover rects) points → length rects ≤ length points
at_most_corners rects points canonical complete =
    at_most_partners IsOnLowerSide rects points
    (λ i d below. own_corner (cover rects) (get_or rects i d) points ((canonical_for_cover rects canonical).stacks (get_or rects i d) (i, below, get_or_default rects i (get_or rects i d) d below)) complete)
    (λ i j d before below. no_shared_side (get_or rects i d) (get_or rects j d) (canonical.solid i d (omega arith)) (canonical.solid j d below) (canonical.pairs i j d before below))

-- ---- how many corners there are

pub more_corners : (pixels : PixelSet) (count most : ℕ) → HasCornerCount pixels count → most < count → HasMoreCornersThan most pixels
more_corners pixels count most has above = (has.points, (let counted = has.counted in omega arith), has.distinct)

pub no_more_corners : (pixels : PixelSet) (count most : ℕ) → HasCornerCount pixels count → count ≤ most → HasMoreCornersThan most pixels → ⊥
no_more_corners pixels count most has within more =
    let above : most < length more.0 = more.1 in
    let are : AreDistinctCorners pixels more.0 = more.2 in
    let counted = has.counted in
    let few : length more.0 ≤ length has.points = at_most_partners (λ (p q : Pix). p ≡ q) more.0 has.points
    (λ i d below. (get_or more.0 i d, has.complete (get_or more.0 i d).x (get_or more.0 i d).y (are.corners i d below), refl))
    (λ i j d before below q first second. are.distinct i j d before below (first ∙ sym second)) in
    omega arith

pub few_rects : (rects : List Rect) (count : ℕ) → AreCanonical rects → HasCornerCount (cover rects) count → length rects ≤ count
few_rects rects count canonical has = let counted = has.counted in let few = at_most_corners rects has.points canonical has.complete in omega arith

-- ---- more corners than a number, from so many rectangles

four_bits : (a b c d e f g h : Bool) → a ≡ e → b ≡ f → c ≡ g → d ≡ h
    → (if a then pos 1 else pos 0) -ℤ (if b then pos 1 else pos 0) -ℤ (if c then pos 1 else pos 0) +ℤ (if d then pos 1 else pos 0)
    ≡ (if e then pos 1 else pos 0) -ℤ (if f then pos 1 else pos 0) -ℤ (if g then pos 1 else pos 0) +ℤ (if h then pos 1 else pos 0)
four_bits a b c d e f g h p q r s = rw (p, q, r, s) refl

-- the sign of a point is that of its four pixels
sign_same : (first second : PixelSet) (x y : ℤ) → first x y ≡ second x y → first (x -ℤ pos 1) y ≡ second (x -ℤ pos 1) y
    → first x (y -ℤ pos 1) ≡ second x (y -ℤ pos 1) → first (x -ℤ pos 1) (y -ℤ pos 1) ≡ second (x -ℤ pos 1) (y -ℤ pos 1) → sign_at first x y ≡ sign_at second x y
sign_same first second x y a b c d =
    four_bits (first x y) (first (x -ℤ pos 1) y) (first x (y -ℤ pos 1)) (first (x -ℤ pos 1) (y -ℤ pos 1))
    (second x y) (second (x -ℤ pos 1) y) (second x (y -ℤ pos 1)) (second (x -ℤ pos 1) (y -ℤ pos 1)) a b c d

-- a corner of the set on the lower side of the rectangle
record IsCornerBelow (pixels : PixelSet) (r : Rect) (p : Pix) : Type 0 where
  pub on : IsOnLowerSide r p
  pub corner : sign_at pixels p.x p.y ≢ pos 0

abbrev HasNonzero : (ℤ → ℤ) → ℤ → ℕ → Type 0
HasNonzero f a n = (x : ℤ) × (a ≤ℤ x) × (x ≤ℤ (a +ℤ pos n)) × (f x ≢ pos 0)

abbrev IsZeroFrom : (ℤ → ℤ) → ℤ → ℕ → Type 0
IsZeroFrom f a n = (x : ℤ) → a ≤ℤ x → x ≤ℤ (a +ℤ pos n) → f x ≡ pos 0

zero_if : (z : ℤ) → int_eq z (pos 0) ≡ true → z ≡ pos 0
zero_if z is = grind (arith, ints)

nonzero_if : (z : ℤ) → int_eq z (pos 0) ≡ false → z ≢ pos 0
nonzero_if z is none = (let zero = ap (λ t. int_eq t (pos 0)) none in let never : true ≡ false = sym zero ∙ is in cc)

find_nonzero : (f : ℤ → ℤ) (a : ℤ) (n : ℕ) → HasNonzero f a n ⊎ IsZeroFrom f a n
find_nonzero f a zero = elim (known (int_eq (f a) (pos 0))) [
  | inl none ↦ inr (λ x from to. let same : x ≡ a = omega (arith, ints) in ap f same ∙ zero_if (f a) none)
  | inr some ↦ inl (a, omega (arith, ints), omega (arith, ints), nonzero_if (f a) some)
]
find_nonzero f a (suc n) = elim (find_nonzero f a n) [
  | inl found ↦ inl (found.0, found.1, (let to = found.2 in omega (arith, ints)), found.3)
  | inr none ↦ elim (known (int_eq (f (a +ℤ pos (suc n))) (pos 0))) [
    | inl last ↦ inr (λ x from to. by_lt_z x (a +ℤ pos (suc n))
        (λ less. none x from (omega (arith, ints)))
        (λ most. let same : x ≡ a +ℤ pos (suc n) = omega (arith, ints) in ap f same ∙ zero_if (f (a +ℤ pos (suc n))) last))
    | inr some ↦ inl (a +ℤ pos (suc n), omega (arith, ints), omega (arith, ints), nonzero_if (f (a +ℤ pos (suc n))) some)
  ]
]

corner_below : (pixels : PixelSet) (r : Rect) → r.x0 <ℤ r.x1 → IsStack pixels r → (p : Pix) × IsCornerBelow pixels r p
corner_below pixels r wide stack =
    let steps = ahead r.x0 r.x1 (omega (arith, ints)) in
    let far : r.x1 ≡ r.x0 +ℤ pos steps.0 = steps.1 in
    elim (find_nonzero (λ x. sign_at pixels x r.y0) r.x0 steps.0) [
      | inl found ↦ (
        record { x = found.0; y = r.y0 },
        record { on = (refl, found.1, (let to = found.2 in omega (arith, ints))); corner = found.3 },
      )
      | inr none ↦ absurd (
          let high = stack.some in
          stack.before (row_below pixels r (stack.rows r.y0 (omega (arith, ints)) high) (λ x from to. none x from (omega (arith, ints)))))
    ]

-- a point for each rectangle
abbrev HavePoints : PixelSet → List Rect → Type 0
HavePoints pixels rects = (points : List Pix) × (length points ≡ length rects)
    × ((k : ℕ) (d : Rect) (e : Pix) → k < length rects → IsCornerBelow pixels (get_or rects k d) (get_or points k e))

abbrev AreStacks : PixelSet → List Rect → Type 0
AreStacks pixels rects = (k : ℕ) (d : Rect) → k < length rects → ((get_or rects k d).x0 <ℤ (get_or rects k d).x1) × IsStack pixels (get_or rects k d)

point_at : (pixels : PixelSet) (r : Rect) (rects : List Rect) (p : Pix) (points : List Pix) → IsCornerBelow pixels r p
    → ((k : ℕ) (d : Rect) (e : Pix) → k < length rects → IsCornerBelow pixels (get_or rects k d) (get_or points k e))
    → (k : ℕ) (d : Rect) (e : Pix) → k < length (r ∷ rects) → IsCornerBelow pixels (get_or (r ∷ rects) k d) (get_or (p ∷ points) k e)
point_at pixels r rects p points first rest zero d e below = first
point_at pixels r rects p points first rest (suc k) d e below = rest k d e (omega arith)

points_below : (pixels : PixelSet) (rects : List Rect) → AreStacks pixels rects → HavePoints pixels rects
points_below pixels [] stacks = ([], refl, λ k d e below. absurd (omega arith))
points_below pixels (r ∷ rects) stacks =
    let first = stacks 0 r (omega arith) in
    let here = corner_below pixels r first.0 first.1 in
    let rest = points_below pixels rects (λ k d below. stacks (suc k) d (omega arith)) in
    (here.0 ∷ rest.0, ap suc rest.1, point_at pixels r rects here.0 rest.0 here.1 rest.2)

-- no two of them share a point of their lower sides
abbrev pub HaveOwnSides : List Rect → Type 0
HaveOwnSides rects = (i j : ℕ) (d : Rect) (p : Pix) → i < j → j < length rects → IsOnLowerSide (get_or rects i d) p → IsOnLowerSide (get_or rects j d) p → ⊥

-- stacks of a set whose corners at their lower sides are those of the whole one
pub more_by_sides : (most : ℕ) (whole pixels : PixelSet) (rects : List Rect) → most < length rects → AreStacks pixels rects → HaveOwnSides rects
    → ((k : ℕ) (d : Rect) (x : ℤ) → k < length rects → sign_at pixels x (get_or rects k d).y0 ≡ sign_at whole x (get_or rects k d).y0)
    → HasMoreCornersThan most whole
more_by_sides most whole pixels rects above stacks own same =
    let found = points_below pixels rects stacks in
    let some : Rect = record { x0 = pos 0; y0 = pos 0; x1 = pos 0; y1 = pos 0 } in
    let size : length found.0 ≡ length rects = found.1 in (
      found.0,
      omega arith,
      record {
        distinct = λ i j e before below together.
            let first = found.2 i some e (omega arith) in let second = found.2 j some e (omega arith) in
            own i j some (get_or found.0 j e) before (omega arith) (subst (IsOnLowerSide (get_or rects i some)) together first.on) second.on;
        corners = λ k e below none.
            let here = found.2 k some e (omega arith) in let level : (get_or found.0 k e).y ≡ (get_or rects k some).y0 = here.on.0 in
            here.corner (ap (sign_at pixels (get_or found.0 k e).x) level ∙ same k some (get_or found.0 k e).x (omega arith)
            ∙ ap (sign_at whole (get_or found.0 k e).x) (sym level) ∙ none);
      },
    )

stacks_of : (rects : List Rect) → AreCanonical rects → AreStacks (cover rects) rects
stacks_of rects canonical k d below =
    ((canonical.solid k d below).wide, (canonical_for_cover rects canonical).stacks (get_or rects k d) (k, below, get_or_default rects k (get_or rects k d) d below))

sides_of : (rects : List Rect) → AreCanonical rects → HaveOwnSides rects
sides_of rects canonical i j d p before below first second =
    no_shared_side (get_or rects i d) (get_or rects j d) (canonical.solid i d (omega arith)) (canonical.solid j d below) (canonical.pairs i j d before below) p first second

-- so many canonical rectangles
pub more_by_rects : (most : ℕ) (whole : PixelSet) (rects : List Rect) → most < length rects → AreCanonical rects → ((x y : ℤ) → cover rects x y ≡ whole x y)
    → HasMoreCornersThan most whole
more_by_rects most whole rects above canonical pixels =
    more_by_sides most whole (cover rects) rects above (stacks_of rects canonical) (sides_of rects canonical)
    (λ k d x below. sign_same (cover rects) whole x (get_or rects k d).y0
    (pixels x (get_or rects k d).y0) (pixels (x -ℤ pos 1) (get_or rects k d).y0)
    (pixels x ((get_or rects k d).y0 -ℤ pos 1)) (pixels (x -ℤ pos 1) ((get_or rects k d).y0 -ℤ pos 1)))

below_top : (y top : ℤ) (covered wound : Bool) → y <ℤ top → covered ≡ (int_lt y top && wound) → covered ≡ wound
below_top y top covered wound low is = grind (arith, ints)

-- so many rectangles that are canonical for the rows below a height
pub more_by_rows : (most : ℕ) (whole : PixelSet) (rects : List Rect) (top : ℤ) → most < length rects → AreCanonical rects
    → ((k : ℕ) (d : Rect) → k < length rects → (get_or rects k d).y1 ≤ℤ top)
    → ((x y : ℤ) → cover rects x y ≡ (int_lt y top && whole x y)) → HasMoreCornersThan most whole
more_by_rows most whole rects top above canonical low pixels =
    more_by_sides most whole (cover rects) rects above (stacks_of rects canonical) (sides_of rects canonical)
    (λ k d x below.
    let y : ℤ = (get_or rects k d).y0 in
    let high = (canonical.solid k d below).high in let ends = low k d below in
    let here : (get_or rects k d).y0 <ℤ top = omega (arith, ints) in
    let under : ((get_or rects k d).y0 -ℤ pos 1) <ℤ top = omega (arith, ints) in
    let at : (t z : ℤ) → z <ℤ top → cover rects t z ≡ whole t z = λ t z is. below_top z top (cover rects t z) (whole t z) is (pixels t z) in
    sign_same (cover rects) whole x (get_or rects k d).y0 (at x (get_or rects k d).y0 here) (at (x -ℤ pos 1) (get_or rects k d).y0 here)
    (at x ((get_or rects k d).y0 -ℤ pos 1) under) (at (x -ℤ pos 1) ((get_or rects k d).y0 -ℤ pos 1) under))
