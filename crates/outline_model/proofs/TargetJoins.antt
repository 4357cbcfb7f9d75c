-- Fragments on the boundary of pixels that nowhere touch at a corner only: when they are joined by their points, they
-- are an outline.
use Rattle.std.proofs.Common.{◌≡◌, ◌≢◌, ◌⊎◌, inl, inr, ℕ, ◌<◌, ℤ, pos, ◌+ℤ◌, ◌-ℤ◌, ◌<ℤ◌, Bool, true, false, not, if◌then◌else◌, List, length, int_lt, refl, sym, ◌∙◌, ap, subst, arith}
use Rattle.std.proofs.lemmas.Int.{ints}
use Rattle.opc_base.specs.declared.plane.Side.{Side}
use Rattle.opc_base.specs.declared.plane.Side.TheVariants.{Left, Right, Down, Up}
use Rattle.outline_model.specs.declared.fragment.Join.{Join}
use Rattle.outline_model.specs.declared.fragment.Join.TheVariants.{Cut, Corner}
use Rattle.outline_model.specs.declared.fragment.Fragment.{Fragment}
use Rattle.outline_model.specs.Outline.{Point, IsOutline, fragment_at, side_of, is_vertical, is_rising, point_on, start_join, start_place, finish_join, finish_place, joined, next, previous}
use Rattle.opc_base.specs.Runs.{IsCornerTouch}
use Rattle.outline_model.specs.Target.{IsBoundary, IsJoined, LiesLeftOf, LiesBelow, Names, opens, start_point, finish_point}
use Rattle.outline_model.proofs.Walk.{placed, LeadsBy, outline_from}

-- the four pixels round a point do not touch at it alone
pub touch_round : (inside : ℤ → ℤ → Bool) (x y : ℤ) → ((x y : ℤ) → ¬ IsCornerTouch inside x y)
    → inside (x -ℤ pos 1) (y -ℤ pos 1) ≡ inside x y → inside x (y -ℤ pos 1) ≡ inside (x -ℤ pos 1) y
    → inside (x -ℤ pos 1) (y -ℤ pos 1) ≢ inside x (y -ℤ pos 1) → ⊥
touch_round inside x y none rising falling apart =
    let x_again : (x -ℤ pos 1) +ℤ pos 1 ≡ x = omega (arith, ints) in
    let y_again : (y -ℤ pos 1) +ℤ pos 1 ≡ y = omega (arith, ints) in
    none (x -ℤ pos 1) (y -ℤ pos 1) (record {
      rising = rising ∙ ap (λ s. inside s y) (sym x_again) ∙ ap (inside ((x -ℤ pos 1) +ℤ pos 1)) (sym y_again);
      falling = ap (λ s. inside s (y -ℤ pos 1)) x_again ∙ falling ∙ ap (inside (x -ℤ pos 1)) (sym y_again);
      apart = λ same. apart (same ∙ ap (λ s. inside s (y -ℤ pos 1)) x_again);
    })

-- ---- the point at which a fragment starts or finishes

abbrev StartsAt : Side → ℤ → ℤ → ℤ → ℤ → ℤ → Type 0
StartsAt Left edge lo hi x y = (edge ≡ x) × (hi ≡ y)
StartsAt Right edge lo hi x y = (edge ≡ x) × (lo ≡ y)
StartsAt Down edge lo hi x y = (edge ≡ y) × (lo ≡ x)
StartsAt Up edge lo hi x y = (edge ≡ y) × (hi ≡ x)

abbrev FinishesAt : Side → ℤ → ℤ → ℤ → ℤ → ℤ → Type 0
FinishesAt Left edge lo hi x y = (edge ≡ x) × (lo ≡ y)
FinishesAt Right edge lo hi x y = (edge ≡ x) × (hi ≡ y)
FinishesAt Down edge lo hi x y = (edge ≡ y) × (hi ≡ x)
FinishesAt Up edge lo hi x y = (edge ≡ y) × (lo ≡ x)

starts_at : (side : Side) (edge lo hi x y : ℤ) → point_on side edge (if is_rising side then lo else hi) ≡ record { x = x; y = y }
    → StartsAt side edge lo hi x y
starts_at Left edge lo hi x y e = (ap (λ (p : Point). p.x) e, ap (λ (p : Point). p.y) e)
starts_at Right edge lo hi x y e = (ap (λ (p : Point). p.x) e, ap (λ (p : Point). p.y) e)
starts_at Down edge lo hi x y e = (ap (λ (p : Point). p.y) e, ap (λ (p : Point). p.x) e)
starts_at Up edge lo hi x y e = (ap (λ (p : Point). p.y) e, ap (λ (p : Point). p.x) e)

finishes_at : (side : Side) (edge lo hi x y : ℤ) → point_on side edge (if is_rising side then hi else lo) ≡ record { x = x; y = y }
    → FinishesAt side edge lo hi x y
finishes_at Left edge lo hi x y e = (ap (λ (p : Point). p.x) e, ap (λ (p : Point). p.y) e)
finishes_at Right edge lo hi x y e = (ap (λ (p : Point). p.x) e, ap (λ (p : Point). p.y) e)
finishes_at Down edge lo hi x y e = (ap (λ (p : Point). p.y) e, ap (λ (p : Point). p.x) e)
finishes_at Up edge lo hi x y e = (ap (λ (p : Point). p.y) e, ap (λ (p : Point). p.x) e)

-- the side of a pixel that is at the start of a fragment's walk
abbrev FirstSide : Side → Fragment → ℤ → ℤ → Type 0
FirstSide Left f x y = LiesLeftOf f x (y -ℤ pos 1)
FirstSide Right f x y = LiesLeftOf f x y
FirstSide Down f x y = LiesBelow f x y
FirstSide Up f x y = LiesBelow f (x -ℤ pos 1) y

first_side : (side : Side) (f : Fragment) (x y : ℤ) → f.side ≡ side → StartsAt side f.edge f.lo f.hi x y → f.lo <ℤ f.hi → FirstSide side f x y
first_side Left f x y e at some = (ap is_vertical e, at.0, (let end = at.1 in omega (arith, ints)), (let end = at.1 in omega (arith, ints)))
first_side Right f x y e at some = (ap is_vertical e, at.0, (let end = at.1 in omega (arith, ints)), (let end = at.1 in omega (arith, ints)))
first_side Down f x y e at some = (ap is_vertical e, at.0, (let end = at.1 in omega (arith, ints)), (let end = at.1 in omega (arith, ints)))
first_side Up f x y e at some = (ap is_vertical e, at.0, (let end = at.1 in omega (arith, ints)), (let end = at.1 in omega (arith, ints)))

abbrev StartFacts : (ℤ → ℤ → Bool) → Side → ℤ → ℤ → Type 0
StartFacts inside Left x y = (inside x (y -ℤ pos 1) ≡ true) × (inside (x -ℤ pos 1) (y -ℤ pos 1) ≡ false)
StartFacts inside Right x y = (inside x y ≡ false) × (inside (x -ℤ pos 1) y ≡ true)
StartFacts inside Down x y = (inside x y ≡ true) × (inside x (y -ℤ pos 1) ≡ false)
StartFacts inside Up x y = (inside (x -ℤ pos 1) y ≡ false) × (inside (x -ℤ pos 1) (y -ℤ pos 1) ≡ true)

start_facts : (inside : ℤ → ℤ → Bool) (fs : List Fragment) (k : ℕ) (side : Side) (x y : ℤ) → IsBoundary inside fs → k < length fs
    → (fragment_at fs k).side ≡ side → StartsAt side (fragment_at fs k).edge (fragment_at fs k).lo (fragment_at fs k).hi x y → StartFacts inside side x y
start_facts inside fs k Left x y boundary below e at =
    let faces = boundary.upright k x (y -ℤ pos 1) below (first_side Left (fragment_at fs k) x y e at (boundary.some k below)) in
    (faces.0 ∙ ap opens e, faces.1 ∙ ap (λ s. not (opens s)) e)
start_facts inside fs k Right x y boundary below e at =
    let faces = boundary.upright k x y below (first_side Right (fragment_at fs k) x y e at (boundary.some k below)) in
    (faces.0 ∙ ap opens e, faces.1 ∙ ap (λ s. not (opens s)) e)
start_facts inside fs k Down x y boundary below e at =
    let faces = boundary.level k x y below (first_side Down (fragment_at fs k) x y e at (boundary.some k below)) in
    (faces.0 ∙ ap opens e, faces.1 ∙ ap (λ s. not (opens s)) e)
start_facts inside fs k Up x y boundary below e at =
    let faces = boundary.level k (x -ℤ pos 1) y below (first_side Up (fragment_at fs k) x y e at (boundary.some k below)) in
    (faces.0 ∙ ap opens e, faces.1 ∙ ap (λ s. not (opens s)) e)

-- the side of a pixel that is at the finish of a fragment's walk
abbrev LastSide : Side → Fragment → ℤ → ℤ → Type 0
LastSide Left f x y = LiesLeftOf f x y
LastSide Right f x y = LiesLeftOf f x (y -ℤ pos 1)
LastSide Down f x y = LiesBelow f (x -ℤ pos 1) y
LastSide Up f x y = LiesBelow f x y

last_side : (side : Side) (f : Fragment) (x y : ℤ) → f.side ≡ side → FinishesAt side f.edge f.lo f.hi x y → f.lo <ℤ f.hi → LastSide side f x y
last_side Left f x y e at some = (ap is_vertical e, at.0, (let end = at.1 in omega (arith, ints)), (let end = at.1 in omega (arith, ints)))
last_side Right f x y e at some = (ap is_vertical e, at.0, (let end = at.1 in omega (arith, ints)), (let end = at.1 in omega (arith, ints)))
last_side Down f x y e at some = (ap is_vertical e, at.0, (let end = at.1 in omega (arith, ints)), (let end = at.1 in omega (arith, ints)))
last_side Up f x y e at some = (ap is_vertical e, at.0, (let end = at.1 in omega (arith, ints)), (let end = at.1 in omega (arith, ints)))

abbrev FinishFacts : (ℤ → ℤ → Bool) → Side → ℤ → ℤ → Type 0
FinishFacts inside Left x y = (inside x y ≡ true) × (inside (x -ℤ pos 1) y ≡ false)
FinishFacts inside Right x y = (inside x (y -ℤ pos 1) ≡ false) × (inside (x -ℤ pos 1) (y -ℤ pos 1) ≡ true)
FinishFacts inside Down x y = (inside (x -ℤ pos 1) y ≡ true) × (inside (x -ℤ pos 1) (y -ℤ pos 1) ≡ false)
FinishFacts inside Up x y = (inside x y ≡ false) × (inside x (y -ℤ pos 1) ≡ true)

finish_facts : (inside : ℤ → ℤ → Bool) (fs : List Fragment) (k : ℕ) (side : Side) (x y : ℤ) → IsBoundary inside fs → k < length fs
    → (fragment_at fs k).side ≡ side → FinishesAt side (fragment_at fs k).edge (fragment_at fs k).lo (fragment_at fs k).hi x y → FinishFacts inside side x y
finish_facts inside fs k Left x y boundary below e at =
    let faces = boundary.upright k x y below (last_side Left (fragment_at fs k) x y e at (boundary.some k below)) in
    (faces.0 ∙ ap opens e, faces.1 ∙ ap (λ s. not (opens s)) e)
finish_facts inside fs k Right x y boundary below e at =
    let faces = boundary.upright k x (y -ℤ pos 1) below (last_side Right (fragment_at fs k) x y e at (boundary.some k below)) in
    (faces.0 ∙ ap opens e, faces.1 ∙ ap (λ s. not (opens s)) e)
finish_facts inside fs k Down x y boundary below e at =
    let faces = boundary.level k (x -ℤ pos 1) y below (last_side Down (fragment_at fs k) x y e at (boundary.some k below)) in
    (faces.0 ∙ ap opens e, faces.1 ∙ ap (λ s. not (opens s)) e)
finish_facts inside fs k Up x y boundary below e at =
    let faces = boundary.level k x y below (last_side Up (fragment_at fs k) x y e at (boundary.some k below)) in
    (faces.0 ∙ ap opens e, faces.1 ∙ ap (λ s. not (opens s)) e)

-- no two fragments start at one point, and no two finish there
starts_once_at : (inside : ℤ → ℤ → Bool) (fs : List Fragment) (j k : ℕ) (s t : Side) (x y : ℤ)
    → IsBoundary inside fs → ((x y : ℤ) → ¬ IsCornerTouch inside x y) → j < length fs → k < length fs
    → (fragment_at fs j).side ≡ s → (fragment_at fs k).side ≡ t
    → StartsAt s (fragment_at fs j).edge (fragment_at fs j).lo (fragment_at fs j).hi x y
    → StartsAt t (fragment_at fs k).edge (fragment_at fs k).lo (fragment_at fs k).hi x y → j ≡ k
starts_once_at inside fs j k Left Left x y boundary none j_below k_below e f at to =
    boundary.upright_once j k x (y -ℤ pos 1) j_below k_below
    (first_side Left (fragment_at fs j) x y e at (boundary.some j j_below)) (first_side Left (fragment_at fs k) x y f to (boundary.some k k_below))
starts_once_at inside fs j k Left Right x y boundary none j_below k_below e f at to =
    let first = start_facts inside fs j Left x y boundary j_below e at in
    let second = start_facts inside fs k Right x y boundary k_below f to in
    absurd (touch_round inside x y none (first.1 ∙ sym second.0) (first.0 ∙ sym second.1)
    (λ same. let one = first.1 in let two = first.0 in cc))
starts_once_at inside fs j k Left Down x y boundary none j_below k_below e f at to =
    let first = start_facts inside fs j Left x y boundary j_below e at in
    let second = start_facts inside fs k Down x y boundary k_below f to in
    let here = first.0 in let there = second.1 in cc
starts_once_at inside fs j k Left Up x y boundary none j_below k_below e f at to =
    let first = start_facts inside fs j Left x y boundary j_below e at in
    let second = start_facts inside fs k Up x y boundary k_below f to in
    let here = first.1 in let there = second.1 in cc
starts_once_at inside fs j k Right Left x y boundary none j_below k_below e f at to =
    let first = start_facts inside fs j Right x y boundary j_below e at in
    let second = start_facts inside fs k Left x y boundary k_below f to in
    absurd (touch_round inside x y none (second.1 ∙ sym first.0) (second.0 ∙ sym first.1)
    (λ same. let one = second.1 in let two = second.0 in cc))
starts_once_at inside fs j k Right Right x y boundary none j_below k_below e f at to =
    boundary.upright_once j k x y j_below k_below
    (first_side Right (fragment_at fs j) x y e at (boundary.some j j_below)) (first_side Right (fragment_at fs k) x y f to (boundary.some k k_below))
starts_once_at inside fs j k Right Down x y boundary none j_below k_below e f at to =
    let first = start_facts inside fs j Right x y boundary j_below e at in
    let second = start_facts inside fs k Down x y boundary k_below f to in
    let here = first.0 in let there = second.0 in cc
starts_once_at inside fs j k Right Up x y boundary none j_below k_below e f at to =
    let first = start_facts inside fs j Right x y boundary j_below e at in
    let second = start_facts inside fs k Up x y boundary k_below f to in
    let here = first.1 in let there = second.0 in cc
starts_once_at inside fs j k Down Left x y boundary none j_below k_below e f at to =
    let first = start_facts inside fs j Down x y boundary j_below e at in
    let second = start_facts inside fs k Left x y boundary k_below f to in
    let here = first.1 in let there = second.0 in cc
starts_once_at inside fs j k Down Right x y boundary none j_below k_below e f at to =
    let first = start_facts inside fs j Down x y boundary j_below e at in
    let second = start_facts inside fs k Right x y boundary k_below f to in
    let here = first.0 in let there = second.0 in cc
starts_once_at inside fs j k Down Down x y boundary none j_below k_below e f at to =
    boundary.level_once j k x y j_below k_below
    (first_side Down (fragment_at fs j) x y e at (boundary.some j j_below)) (first_side Down (fragment_at fs k) x y f to (boundary.some k k_below))
starts_once_at inside fs j k Down Up x y boundary none j_below k_below e f at to =
    let first = start_facts inside fs j Down x y boundary j_below e at in
    let second = start_facts inside fs k Up x y boundary k_below f to in
    absurd (touch_round inside x y none (second.1 ∙ sym first.0) (first.1 ∙ sym second.0)
    (λ same. let one = second.1 in let two = first.1 in cc))
starts_once_at inside fs j k Up Left x y boundary none j_below k_below e f at to =
    let first = start_facts inside fs j Up x y boundary j_below e at in
    let second = start_facts inside fs k Left x y boundary k_below f to in
    let here = first.1 in let there = second.1 in cc
starts_once_at inside fs j k Up Right x y boundary none j_below k_below e f at to =
    let first = start_facts inside fs j Up x y boundary j_below e at in
    let second = start_facts inside fs k Right x y boundary k_below f to in
    let here = first.0 in let there = second.1 in cc
starts_once_at inside fs j k Up Down x y boundary none j_below k_below e f at to =
    let first = start_facts inside fs j Up x y boundary j_below e at in
    let second = start_facts inside fs k Down x y boundary k_below f to in
    absurd (touch_round inside x y none (first.1 ∙ sym second.0) (second.1 ∙ sym first.0)
    (λ same. let one = first.1 in let two = second.1 in cc))
starts_once_at inside fs j k Up Up x y boundary none j_below k_below e f at to =
    boundary.level_once j k (x -ℤ pos 1) y j_below k_below
    (first_side Up (fragment_at fs j) x y e at (boundary.some j j_below)) (first_side Up (fragment_at fs k) x y f to (boundary.some k k_below))

finishes_once_at : (inside : ℤ → ℤ → Bool) (fs : List Fragment) (j k : ℕ) (s t : Side) (x y : ℤ)
    → IsBoundary inside fs → ((x y : ℤ) → ¬ IsCornerTouch inside x y) → j < length fs → k < length fs
    → (fragment_at fs j).side ≡ s → (fragment_at fs k).side ≡ t
    → FinishesAt s (fragment_at fs j).edge (fragment_at fs j).lo (fragment_at fs j).hi x y
    → FinishesAt t (fragment_at fs k).edge (fragment_at fs k).lo (fragment_at fs k).hi x y → j ≡ k
finishes_once_at inside fs j k Left Left x y boundary none j_below k_below e f at to =
    boundary.upright_once j k x y j_below k_below
    (last_side Left (fragment_at fs j) x y e at (boundary.some j j_below)) (last_side Left (fragment_at fs k) x y f to (boundary.some k k_below))
finishes_once_at inside fs j k Left Right x y boundary none j_below k_below e f at to =
    let first = finish_facts inside fs j Left x y boundary j_below e at in
    let second = finish_facts inside fs k Right x y boundary k_below f to in
    absurd (touch_round inside x y none (second.1 ∙ sym first.0) (second.0 ∙ sym first.1)
    (λ same. let one = second.1 in let two = second.0 in cc))
finishes_once_at inside fs j k Left Down x y boundary none j_below k_below e f at to =
    let first = finish_facts inside fs j Left x y boundary j_below e at in
    let second = finish_facts inside fs k Down x y boundary k_below f to in
    let here = first.1 in let there = second.0 in cc
finishes_once_at inside fs j k Left Up x y boundary none j_below k_below e f at to =
    let first = finish_facts inside fs j Left x y boundary j_below e at in
    let second = finish_facts inside fs k Up x y boundary k_below f to in
    let here = first.0 in let there = second.0 in cc
finishes_once_at inside fs j k Right Left x y boundary none j_below k_below e f at to =
    let first = finish_facts inside fs j Right x y boundary j_below e at in
    let second = finish_facts inside fs k Left x y boundary k_below f to in
    absurd (touch_round inside x y none (first.1 ∙ sym second.0) (first.0 ∙ sym second.1)
    (λ same. let one = first.1 in let two = first.0 in cc))
finishes_once_at inside fs j k Right Right x y boundary none j_below k_below e f at to =
    boundary.upright_once j k x (y -ℤ pos 1) j_below k_below
    (last_side Right (fragment_at fs j) x y e at (boundary.some j j_below)) (last_side Right (fragment_at fs k) x y f to (boundary.some k k_below))
finishes_once_at inside fs j k Right Down x y boundary none j_below k_below e f at to =
    let first = finish_facts inside fs j Right x y boundary j_below e at in
    let second = finish_facts inside fs k Down x y boundary k_below f to in
    let here = first.1 in let there = second.1 in cc
finishes_once_at inside fs j k Right Up x y boundary none j_below k_below e f at to =
    let first = finish_facts inside fs j Right x y boundary j_below e at in
    let second = finish_facts inside fs k Up x y boundary k_below f to in
    let here = first.0 in let there = second.1 in cc
finishes_once_at inside fs j k Down Left x y boundary none j_below k_below e f at to =
    let first = finish_facts inside fs j Down x y boundary j_below e at in
    let second = finish_facts inside fs k Left x y boundary k_below f to in
    let here = first.0 in let there = second.1 in cc
finishes_once_at inside fs j k Down Right x y boundary none j_below k_below e f at to =
    let first = finish_facts inside fs j Down x y boundary j_below e at in
    let second = finish_facts inside fs k Right x y boundary k_below f to in
    let here = first.1 in let there = second.1 in cc
finishes_once_at inside fs j k Down Down x y boundary none j_below k_below e f at to =
    boundary.level_once j k (x -ℤ pos 1) y j_below k_below
    (last_side Down (fragment_at fs j) x y e at (boundary.some j j_below)) (last_side Down (fragment_at fs k) x y f to (boundary.some k k_below))
finishes_once_at inside fs j k Down Up x y boundary none j_below k_below e f at to =
    let first = finish_facts inside fs j Down x y boundary j_below e at in
    let second = finish_facts inside fs k Up x y boundary k_below f to in
    absurd (touch_round inside x y none (first.1 ∙ sym second.0) (second.1 ∙ sym first.0)
    (λ same. let one = first.1 in let two = second.1 in cc))
finishes_once_at inside fs j k Up Left x y boundary none j_below k_below e f at to =
    let first = finish_facts inside fs j Up x y boundary j_below e at in
    let second = finish_facts inside fs k Left x y boundary k_below f to in
    let here = first.0 in let there = second.0 in cc
finishes_once_at inside fs j k Up Right x y boundary none j_below k_below e f at to =
    let first = finish_facts inside fs j Up x y boundary j_below e at in
    let second = finish_facts inside fs k Right x y boundary k_below f to in
    let here = first.1 in let there = second.0 in cc
finishes_once_at inside fs j k Up Down x y boundary none j_below k_below e f at to =
    let first = finish_facts inside fs j Up x y boundary j_below e at in
    let second = finish_facts inside fs k Down x y boundary k_below f to in
    absurd (touch_round inside x y none (second.1 ∙ sym first.0) (first.1 ∙ sym second.0)
    (λ same. let one = second.1 in let two = first.1 in cc))
finishes_once_at inside fs j k Up Up x y boundary none j_below k_below e f at to =
    boundary.level_once j k x y j_below k_below
    (last_side Up (fragment_at fs j) x y e at (boundary.some j j_below)) (last_side Up (fragment_at fs k) x y f to (boundary.some k k_below))

-- Where no pixels touch at a corner only, no two fragments start at one point, and no two finish there.
pub starts_once : (inside : ℤ → ℤ → Bool) (fs : List Fragment) (j k : ℕ) → IsBoundary inside fs → ((x y : ℤ) → ¬ IsCornerTouch inside x y)
    → j < length fs → k < length fs → start_point (fragment_at fs j) ≡ start_point (fragment_at fs k) → j ≡ k
starts_once inside fs j k boundary none j_below k_below e =
    let f = fragment_at fs j in let g = fragment_at fs k in let p = start_point g in
    starts_once_at inside fs j k f.side g.side p.x p.y boundary none j_below k_below refl refl
    (starts_at f.side f.edge f.lo f.hi p.x p.y e) (starts_at g.side g.edge g.lo g.hi p.x p.y refl)

pub finishes_once : (inside : ℤ → ℤ → Bool) (fs : List Fragment) (j k : ℕ) → IsBoundary inside fs → ((x y : ℤ) → ¬ IsCornerTouch inside x y)
    → j < length fs → k < length fs → finish_point (fragment_at fs j) ≡ finish_point (fragment_at fs k) → j ≡ k
finishes_once inside fs j k boundary none j_below k_below e =
    let f = fragment_at fs j in let g = fragment_at fs k in let p = finish_point g in
    finishes_once_at inside fs j k f.side g.side p.x p.y boundary none j_below k_below refl refl
    (finishes_at f.side f.edge f.lo f.hi p.x p.y e) (finishes_at g.side g.edge g.lo g.hi p.x p.y refl)

-- ---- what starts where another finishes lies on the same side, or across it

meets_side_at : (inside : ℤ → ℤ → Bool) (fs : List Fragment) (j k : ℕ) (s t : Side) (x y : ℤ) → IsBoundary inside fs → j < length fs → k < length fs
    → (fragment_at fs j).side ≡ s → (fragment_at fs k).side ≡ t
    → StartsAt s (fragment_at fs j).edge (fragment_at fs j).lo (fragment_at fs j).hi x y
    → FinishesAt t (fragment_at fs k).edge (fragment_at fs k).lo (fragment_at fs k).hi x y
    → (s ≡ t) ⊎ (is_vertical s ≡ not (is_vertical t))
meets_side_at inside fs j k Left Left x y boundary j_below k_below e f at to = inl refl
meets_side_at inside fs j k Left Right x y boundary j_below k_below e f at to =
    let first = (start_facts inside fs j Left x y boundary j_below e at).0 in
    let second = (finish_facts inside fs k Right x y boundary k_below f to).0 in absurd (cc (first, second))
meets_side_at inside fs j k Left Down x y boundary j_below k_below e f at to = inr refl
meets_side_at inside fs j k Left Up x y boundary j_below k_below e f at to = inr refl
meets_side_at inside fs j k Right Left x y boundary j_below k_below e f at to =
    let first = (start_facts inside fs j Right x y boundary j_below e at).0 in
    let second = (finish_facts inside fs k Left x y boundary k_below f to).0 in absurd (cc (first, second))
meets_side_at inside fs j k Right Right x y boundary j_below k_below e f at to = inl refl
meets_side_at inside fs j k Right Down x y boundary j_below k_below e f at to = inr refl
meets_side_at inside fs j k Right Up x y boundary j_below k_below e f at to = inr refl
meets_side_at inside fs j k Down Left x y boundary j_below k_below e f at to = inr refl
meets_side_at inside fs j k Down Right x y boundary j_below k_below e f at to = inr refl
meets_side_at inside fs j k Down Down x y boundary j_below k_below e f at to = inl refl
meets_side_at inside fs j k Down Up x y boundary j_below k_below e f at to =
    let first = (start_facts inside fs j Down x y boundary j_below e at).0 in
    let second = (finish_facts inside fs k Up x y boundary k_below f to).0 in absurd (cc (first, second))
meets_side_at inside fs j k Up Left x y boundary j_below k_below e f at to = inr refl
meets_side_at inside fs j k Up Right x y boundary j_below k_below e f at to = inr refl
meets_side_at inside fs j k Up Down x y boundary j_below k_below e f at to =
    let first = (start_facts inside fs j Up x y boundary j_below e at).0 in
    let second = (finish_facts inside fs k Down x y boundary k_below f to).0 in absurd (cc (first, second))
meets_side_at inside fs j k Up Up x y boundary j_below k_below e f at to = inl refl

-- A fragment that starts where another finishes lies on the same side, or across it.
pub meets_side : (inside : ℤ → ℤ → Bool) (fs : List Fragment) (j k : ℕ) → IsBoundary inside fs → j < length fs → k < length fs
    → start_point (fragment_at fs j) ≡ finish_point (fragment_at fs k)
    → ((fragment_at fs j).side ≡ (fragment_at fs k).side) ⊎ (is_vertical (fragment_at fs j).side ≡ not (is_vertical (fragment_at fs k).side))
meets_side inside fs j k boundary j_below k_below e =
    let f = fragment_at fs j in let g = fragment_at fs k in let p = finish_point g in
    meets_side_at inside fs j k f.side g.side p.x p.y boundary j_below k_below refl refl
    (starts_at f.side f.edge f.lo f.hi p.x p.y e) (finishes_at g.side g.edge g.lo g.hi p.x p.y refl)

-- ---- points of two lines

points_along : (v : Bool) (edge edge' place place' : ℤ)
    → placed v edge' place' ≡ placed v edge place
    → (place' ≡ place) × (edge' ≡ edge)
points_along true edge edge' place place' e = (ap (λ (p : Point). p.y) e, ap (λ (p : Point). p.x) e)
points_along false edge edge' place place' e = (ap (λ (p : Point). p.x) e, ap (λ (p : Point). p.y) e)

points_across : (v w : Bool) (edge edge' place place' : ℤ) → w ≡ not v
    → placed w edge' place' ≡ placed v edge place
    → (place ≡ edge') × (place' ≡ edge)
points_across true false edge edge' place place' t e = (sym (ap (λ (p : Point). p.y) e), ap (λ (p : Point). p.x) e)
points_across false true edge edge' place place' t e = (sym (ap (λ (p : Point). p.x) e), ap (λ (p : Point). p.y) e)
points_across true true edge edge' place place' t e = absurd (cc t)
points_across false false edge edge' place place' t e = absurd (cc t)

not_its_own : (b : Bool) → b ≢ not b
not_its_own true e = cc
not_its_own false e = cc

-- ---- the outline

start_named : (fs : List Fragment) (k : ℕ) (t : Join) → IsJoined fs → k < length fs → start_join (fragment_at fs k) ≡ t
    → Names finish_point fs (fragment_at fs k) t (start_point (fragment_at fs k))
start_named fs k t joins below e =
    subst (λ j. Names finish_point fs (fragment_at fs k) j (start_point (fragment_at fs k))) e (joins.starts k below)

finish_named : (fs : List Fragment) (k : ℕ) (t : Join) → IsJoined fs → k < length fs → finish_join (fragment_at fs k) ≡ t
    → Names start_point fs (fragment_at fs k) t (finish_point (fragment_at fs k))
finish_named fs k t joins below e =
    subst (λ j. Names start_point fs (fragment_at fs k) j (finish_point (fragment_at fs k))) e (joins.finishes k below)

leads_on : (inside : ℤ → ℤ → Bool) (fs : List Fragment) → IsBoundary inside fs → ((x y : ℤ) → ¬ IsCornerTouch inside x y) → IsJoined fs
    → (i : ℕ) → i < length fs → LeadsBy fs i (finish_join (fragment_at fs i))
leads_on inside fs boundary none joins i below = by (finish_join (fragment_at fs i)) refl
  where
    by : (t : Join) → finish_join (fragment_at fs i) ≡ t → LeadsBy fs i t
    by (Cut j) e =
        let named = finish_named fs i (Cut j) joins below e in
        let places = points_along (is_vertical (side_of fs i)) (fragment_at fs i).edge (fragment_at fs j).edge
        (finish_place (fragment_at fs i)) (start_place (fragment_at fs j))
        (ap (λ s. point_on s (fragment_at fs j).edge (start_place (fragment_at fs j))) (sym named.2) ∙ named.1) in
        (back (start_join (fragment_at fs j)) refl, named.2, places.0, places.1)
      where
        back : (t : Join) → start_join (fragment_at fs j) ≡ t → t ≡ Cut i
        back (Cut m) is =
            let named = finish_named fs i (Cut j) joins below e in
            let other = start_named fs j (Cut m) joins named.0 is in
            ap Cut (finishes_once inside fs m i boundary none other.0 below (other.1 ∙ named.1))
        back (Corner m) is =
            let named = finish_named fs i (Cut j) joins below e in
            let other = start_named fs j (Corner m) joins named.0 is in
            let here : m ≡ i = finishes_once inside fs m i boundary none other.0 below (other.1 ∙ named.1) in
            absurd (not_its_own (is_vertical (side_of fs i))
            (ap (λ k. is_vertical (side_of fs k)) (sym here) ∙ other.2 ∙ ap (λ s. not (is_vertical s)) named.2))
    by (Corner j) e =
        let named = finish_named fs i (Corner j) joins below e in
        let places = points_across (is_vertical (side_of fs i)) (is_vertical (side_of fs j)) (fragment_at fs i).edge (fragment_at fs j).edge
        (finish_place (fragment_at fs i)) (start_place (fragment_at fs j)) named.2 named.1 in
        (back (start_join (fragment_at fs j)) refl, named.2, places.0, places.1)
      where
        back : (t : Join) → start_join (fragment_at fs j) ≡ t → t ≡ Corner i
        back (Corner m) is =
            let named = finish_named fs i (Corner j) joins below e in
            let other = start_named fs j (Corner m) joins named.0 is in
            ap Corner (finishes_once inside fs m i boundary none other.0 below (other.1 ∙ named.1))
        back (Cut m) is =
            let named = finish_named fs i (Corner j) joins below e in
            let other = start_named fs j (Cut m) joins named.0 is in
            let here : m ≡ i = finishes_once inside fs m i boundary none other.0 below (other.1 ∙ named.1) in
            absurd (not_its_own (is_vertical (side_of fs i))
            (ap (λ k. is_vertical (side_of fs k)) (sym here) ∙ ap is_vertical other.2 ∙ named.2))

-- the fragment that a fragment names at its finish, and that it starts there
next_is : (fs : List Fragment) (k : ℕ) → IsJoined fs → k < length fs
    → (next fs k < length fs) × (start_point (fragment_at fs (next fs k)) ≡ finish_point (fragment_at fs k))
next_is fs k joins below = by (finish_join (fragment_at fs k)) (joins.finishes k below)
  where
    by : (t : Join) → Names start_point fs (fragment_at fs k) t (finish_point (fragment_at fs k))
        → (joined t < length fs) × (start_point (fragment_at fs (joined t)) ≡ finish_point (fragment_at fs k))
    by (Cut j) named = (named.0, named.1)
    by (Corner j) named = (named.0, named.1)

previous_is : (fs : List Fragment) (k : ℕ) → IsJoined fs → k < length fs
    → (previous fs k < length fs) × (finish_point (fragment_at fs (previous fs k)) ≡ start_point (fragment_at fs k))
previous_is fs k joins below = by (start_join (fragment_at fs k)) (joins.starts k below)
  where
    by : (t : Join) → Names finish_point fs (fragment_at fs k) t (start_point (fragment_at fs k))
        → (joined t < length fs) × (finish_point (fragment_at fs (joined t)) ≡ start_point (fragment_at fs k))
    by (Cut j) named = (named.0, named.1)
    by (Corner j) named = (named.0, named.1)

-- Fragments that lie on the boundary of pixels with no corner touch, joined by their points, are an outline.
pub outline_of_target : (inside : ℤ → ℤ → Bool) (fs : List Fragment) → IsBoundary inside fs → ((x y : ℤ) → ¬ IsCornerTouch inside x y)
    → IsJoined fs → IsOutline fs
outline_of_target inside fs boundary none joins =
    outline_from fs (leads_on inside fs boundary none joins)
    (λ i below. (next_is fs i joins below).0)
    (λ i below. (previous_is fs i joins below).0)
    (λ i below.
    let before = previous_is fs i joins below in
    let after = next_is fs (previous fs i) joins before.0 in
    starts_once inside fs (next fs (previous fs i)) i boundary none after.0 below (after.1 ∙ before.1))

-- ---- where a fragment finishes, another starts

start_from : (side : Side) (edge lo hi x y : ℤ) → StartsAt side edge lo hi x y
    → point_on side edge (if is_rising side then lo else hi) ≡ record { x = x; y = y }
start_from Left edge lo hi x y at = ap (λ (e : ℤ). record { x = e; y = hi }) at.0 ∙ ap (λ (e : ℤ). record { x = x; y = e }) at.1
start_from Right edge lo hi x y at = ap (λ (e : ℤ). record { x = e; y = lo }) at.0 ∙ ap (λ (e : ℤ). record { x = x; y = e }) at.1
start_from Down edge lo hi x y at = ap (λ (e : ℤ). record { x = lo; y = e }) at.0 ∙ ap (λ (e : ℤ). record { x = e; y = y }) at.1
start_from Up edge lo hi x y at = ap (λ (e : ℤ). record { x = hi; y = e }) at.0 ∙ ap (λ (e : ℤ). record { x = e; y = y }) at.1

side_from : (side : Side) (vertical opening : Bool) → is_vertical side ≡ vertical → opens side ≡ opening
    → side ≡ (if vertical then (if opening then Left else Right) else (if opening then Down else Up))
side_from Left vertical opening v o = rw (← v, ← o) refl
side_from Right vertical opening v o = rw (← v, ← o) refl
side_from Down vertical opening v o = rw (← v, ← o) refl
side_from Up vertical opening v o = rw (← v, ← o) refl

-- a fragment starts at the point
abbrev pub SomeStarts : List Fragment → ℤ → ℤ → Type 0
SomeStarts fs x y = (m : ℕ) × (m < length fs) × (start_point (fragment_at fs m) ≡ record { x = x; y = y })

leaves_left : (inside : ℤ → ℤ → Bool) (fs : List Fragment) (x y : ℤ) → IsBoundary inside fs
    → inside x (y -ℤ pos 1) ≡ true → inside (x -ℤ pos 1) (y -ℤ pos 1) ≡ false
    → ((m : ℕ) → m < length fs → LiesLeftOf (fragment_at fs m) x (y -ℤ pos 1) → (fragment_at fs m).side ≡ Left → LiesLeftOf (fragment_at fs m) x y → ⊥)
    → SomeStarts fs x y
leaves_left inside fs x y boundary here there not_past =
    (m, found.1, start_from f.side f.edge f.lo f.hi x y (subst (λ s. StartsAt s f.edge f.lo f.hi x y) (sym side_is) (lies.1, by (int_lt y f.hi) refl)))
  where
    found : (m : ℕ) × (m < length fs) × LiesLeftOf (fragment_at fs m) x (y -ℤ pos 1)
    found = boundary.upright_all x (y -ℤ pos 1) (λ same. let one = here in let two = there in cc)

    m : ℕ
    m = found.0

    f : Fragment
    f = fragment_at fs m

    lies : LiesLeftOf f x (y -ℤ pos 1)
    lies = found.2

    side_is : f.side ≡ Left
    side_is = side_from f.side true true lies.0 (sym (boundary.upright m x (y -ℤ pos 1) found.1 lies).0 ∙ here)

    by : (t : Bool) → int_lt y f.hi ≡ t → f.hi ≡ y
    by true past = absurd (not_past m found.1 lies side_is (
      lies.0,
      lies.1,
      (let a = lies.2 in let c = lies.3 in omega (arith, ints)),
      (let a = lies.2 in let c = lies.3 in omega (arith, ints)),
    ))
    by false not_there = let a = lies.2 in let c = lies.3 in omega (arith, ints)

leaves_right : (inside : ℤ → ℤ → Bool) (fs : List Fragment) (x y : ℤ) → IsBoundary inside fs
    → inside x y ≡ false → inside (x -ℤ pos 1) y ≡ true
    → ((m : ℕ) → m < length fs → LiesLeftOf (fragment_at fs m) x y → (fragment_at fs m).side ≡ Right → LiesLeftOf (fragment_at fs m) x (y -ℤ pos 1) → ⊥)
    → SomeStarts fs x y
leaves_right inside fs x y boundary here there not_past =
    (m, found.1, start_from f.side f.edge f.lo f.hi x y (subst (λ s. StartsAt s f.edge f.lo f.hi x y) (sym side_is) (lies.1, by (int_lt f.lo y) refl)))
  where
    found : (m : ℕ) × (m < length fs) × LiesLeftOf (fragment_at fs m) x y
    found = boundary.upright_all x y (λ same. let one = here in let two = there in cc)

    m : ℕ
    m = found.0

    f : Fragment
    f = fragment_at fs m

    lies : LiesLeftOf f x y
    lies = found.2

    side_is : f.side ≡ Right
    side_is = side_from f.side true false lies.0 (sym (boundary.upright m x y found.1 lies).0 ∙ here)

    by : (t : Bool) → int_lt f.lo y ≡ t → f.lo ≡ y
    by true past = absurd (not_past m found.1 lies side_is (
      lies.0,
      lies.1,
      (let a = lies.2 in let c = lies.3 in omega (arith, ints)),
      (let a = lies.2 in let c = lies.3 in omega (arith, ints)),
    ))
    by false not_there = let a = lies.2 in let c = lies.3 in omega (arith, ints)

leaves_down : (inside : ℤ → ℤ → Bool) (fs : List Fragment) (x y : ℤ) → IsBoundary inside fs
    → inside x y ≡ true → inside x (y -ℤ pos 1) ≡ false
    → ((m : ℕ) → m < length fs → LiesBelow (fragment_at fs m) x y → (fragment_at fs m).side ≡ Down → LiesBelow (fragment_at fs m) (x -ℤ pos 1) y → ⊥)
    → SomeStarts fs x y
leaves_down inside fs x y boundary here there not_past =
    (m, found.1, start_from f.side f.edge f.lo f.hi x y (subst (λ s. StartsAt s f.edge f.lo f.hi x y) (sym side_is) (lies.1, by (int_lt f.lo x) refl)))
  where
    found : (m : ℕ) × (m < length fs) × LiesBelow (fragment_at fs m) x y
    found = boundary.level_all x y (λ same. let one = here in let two = there in cc)

    m : ℕ
    m = found.0

    f : Fragment
    f = fragment_at fs m

    lies : LiesBelow f x y
    lies = found.2

    side_is : f.side ≡ Down
    side_is = side_from f.side false true lies.0 (sym (boundary.level m x y found.1 lies).0 ∙ here)

    by : (t : Bool) → int_lt f.lo x ≡ t → f.lo ≡ x
    by true past = absurd (not_past m found.1 lies side_is (
      lies.0,
      lies.1,
      (let a = lies.2 in let c = lies.3 in omega (arith, ints)),
      (let a = lies.2 in let c = lies.3 in omega (arith, ints)),
    ))
    by false not_there = let a = lies.2 in let c = lies.3 in omega (arith, ints)

leaves_up : (inside : ℤ → ℤ → Bool) (fs : List Fragment) (x y : ℤ) → IsBoundary inside fs
    → inside (x -ℤ pos 1) y ≡ false → inside (x -ℤ pos 1) (y -ℤ pos 1) ≡ true
    → ((m : ℕ) → m < length fs → LiesBelow (fragment_at fs m) (x -ℤ pos 1) y → (fragment_at fs m).side ≡ Up → LiesBelow (fragment_at fs m) x y → ⊥)
    → SomeStarts fs x y
leaves_up inside fs x y boundary here there not_past =
    (m, found.1, start_from f.side f.edge f.lo f.hi x y (subst (λ s. StartsAt s f.edge f.lo f.hi x y) (sym side_is) (lies.1, by (int_lt x f.hi) refl)))
  where
    found : (m : ℕ) × (m < length fs) × LiesBelow (fragment_at fs m) (x -ℤ pos 1) y
    found = boundary.level_all (x -ℤ pos 1) y (λ same. let one = here in let two = there in cc)

    m : ℕ
    m = found.0

    f : Fragment
    f = fragment_at fs m

    lies : LiesBelow f (x -ℤ pos 1) y
    lies = found.2

    side_is : f.side ≡ Up
    side_is = side_from f.side false false lies.0 (sym (boundary.level m (x -ℤ pos 1) y found.1 lies).0 ∙ here)

    by : (t : Bool) → int_lt x f.hi ≡ t → f.hi ≡ x
    by true past = absurd (not_past m found.1 lies side_is (
      lies.0,
      lies.1,
      (let a = lies.2 in let c = lies.3 in omega (arith, ints)),
      (let a = lies.2 in let c = lies.3 in omega (arith, ints)),
    ))
    by false not_there = let a = lies.2 in let c = lies.3 in omega (arith, ints)

finish_leads_on_at : (inside : ℤ → ℤ → Bool) (fs : List Fragment) (k : ℕ) (s : Side) (x y : ℤ) → IsBoundary inside fs
    → ((x y : ℤ) → ¬ IsCornerTouch inside x y) → k < length fs → (fragment_at fs k).side ≡ s
    → FinishesAt s (fragment_at fs k).edge (fragment_at fs k).lo (fragment_at fs k).hi x y → SomeStarts fs x y
finish_leads_on_at inside fs k Left x y boundary none below e at = by (inside x (y -ℤ pos 1)) (inside (x -ℤ pos 1) (y -ℤ pos 1)) refl refl
  where
    known : FinishFacts inside Left x y
    known = finish_facts inside fs k Left x y boundary below e at

    last : LiesLeftOf (fragment_at fs k) x y
    last = last_side Left (fragment_at fs k) x y e at (boundary.some k below)

    beyond : (m : ℕ) → m ≡ k → LiesLeftOf (fragment_at fs m) x (y -ℤ pos 1) → ⊥
    beyond m same lies =
        let here : LiesLeftOf (fragment_at fs k) x (y -ℤ pos 1) = subst (λ n. LiesLeftOf (fragment_at fs n) x (y -ℤ pos 1)) same lies in
        let a = here.2 in let end = at.1 in omega (arith, ints)

    by : (p q : Bool) → inside x (y -ℤ pos 1) ≡ p → inside (x -ℤ pos 1) (y -ℤ pos 1) ≡ q → SomeStarts fs x y
    by true true f g = leaves_up inside fs x y boundary known.1 g (λ m inside_m lies side past.
        let faces = boundary.level m x y inside_m past in
        let one = faces.0 ∙ ap opens side in let two = known.0 in cc)
    by true false f g = leaves_left inside fs x y boundary f g (λ m inside_m lies side past.
        let same : m ≡ k = boundary.upright_once m k x y inside_m below past last in
        beyond m same lies)
    by false true f g = absurd (touch_round inside x y none (g ∙ sym known.0) (f ∙ sym known.1)
        (λ same. let one = g in let two = f in cc))
    by false false f g = leaves_down inside fs x y boundary known.0 f (λ m inside_m lies side past.
        let faces = boundary.level m (x -ℤ pos 1) y inside_m past in
        let one = faces.0 ∙ ap opens side in let two = known.1 in cc)
finish_leads_on_at inside fs k Right x y boundary none below e at = by (inside x y) (inside (x -ℤ pos 1) y) refl refl
  where
    known : FinishFacts inside Right x y
    known = finish_facts inside fs k Right x y boundary below e at

    last : LiesLeftOf (fragment_at fs k) x (y -ℤ pos 1)
    last = last_side Right (fragment_at fs k) x y e at (boundary.some k below)

    beyond : (m : ℕ) → m ≡ k → LiesLeftOf (fragment_at fs m) x y → ⊥
    beyond m same lies =
        let here : LiesLeftOf (fragment_at fs k) x y = subst (λ n. LiesLeftOf (fragment_at fs n) x y) same lies in
        let a = here.3 in let end = at.1 in omega (arith, ints)

    by : (p q : Bool) → inside x y ≡ p → inside (x -ℤ pos 1) y ≡ q → SomeStarts fs x y
    by true true f g = leaves_down inside fs x y boundary f known.0 (λ m inside_m lies side past.
        let faces = boundary.level m (x -ℤ pos 1) y inside_m past in
        let one = faces.1 ∙ (ap (λ s. not (opens s)) side) in let two = known.1 in cc)
    by true false f g = absurd (touch_round inside x y none (known.1 ∙ sym f) (known.0 ∙ sym g)
        (λ same. let one = known.1 in let two = known.0 in cc))
    by false true f g = leaves_right inside fs x y boundary f g (λ m inside_m lies side past.
        let same : m ≡ k = boundary.upright_once m k x (y -ℤ pos 1) inside_m below past last in
        beyond m same lies)
    by false false f g = leaves_up inside fs x y boundary g known.1 (λ m inside_m lies side past.
        let faces = boundary.level m x y inside_m past in
        let one = faces.1 ∙ (ap (λ s. not (opens s)) side) in let two = known.0 in cc)
finish_leads_on_at inside fs k Down x y boundary none below e at = by (inside x y) (inside x (y -ℤ pos 1)) refl refl
  where
    known : FinishFacts inside Down x y
    known = finish_facts inside fs k Down x y boundary below e at

    last : LiesBelow (fragment_at fs k) (x -ℤ pos 1) y
    last = last_side Down (fragment_at fs k) x y e at (boundary.some k below)

    beyond : (m : ℕ) → m ≡ k → LiesBelow (fragment_at fs m) x y → ⊥
    beyond m same lies =
        let here : LiesBelow (fragment_at fs k) x y = subst (λ n. LiesBelow (fragment_at fs n) x y) same lies in
        let a = here.3 in let end = at.1 in omega (arith, ints)

    by : (p q : Bool) → inside x y ≡ p → inside x (y -ℤ pos 1) ≡ q → SomeStarts fs x y
    by true true f g = leaves_left inside fs x y boundary g known.1 (λ m inside_m lies side past.
        let faces = boundary.upright m x y inside_m past in
        let one = faces.1 ∙ (ap (λ s. not (opens s)) side) in let two = known.0 in cc)
    by true false f g = leaves_down inside fs x y boundary f g (λ m inside_m lies side past.
        let same : m ≡ k = boundary.level_once m k (x -ℤ pos 1) y inside_m below past last in
        beyond m same lies)
    by false true f g = absurd (touch_round inside x y none (known.1 ∙ sym f) (g ∙ sym known.0)
        (λ same. let one = known.1 in let two = g in cc))
    by false false f g = leaves_right inside fs x y boundary f known.0 (λ m inside_m lies side past.
        let faces = boundary.upright m x (y -ℤ pos 1) inside_m past in
        let one = faces.1 ∙ (ap (λ s. not (opens s)) side) in let two = known.1 in cc)
finish_leads_on_at inside fs k Up x y boundary none below e at = by (inside (x -ℤ pos 1) y) (inside (x -ℤ pos 1) (y -ℤ pos 1)) refl refl
  where
    known : FinishFacts inside Up x y
    known = finish_facts inside fs k Up x y boundary below e at

    last : LiesBelow (fragment_at fs k) x y
    last = last_side Up (fragment_at fs k) x y e at (boundary.some k below)

    beyond : (m : ℕ) → m ≡ k → LiesBelow (fragment_at fs m) (x -ℤ pos 1) y → ⊥
    beyond m same lies =
        let here : LiesBelow (fragment_at fs k) (x -ℤ pos 1) y = subst (λ n. LiesBelow (fragment_at fs n) (x -ℤ pos 1) y) same lies in
        let a = here.2 in let end = at.1 in omega (arith, ints)

    by : (p q : Bool) → inside (x -ℤ pos 1) y ≡ p → inside (x -ℤ pos 1) (y -ℤ pos 1) ≡ q → SomeStarts fs x y
    by true true f g = leaves_right inside fs x y boundary known.0 f (λ m inside_m lies side past.
        let faces = boundary.upright m x (y -ℤ pos 1) inside_m past in
        let one = faces.0 ∙ ap opens side in let two = known.1 in cc)
    by true false f g = absurd (touch_round inside x y none (g ∙ sym known.0) (known.1 ∙ sym f)
        (λ same. let one = g in let two = known.1 in cc))
    by false true f g = leaves_up inside fs x y boundary f g (λ m inside_m lies side past.
        let same : m ≡ k = boundary.level_once m k x y inside_m below past last in
        beyond m same lies)
    by false false f g = leaves_left inside fs x y boundary known.1 g (λ m inside_m lies side past.
        let faces = boundary.upright m x y inside_m past in
        let one = faces.0 ∙ ap opens side in let two = known.0 in cc)

-- Where no pixels touch at a corner only, a fragment starts where another finishes.
pub finish_leads_on : (inside : ℤ → ℤ → Bool) (fs : List Fragment) (k : ℕ) → IsBoundary inside fs → ((x y : ℤ) → ¬ IsCornerTouch inside x y)
    → k < length fs → (m : ℕ) × (m < length fs) × (start_point (fragment_at fs m) ≡ finish_point (fragment_at fs k))
finish_leads_on inside fs k boundary none below =
    let f = fragment_at fs k in let p = finish_point f in
    finish_leads_on_at inside fs k f.side p.x p.y boundary none below refl (finishes_at f.side f.edge f.lo f.hi p.x p.y refl)

-- ---- where a fragment starts, another finishes

finish_from : (side : Side) (edge lo hi x y : ℤ) → FinishesAt side edge lo hi x y
    → point_on side edge (if is_rising side then hi else lo) ≡ record { x = x; y = y }
finish_from Left edge lo hi x y at = ap (λ (e : ℤ). record { x = e; y = lo }) at.0 ∙ ap (λ (e : ℤ). record { x = x; y = e }) at.1
finish_from Right edge lo hi x y at = ap (λ (e : ℤ). record { x = e; y = hi }) at.0 ∙ ap (λ (e : ℤ). record { x = x; y = e }) at.1
finish_from Down edge lo hi x y at = ap (λ (e : ℤ). record { x = hi; y = e }) at.0 ∙ ap (λ (e : ℤ). record { x = e; y = y }) at.1
finish_from Up edge lo hi x y at = ap (λ (e : ℤ). record { x = lo; y = e }) at.0 ∙ ap (λ (e : ℤ). record { x = e; y = y }) at.1

-- a fragment finishes at the point
abbrev pub SomeFinishes : List Fragment → ℤ → ℤ → Type 0
SomeFinishes fs x y = (m : ℕ) × (m < length fs) × (finish_point (fragment_at fs m) ≡ record { x = x; y = y })

arrives_left : (inside : ℤ → ℤ → Bool) (fs : List Fragment) (x y : ℤ) → IsBoundary inside fs
    → inside x y ≡ true → inside (x -ℤ pos 1) y ≡ false
    → ((m : ℕ) → m < length fs → LiesLeftOf (fragment_at fs m) x y → (fragment_at fs m).side ≡ Left → LiesLeftOf (fragment_at fs m) x (y -ℤ pos 1) → ⊥)
    → SomeFinishes fs x y
arrives_left inside fs x y boundary here there not_past =
    (m, found.1, finish_from f.side f.edge f.lo f.hi x y (subst (λ s. FinishesAt s f.edge f.lo f.hi x y) (sym side_is) (lies.1, by (int_lt f.lo y) refl)))
  where
    found : (m : ℕ) × (m < length fs) × LiesLeftOf (fragment_at fs m) x y
    found = boundary.upright_all x y (λ same. let one = here in let two = there in cc)

    m : ℕ
    m = found.0

    f : Fragment
    f = fragment_at fs m

    lies : LiesLeftOf f x y
    lies = found.2

    side_is : f.side ≡ Left
    side_is = side_from f.side true true lies.0 (sym (boundary.upright m x y found.1 lies).0 ∙ here)

    by : (t : Bool) → int_lt f.lo y ≡ t → f.lo ≡ y
    by true past = absurd (not_past m found.1 lies side_is (
      lies.0,
      lies.1,
      (let a = lies.2 in let c = lies.3 in omega (arith, ints)),
      (let a = lies.2 in let c = lies.3 in omega (arith, ints)),
    ))
    by false not_there = let a = lies.2 in let c = lies.3 in omega (arith, ints)

arrives_right : (inside : ℤ → ℤ → Bool) (fs : List Fragment) (x y : ℤ) → IsBoundary inside fs
    → inside x (y -ℤ pos 1) ≡ false → inside (x -ℤ pos 1) (y -ℤ pos 1) ≡ true
    → ((m : ℕ) → m < length fs → LiesLeftOf (fragment_at fs m) x (y -ℤ pos 1) → (fragment_at fs m).side ≡ Right → LiesLeftOf (fragment_at fs m) x y → ⊥)
    → SomeFinishes fs x y
arrives_right inside fs x y boundary here there not_past =
    (m, found.1, finish_from f.side f.edge f.lo f.hi x y (subst (λ s. FinishesAt s f.edge f.lo f.hi x y) (sym side_is) (lies.1, by (int_lt y f.hi) refl)))
  where
    found : (m : ℕ) × (m < length fs) × LiesLeftOf (fragment_at fs m) x (y -ℤ pos 1)
    found = boundary.upright_all x (y -ℤ pos 1) (λ same. let one = here in let two = there in cc)

    m : ℕ
    m = found.0

    f : Fragment
    f = fragment_at fs m

    lies : LiesLeftOf f x (y -ℤ pos 1)
    lies = found.2

    side_is : f.side ≡ Right
    side_is = side_from f.side true false lies.0 (sym (boundary.upright m x (y -ℤ pos 1) found.1 lies).0 ∙ here)

    by : (t : Bool) → int_lt y f.hi ≡ t → f.hi ≡ y
    by true past = absurd (not_past m found.1 lies side_is (
      lies.0,
      lies.1,
      (let a = lies.2 in let c = lies.3 in omega (arith, ints)),
      (let a = lies.2 in let c = lies.3 in omega (arith, ints)),
    ))
    by false not_there = let a = lies.2 in let c = lies.3 in omega (arith, ints)

arrives_down : (inside : ℤ → ℤ → Bool) (fs : List Fragment) (x y : ℤ) → IsBoundary inside fs
    → inside (x -ℤ pos 1) y ≡ true → inside (x -ℤ pos 1) (y -ℤ pos 1) ≡ false
    → ((m : ℕ) → m < length fs → LiesBelow (fragment_at fs m) (x -ℤ pos 1) y → (fragment_at fs m).side ≡ Down → LiesBelow (fragment_at fs m) x y → ⊥)
    → SomeFinishes fs x y
arrives_down inside fs x y boundary here there not_past =
    (m, found.1, finish_from f.side f.edge f.lo f.hi x y (subst (λ s. FinishesAt s f.edge f.lo f.hi x y) (sym side_is) (lies.1, by (int_lt x f.hi) refl)))
  where
    found : (m : ℕ) × (m < length fs) × LiesBelow (fragment_at fs m) (x -ℤ pos 1) y
    found = boundary.level_all (x -ℤ pos 1) y (λ same. let one = here in let two = there in cc)

    m : ℕ
    m = found.0

    f : Fragment
    f = fragment_at fs m

    lies : LiesBelow f (x -ℤ pos 1) y
    lies = found.2

    side_is : f.side ≡ Down
    side_is = side_from f.side false true lies.0 (sym (boundary.level m (x -ℤ pos 1) y found.1 lies).0 ∙ here)

    by : (t : Bool) → int_lt x f.hi ≡ t → f.hi ≡ x
    by true past = absurd (not_past m found.1 lies side_is (
      lies.0,
      lies.1,
      (let a = lies.2 in let c = lies.3 in omega (arith, ints)),
      (let a = lies.2 in let c = lies.3 in omega (arith, ints)),
    ))
    by false not_there = let a = lies.2 in let c = lies.3 in omega (arith, ints)

arrives_up : (inside : ℤ → ℤ → Bool) (fs : List Fragment) (x y : ℤ) → IsBoundary inside fs
    → inside x y ≡ false → inside x (y -ℤ pos 1) ≡ true
    → ((m : ℕ) → m < length fs → LiesBelow (fragment_at fs m) x y → (fragment_at fs m).side ≡ Up → LiesBelow (fragment_at fs m) (x -ℤ pos 1) y → ⊥)
    → SomeFinishes fs x y
arrives_up inside fs x y boundary here there not_past =
    (m, found.1, finish_from f.side f.edge f.lo f.hi x y (subst (λ s. FinishesAt s f.edge f.lo f.hi x y) (sym side_is) (lies.1, by (int_lt f.lo x) refl)))
  where
    found : (m : ℕ) × (m < length fs) × LiesBelow (fragment_at fs m) x y
    found = boundary.level_all x y (λ same. let one = here in let two = there in cc)

    m : ℕ
    m = found.0

    f : Fragment
    f = fragment_at fs m

    lies : LiesBelow f x y
    lies = found.2

    side_is : f.side ≡ Up
    side_is = side_from f.side false false lies.0 (sym (boundary.level m x y found.1 lies).0 ∙ here)

    by : (t : Bool) → int_lt f.lo x ≡ t → f.lo ≡ x
    by true past = absurd (not_past m found.1 lies side_is (
      lies.0,
      lies.1,
      (let a = lies.2 in let c = lies.3 in omega (arith, ints)),
      (let a = lies.2 in let c = lies.3 in omega (arith, ints)),
    ))
    by false not_there = let a = lies.2 in let c = lies.3 in omega (arith, ints)

start_leads_back_at : (inside : ℤ → ℤ → Bool) (fs : List Fragment) (k : ℕ) (s : Side) (x y : ℤ) → IsBoundary inside fs
    → ((x y : ℤ) → ¬ IsCornerTouch inside x y) → k < length fs → (fragment_at fs k).side ≡ s
    → StartsAt s (fragment_at fs k).edge (fragment_at fs k).lo (fragment_at fs k).hi x y → SomeFinishes fs x y
start_leads_back_at inside fs k Left x y boundary none below e at = by (inside x y) (inside (x -ℤ pos 1) y) refl refl
  where
    known : StartFacts inside Left x y
    known = start_facts inside fs k Left x y boundary below e at

    early : LiesLeftOf (fragment_at fs k) x (y -ℤ pos 1)
    early = first_side Left (fragment_at fs k) x y e at (boundary.some k below)

    beyond : (m : ℕ) → m ≡ k → LiesLeftOf (fragment_at fs m) x y → ⊥
    beyond m same lies =
        let here : LiesLeftOf (fragment_at fs k) x y = subst (λ n. LiesLeftOf (fragment_at fs n) x y) same lies in
        let a = here.3 in let end = at.1 in omega (arith, ints)

    by : (p q : Bool) → inside x y ≡ p → inside (x -ℤ pos 1) y ≡ q → SomeFinishes fs x y
    by true true f g = arrives_down inside fs x y boundary g known.1 (λ m inside_m lies side past.
        let faces = boundary.level m x y inside_m past in
        let one = faces.1 ∙ (ap (λ s. not (opens s)) side) in let two = known.0 in cc)
    by true false f g = arrives_left inside fs x y boundary f g (λ m inside_m lies side past.
        beyond m (boundary.upright_once m k x (y -ℤ pos 1) inside_m below past early) lies)
    by false true f g = absurd (touch_round inside x y none (known.1 ∙ sym f) (known.0 ∙ sym g)
        (λ same. let one = known.1 in let two = known.0 in cc))
    by false false f g = arrives_up inside fs x y boundary f known.0 (λ m inside_m lies side past.
        let faces = boundary.level m (x -ℤ pos 1) y inside_m past in
        let one = faces.1 ∙ (ap (λ s. not (opens s)) side) in let two = known.1 in cc)
start_leads_back_at inside fs k Right x y boundary none below e at = by (inside x (y -ℤ pos 1)) (inside (x -ℤ pos 1) (y -ℤ pos 1)) refl refl
  where
    known : StartFacts inside Right x y
    known = start_facts inside fs k Right x y boundary below e at

    early : LiesLeftOf (fragment_at fs k) x y
    early = first_side Right (fragment_at fs k) x y e at (boundary.some k below)

    beyond : (m : ℕ) → m ≡ k → LiesLeftOf (fragment_at fs m) x (y -ℤ pos 1) → ⊥
    beyond m same lies =
        let here : LiesLeftOf (fragment_at fs k) x (y -ℤ pos 1) = subst (λ n. LiesLeftOf (fragment_at fs n) x (y -ℤ pos 1)) same lies in
        let a = here.2 in let end = at.1 in omega (arith, ints)

    by : (p q : Bool) → inside x (y -ℤ pos 1) ≡ p → inside (x -ℤ pos 1) (y -ℤ pos 1) ≡ q → SomeFinishes fs x y
    by true true f g = arrives_up inside fs x y boundary known.0 f (λ m inside_m lies side past.
        let faces = boundary.level m (x -ℤ pos 1) y inside_m past in
        let one = faces.0 ∙ ap opens side in let two = known.1 in cc)
    by true false f g = absurd (touch_round inside x y none (g ∙ sym known.0) (f ∙ sym known.1)
        (λ same. let one = g in let two = f in cc))
    by false true f g = arrives_right inside fs x y boundary f g (λ m inside_m lies side past.
        beyond m (boundary.upright_once m k x y inside_m below past early) lies)
    by false false f g = arrives_down inside fs x y boundary known.1 g (λ m inside_m lies side past.
        let faces = boundary.level m x y inside_m past in
        let one = faces.0 ∙ ap opens side in let two = known.0 in cc)
start_leads_back_at inside fs k Down x y boundary none below e at = by (inside (x -ℤ pos 1) y) (inside (x -ℤ pos 1) (y -ℤ pos 1)) refl refl
  where
    known : StartFacts inside Down x y
    known = start_facts inside fs k Down x y boundary below e at

    early : LiesBelow (fragment_at fs k) x y
    early = first_side Down (fragment_at fs k) x y e at (boundary.some k below)

    beyond : (m : ℕ) → m ≡ k → LiesBelow (fragment_at fs m) (x -ℤ pos 1) y → ⊥
    beyond m same lies =
        let here : LiesBelow (fragment_at fs k) (x -ℤ pos 1) y = subst (λ n. LiesBelow (fragment_at fs n) (x -ℤ pos 1) y) same lies in
        let a = here.2 in let end = at.1 in omega (arith, ints)

    by : (p q : Bool) → inside (x -ℤ pos 1) y ≡ p → inside (x -ℤ pos 1) (y -ℤ pos 1) ≡ q → SomeFinishes fs x y
    by true true f g = arrives_right inside fs x y boundary known.1 g (λ m inside_m lies side past.
        let faces = boundary.upright m x y inside_m past in
        let one = faces.0 ∙ ap opens side in let two = known.0 in cc)
    by true false f g = arrives_down inside fs x y boundary f g (λ m inside_m lies side past.
        beyond m (boundary.level_once m k x y inside_m below past early) lies)
    by false true f g = absurd (touch_round inside x y none (g ∙ sym known.0) (known.1 ∙ sym f)
        (λ same. let one = g in let two = known.1 in cc))
    by false false f g = arrives_left inside fs x y boundary known.0 f (λ m inside_m lies side past.
        let faces = boundary.upright m x (y -ℤ pos 1) inside_m past in
        let one = faces.0 ∙ ap opens side in let two = known.1 in cc)
start_leads_back_at inside fs k Up x y boundary none below e at = by (inside x y) (inside x (y -ℤ pos 1)) refl refl
  where
    known : StartFacts inside Up x y
    known = start_facts inside fs k Up x y boundary below e at

    early : LiesBelow (fragment_at fs k) (x -ℤ pos 1) y
    early = first_side Up (fragment_at fs k) x y e at (boundary.some k below)

    beyond : (m : ℕ) → m ≡ k → LiesBelow (fragment_at fs m) x y → ⊥
    beyond m same lies =
        let here : LiesBelow (fragment_at fs k) x y = subst (λ n. LiesBelow (fragment_at fs n) x y) same lies in
        let a = here.3 in let end = at.1 in omega (arith, ints)

    by : (p q : Bool) → inside x y ≡ p → inside x (y -ℤ pos 1) ≡ q → SomeFinishes fs x y
    by true true f g = arrives_left inside fs x y boundary f known.0 (λ m inside_m lies side past.
        let faces = boundary.upright m x (y -ℤ pos 1) inside_m past in
        let one = faces.1 ∙ (ap (λ s. not (opens s)) side) in let two = known.1 in cc)
    by true false f g = absurd (touch_round inside x y none (known.1 ∙ sym f) (g ∙ sym known.0)
        (λ same. let one = known.1 in let two = g in cc))
    by false true f g = arrives_up inside fs x y boundary f g (λ m inside_m lies side past.
        beyond m (boundary.level_once m k (x -ℤ pos 1) y inside_m below past early) lies)
    by false false f g = arrives_right inside fs x y boundary g known.1 (λ m inside_m lies side past.
        let faces = boundary.upright m x y inside_m past in
        let one = faces.1 ∙ (ap (λ s. not (opens s)) side) in let two = known.0 in cc)

-- Where no pixels touch at a corner only, a fragment finishes where another starts.
pub start_leads_back : (inside : ℤ → ℤ → Bool) (fs : List Fragment) (k : ℕ) → IsBoundary inside fs → ((x y : ℤ) → ¬ IsCornerTouch inside x y)
    → k < length fs → (m : ℕ) × (m < length fs) × (finish_point (fragment_at fs m) ≡ start_point (fragment_at fs k))
start_leads_back inside fs k boundary none below =
    let f = fragment_at fs k in let p = start_point f in
    start_leads_back_at inside fs k f.side p.x p.y boundary none below refl (starts_at f.side f.edge f.lo f.hi p.x p.y refl)
