-- How the count changes from a pixel to the next: by the pieces on the side between them.
use Rattle.std.proofs.Common.{◌≡◌, ◌≢◌, inl, inr, ℕ, zero, suc, ◌<◌, ℤ, pos, negsuc, ◌+ℤ◌, ◌-ℤ◌, ◌≤ℤ◌, ◌<ℤ◌, Bool, true, false, if◌then◌else◌, List, length, int_le, refl, sym, ◌∙◌, ap, arith}
use Rattle.std.specs.Ordering.{int_eq}
use Rattle.std.proofs.lemmas.Int.{ints}
use Rattle.std.proofs.lemmas.Bool.Decides.{Decides-int_eq, eqb_tells}
use Rattle.outline_model.specs.declared.fragment.Fragment.{Fragment}
use Rattle.outline_model.specs.declared.fragment.Join.{Join}
use Rattle.outline_model.specs.declared.fragment.Join.TheVariants.{Cut, Corner}
use Rattle.outline_model.specs.Outline.{Point, Piece, IsOutline, fragment_at, finish_join, own_piece, jog, vertical_piece, horizontal_piece, step, crossing, count, total}
use Rattle.outline_model.specs.Rules.{FallsOn, RisesOn, LeftwardOn, RightwardOn}
use Rattle.outline_model.proofs.Walk.{stands, flux, jog_at_corner}
use Rattle.outline_model.proofs.Moves.{flux_across, count-vertical, flux-closed}
use Rattle.outline_model.proofs.Crossings.{own_is_straight, cut_jog_is, cut_jog_is_straight}
use Rattle.outline_model.proofs.Totals.{total-equal, total-add}

-- what a vertical piece counts on the left side of a pixel
abbrev pub side_count : Piece → ℤ → ℤ → ℤ
side_count piece x y = if int_eq piece.from.x x then step piece.to.y y -ℤ step piece.from.y y else pos 0

pub int_eq-false : (a x : ℤ) → int_eq a x ≡ false → a ≢ x
int_eq-false a x g same = let t : int_eq a x ≡ true = (Decides-int_eq a x).1 same in cc

step_by_equal : (a x z : ℤ) (p q r : Bool) → int_le a x ≡ p → int_le a (x -ℤ pos 1) ≡ q → int_eq a x ≡ r
    → (if p then z else pos 0) ≡ (if q then z else pos 0) +ℤ (if r then z else pos 0)
step_by_equal a x z p q true e f g = by p q e f ((Decides-int_eq a x).0 g)
  where
    by : (p q : Bool) → int_le a x ≡ p → int_le a (x -ℤ pos 1) ≡ q → a ≡ x → (if p then z else pos 0) ≡ (if q then z else pos 0) +ℤ z
    by true true e f same = absurd (omega (arith, ints))
    by true false e f same = omega (arith, ints)
    by false q e f same = absurd (omega (arith, ints))
step_by_equal a x z p q false e f g = by p q e f (int_eq-false a x g)
  where
    by : (p q : Bool) → int_le a x ≡ p → int_le a (x -ℤ pos 1) ≡ q → a ≢ x → (if p then z else pos 0) ≡ (if q then z else pos 0) +ℤ pos 0
    by true true e f apart = omega (arith, ints)
    by true false e f apart = absurd (omega (arith, ints))
    by false true e f apart = absurd (omega (arith, ints))
    by false false e f apart = refl

crossing-step : (piece : Piece) (x y : ℤ) → crossing piece x y ≡ crossing piece (x -ℤ pos 1) y +ℤ side_count piece x y
unfolding crossing
crossing-step piece x y =
    step_by_equal piece.from.x x (step piece.to.y y -ℤ step piece.from.y y) (int_le piece.from.x x) (int_le piece.from.x (x -ℤ pos 1)) (int_eq piece.from.x x) refl refl refl

-- from the pixel on the left
pub count-step : (fs : List Fragment) (line : ℕ → ℤ) (x y : ℤ)
    → count fs line x y ≡ count fs line (x -ℤ pos 1) y +ℤ total (length fs) (λ k. side_count (vertical_piece fs line k) x y)
unfolding count
count-step fs line x y =
    total-equal (length fs) (λ k. crossing (vertical_piece fs line k) x y)
    (λ k. crossing (vertical_piece fs line k) (x -ℤ pos 1) y +ℤ side_count (vertical_piece fs line k) x y)
    (λ k below. crossing-step (vertical_piece fs line k) x y)
    ∙ total-add (length fs) (λ k. crossing (vertical_piece fs line k) (x -ℤ pos 1) y) (λ k. side_count (vertical_piece fs line k) x y)

-- ---- the two pixels beside a piece

pub not_rising : (piece : Piece) (x y : ℤ) → ¬ RisesOn piece x y → pos 0 ≤ℤ side_count piece x y
not_rising piece x y none = by (int_eq piece.from.x x) (int_le piece.to.y y) (int_le piece.from.y y) refl refl refl
  where
    by : (p q r : Bool) → int_eq piece.from.x x ≡ p → int_le piece.to.y y ≡ q → int_le piece.from.y y ≡ r
        → pos 0 ≤ℤ (if p then (if q then pos 1 else pos 0) -ℤ (if r then pos 1 else pos 0) else pos 0)
    by false q r e f g = omega (arith, ints)
    by true true true e f g = omega (arith, ints)
    by true true false e f g = omega (arith, ints)
    by true false true e f g = absurd (none ((Decides-int_eq piece.from.x x).0 e, omega (arith, ints), omega (arith, ints)))
    by true false false e f g = omega (arith, ints)

pub falling : (piece : Piece) (x y : ℤ) → FallsOn piece x y → side_count piece x y ≡ pos 1
falling piece x y falls = by (int_eq piece.from.x x) (int_le piece.to.y y) (int_le piece.from.y y) refl refl refl
  where
    at : piece.from.x ≡ x
    at = falls.0

    low : piece.to.y ≤ℤ y
    low = falls.1

    high : y <ℤ piece.from.y
    high = falls.2

    by : (p q r : Bool) → int_eq piece.from.x x ≡ p → int_le piece.to.y y ≡ q → int_le piece.from.y y ≡ r
        → (if p then (if q then pos 1 else pos 0) -ℤ (if r then pos 1 else pos 0) else pos 0) ≡ pos 1
    by false q r e f g = absurd (int_eq-false piece.from.x x e at)
    by true true true e f g = absurd (let h = high in omega (arith, ints))
    by true true false e f g = refl
    by true false r e f g = absurd (let l = low in omega (arith, ints))

pub total_positive : (n : ℕ) (f : ℕ → ℤ) → ((k : ℕ) → k < n → pos 0 ≤ℤ f k) → pos 0 ≤ℤ total n f
total_positive zero f positive = omega (arith, ints)
total_positive (suc n) f positive =
    let last : pos 0 ≤ℤ f n = positive n (omega arith) in
    let before : pos 0 ≤ℤ total n f = total_positive n f (λ k h. positive k (omega arith)) in omega (arith, ints)

total_at_least : (n : ℕ) (f : ℕ → ℤ) → ((k : ℕ) → k < n → pos 0 ≤ℤ f k) → (j : ℕ) → j < n → f j ≤ℤ total n f
total_at_least zero f positive j inside = absurd (omega arith)
total_at_least (suc n) f positive j inside =
    let last : pos 0 ≤ℤ f n = positive n (omega arith) in
    elim (eqb_tells j n) [
      | inl w ↦
          let before : pos 0 ≤ℤ total n f = total_positive n f (λ k h. positive k (omega arith)) in
          let here : f j ≡ f n = ap f w.1 in omega (arith, ints)
      | inr w ↦
          let apart : j ≢ n = w.1 in
          let before : f j ≤ℤ total n f = total_at_least n f (λ k h. positive k (omega arith)) j (omega arith) in omega (arith, ints)
    ]

-- Where no piece is walked upward on a side, and one is walked downward, the count grows there.
pub count-falls : (fs : List Fragment) (line : ℕ → ℤ) (x y : ℤ) (j : ℕ) → j < length fs → FallsOn (vertical_piece fs line j) x y
    → ((k : ℕ) → k < length fs → ¬ RisesOn (vertical_piece fs line k) x y)
    → count fs line (x -ℤ pos 1) y <ℤ count fs line x y
count-falls fs line x y j inside falls none =
    let step_is = count-step fs line x y in
    let one : side_count (vertical_piece fs line j) x y ≡ pos 1 = falling (vertical_piece fs line j) x y falls in
    let most : side_count (vertical_piece fs line j) x y ≤ℤ total (length fs) (λ k. side_count (vertical_piece fs line k) x y) =
    total_at_least (length fs) (λ k. side_count (vertical_piece fs line k) x y)
    (λ k h. not_rising (vertical_piece fs line k) x y (none k h)) j inside in
    omega (arith, ints)

-- ---- from the pixel below

-- what a horizontal piece counts on the lower side of a pixel
abbrev pub floor_count : Piece → ℤ → ℤ → ℤ
floor_count piece x y = if int_eq piece.from.y y then step piece.to.x x -ℤ step piece.from.x x else pos 0

pub horizontal_is_level : (fs : List Fragment) (line : ℕ → ℤ) (k : ℕ) → IsOutline fs → k < length fs
    → (horizontal_piece fs line k).from.y ≡ (horizontal_piece fs line k).to.y
horizontal_is_level fs line k outline below = by (stands fs k) refl
  where
    jog_level : (t : Join) → finish_join (fragment_at fs k) ≡ t → stands fs k ≡ true → (jog fs line k).from.y ≡ (jog fs line k).to.y
    jog_level (Cut j) e up =
        let is = cut_jog_is false fs line k j outline below up e in
        ap (λ (p : Piece). p.from.y) is ∙ cut_jog_is_straight false fs line k j ∙ sym (ap (λ (p : Piece). p.to.y) is)
    jog_level (Corner j) e up = ap (λ (p : Point). p.y) (jog_at_corner fs line k j outline below e)

    by : (s : Bool) → stands fs k ≡ s
        → (if s then jog fs line k else own_piece fs line k).from.y ≡ (if s then jog fs line k else own_piece fs line k).to.y
    by true e = jog_level (finish_join (fragment_at fs k)) refl e
    by false e = own_is_straight false fs line k e

flux-level : (piece : Piece) (x y : ℤ) → piece.from.y ≡ piece.to.y
    → flux piece x y ≡ (if int_le piece.from.y y then step piece.to.x x -ℤ step piece.from.x x else pos 0)
flux-level piece x y e =
    ap (λ l. (if int_le piece.to.x x then step l y else pos 0) -ℤ (if int_le piece.from.x x then step piece.from.y y else pos 0)) (sym e)
    ∙ by (int_le piece.from.y y) (int_le piece.to.x x) (int_le piece.from.x x)
  where
    by : (c p q : Bool) → (if p then (if c then pos 1 else pos 0) else pos 0) -ℤ (if q then (if c then pos 1 else pos 0) else pos 0)
        ≡ (if c then (if p then pos 1 else pos 0) -ℤ (if q then pos 1 else pos 0) else pos 0)
    by true true true = refl
    by true true false = refl
    by true false true = refl
    by true false false = refl
    by false true true = refl
    by false true false = refl
    by false false true = refl
    by false false false = refl

flux_across-step : (fs : List Fragment) (line : ℕ → ℤ) (x y : ℤ) → IsOutline fs
    → flux_across fs line x y ≡ flux_across fs line x (y -ℤ pos 1) +ℤ total (length fs) (λ k. floor_count (horizontal_piece fs line k) x y)
unfolding flux_across
flux_across-step fs line x y outline =
    total-equal (length fs) (λ k. flux (horizontal_piece fs line k) x y)
    (λ k. flux (horizontal_piece fs line k) x (y -ℤ pos 1) +ℤ floor_count (horizontal_piece fs line k) x y)
    (λ k below.
    let piece = horizontal_piece fs line k in
    let level = horizontal_is_level fs line k outline below in
    flux-level piece x y level
    ∙ step_by_equal piece.from.y y (step piece.to.x x -ℤ step piece.from.x x) (int_le piece.from.y y) (int_le piece.from.y (y -ℤ pos 1)) (int_eq piece.from.y y) refl refl refl
    ∙ ap (λ t. t +ℤ floor_count piece x y) (sym (flux-level piece x (y -ℤ pos 1) level)))
    ∙ total-add (length fs) (λ k. flux (horizontal_piece fs line k) x (y -ℤ pos 1)) (λ k. floor_count (horizontal_piece fs line k) x y)

pub count-step_up : (fs : List Fragment) (line : ℕ → ℤ) (x y : ℤ) → IsOutline fs
    → count fs line x y ≡ count fs line x (y -ℤ pos 1) -ℤ total (length fs) (λ k. floor_count (horizontal_piece fs line k) x y)
count-step_up fs line x y outline =
    let here = count-vertical fs line x y outline in
    let below = count-vertical fs line x (y -ℤ pos 1) outline in
    let here_closed = flux-closed fs line x y outline in
    let below_closed = flux-closed fs line x (y -ℤ pos 1) outline in
    let across = flux_across-step fs line x y outline in
    omega (arith, ints)

-- ---- the other directions

pub not_falling : (piece : Piece) (x y : ℤ) → ¬ FallsOn piece x y → side_count piece x y ≤ℤ pos 0
not_falling piece x y none = by (int_eq piece.from.x x) (int_le piece.to.y y) (int_le piece.from.y y) refl refl refl
  where
    by : (p q r : Bool) → int_eq piece.from.x x ≡ p → int_le piece.to.y y ≡ q → int_le piece.from.y y ≡ r
        → (if p then (if q then pos 1 else pos 0) -ℤ (if r then pos 1 else pos 0) else pos 0) ≤ℤ pos 0
    by false q r e f g = omega (arith, ints)
    by true true true e f g = omega (arith, ints)
    by true true false e f g = absurd (none ((Decides-int_eq piece.from.x x).0 e, omega (arith, ints), omega (arith, ints)))
    by true false true e f g = omega (arith, ints)
    by true false false e f g = omega (arith, ints)

pub rising : (piece : Piece) (x y : ℤ) → RisesOn piece x y → side_count piece x y ≡ negsuc 0
rising piece x y rises = by (int_eq piece.from.x x) (int_le piece.to.y y) (int_le piece.from.y y) refl refl refl
  where
    at : piece.from.x ≡ x
    at = rises.0

    low : piece.from.y ≤ℤ y
    low = rises.1

    high : y <ℤ piece.to.y
    high = rises.2

    by : (p q r : Bool) → int_eq piece.from.x x ≡ p → int_le piece.to.y y ≡ q → int_le piece.from.y y ≡ r
        → (if p then (if q then pos 1 else pos 0) -ℤ (if r then pos 1 else pos 0) else pos 0) ≡ negsuc 0
    by false q r e f g = absurd (int_eq-false piece.from.x x e at)
    by true true r e f g = absurd (let h = high in omega (arith, ints))
    by true false true e f g = refl
    by true false false e f g = absurd (let l = low in omega (arith, ints))

pub total_not_above : (n : ℕ) (f : ℕ → ℤ) → ((k : ℕ) → k < n → f k ≤ℤ pos 0) → total n f ≤ℤ pos 0
total_not_above zero f negative = omega (arith, ints)
total_not_above (suc n) f negative =
    let last : f n ≤ℤ pos 0 = negative n (omega arith) in
    let before : total n f ≤ℤ pos 0 = total_not_above n f (λ k h. negative k (omega arith)) in omega (arith, ints)

total_at_most : (n : ℕ) (f : ℕ → ℤ) → ((k : ℕ) → k < n → f k ≤ℤ pos 0) → (j : ℕ) → j < n → total n f ≤ℤ f j
total_at_most zero f negative j inside = absurd (omega arith)
total_at_most (suc n) f negative j inside =
    let last : f n ≤ℤ pos 0 = negative n (omega arith) in
    elim (eqb_tells j n) [
      | inl w ↦
          let before : total n f ≤ℤ pos 0 = total_not_above n f (λ k h. negative k (omega arith)) in
          let here : f j ≡ f n = ap f w.1 in omega (arith, ints)
      | inr w ↦
          let apart : j ≢ n = w.1 in
          let before : total n f ≤ℤ f j = total_at_most n f (λ k h. negative k (omega arith)) j (omega arith) in omega (arith, ints)
    ]

-- Where one piece is walked upward on a side, and none downward, the count falls there.
pub count-rises : (fs : List Fragment) (line : ℕ → ℤ) (x y : ℤ) (j : ℕ) → j < length fs → RisesOn (vertical_piece fs line j) x y
    → ((k : ℕ) → k < length fs → ¬ FallsOn (vertical_piece fs line k) x y)
    → count fs line x y <ℤ count fs line (x -ℤ pos 1) y
count-rises fs line x y j inside rises none =
    let step_is = count-step fs line x y in
    let one : side_count (vertical_piece fs line j) x y ≡ negsuc 0 = rising (vertical_piece fs line j) x y rises in
    let most : total (length fs) (λ k. side_count (vertical_piece fs line k) x y) ≤ℤ side_count (vertical_piece fs line j) x y =
    total_at_most (length fs) (λ k. side_count (vertical_piece fs line k) x y)
    (λ k h. not_falling (vertical_piece fs line k) x y (none k h)) j inside in
    omega (arith, ints)

-- the piece with its axes exchanged: what it counts on a left side is what the piece counts on a lower side
abbrev turned : Piece → Piece
turned piece = record { from = record { x = piece.from.y; y = piece.from.x }; to = record { x = piece.to.y; y = piece.to.x } }

-- Where one piece is walked to the right on a pixel's lower side, and none to the left, the count grows there.
pub count-rightward : (fs : List Fragment) (line : ℕ → ℤ) (x y : ℤ) (j : ℕ) → IsOutline fs → j < length fs → RightwardOn (horizontal_piece fs line j) x y
    → ((k : ℕ) → k < length fs → ¬ LeftwardOn (horizontal_piece fs line k) x y)
    → count fs line x (y -ℤ pos 1) <ℤ count fs line x y
count-rightward fs line x y j outline inside rightward none =
    let step_is = count-step_up fs line x y outline in
    let one : floor_count (horizontal_piece fs line j) x y ≡ negsuc 0 = rising (turned (horizontal_piece fs line j)) y x rightward in
    let most : total (length fs) (λ k. floor_count (horizontal_piece fs line k) x y) ≤ℤ floor_count (horizontal_piece fs line j) x y =
    total_at_most (length fs) (λ k. floor_count (horizontal_piece fs line k) x y)
    (λ k h. not_falling (turned (horizontal_piece fs line k)) y x (none k h)) j inside in
    omega (arith, ints)

pub count-leftward : (fs : List Fragment) (line : ℕ → ℤ) (x y : ℤ) (j : ℕ) → IsOutline fs → j < length fs → LeftwardOn (horizontal_piece fs line j) x y
    → ((k : ℕ) → k < length fs → ¬ RightwardOn (horizontal_piece fs line k) x y)
    → count fs line x y <ℤ count fs line x (y -ℤ pos 1)
count-leftward fs line x y j outline inside leftward none =
    let step_is = count-step_up fs line x y outline in
    let one : floor_count (horizontal_piece fs line j) x y ≡ pos 1 = falling (turned (horizontal_piece fs line j)) y x leftward in
    let most : floor_count (horizontal_piece fs line j) x y ≤ℤ total (length fs) (λ k. floor_count (horizontal_piece fs line k) x y) =
    total_at_least (length fs) (λ k. floor_count (horizontal_piece fs line k) x y)
    (λ k h. not_rising (turned (horizontal_piece fs line k)) y x (none k h)) j inside in
    omega (arith, ints)
