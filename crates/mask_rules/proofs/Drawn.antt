-- Where rule M0 holds, the outline's stretches are where the mask changes.
use Rattle.std.proofs.Common.{◌≡◌, ◌≢◌, ◌⊎◌, inl, inr, ℕ, zero, suc, ◌<◌, ℤ, pos, negsuc, ◌-ℤ◌, ◌≤ℤ◌, ◌<ℤ◌, Bool, true, false, not, if◌then◌else◌, List, length, int_le, int_lt, refl, sym, ◌∙◌, ap, arith}
use Rattle.std.specs.Ordering.{int_eq}
use Rattle.std.proofs.lemmas.Int.{ints, clamps}
use Rattle.std.proofs.lemmas.Bool.Decides.{Decides-int_eq}
use Rattle.outline_model.specs.declared.fragment.Fragment.{Fragment}
use Rattle.outline_model.specs.Outline.{IsOutline, vertical_piece, horizontal_piece, step, count, mask, total}
use Rattle.outline_model.specs.Rules.{FallsOn, RisesOn, LeftwardOn, RightwardOn, NoneCrosses}
use Rattle.outline_model.proofs.MaskMoves.{IsSingle, single_count}
use Rattle.outline_model.proofs.Steps.{side_count, floor_count, count-step, count-step_up, count-falls, count-rises, count-leftward, count-rightward}
use Rattle.outline_model.specs.Edges.{seen}
use Rattle.mask_rules.specs.Stretches.{walked, stretch_at, Spans, IsDrawn}

-- ---- a stretch and its piece

walked-spans : (v : Bool) (at from to t : ℤ) → Spans (walked v at from to) t
    → (((walked v at from to).opens ≡ v) × (to ≤ℤ t) × (t <ℤ from)) ⊎ (((walked v at from to).opens ≡ not v) × (from ≤ℤ t) × (t <ℤ to))
walked-spans true at from to t spans = by (int_lt to from) refl
  where
    by : (b : Bool) → int_lt to from ≡ b → ((b ≡ true) × (to ≤ℤ t) × (t <ℤ from)) ⊎ ((b ≡ false) × (from ≤ℤ t) × (t <ℤ to))
    by true e = let low = spans.0 in let high = spans.1 in inl (refl, omega (arith, ints, clamps), omega (arith, ints, clamps))
    by false e = let low = spans.0 in let high = spans.1 in inr (refl, omega (arith, ints, clamps), omega (arith, ints, clamps))
walked-spans false at from to t spans = by (int_lt from to) refl
  where
    by : (b : Bool) → int_lt from to ≡ b → ((b ≡ false) × (to ≤ℤ t) × (t <ℤ from)) ⊎ ((b ≡ true) × (from ≤ℤ t) × (t <ℤ to))
    by true e = let low = spans.0 in let high = spans.1 in inr (refl, omega (arith, ints, clamps), omega (arith, ints, clamps))
    by false e = let low = spans.0 in let high = spans.1 in inl (refl, omega (arith, ints, clamps), omega (arith, ints, clamps))

-- a stretch that spans a place is a piece that is walked one way or the other there
pub upright_piece : (fs : List Fragment) (line : ℕ → ℤ) (k : ℕ) (t : ℤ) → Spans (stretch_at fs line true k) t
    → (((stretch_at fs line true k).opens ≡ true) × FallsOn (vertical_piece fs line k) (stretch_at fs line true k).at t)
    ⊎ (((stretch_at fs line true k).opens ≡ false) × RisesOn (vertical_piece fs line k) (stretch_at fs line true k).at t)
unfolding stretch_at
upright_piece fs line k t spans =
    let piece = vertical_piece fs line k in
    elim (walked-spans true piece.from.x piece.from.y piece.to.y t spans) [
      | inl h ↦ inl (h.0, (refl, h.1, h.2))
      | inr h ↦ inr (h.0, (refl, h.1, h.2))
    ]

pub level_piece : (fs : List Fragment) (line : ℕ → ℤ) (k : ℕ) (t : ℤ) → Spans (stretch_at fs line false k) t
    → (((stretch_at fs line false k).opens ≡ false) × LeftwardOn (horizontal_piece fs line k) t (stretch_at fs line false k).at)
    ⊎ (((stretch_at fs line false k).opens ≡ true) × RightwardOn (horizontal_piece fs line k) t (stretch_at fs line false k).at)
unfolding stretch_at
level_piece fs line k t spans =
    let piece = horizontal_piece fs line k in
    elim (walked-spans false piece.from.y piece.from.x piece.to.x t spans) [
      | inl h ↦ inl (h.0, (refl, h.1, h.2))
      | inr h ↦ inr (h.0, (refl, h.1, h.2))
    ]

walked-falls : (v : Bool) (at from to t : ℤ) → to ≤ℤ t → t <ℤ from → Spans (walked v at from to) t × ((walked v at from to).opens ≡ v)
walked-falls true at from to t low high = ((omega (arith, ints, clamps), omega (arith, ints, clamps)), by (int_lt to from) refl)
  where
    by : (b : Bool) → int_lt to from ≡ b → b ≡ true
    by true e = refl
    by false e = absurd (omega (arith, ints))
walked-falls false at from to t low high = ((omega (arith, ints, clamps), omega (arith, ints, clamps)), by (int_lt from to) refl)
  where
    by : (b : Bool) → int_lt from to ≡ b → b ≡ false
    by true e = absurd (omega (arith, ints))
    by false e = refl

walked-rises : (v : Bool) (at from to t : ℤ) → from ≤ℤ t → t <ℤ to → Spans (walked v at from to) t × ((walked v at from to).opens ≡ not v)
walked-rises true at from to t low high = ((omega (arith, ints, clamps), omega (arith, ints, clamps)), by (int_lt to from) refl)
  where
    by : (b : Bool) → int_lt to from ≡ b → b ≡ false
    by true e = absurd (omega (arith, ints))
    by false e = refl
walked-rises false at from to t low high = ((omega (arith, ints, clamps), omega (arith, ints, clamps)), by (int_lt from to) refl)
  where
    by : (b : Bool) → int_lt from to ≡ b → b ≡ true
    by true e = refl
    by false e = absurd (omega (arith, ints))

-- a stretch at a place across, beside a place along
abbrev pub StretchOn : List Fragment → (ℕ → ℤ) → Bool → ℕ → ℤ → ℤ → Bool → Type 0
StretchOn fs line v k a t opens = ((stretch_at fs line v k).at ≡ a) × Spans (stretch_at fs line v k) t × ((stretch_at fs line v k).opens ≡ opens)

pub falls_stretch : (fs : List Fragment) (line : ℕ → ℤ) (k : ℕ) (x y : ℤ) → FallsOn (vertical_piece fs line k) x y → StretchOn fs line true k x y true
unfolding stretch_at
falls_stretch fs line k x y h =
    let piece = vertical_piece fs line k in
    let spans = walked-falls true piece.from.x piece.from.y piece.to.y y h.1 h.2 in (h.0, spans.0, spans.1)

pub rises_stretch : (fs : List Fragment) (line : ℕ → ℤ) (k : ℕ) (x y : ℤ) → RisesOn (vertical_piece fs line k) x y → StretchOn fs line true k x y false
unfolding stretch_at
rises_stretch fs line k x y h =
    let piece = vertical_piece fs line k in
    let spans = walked-rises true piece.from.x piece.from.y piece.to.y y h.1 h.2 in (h.0, spans.0, spans.1)

pub leftward_stretch : (fs : List Fragment) (line : ℕ → ℤ) (k : ℕ) (x y : ℤ) → LeftwardOn (horizontal_piece fs line k) x y → StretchOn fs line false k y x false
unfolding stretch_at
leftward_stretch fs line k x y h =
    let piece = horizontal_piece fs line k in
    let spans = walked-falls false piece.from.y piece.from.x piece.to.x x h.1 h.2 in (h.0, spans.0, spans.1)

pub rightward_stretch : (fs : List Fragment) (line : ℕ → ℤ) (k : ℕ) (x y : ℤ) → RightwardOn (horizontal_piece fs line k) x y → StretchOn fs line false k y x true
unfolding stretch_at
rightward_stretch fs line k x y h =
    let piece = horizontal_piece fs line k in
    let spans = walked-rises false piece.from.y piece.from.x piece.to.x x h.1 h.2 in (h.0, spans.0, spans.1)

-- ---- counts

grown : (a b : ℤ) → IsSingle a → IsSingle b → a <ℤ b → (int_eq b (pos 1) ≡ true) × (int_eq a (pos 1) ≡ false)
grown a b first second less = elim first [
  | inl zero_then ↦ elim second [
    | inl h ↦ absurd (omega (arith, ints))
    | inr one_now ↦ (ap (λ c. int_eq c (pos 1)) one_now, ap (λ c. int_eq c (pos 1)) zero_then)
  ]
  | inr one_then ↦ elim second [
    | inl h ↦ absurd (omega (arith, ints))
    | inr h ↦ absurd (omega (arith, ints))
  ]
]

faces_of : (fs : List Fragment) (line : ℕ → ℤ) → IsOutline fs → NoneCrosses fs line → (v : Bool) (k : ℕ) (t : ℤ) → k < length fs
    → Spans (stretch_at fs line v k) t
    → (seen v (mask fs line) (stretch_at fs line v k).at t ≡ (stretch_at fs line v k).opens)
    × (seen v (mask fs line) ((stretch_at fs line v k).at -ℤ pos 1) t ≡ not (stretch_at fs line v k).opens)
faces_of fs line outline none true k t below spans =
    let x = (stretch_at fs line true k).at in
    let here = single_count fs line x t none in
    let left = single_count fs line (x -ℤ pos 1) t none in
    elim (upright_piece fs line k t spans) [
      | inl h ↦
          let less = count-falls fs line x t k below h.1
          (λ j inside rises. none x t (inr (inl (record { j = k; k = j; j_below = below; k_below = inside; falls = h.1; rises = rises })))) in
          let both = grown _ _ left here less in
          (both.0 ∙ sym h.0, both.1 ∙ ap not (sym h.0))
      | inr h ↦
          let less = count-rises fs line x t k below h.1
          (λ j inside falls. none x t (inr (inl (record { j = j; k = k; j_below = inside; k_below = below; falls = falls; rises = h.1 })))) in
          let both = grown _ _ here left less in
          (both.1 ∙ sym h.0, both.0 ∙ ap not (sym h.0))
    ]
faces_of fs line outline none false k t below spans =
    let y = (stretch_at fs line false k).at in
    let here = single_count fs line t y none in
    let under = single_count fs line t (y -ℤ pos 1) none in
    elim (level_piece fs line k t spans) [
      | inl h ↦
          let less = count-leftward fs line t y k outline below h.1
          (λ j inside rightward. none t y (inr (inr (record { j = k; k = j; j_below = below; k_below = inside; leftward = h.1; rightward = rightward })))) in
          let both = grown _ _ here under less in
          (both.1 ∙ sym h.0, both.0 ∙ ap not (sym h.0))
      | inr h ↦
          let less = count-rightward fs line t y k outline below h.1
          (λ j inside leftward. none t y (inr (inr (record { j = j; k = k; j_below = inside; k_below = below; leftward = leftward; rightward = h.1 })))) in
          let both = grown _ _ under here less in
          (both.0 ∙ sym h.0, both.1 ∙ ap not (sym h.0))
    ]

-- ---- where the mask changes a stretch stands

zero_or_apart : (z : ℤ) → (z ≡ pos 0) ⊎ (z ≢ pos 0)
zero_or_apart (pos zero) = inl refl
zero_or_apart (pos (suc n)) = inr (λ e. omega (arith, ints, e))
zero_or_apart (negsuc n) = inr (λ e. omega (arith, ints, e))

total_apart : (n : ℕ) (f : ℕ → ℤ) → total n f ≢ pos 0 → (k : ℕ) × (k < n) × (f k ≢ pos 0)
total_apart zero f apart = absurd (apart refl)
total_apart (suc n) f apart = elim (zero_or_apart (f n)) [
  | inr h ↦ (n, omega arith, h)
  | inl none ↦
      let before = total_apart n f (λ e. apart (omega (arith, ints, e, none))) in
      (before.0, (let below = before.1 in omega arith), before.2)
]

side_walked : (at from to a t : ℤ) → (if int_eq at a then step to t -ℤ step from t else pos 0) ≢ pos 0
    → (at ≡ a) × (((to ≤ℤ t) × (t <ℤ from)) ⊎ ((from ≤ℤ t) × (t <ℤ to)))
side_walked at from to a t = by (int_eq at a) (int_le to t) (int_le from t) refl refl refl
  where
    by : (p q r : Bool) → int_eq at a ≡ p → int_le to t ≡ q → int_le from t ≡ r
        → (if p then (if q then pos 1 else pos 0) -ℤ (if r then pos 1 else pos 0) else pos 0) ≢ pos 0
        → (at ≡ a) × (((to ≤ℤ t) × (t <ℤ from)) ⊎ ((from ≤ℤ t) × (t <ℤ to)))
    by false q r e f g apart = absurd (apart refl)
    by true true true e f g apart = absurd (apart refl)
    by true true false e f g apart = ((Decides-int_eq at a).0 e, inl (omega (arith, ints), omega (arith, ints)))
    by true false true e f g apart = ((Decides-int_eq at a).0 e, inr (omega (arith, ints), omega (arith, ints)))
    by true false false e f g apart = absurd (apart refl)

walked-stands : (v : Bool) (at from to t : ℤ) → ((to ≤ℤ t) × (t <ℤ from)) ⊎ ((from ≤ℤ t) × (t <ℤ to)) → Spans (walked v at from to) t
walked-stands v at from to t h = elim h [
  | inl down ↦ (walked-falls v at from to t down.0 down.1).0
  | inr up ↦ (walked-rises v at from to t up.0 up.1).0
]

all_of : (fs : List Fragment) (line : ℕ → ℤ) → IsOutline fs → (v : Bool) (a t : ℤ)
    → seen v (mask fs line) a t ≢ seen v (mask fs line) (a -ℤ pos 1) t
    → (k : ℕ) × (k < length fs) × ((stretch_at fs line v k).at ≡ a) × Spans (stretch_at fs line v k) t
unfolding stretch_at
all_of fs line outline true a t changes =
    let step_is = count-step fs line a t in
    let found = total_apart (length fs) (λ k. side_count (vertical_piece fs line k) a t)
    (λ none. changes (let same : count fs line a t ≡ count fs line (a -ℤ pos 1) t = omega (arith, ints, step_is, none) in ap (λ c. int_eq c (pos 1)) same)) in
    let piece = vertical_piece fs line found.0 in
    let stands = side_walked piece.from.x piece.from.y piece.to.y a t found.2 in
    (found.0, found.1, stands.0, walked-stands true piece.from.x piece.from.y piece.to.y t stands.1)
all_of fs line outline false a t changes =
    let step_is = count-step_up fs line t a outline in
    let found = total_apart (length fs) (λ k. floor_count (horizontal_piece fs line k) t a)
    (λ none. changes (let same : count fs line t a ≡ count fs line t (a -ℤ pos 1) = omega (arith, ints, step_is, none) in ap (λ c. int_eq c (pos 1)) same)) in
    let piece = horizontal_piece fs line found.0 in
    let stands = side_walked piece.from.y piece.from.x piece.to.x a t found.2 in
    (found.0, found.1, stands.0, walked-stands false piece.from.y piece.from.x piece.to.x t stands.1)

pub drawn : (fs : List Fragment) (line : ℕ → ℤ) → IsOutline fs → NoneCrosses fs line → IsDrawn (mask fs line) (length fs) (stretch_at fs line)
drawn fs line outline none = record { faces = faces_of fs line outline none; all = all_of fs line outline }
