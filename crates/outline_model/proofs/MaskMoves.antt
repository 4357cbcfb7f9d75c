-- What a move does to the mask, where no count is other than 0 or 1.
use Rattle.std.proofs.Common.{◌≡◌, ◌⊎◌, inl, inr, ℕ, ◌<◌, ℤ, pos, negsuc, ◌+ℤ◌, ◌≤ℤ◌, Bool, true, false, not, ◌&&◌, ◌||◌, if◌then◌else◌, List, length, refl, ◌∙◌, ap, arith}
use Rattle.std.specs.Ordering.{int_eq}
use Rattle.std.proofs.lemmas.Int.{ints}
use Rattle.outline_model.specs.declared.fragment.Fragment.{Fragment}
use Rattle.opc_base.specs.declared.moves.Swept.{Swept}
use Rattle.outline_model.specs.Rules.{NoneCrosses}
use Rattle.outline_model.specs.Outline.{IsOutline, IsSweep, DiffersOnlyAt, side_of, low_end, high_end, count, mask, swept, is_outward}
use Rattle.opc_base.specs.Plane.{rect_cover}
use Rattle.std.proofs.lemmas.Bool.Decides.{Decides-int_eq}
use Rattle.outline_model.proofs.Steps.{int_eq-false}
use Rattle.outline_model.proofs.Locality.{SameOutside, rect_cover-out}
use Rattle.outline_model.proofs.MoveLaw.{count-move}

abbrev pub IsSingle : ℤ → Type 0
IsSingle c = (c ≡ pos 0) ⊎ (c ≡ pos 1)

-- what is counted outside the swept rectangle stays
pub count-elsewhere : (fs : List Fragment) (line line' : ℕ → ℤ) (i : ℕ) (x y : ℤ)
    → IsOutline fs → i < length fs → DiffersOnlyAt i line line' → low_end fs line i ≤ℤ high_end fs line i
    → rect_cover (swept fs line i (line' i)) x y ≡ false → count fs line' x y ≡ count fs line x y
count-elsewhere fs line line' i x y outline below others ordered out =
    count-move fs line line' i x y outline below others ordered
    ∙ ap (λ (t : Bool). count fs line x y +ℤ (if t then (if is_outward (side_of fs i) (line i) (line' i) then pos 1 else negsuc 0) else pos 0)) out
    ∙ plus-zero (count fs line x y)
  where
    plus-zero : (z : ℤ) → z +ℤ pos 0 ≡ z
    plus-zero z = omega (arith, ints)

pub mask-elsewhere : (fs : List Fragment) (line line' : ℕ → ℤ) (i : ℕ)
    → IsOutline fs → i < length fs → DiffersOnlyAt i line line' → low_end fs line i ≤ℤ high_end fs line i
    → SameOutside (swept fs line i (line' i)) (mask fs line) (mask fs line')
mask-elsewhere fs line line' i outline below others ordered x y out =
    ap (λ c. int_eq c (pos 1))
    (count-elsewhere fs line line' i x y outline below others ordered (rect_cover-out (swept fs line i (line' i)) x y out))

grows : (old new : ℤ) (c : Bool) → IsSingle old → IsSingle new → new ≡ old +ℤ (if c then pos 1 else pos 0)
    → int_eq new (pos 1) ≡ (int_eq old (pos 1) || c)
grows old new true was is e = elim was [
  | inl zero_then ↦ (let now : new ≡ pos 1 = omega (arith, ints) in rw (now, zero_then) refl)
  | inr one_then ↦ elim is [
    | inl h ↦ absurd (omega (arith, ints))
    | inr h ↦ absurd (omega (arith, ints))
  ]
]
grows old new false was is e = elim was [
  | inl zero_then ↦ (let now : new ≡ pos 0 = omega (arith, ints) in rw (now, zero_then) refl)
  | inr one_then ↦ (let now : new ≡ pos 1 = omega (arith, ints) in rw (now, one_then) refl)
]

shrinks : (old new : ℤ) (c : Bool) → IsSingle old → IsSingle new → new ≡ old +ℤ (if c then negsuc 0 else pos 0)
    → int_eq new (pos 1) ≡ (int_eq old (pos 1) && not c)
shrinks old new true was is e = elim was [
  | inl zero_then ↦ elim is [
    | inl h ↦ absurd (omega (arith, ints))
    | inr h ↦ absurd (omega (arith, ints))
  ]
  | inr one_then ↦ (let now : new ≡ pos 0 = omega (arith, ints) in rw (now, one_then) refl)
]
shrinks old new false was is e = elim was [
  | inl zero_then ↦ (let now : new ≡ pos 0 = omega (arith, ints) in rw (now, zero_then) refl)
  | inr one_then ↦ (let now : new ≡ pos 1 = omega (arith, ints) in rw (now, one_then) refl)
]

-- Of the rectangle, nothing was in the mask before a move outward, and all of it before a move inward.
pub swept-free : (old new : ℤ) → IsSingle old → IsSingle new → new ≡ old +ℤ pos 1 → int_eq old (pos 1) ≡ false
swept-free old new was is e = elim was [
  | inl zero_then ↦ rw zero_then refl
  | inr one_then ↦ elim is [
    | inl h ↦ absurd (omega (arith, ints))
    | inr h ↦ absurd (omega (arith, ints))
  ]
]

pub swept-covered : (old new : ℤ) → IsSingle old → IsSingle new → new ≡ old +ℤ negsuc 0 → int_eq old (pos 1) ≡ true
swept-covered old new was is e = elim was [
  | inl zero_then ↦ elim is [
    | inl h ↦ absurd (omega (arith, ints))
    | inr h ↦ absurd (omega (arith, ints))
  ]
  | inr one_then ↦ rw one_then refl
]

-- where the outline does not cross itself, a count is 0 or 1
pub single_count : (fs : List Fragment) (line : ℕ → ℤ) (x y : ℤ) → NoneCrosses fs line → IsSingle (count fs line x y)
single_count fs line x y none = by (int_eq (count fs line x y) (pos 0)) (int_eq (count fs line x y) (pos 1)) refl refl
  where
    by : (p q : Bool) → int_eq (count fs line x y) (pos 0) ≡ p → int_eq (count fs line x y) (pos 1) ≡ q → IsSingle (count fs line x y)
    by true q e f = inl ((Decides-int_eq (count fs line x y) (pos 0)).0 e)
    by false true e f = inr ((Decides-int_eq (count fs line x y) (pos 1)).0 f)
    by false false e f =
        absurd (none x y (inl (λ single. elim single [
          | inl h ↦ int_eq-false (count fs line x y) (pos 0) e h
          | inr h ↦ int_eq-false (count fs line x y) (pos 1) f h
        ])))

-- The law of a move in sets of pixels, where the outline crosses itself neither before nor after.
pub sweeps : (fs : List Fragment) (old new : ℕ → ℤ) (s : Swept) → NoneCrosses fs old → NoneCrosses fs new
    → ((x y : ℤ) → count fs new x y ≡ count fs old x y +ℤ (if rect_cover s.rect x y then s.sign else pos 0))
    → IsSweep s (mask fs old) (mask fs new)
sweeps fs old new s before after law = record {
  free = λ sign x y covered. swept-free (count fs old x y) (count fs new x y) (was x y) (is x y) (there x y (pos 1) sign covered);
  adds = λ sign x y. grows (count fs old x y) (count fs new x y) (rect_cover s.rect x y) (was x y) (is x y)
      (law x y ∙ ap (λ t. count fs old x y +ℤ (if rect_cover s.rect x y then t else pos 0)) sign);
  covered = λ sign x y covered. swept-covered (count fs old x y) (count fs new x y) (was x y) (is x y) (there x y (negsuc 0) sign covered);
  takes = λ sign x y. shrinks (count fs old x y) (count fs new x y) (rect_cover s.rect x y) (was x y) (is x y)
      (law x y ∙ ap (λ t. count fs old x y +ℤ (if rect_cover s.rect x y then t else pos 0)) sign);
}
  where
    was : (x y : ℤ) → IsSingle (count fs old x y)
    was x y = single_count fs old x y before

    is : (x y : ℤ) → IsSingle (count fs new x y)
    is x y = single_count fs new x y after

    there : (x y sign : ℤ) → s.sign ≡ sign → rect_cover s.rect x y ≡ true → count fs new x y ≡ count fs old x y +ℤ sign
    there x y sign same covered =
        law x y
        ∙ ap (λ (t : Bool). count fs old x y +ℤ (if t then s.sign else pos 0)) covered
        ∙ ap (λ t. count fs old x y +ℤ t) same
