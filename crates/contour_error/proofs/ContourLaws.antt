-- Where the first printed or dark sample stands, and what the error is there.
use Rattle.std.proofs.Common.{◌≡◌, ℕ, zero, suc, ◌+◌, ◌-◌, ◌*◌, ◌/◌, ◌<◌, ◌≤◌, ℤ, pos, ◌-ℤ◌, ◌≤ℤ◌, ◌<ℤ◌, true, false, List, length, take, get_or, unsigned_abs, Option, Some, None, option_map, IfSome, refl, sym, ap, subst, ◌∙◌, arith, length-drop}
use Rattle.std.specs.List.{position}
use Rattle.std.specs.Option.{option_map_or}
use Rattle.std.proofs.lemmas.Int.{ints, to_z_pos}
use Rattle.std.proofs.lemmas.List.{get_or-drop, get_or-take, get_or-reverse, length-reverse, length-take, take_all}
use Rattle.std.proofs.lemmas.List.Quantifiers.{position-Some}
use Rattle.std.proofs.lemmas.Nat.{div_below}
use Rattle.std.proofs.Common.{w32, to_z, of_z, ◌+ℤ◌, ◌%◌}
use Rattle.contour_error.specs.Contour.{is_printed, is_dark, side, outward, inward, sample, contour, crossing, error_at, error_of, farthest, IsContour, LiesAtContour}

-- the tests of a sample as facts
pub printed_fact : (threshold intensity : ℤ) → is_printed threshold intensity ≡ true → threshold ≤ℤ intensity
printed_fact threshold intensity h = grind (arith, ints)

pub printed_test : (threshold intensity : ℤ) → threshold ≤ℤ intensity → is_printed threshold intensity ≡ true
printed_test threshold intensity h = grind (arith, ints)

pub not_printed_fact : (threshold intensity : ℤ) → is_printed threshold intensity ≡ false → intensity <ℤ threshold
not_printed_fact threshold intensity h = grind (arith, ints)

pub not_printed_test : (threshold intensity : ℤ) → intensity <ℤ threshold → is_printed threshold intensity ≡ false
not_printed_test threshold intensity h = grind (arith, ints)

pub dark_fact : (threshold intensity : ℤ) → is_dark threshold intensity ≡ true → intensity <ℤ threshold
dark_fact threshold intensity h = grind (arith, ints)

pub not_dark_fact : (threshold intensity : ℤ) → is_dark threshold intensity ≡ false → threshold ≤ℤ intensity
not_dark_fact threshold intensity h = grind (arith, ints)

-- the contour by where the last sample inside is printed
pub contour-outward : (threshold : ℤ) (samples : List ℤ) (o : Option ℕ) → is_printed threshold (sample samples (side samples - 1)) ≡ true
    → position (is_dark threshold) (outward samples) ≡ o → contour threshold samples ≡ option_map (λ t. side samples + t) o
contour-outward threshold samples o h e = rw (h, e) refl

pub contour-inward : (threshold : ℤ) (samples : List ℤ) (o : Option ℕ) → is_printed threshold (sample samples (side samples - 1)) ≡ false
    → position (is_printed threshold) (inward samples) ≡ o → contour threshold samples ≡ option_map (λ k. side samples - k) o
contour-inward threshold samples o h e = rw (h, e) refl

-- the part of a slice from the edge on
outside_is : (samples : List ℤ) → take (length samples - side samples) (outward samples) ≡ outward samples
outside_is samples = take_all _ (outward samples) (omega (arith, length-drop (side samples) samples))

pub found_outside : (threshold least : ℤ) (samples : List ℤ) (o : Option ℕ) → least ≡ threshold
    → o ≡ position (is_dark least) (take (length samples - side samples) (outward samples)) → position (is_dark threshold) (outward samples) ≡ o
found_outside threshold least samples o same found =
    ap (position (is_dark threshold)) (sym (outside_is samples))
    ∙ ap (λ t. position (is_dark t) (take (length samples - side samples) (outward samples))) (sym same)
    ∙ sym found

-- a sample outside, and one inside
pub sample-outward : (samples : List ℤ) (t : ℕ) → get_or (outward samples) t (pos 0) ≡ sample samples (side samples + t)
sample-outward samples t = get_or-drop (side samples) samples t (pos 0)

pub length-inside : (samples : List ℤ) → length (take (side samples) samples) ≡ side samples
length-inside samples = omega (arith, length-take (side samples) samples)

pub length-inward : (samples : List ℤ) → length (inward samples) ≡ side samples
length-inward samples = length-reverse (take (side samples) samples) ∙ length-inside samples

pub sample-inward : (samples : List ℤ) (k : ℕ) → k < side samples → get_or (inward samples) k (pos 0) ≡ sample samples (side samples - 1 - k)
sample-inward samples k h =
    get_or-reverse (take (side samples) samples) k (pos 0) (omega (arith, length-inside samples))
    ∙ get_or-take (side samples) samples (length (take (side samples) samples) - 1 - k) (pos 0) (omega (arith, length-inside samples))
    ∙ ap (λ n. sample samples (n - 1 - k)) (length-inside samples)

-- the first dark sample outside follows a printed one
printed_before : (threshold : ℤ) (samples : List ℤ) (t : ℕ) → 2 ≤ length samples
    → is_printed threshold (sample samples (side samples - 1)) ≡ true
    → ((k : ℕ) → k < t → is_dark threshold (get_or (outward samples) k (pos 0)) ≡ false)
    → threshold ≤ℤ sample samples (side samples + t - 1)
printed_before threshold samples zero some h before =
    let e : side samples + 0 - 1 ≡ side samples - 1 = omega arith in
    subst (λ n. threshold ≤ℤ sample samples n) (sym e) (printed_fact threshold _ h)
printed_before threshold samples (suc k) some h before =
    let e : side samples + suc k - 1 ≡ side samples + k = omega arith in
    let lit : threshold ≤ℤ get_or (outward samples) k (pos 0) = not_dark_fact threshold _ (before k (omega arith)) in
    subst (λ n. threshold ≤ℤ sample samples n) (sym e) (subst (λ i. threshold ≤ℤ i) (sample-outward samples k) lit)

pub IsContour-outward : (threshold : ℤ) (samples : List ℤ) (t : ℕ) → 2 ≤ length samples
    → is_printed threshold (sample samples (side samples - 1)) ≡ true → position (is_dark threshold) (outward samples) ≡ Some t
    → IsContour threshold samples (side samples + t)
IsContour-outward threshold samples t some h e =
    let found = position-Some (is_dark threshold) (outward samples) t (pos 0) e in
    let dark : get_or (outward samples) t (pos 0) <ℤ threshold = dark_fact threshold _ found.1 in
    record {
      first = omega arith;
      last = omega (arith, found.0, length-drop (side samples) samples);
      printed = printed_before threshold samples t some h found.2;
      dark = subst (λ i. i <ℤ threshold) (sample-outward samples t) dark;
    }

-- the first printed sample inside stands before a dark one
pub IsContour-inward : (threshold : ℤ) (samples : List ℤ) (k : ℕ) → 2 ≤ length samples
    → is_printed threshold (sample samples (side samples - 1)) ≡ false → position (is_printed threshold) (inward samples) ≡ Some k
    → IsContour threshold samples (side samples - k)
IsContour-inward threshold samples zero some h e =
    let found = position-Some (is_printed threshold) (inward samples) 0 (pos 0) e in
    let first : side samples - 1 - 0 ≡ side samples - 1 = omega arith in
    let last : get_or (inward samples) 0 (pos 0) ≡ sample samples (side samples - 1) = sample-inward samples 0 (omega arith) ∙ ap (sample samples) first in
    let lit : threshold ≤ℤ sample samples (side samples - 1) = subst (λ i. threshold ≤ℤ i) last (printed_fact threshold _ found.1) in
    let unlit : sample samples (side samples - 1) <ℤ threshold = not_printed_fact threshold _ h in
    absurd (omega (arith, ints, lit, unlit))
IsContour-inward threshold samples (suc j) some h e =
    let found = position-Some (is_printed threshold) (inward samples) (suc j) (pos 0) e in
    let below : suc j < side samples = omega (arith, found.0, length-inward samples) in
    let lit : threshold ≤ℤ get_or (inward samples) (suc j) (pos 0) = printed_fact threshold _ found.1 in
    let unlit : get_or (inward samples) j (pos 0) <ℤ threshold = not_printed_fact threshold _ (found.2 j (omega arith)) in
    let here : side samples - 1 - suc j ≡ side samples - suc j - 1 = omega arith in
    let there : side samples - 1 - j ≡ side samples - suc j = omega arith in
    record {
      first = omega (arith, below);
      last = omega (arith, below);
      printed = subst (λ i. threshold ≤ℤ i) (sample-inward samples (suc j) below ∙ ap (sample samples) here) lit;
      dark = subst (λ i. i <ℤ threshold) (sample-inward samples j (omega (arith, below)) ∙ ap (sample samples) there) unlit;
    }

-- the threshold lies on the line before its end
pub crossing_below : (threshold before after : ℤ) → threshold ≤ℤ before → after <ℤ threshold → crossing threshold before after < 16
crossing_below threshold before after above below =
    let nearer : unsigned_abs (before -ℤ threshold) < unsigned_abs (before -ℤ after) = omega (arith, ints) in
    div_below (16 * unsigned_abs (before -ℤ threshold)) (unsigned_abs (before -ℤ after)) 16 (omega (arith, nearer)) (omega (arith, nearer))

pub crossing_is : (threshold before after : ℤ) (up whole : ℕ) → threshold ≤ℤ before → after <ℤ threshold
    → up ≡ unsigned_abs (before -ℤ threshold) → whole ≡ unsigned_abs (before -ℤ after)
    → to_z w32 (16 * up / whole) ≡ pos (crossing threshold before after)
crossing_is threshold before after up whole above below is_up is_whole =
    let small : crossing threshold before after < 16 = crossing_below threshold before after above below in
    rw (is_up, is_whole) (to_z_pos w32 (crossing threshold before after) (omega (arith, small)))

-- the error at the contour, and where there is none
pub error_of-Some : (threshold : ℤ) (samples : List ℤ) (place : ℕ) → Some place ≡ contour threshold samples
    → error_of threshold samples ≡ error_at threshold samples place
error_of-Some threshold samples place e =
    ap (λ o. option_map_or (error_at threshold samples) o (farthest threshold samples)) (sym e)

pub error_of-None : (threshold : ℤ) (samples : List ℤ) → None ≡ contour threshold samples
    → error_of threshold samples ≡ farthest threshold samples
error_of-None threshold samples e =
    ap (λ o. option_map_or (error_at threshold samples) o (farthest threshold samples)) (sym e)

-- the error at a contour is no more than a side, and lies between the two centres
pub size_at : (threshold : ℤ) (samples : List ℤ) (place : ℕ) → length samples % 2 ≡ 0 → IsContour threshold samples place
    → unsigned_abs (error_at threshold samples place) ≤ 16 * side samples
size_at threshold samples place even at =
    let small = crossing_below threshold (sample samples (place - 1)) (sample samples place) at.printed at.dark in
    omega (arith, ints, small, at.first, at.last)

pub lies_at : (threshold : ℤ) (samples : List ℤ) (place : ℕ) → IsContour threshold samples place
    → LiesAtContour threshold samples (error_at threshold samples place) place
lies_at threshold samples place at =
    let small = crossing_below threshold (sample samples (place - 1)) (sample samples place) at.printed at.dark in
    record { contour = at; low = omega (arith, ints); high = omega (arith, ints, small, at.first) }

-- a sum as it is computed
pub sum_of : (a b x y : ℤ) → a ≡ x → b ≡ y → unsigned_abs a ≤ 1000 → unsigned_abs b ≤ 1000
    → to_z w32 (of_z w32 (to_z w32 (of_z w32 a) +ℤ to_z w32 (of_z w32 b))) ≡ x +ℤ y
sum_of a b x y is_a is_b small_a small_b = rw (← is_a, ← is_b) (omega (arith, ints))

-- what lies at the contour's place lies at the contour
pub at_contour : (threshold : ℤ) (samples : List ℤ) (error : ℤ) (place : ℕ) → Some place ≡ contour threshold samples
    → LiesAtContour threshold samples error place → IfSome (contour threshold samples) (LiesAtContour threshold samples error)
at_contour threshold samples error place e lies = subst (λ o. IfSome o (LiesAtContour threshold samples error)) e lies
