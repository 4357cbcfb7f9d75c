-- The first pixel of the rows that are too short.
use Rattle.std.proofs.Common.{◌≡◌, ◌⊎◌, inl, inr, ℕ, ◌+◌, ◌<◌, ◌≤◌, ℤ, ◌≤ℤ◌, Bool, true, false, Option, Some, None, List, length, get_or, sym, ◌∙◌, ap, subst, arith}
use Rattle.std.proofs.lemmas.Int.{ints, by_lt_z}
use Rattle.std.proofs.lemmas.Bool.{cases_order}
use Rattle.std.proofs.lemmas.List.{get_or_default}
use Rattle.opc_base.specs.declared.plane.Pix.{Pix}
use Rattle.opc_base.specs.declared.plane.Rect.{Rect}
use Rattle.opc_base.specs.Canonical.{AreCanonical, IsSolid}
use Rattle.opc_base.proofs.CanonicalLaws.{row_from, row_of}
use Rattle.mask_rules.specs.First.{earlier, IsFirst, IsUpTo}
use Rattle.mask_rules.specs.LineSets.{across, along}
use Rattle.mask_rules.specs.ShortLines.{EndsInside, IsShort, IsShortAmong, IsShortPlace, LiesInside, lowest}
use Rattle.mask_rules.proofs.Firsts.{IsFirst-cover, IsFirst-earlier, IsFirst-none, IsFirst-one, IsFirst-same}

pub short_starts : (turn out : Bool) (least : ℤ) (rects : List Rect) → IsFirst (IsShortAmong turn out least rects 0) None
short_starts turn out least rects = IsFirst-none (IsShortAmong turn out least rects 0) (λ p among. let before = among.before in omega arith)

placed_is : (turn out : Bool) (least : ℤ) (r : Rect) (place : Option Pix) (p : Pix) → IsShortPlace turn out least r place → IsShort out least r → p ≡ lowest turn r → place ≡ Some p
placed_is turn out least r None p placed short is = absurd (placed short)
placed_is turn out least r (Some q) p placed short is = ap (λ (t : Pix). Some t) (placed.1 ∙ sym is)

pub short_step : (turn out : Bool) (least : ℤ) (rects : List Rect) (i : ℕ) (d : Rect) (first place : Option Pix) → i < length rects
    → IsFirst (IsShortAmong turn out least rects i) first → IsShortPlace turn out least (get_or rects i d) place
    → IsFirst (IsShortAmong turn out least rects (i + 1)) (earlier first place)
short_step turn out least rects i d first place at so_far placed =
    IsFirst-same (λ p. IsShortAmong turn out least rects i p ⊎ (place ≡ Some p)) (IsShortAmong turn out least rects (i + 1)) (earlier first place)
    (λ p found. elim found [
      | inl among ↦ record { k = among.k; before = (let before = among.before in omega arith); below = among.below; short = among.short; is = among.is }
      | inr here ↦ (let its : IsShortPlace turn out least (get_or rects i d) (Some p) = subst (IsShortPlace turn out least (get_or rects i d)) here placed in record {
        k = i;
        before = omega arith;
        below = at;
        short = λ e. subst (IsShort out least) (get_or_default rects i d e at) its.0;
        is = λ e. its.1 ∙ ap (lowest turn) (get_or_default rects i d e at);
      })
    ])
    (λ p among. elim (cases_order among.k i) [
      | inl same ↦ inr (placed_is turn out least (get_or rects i d) place p placed
          (subst (λ n. IsShort out least (get_or rects n d)) same (among.short d))
          (among.is d ∙ ap (λ n. lowest turn (get_or rects n d)) same))
      | inr other ↦ elim other [
        | inl before ↦ inl (record { k = among.k; before = before; below = among.below; short = among.short; is = among.is })
        | inr after ↦ absurd (let before = among.before in omega arith)
      ]
    ])
    (IsFirst-earlier (IsShortAmong turn out least rects i) (λ p. place ≡ Some p) first place so_far (IsFirst-one place))

lies_at_lowest : (turn out : Bool) (least : ℤ) (rects : List Rect) (k : ℕ) (d : Rect) → AreCanonical rects → k < length rects → IsShort out least (get_or rects k d)
    → LiesInside turn out least rects (lowest turn (get_or rects k d))
lies_at_lowest false out least rects k d canonical at short =
    let solid : IsSolid (get_or rects k d) = canonical.solid k d at in let tall = solid.high in
    record {
      first = (get_or rects k d).x0;
      past = (get_or rects k d).x1;
      run = row_of rects k d (get_or rects k d).y0 canonical at (omega (arith, ints)) tall;
      from = omega (arith, ints);
      to = solid.wide;
      short = short.short;
      ends = short.ends;
    }
lies_at_lowest true out least rects k d canonical at short =
    let solid : IsSolid (get_or rects k d) = canonical.solid k d at in let tall = solid.high in
    record {
      first = (get_or rects k d).x0;
      past = (get_or rects k d).x1;
      run = row_of rects k d (get_or rects k d).y0 canonical at (omega (arith, ints)) tall;
      from = omega (arith, ints);
      to = solid.wide;
      short = short.short;
      ends = short.ends;
    }

ends_moved : (out : Bool) (a b c d : ℤ) → a ≡ c → b ≡ d → EndsInside out a b → EndsInside out c d
ends_moved out a b c d first past ends = subst (λ t. EndsInside out t d) first (subst (λ t. EndsInside out a t) past ends)

-- the lowest pixel is not after one that is further along and across
lowest_first : (turn : Bool) (r : Rect) (q : Pix) → r.x0 ≤ℤ along turn q → r.y0 ≤ℤ across turn q → IsUpTo (lowest turn r) q
lowest_first false r q right up = by_lt_z r.y0 q.y (λ less. inl less) (λ most. inr (omega (arith, ints), right))
lowest_first true r q right up = by_lt_z r.x0 q.y (λ less. inl less) (λ most. inr (omega (arith, ints), up))

pub short_ends : (turn out : Bool) (least : ℤ) (rects : List Rect) (i : ℕ) (first : Option Pix) → AreCanonical rects → length rects ≤ i
    → IsFirst (IsShortAmong turn out least rects i) first → IsFirst (LiesInside turn out least rects) first
short_ends turn out least rects i first canonical all so_far =
    IsFirst-cover (IsShortAmong turn out least rects i) (LiesInside turn out least rects) first
    (λ p among.
    let d : Rect = record { x0 = p.x; y0 = p.x; x1 = p.x; y1 = p.x } in
    subst (LiesInside turn out least rects) (sym (among.is d)) (lies_at_lowest turn out least rects among.k d canonical among.below (among.short d)))
    (λ q inside.
    let found = row_from rects inside.first inside.past (across turn q) canonical inside.run in
    let d : Rect = record { x0 = q.x; y0 = q.x; x1 = q.x; y1 = q.x } in
    let row = found.1 in let below = row.below in
    let short = inside.short in let from = inside.from in
    let starts = row.first_is d in let low = row.low d in (
      lowest turn (get_or rects found.0 d),
      record {
        k = found.0;
        before = omega arith;
        below = row.below;
        short = λ e. (let here = row.first_is e in let there = row.past_is e in record { short = omega (arith, ints); ends = ends_moved out inside.first inside.past (get_or rects found.0 e).x0 (get_or rects found.0 e).x1 (sym (row.first_is e)) (sym (row.past_is e)) inside.ends });
        is = λ e. ap (lowest turn) (get_or_default rects found.0 d e row.below);
      },
      lowest_first turn (get_or rects found.0 d) q (omega (arith, ints)) low,
    ))
    so_far
