-- What a stretch of a fragment is, by its joins.
use Rattle.std.proofs.Common.{◌≡◌, ℕ, ◌<◌, ℤ, Bool, true, false, not, List, length, if◌then◌else◌, refl, sym, ◌∙◌, ap, subst, arith}
use Rattle.std.proofs.lemmas.Int.{ints, clamps}
use Rattle.outline_model.specs.declared.fragment.Join.TheVariants.{Cut, Corner}
use Rattle.outline_model.specs.declared.fragment.Fragment.{Fragment}
use Rattle.outline_model.specs.Limits.{IsFragmentList}
use Rattle.outline_model.specs.Ranges.{IsWithin}
use Rattle.outline_model.specs.Outline.{Point, IsOutline, fragment_at, side_of, is_rising, end_at, start_join, start_place, finish_join, finish_place, joined, finish, own_piece, jog}
use Rattle.outline_model.proofs.Walk.{placed, stands, start_is, finish_is, jog_at_corner}
use Rattle.outline_model.proofs.Crossings.{cut_jog_is}
use Rattle.mask_rules.specs.Stretches.{walked, directed_piece, stretch_of, stretch_at}

pub piece_of-own : (v : Bool) (fs : List Fragment) (line : ℕ → ℤ) (k : ℕ) → stands fs k ≡ v → directed_piece v fs line k ≡ own_piece fs line k
piece_of-own true fs line k e = ap (λ (t : Bool). if t then own_piece fs line k else jog fs line k) e
piece_of-own false fs line k e = ap (λ (t : Bool). if t then jog fs line k else own_piece fs line k) e

pub piece_of-jog : (v : Bool) (fs : List Fragment) (line : ℕ → ℤ) (k : ℕ) → stands fs k ≡ not v → directed_piece v fs line k ≡ jog fs line k
piece_of-jog true fs line k e = ap (λ (t : Bool). if t then own_piece fs line k else jog fs line k) e
piece_of-jog false fs line k e = ap (λ (t : Bool). if t then jog fs line k else own_piece fs line k) e

stretch_of-placed : (v : Bool) (at from to : ℤ) → stretch_of v (record { from = placed v at from; to = placed v at to }) ≡ walked v at from to
stretch_of-placed true at from to = refl
stretch_of-placed false at from to = refl

stretch_of-turned : (v : Bool) (at from to : ℤ)
    → stretch_of v (record { from = placed (not v) from at; to = placed (not v) to at }) ≡ walked v at from to
stretch_of-turned true at from to = refl
stretch_of-turned false at from to = refl

pub stretch-own : (fs : List Fragment) (line : ℕ → ℤ) (v : Bool) (k : ℕ) → stands fs k ≡ v
    → stretch_at fs line v k ≡ walked v (line k) (end_at line (start_join (fragment_at fs k)) (start_place (fragment_at fs k)))
    (end_at line (finish_join (fragment_at fs k)) (finish_place (fragment_at fs k)))
unfolding stretch_at
stretch-own fs line v k e =
    ap (stretch_of v) (piece_of-own v fs line k e
    ∙ ap (λ (p : Point). record { from = p; to = finish fs line k }) (start_is fs line k v _ _ e refl refl)
    ∙ ap (λ (p : Point). record { from = placed v (line k) (end_at line (start_join (fragment_at fs k)) (start_place (fragment_at fs k))); to = p }) (finish_is fs line k v _ _ e refl refl))
    ∙ stretch_of-placed v _ _ _

pub stretch-cut : (fs : List Fragment) (line : ℕ → ℤ) (v : Bool) (k j : ℕ) → IsOutline fs → k < length fs → stands fs k ≡ not v
    → finish_join (fragment_at fs k) ≡ Cut j → stretch_at fs line v k ≡ walked v (finish_place (fragment_at fs k)) (line k) (line j)
unfolding stretch_at
stretch-cut fs line v k j outline below e is =
    ap (stretch_of v) (piece_of-jog v fs line k e ∙ cut_jog_is v fs line k j outline below e is)
    ∙ stretch_of-turned v _ _ _

pub stretch-corner : (fs : List Fragment) (line : ℕ → ℤ) (v : Bool) (k j : ℕ) → IsOutline fs → k < length fs → stands fs k ≡ not v
    → finish_join (fragment_at fs k) ≡ Corner j → stretch_at fs line v k ≡ walked v (line j) (line k) (line k)
unfolding stretch_at
stretch-corner fs line v k j outline below e is =
    let at : finish fs line k ≡ placed (not v) (line k) (line j) = finish_is fs line k (not v) (Corner j) _ e is refl in
    ap (stretch_of v) (piece_of-jog v fs line k e
    ∙ ap (λ (p : Point). record { from = finish fs line k; to = p }) (sym (jog_at_corner fs line k j outline below is))
    ∙ ap (λ (p : Point). record { from = p; to = p }) at)
    ∙ stretch_of-turned v _ _ _

-- a stretch that is walked from a place to itself is empty
pub walked_nowhere : (v : Bool) (at place : ℤ) → (walked v at place place).low ≡ (walked v at place place).high
walked_nowhere v at place = omega (arith, ints, clamps)

pub start_within : (fs : List Fragment) (k : ℕ) → IsFragmentList fs → k < length fs → IsWithin 1048000 (start_place (fragment_at fs k))
start_within fs k fragments below = by (is_rising (side_of fs k))
  where
    by : (t : Bool) → IsWithin 1048000 (if t then (fragment_at fs k).lo else (fragment_at fs k).hi)
    by true = fragments.lo_within k below
    by false = fragments.hi_within k below

-- what a fragment meets at its high end is a fragment of the list
pub high_joined : (fs : List Fragment) (k : ℕ) → IsOutline fs → k < length fs → joined (fragment_at fs k).high < length fs
high_joined fs k outline below = by (is_rising (side_of fs k)) refl
  where
    by : (t : Bool) → is_rising (side_of fs k) ≡ t → joined (fragment_at fs k).high < length fs
    by true e = subst (λ (t : Bool). joined (if t then (fragment_at fs k).high else (fragment_at fs k).low) < length fs) e (outline.next_in k below)
    by false e = subst (λ (t : Bool). joined (if t then (fragment_at fs k).low else (fragment_at fs k).high) < length fs) e (outline.previous_in k below)

pub finish_within : (fs : List Fragment) (k : ℕ) → IsFragmentList fs → k < length fs → IsWithin 1048000 (finish_place (fragment_at fs k))
finish_within fs k fragments below = by (is_rising (side_of fs k))
  where
    by : (t : Bool) → IsWithin 1048000 (if t then (fragment_at fs k).hi else (fragment_at fs k).lo)
    by true = fragments.hi_within k below
    by false = fragments.lo_within k below
