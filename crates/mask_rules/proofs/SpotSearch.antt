-- The stretches inside a rectangle are among those near it.
use Rattle.std.proofs.Common.{◌≡◌, ℕ, ℤ, pos, ◌≤ℤ◌, ◌<ℤ◌, Bool, true, false, if◌then◌else◌, Option, Some, None, List, sym, ap, arith}
use Rattle.std.specs.Int.{int_max}
use Rattle.std.specs.Prelude.{IfNone, IfSome}
use Rattle.std.proofs.lemmas.Int.{ints}
use Rattle.outline_model.specs.declared.fragment.Fragment.{Fragment}
use Rattle.opc_base.specs.declared.plane.Pix.{Pix}
use Rattle.opc_base.specs.declared.plane.Rect.{Rect}
use Rattle.outline_model.specs.Limits.{IsFragmentList}
use Rattle.outline_model.specs.Near.{KeepNear}
use Rattle.opc_base.specs.Plane.{rect_cover}
use Rattle.mask_rules.specs.declared.stretch.Stretch.{Stretch}
use Rattle.mask_rules.specs.First.{IsFirst}
use Rattle.mask_rules.specs.Spots.{SpotsAt, is_inside, lowest, spot_of, spot_pixel}
use Rattle.mask_rules.specs.Stretches.{StandsIn, rect_at, stretch_at}
use Rattle.mask_rules.proofs.ChangeLaws.{none_is}
use Rattle.mask_rules.proofs.ClashFacts.{some_of}
use Rattle.mask_rules.proofs.ClashSearch.{IsAllNear, covers_at, covers_in}
use Rattle.mask_rules.proofs.Firsts.{first_from}
use Rattle.mask_rules.proofs.Miscount.{covers_of, first_spot_is, inside_of_test}

-- what is near a rectangle has all that is near a part of it
near_part : (fs : List Fragment) (reach : ℤ) (r part : Rect) (numbers : List ℕ)
    → ((x y : ℤ) → rect_cover part x y ≡ true → rect_cover r x y ≡ true) → IsAllNear fs reach r numbers → IsAllNear fs reach part numbers
near_part fs reach r part numbers inside near = record {
  below = near.below;
  complete = λ k x y below covers. near.complete k x y below (inside x y covers);
}

lowest_inside : (v : Bool) (r : Rect) → r.x0 <ℤ r.x1 → r.y0 <ℤ r.y1 → (x y : ℤ)
    → rect_cover (rect_at v (lowest v r).x0 (lowest v r).x1 (lowest v r).y0 (lowest v r).y1) x y ≡ true → rect_cover r x y ≡ true
lowest_inside true r wide high x y covers =
    let c = covers_of (rect_at true (lowest true r).x0 (lowest true r).x1 (lowest true r).y0 (lowest true r).y1) x y covers in
    let below = c.3 in
    covers_in r x y c.0 c.1 c.2 (omega (arith, ints))
lowest_inside false r wide high x y covers =
    let c = covers_of (rect_at false (lowest false r).x0 (lowest false r).x1 (lowest false r).y0 (lowest false r).y1) x y covers in
    let left = c.1 in
    covers_in r x y c.0 (omega (arith, ints)) c.2 c.3

-- upright stretches inside the rectangle
pub spots_inside : (fs : List Fragment) (line : ℕ → ℤ) (reach : ℤ) (r : Rect) (opens : Bool) (numbers : List ℕ)
    → IsFragmentList fs → pos 0 ≤ℤ reach → KeepNear fs line reach → IsAllNear fs reach r numbers
    → IsFirst (SpotsAt fs line true r opens) (first_from (λ k. spot_pixel true r opens (stretch_at fs line true k)) None numbers)
spots_inside fs line reach r opens numbers fragments least keep near =
    first_spot_is fs line reach true r opens numbers fragments least keep
    (near_part fs reach r (rect_at true r.x0 r.x1 r.y0 r.y1) numbers (λ x y covers. covers) near)

-- stretches among its pixels of lowest place along
pub spots_lowest : (fs : List Fragment) (line : ℕ → ℤ) (reach : ℤ) (v : Bool) (r : Rect) (opens : Bool) (numbers : List ℕ)
    → r.x0 <ℤ r.x1 → r.y0 <ℤ r.y1 → IsFragmentList fs → pos 0 ≤ℤ reach → KeepNear fs line reach → IsAllNear fs reach r numbers
    → IsFirst (SpotsAt fs line v (lowest v r) opens) (first_from (λ k. spot_pixel v (lowest v r) opens (stretch_at fs line v k)) None numbers)
spots_lowest fs line reach v r opens numbers wide high fragments least keep near =
    first_spot_is fs line reach v (lowest v r) opens numbers fragments least keep
    (near_part fs reach r (rect_at v (lowest v r).x0 (lowest v r).x1 (lowest v r).y0 (lowest v r).y1) numbers (lowest_inside v r wide high) near)

-- ---- stretches that are given only where they stand in the rectangle

-- the stretch is given where it stands in the rectangle
pub record IsGiven (r : Rect) (v : Bool) (s : Stretch) (o : Option Stretch) : Type 0 where
  pub is : IfSome o (λ x. x ≡ s)
  pub none : IfNone o (¬ StandsIn r v s)

spot_stands : (v : Bool) (band : Rect) (opens : Bool) (s : Stretch) (p : Pix) → spot_pixel v band opens s ≡ Some p
    → StandsIn (rect_at v band.x0 band.x1 band.y0 band.y1) v s
spot_stands v band opens s p e =
    let in_band = inside_of_test band opens s (some_of (is_inside band opens s) _ _ e).0 in
    let after : band.x0 <ℤ s.at = in_band.after in
    (int_max s.low band.y0, in_band.spans, covers_at v band.x0 band.x1 band.y0 band.y1 s.at (int_max s.low band.y0) (omega (arith, ints)) in_band.before in_band.low in_band.high)

given_spot : (v : Bool) (r band : Rect) (opens : Bool) (s : Stretch) (o : Option Stretch) → IsGiven r v s o
    → ((x y : ℤ) → rect_cover (rect_at v band.x0 band.x1 band.y0 band.y1) x y ≡ true → rect_cover r x y ≡ true)
    → spot_of v band opens o ≡ spot_pixel v band opens s
given_spot v r band opens s None given inside = sym (none_is (spot_pixel v band opens s) (λ p e.
    let stands = spot_stands v band opens s p e in given.none (stands.0, stands.1, inside _ _ stands.2)))
given_spot v r band opens s (Some x) given inside = ap (spot_pixel v band opens) given.is

pub given_inside : (r : Rect) (opens : Bool) (s : Stretch) (o : Option Stretch) → IsGiven r true s o → spot_of true r opens o ≡ spot_pixel true r opens s
given_inside r opens s o given = given_spot true r r opens s o given (λ x y covers. covers)

pub given_lowest : (v : Bool) (r : Rect) (opens : Bool) (s : Stretch) (o : Option Stretch) → r.x0 <ℤ r.x1 → r.y0 <ℤ r.y1 → IsGiven r v s o
    → spot_of v (lowest v r) opens o ≡ spot_pixel v (lowest v r) opens s
given_lowest v r opens s o wide high given = given_spot v r (lowest v r) opens s o given (lowest_inside v r wide high)

pub given_chosen : (v : Bool) (r : Rect) (s : Bool → Stretch) (a b : Option Stretch) → IsGiven r true (s true) a → IsGiven r false (s false) b
    → IsGiven r v (s v) (if v then a else b)
given_chosen true r s a b upright level = upright
given_chosen false r s a b upright level = level
