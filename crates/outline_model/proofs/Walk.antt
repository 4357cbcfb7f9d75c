-- What an outline's joins say of the pieces that meet there.
use Rattle.std.proofs.Common.{◌≡◌, ℕ, ◌<◌, ℤ, pos, ◌-ℤ◌, Bool, true, false, not, if◌then◌else◌, List, length, int_le, refl, sym, ◌∙◌, ap, subst}
use Rattle.outline_model.specs.declared.fragment.Join.{Join}
use Rattle.outline_model.specs.declared.fragment.Join.TheVariants.{Cut, Corner}
use Rattle.outline_model.specs.declared.fragment.Fragment.{Fragment}
use Rattle.outline_model.specs.Outline.{Point, Piece, IsOutline, fragment_at, side_of, is_vertical, end_at, start_join, start_place, finish_join, finish_place, joined, next, previous, start, finish, jog, step, crossing}

-- a point of a vertical or horizontal line at a place along it
abbrev pub placed : Bool → ℤ → ℤ → Point
placed vertical line place = if vertical then record { x = line; y = place } else record { x = place; y = line }

abbrev pub stands : List Fragment → ℕ → Bool
stands fs k = is_vertical (side_of fs k)

-- 1 where a point is at or left of the pixel and at or below it
abbrev pub weight : Point → ℤ → ℤ → ℤ
weight p x y = if int_le p.x x then step p.y y else pos 0

abbrev pub flux : Piece → ℤ → ℤ → ℤ
flux piece x y = weight piece.to x y -ℤ weight piece.from x y

-- where a piece is vertical, its crossing is its flux
pub crossing-vertical : (piece : Piece) (x y : ℤ) → piece.from.x ≡ piece.to.x → crossing piece x y ≡ flux piece x y
unfolding crossing
crossing-vertical piece x y e = rw (← e) (by (int_le piece.from.x x))
  where
    by : (t : Bool) → (if t then step piece.to.y y -ℤ step piece.from.y y else pos 0)
        ≡ (if t then step piece.to.y y else pos 0) -ℤ (if t then step piece.from.y y else pos 0)
    by true = refl
    by false = refl

-- ---- the joins

not-not : (a b : Bool) → a ≡ not b → b ≡ not a
not-not a true e = ap not (sym e)
not-not a false e = ap not (sym e)

pub previous_of_next : (fs : List Fragment) → IsOutline fs → (k : ℕ) → k < length fs → previous fs (next fs k) ≡ k
previous_of_next fs outline k below = by (finish_join (fragment_at fs k)) refl
  where
    by : (t : Join) → finish_join (fragment_at fs k) ≡ t → previous fs (next fs k) ≡ k
    by (Cut j) e = ap (previous fs) (ap joined e) ∙ ap joined (outline.cut k j below e).0
    by (Corner j) e = ap (previous fs) (ap joined e) ∙ ap joined (outline.corner k j below e).0

pub start_corner : (fs : List Fragment) (k j : ℕ) → IsOutline fs → k < length fs → start_join (fragment_at fs k) ≡ Corner j
    → stands fs j ≡ not (stands fs k)
start_corner fs k j outline below e = by (finish_join (fragment_at fs j)) refl
  where
    before : previous fs k ≡ j
    before = ap joined e

    inside : j < length fs
    inside = subst (λ m. m < length fs) before (outline.previous_in k below)

    after : next fs j ≡ k
    after = ap (next fs) (sym before) ∙ outline.next_of_previous k below

    by : (t : Join) → finish_join (fragment_at fs j) ≡ t → stands fs j ≡ not (stands fs k)
    by (Cut m) is =
        let here : m ≡ k = sym (ap joined is) ∙ after in
        let met : start_join (fragment_at fs m) ≡ Cut j = (outline.cut j m inside is).0 in
        let same : start_join (fragment_at fs m) ≡ start_join (fragment_at fs k) = ap (λ n. start_join (fragment_at fs n)) here in
        cc
    by (Corner m) is =
        let here : m ≡ k = sym (ap joined is) ∙ after in
        not-not (stands fs k) (stands fs j) (ap (stands fs) (sym here) ∙ (outline.corner j m inside is).1)

-- ---- the points of a fragment

pub start_is : (fs : List Fragment) (line : ℕ → ℤ) (k : ℕ) (vertical : Bool) (join : Join) (place : ℤ)
    → stands fs k ≡ vertical → start_join (fragment_at fs k) ≡ join → start_place (fragment_at fs k) ≡ place
    → start fs line k ≡ placed vertical (line k) (end_at line join place)
unfolding start
start_is fs line k vertical join place v j p =
    ap (λ t. placed t (line k) (end_at line (start_join (fragment_at fs k)) (start_place (fragment_at fs k)))) v
    ∙ ap (λ t. placed vertical (line k) (end_at line t (start_place (fragment_at fs k)))) j
    ∙ ap (λ t. placed vertical (line k) (end_at line join t)) p

pub finish_is : (fs : List Fragment) (line : ℕ → ℤ) (k : ℕ) (vertical : Bool) (join : Join) (place : ℤ)
    → stands fs k ≡ vertical → finish_join (fragment_at fs k) ≡ join → finish_place (fragment_at fs k) ≡ place
    → finish fs line k ≡ placed vertical (line k) (end_at line join place)
unfolding finish
finish_is fs line k vertical join place v j p =
    ap (λ t. placed t (line k) (end_at line (finish_join (fragment_at fs k)) (finish_place (fragment_at fs k)))) v
    ∙ ap (λ t. placed vertical (line k) (end_at line t (finish_place (fragment_at fs k)))) j
    ∙ ap (λ t. placed vertical (line k) (end_at line join t)) p

-- ---- the jog after a fragment

placed-turned : (v : Bool) (a b : ℤ) → placed v a b ≡ placed (not v) b a
placed-turned true a b = refl
placed-turned false a b = refl

-- at a cut it goes from line to line, at the place of the cut
pub jog_at_cut : (fs : List Fragment) (line : ℕ → ℤ) (k j : ℕ) → IsOutline fs → k < length fs → finish_join (fragment_at fs k) ≡ Cut j
    → jog fs line k ≡ record {
      from = placed (stands fs k) (line k) (finish_place (fragment_at fs k));
      to = placed (stands fs k) (line j) (finish_place (fragment_at fs k));
    }
jog_at_cut fs line k j outline below e =
    let met = outline.cut k j below e in
    let from_is : finish fs line k ≡ placed (stands fs k) (line k) (finish_place (fragment_at fs k)) =
    finish_is fs line k _ _ _ refl e refl in
    let to_is : start fs line (next fs k) ≡ placed (stands fs k) (line j) (finish_place (fragment_at fs k)) =
    ap (start fs line) (ap joined e) ∙ start_is fs line j _ _ _ (ap is_vertical met.1) met.0 met.2 in
    cc

-- at a corner it has no length
pub jog_at_corner : (fs : List Fragment) (line : ℕ → ℤ) (k j : ℕ) → IsOutline fs → k < length fs → finish_join (fragment_at fs k) ≡ Corner j
    → finish fs line k ≡ start fs line (next fs k)
jog_at_corner fs line k j outline below e =
    let met = outline.corner k j below e in
    finish_is fs line k _ _ _ refl e refl
    ∙ placed-turned (stands fs k) (line k) (line j)
    ∙ sym (ap (start fs line) (ap joined e) ∙ start_is fs line j _ _ _ met.1 met.0 refl)

-- what meets a fragment at its start meets it at its finish
pub start_corner_back : (fs : List Fragment) (k j : ℕ) → IsOutline fs → k < length fs → start_join (fragment_at fs k) ≡ Corner j
    → finish_join (fragment_at fs j) ≡ Corner k
start_corner_back fs k j outline below e = by (finish_join (fragment_at fs j)) refl
  where
    before : previous fs k ≡ j
    before = ap joined e

    inside : j < length fs
    inside = subst (λ m. m < length fs) before (outline.previous_in k below)

    after : next fs j ≡ k
    after = ap (next fs) (sym before) ∙ outline.next_of_previous k below

    by : (t : Join) → finish_join (fragment_at fs j) ≡ t → t ≡ Corner k
    by (Cut m) is =
        let here : m ≡ k = sym (ap joined is) ∙ after in
        let met : start_join (fragment_at fs m) ≡ Cut j = (outline.cut j m inside is).0 in
        let same : start_join (fragment_at fs m) ≡ start_join (fragment_at fs k) = ap (λ n. start_join (fragment_at fs n)) here in
        cc
    by (Corner m) is = ap Corner (sym (ap joined is) ∙ after)

-- ---- to show that a list is an outline

-- where a fragment's walk leads by this join, as `IsOutline` says
abbrev pub LeadsBy : List Fragment → ℕ → Join → Type 0
LeadsBy fs i (Cut j) =
    (start_join (fragment_at fs j) ≡ Cut i) × (side_of fs j ≡ side_of fs i)
    × (start_place (fragment_at fs j) ≡ finish_place (fragment_at fs i)) × ((fragment_at fs j).edge ≡ (fragment_at fs i).edge)
LeadsBy fs i (Corner j) =
    (start_join (fragment_at fs j) ≡ Corner i) × (is_vertical (side_of fs j) ≡ not (is_vertical (side_of fs i)))
    × (finish_place (fragment_at fs i) ≡ (fragment_at fs j).edge) × (start_place (fragment_at fs j) ≡ (fragment_at fs i).edge)

pub outline_from : (fs : List Fragment) → ((i : ℕ) → i < length fs → LeadsBy fs i (finish_join (fragment_at fs i)))
    → ((i : ℕ) → i < length fs → next fs i < length fs) → ((i : ℕ) → i < length fs → previous fs i < length fs)
    → ((i : ℕ) → i < length fs → next fs (previous fs i) ≡ i) → IsOutline fs
outline_from fs leads next_in previous_in back = record {
  cut = λ i j below e. subst (LeadsBy fs i) e (leads i below);
  corner = λ i j below e. subst (LeadsBy fs i) e (leads i below);
  next_in = next_in;
  previous_in = previous_in;
  next_of_previous = back;
}
