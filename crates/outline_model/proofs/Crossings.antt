-- Where pieces stand after a move and did not before: on the swept rectangle.
use Rattle.std.proofs.Common.{◌≡◌, ◌≢◌, ◌⊎◌, inl, inr, ℕ, ◌<◌, ℤ, ◌≤ℤ◌, ◌<ℤ◌, Bool, true, false, not, if◌then◌else◌, List, length, int_le, refl, sym, ◌∙◌, ap, subst, arith}
use Rattle.std.proofs.lemmas.Int.{ints}
use Rattle.std.proofs.lemmas.Bool.Decides.{eqb_tells}
use Rattle.outline_model.specs.declared.fragment.Join.{Join}
use Rattle.outline_model.specs.declared.fragment.Join.TheVariants.{Cut, Corner}
use Rattle.outline_model.specs.declared.fragment.Fragment.{Fragment}
use Rattle.outline_model.specs.Outline.{Point, Piece, IsOutline, DiffersOnlyAt, fragment_at, side_of, is_vertical, is_rising, end_at, low_end, high_end, start_join, start_place, finish_join, finish_place, start, finish, own_piece, jog}
use Rattle.outline_model.proofs.Walk.{placed, stands, start_corner_back, start_is, finish_is, jog_at_cut, jog_at_corner}
use Rattle.outline_model.proofs.Moves.{start_stays, finish_stays}
use Rattle.outline_model.proofs.MoveLaw.{start_end, finish_end, own_piece_is}

-- the coordinates of a point across and along the pieces of one direction, vertical ones where `v` is true
abbrev pub across : Bool → Point → ℤ
across v p = if v then p.x else p.y

abbrev pub along : Bool → Point → ℤ
along v p = if v then p.y else p.x

across-placed : (v : Bool) (line place : ℤ) → across v (placed v line place) ≡ line
across-placed true line place = refl
across-placed false line place = refl

along-placed : (v : Bool) (line place : ℤ) → along v (placed v line place) ≡ place
along-placed true line place = refl
along-placed false line place = refl

across-turned : (v : Bool) (line place : ℤ) → across v (placed (not v) line place) ≡ place
across-turned true line place = refl
across-turned false line place = refl

along-turned : (v : Bool) (line place : ℤ) → along v (placed (not v) line place) ≡ line
along-turned true line place = refl
along-turned false line place = refl

-- the piece stands at place `a` across, beside t, and is walked up there, or down
abbrev pub StandsUp : Bool → Piece → ℤ → ℤ → Type 0
StandsUp v piece a t = (across v piece.from ≡ a) × (along v piece.from ≤ℤ t) × (t <ℤ along v piece.to)

abbrev pub StandsDown : Bool → Piece → ℤ → ℤ → Type 0
StandsDown v piece a t = (across v piece.from ≡ a) × (along v piece.to ≤ℤ t) × (t <ℤ along v piece.from)

abbrev pub IsEnd : List Fragment → (ℕ → ℤ) → ℕ → ℤ → Type 0
IsEnd fs line i e = (e ≡ low_end fs line i) ⊎ (e ≡ high_end fs line i)

abbrev pub IsBetween : ℤ → ℤ → ℤ → Type 0
IsBetween a b t = ((a ≤ℤ t) × (t <ℤ b)) ⊎ ((b ≤ℤ t) × (t <ℤ a))

-- the point was at the old line and is at the new one, at an end of the moved fragment
pub record IsShifted (v : Bool) (fs : List Fragment) (line line' : ℕ → ℤ) (i : ℕ) (old new : Point) : Type 0 where
  pub at_end : IsEnd fs line i (across v new)
  pub same : across v old ≡ across v new
  pub was : along v old ≡ line i
  pub is : along v new ≡ line' i

abbrev Follows : Bool → List Fragment → (ℕ → ℤ) → (ℕ → ℤ) → ℕ → Point → Point → Type 0
Follows v fs line line' i old new = (new ≡ old) ⊎ IsShifted v fs line line' i old new

-- beside the rectangle that a fragment across the pieces sweeps
abbrev pub IsBesideAcross : List Fragment → (ℕ → ℤ) → (ℕ → ℤ) → ℕ → ℤ → ℤ → Type 0
IsBesideAcross fs line line' i a t = IsEnd fs line i a × IsBetween (line i) (line' i) t

follows-across : (v : Bool) (fs : List Fragment) (line line' : ℕ → ℤ) (i : ℕ) (old new : Point)
    → Follows v fs line line' i old new → across v old ≡ across v new
follows-across v fs line line' i old new follows = elim follows [ inl same ↦ ap (across v) (sym same) | inr shift ↦ shift.same ]

follows-below : (v : Bool) (fs : List Fragment) (line line' : ℕ → ℤ) (i : ℕ) (old new : Point) (t : ℤ) (p : Bool)
    → int_le (line i) t ≡ p → int_le (line' i) t ≡ p
    → Follows v fs line line' i old new → along v new ≤ℤ t → along v old ≤ℤ t
follows-below v fs line line' i old new t p e f follows h = elim follows [
  | inl same ↦ subst (λ (q : Point). along v q ≤ℤ t) same h
  | inr shift ↦ by p e f shift.was shift.is
]
  where
    by : (p : Bool) → int_le (line i) t ≡ p → int_le (line' i) t ≡ p → along v old ≡ line i → along v new ≡ line' i → along v old ≤ℤ t
    by true e f was is = omega (arith, ints)
    by false e f was is = absurd (omega (arith, ints))

follows-above : (v : Bool) (fs : List Fragment) (line line' : ℕ → ℤ) (i : ℕ) (old new : Point) (t : ℤ) (p : Bool)
    → int_le (line i) t ≡ p → int_le (line' i) t ≡ p
    → Follows v fs line line' i old new → t <ℤ along v new → t <ℤ along v old
follows-above v fs line line' i old new t p e f follows h = elim follows [
  | inl same ↦ subst (λ (q : Point). t <ℤ along v q) same h
  | inr shift ↦ by p e f shift.was shift.is
]
  where
    by : (p : Bool) → int_le (line i) t ≡ p → int_le (line' i) t ≡ p → along v old ≡ line i → along v new ≡ line' i → t <ℤ along v old
    by true e f was is = absurd (omega (arith, ints))
    by false e f was is = omega (arith, ints)

-- where one of two points shifted, and t is between the lines
shifted_beside : (v : Bool) (fs : List Fragment) (line line' : ℕ → ℤ) (i : ℕ) (old new : Piece) (a t : ℤ)
    → Follows v fs line line' i old.from new.from → Follows v fs line line' i old.to new.to
    → across v new.from ≡ across v new.to → across v new.from ≡ a → IsBetween (line i) (line' i) t
    → (new ≡ old) ⊎ IsBesideAcross fs line line' i a t
shifted_beside v fs line line' i old new a t from_follows to_follows straight here between = elim from_follows [
  | inr shift ↦ inr (subst (IsEnd fs line i) here shift.at_end, between)
  | inl from_same ↦ elim to_follows [
    | inr shift ↦ inr (subst (IsEnd fs line i) (sym straight ∙ here) shift.at_end, between)
    | inl to_same ↦ inl (ap (λ p. record { from = p; to = new.to }) from_same ∙ ap (λ p. record { from = old.from; to = p }) to_same)
  ]
]

up_follows : (v : Bool) (fs : List Fragment) (line line' : ℕ → ℤ) (i : ℕ) (old new : Piece) (a t : ℤ)
    → Follows v fs line line' i old.from new.from → Follows v fs line line' i old.to new.to
    → across v new.from ≡ across v new.to → StandsUp v new a t
    → StandsUp v old a t ⊎ IsBesideAcross fs line line' i a t
up_follows v fs line line' i old new a t from_follows to_follows straight new_up =
    by (int_le (line i) t) (int_le (line' i) t) refl refl
  where
    between : IsBetween (line i) (line' i) t → StandsUp v old a t ⊎ IsBesideAcross fs line line' i a t
    between h = elim (shifted_beside v fs line line' i old new a t from_follows to_follows straight new_up.0 h) [
      | inl same ↦ inl (subst (λ (p : Piece). StandsUp v p a t) same new_up)
      | inr beside ↦ inr beside
    ]

    not_between : (p : Bool) → int_le (line i) t ≡ p → int_le (line' i) t ≡ p → StandsUp v old a t ⊎ IsBesideAcross fs line line' i a t
    not_between p e f = inl (
      follows-across v fs line line' i old.from new.from from_follows ∙ new_up.0,
      follows-below v fs line line' i old.from new.from t p e f from_follows new_up.1,
      follows-above v fs line line' i old.to new.to t p e f to_follows new_up.2,
    )

    by : (p q : Bool) → int_le (line i) t ≡ p → int_le (line' i) t ≡ q → StandsUp v old a t ⊎ IsBesideAcross fs line line' i a t
    by true true e f = not_between true e f
    by false false e f = not_between false e f
    by true false e f = between (inl (omega (arith, ints), omega (arith, ints)))
    by false true e f = between (inr (omega (arith, ints), omega (arith, ints)))

down_follows : (v : Bool) (fs : List Fragment) (line line' : ℕ → ℤ) (i : ℕ) (old new : Piece) (a t : ℤ)
    → Follows v fs line line' i old.from new.from → Follows v fs line line' i old.to new.to
    → across v new.from ≡ across v new.to → StandsDown v new a t
    → StandsDown v old a t ⊎ IsBesideAcross fs line line' i a t
down_follows v fs line line' i old new a t from_follows to_follows straight new_down =
    by (int_le (line i) t) (int_le (line' i) t) refl refl
  where
    between : IsBetween (line i) (line' i) t → StandsDown v old a t ⊎ IsBesideAcross fs line line' i a t
    between h = elim (shifted_beside v fs line line' i old new a t from_follows to_follows straight new_down.0 h) [
      | inl same ↦ inl (subst (λ (p : Piece). StandsDown v p a t) same new_down)
      | inr beside ↦ inr beside
    ]

    not_between : (p : Bool) → int_le (line i) t ≡ p → int_le (line' i) t ≡ p → StandsDown v old a t ⊎ IsBesideAcross fs line line' i a t
    not_between p e f = inl (
      follows-across v fs line line' i old.from new.from from_follows ∙ new_down.0,
      follows-below v fs line line' i old.to new.to t p e f to_follows new_down.1,
      follows-above v fs line line' i old.from new.from t p e f from_follows new_down.2,
    )

    by : (p q : Bool) → int_le (line i) t ≡ p → int_le (line' i) t ≡ q → StandsDown v old a t ⊎ IsBesideAcross fs line line' i a t
    by true true e f = not_between true e f
    by false false e f = not_between false e f
    by true false e f = between (inl (omega (arith, ints), omega (arith, ints)))
    by false true e f = between (inr (omega (arith, ints), omega (arith, ints)))

-- ---- the ends of the moved fragment

finish_is_end : (fs : List Fragment) (line : ℕ → ℤ) (i : ℕ)
    → IsEnd fs line i (end_at line (finish_join (fragment_at fs i)) (finish_place (fragment_at fs i)))
finish_is_end fs line i = subst (IsEnd fs line i) (sym (finish_end line (fragment_at fs i))) (by (is_rising (side_of fs i)))
  where
    by : (t : Bool) → IsEnd fs line i (if t then high_end fs line i else low_end fs line i)
    by true = inr refl
    by false = inl refl

start_is_end : (fs : List Fragment) (line : ℕ → ℤ) (i : ℕ)
    → IsEnd fs line i (end_at line (start_join (fragment_at fs i)) (start_place (fragment_at fs i)))
start_is_end fs line i = subst (IsEnd fs line i) (sym (start_end line (fragment_at fs i))) (by (is_rising (side_of fs i)))
  where
    by : (t : Bool) → IsEnd fs line i (if t then low_end fs line i else high_end fs line i)
    by true = inl refl
    by false = inr refl

not_itself : (b : Bool) → b ≢ not b
not_itself true e = cc
not_itself false e = cc

apart_if_turned : (fs : List Fragment) (v : Bool) (i k : ℕ) → stands fs i ≡ not v → stands fs k ≡ v → k ≢ i
apart_if_turned fs v i k turned same e = not_itself v (sym same ∙ ap (stands fs) e ∙ turned)

-- ---- the points of pieces across the moved fragment

own_start_follows : (v : Bool) (fs : List Fragment) (line line' : ℕ → ℤ) (i k : ℕ) → IsOutline fs → k < length fs → DiffersOnlyAt i line line'
    → stands fs i ≡ not v → stands fs k ≡ v → Follows v fs line line' i (start fs line k) (start fs line' k)
own_start_follows v fs line line' i k outline below others turned same = by (start_join (fragment_at fs k)) refl
  where
    line_same : line' k ≡ line k
    line_same = others k (apart_if_turned fs v i k turned same)

    by : (t : Join) → start_join (fragment_at fs k) ≡ t → Follows v fs line line' i (start fs line k) (start fs line' k)
    by (Cut j) e = inl (
        start_is fs line' k v _ _ same e refl
        ∙ ap (λ l. placed v l (start_place (fragment_at fs k))) line_same
        ∙ sym (start_is fs line k v _ _ same e refl))
    by (Corner j) e =
        let old : start fs line k ≡ placed v (line k) (line j) = start_is fs line k v _ _ same e refl in
        let new : start fs line' k ≡ placed v (line' k) (line' j) = start_is fs line' k v _ _ same e refl in
        elim (eqb_tells j i) [
          | inr w ↦ inl (new ∙ ap (λ l. placed v l (line' j)) line_same ∙ ap (placed v (line k)) (others j w.1) ∙ sym old)
          | inl w ↦
              let back : finish_join (fragment_at fs i) ≡ Corner k =
              ap (λ m. finish_join (fragment_at fs m)) (sym w.1) ∙ start_corner_back fs k j outline below e in
              let new_across : across v (start fs line' k) ≡ line k = ap (across v) new ∙ across-placed v (line' k) (line' j) ∙ line_same in
              inr (record {
                at_end = subst (IsEnd fs line i) (ap (λ t. end_at line t (finish_place (fragment_at fs i))) back ∙ sym new_across) (finish_is_end fs line i);
                same = ap (across v) old ∙ across-placed v (line k) (line j) ∙ sym new_across;
                was = ap (along v) old ∙ along-placed v (line k) (line j) ∙ ap line w.1;
                is = ap (along v) new ∙ along-placed v (line' k) (line' j) ∙ ap line' w.1;
              })
        ]

own_finish_follows : (v : Bool) (fs : List Fragment) (line line' : ℕ → ℤ) (i k : ℕ) → IsOutline fs → k < length fs → DiffersOnlyAt i line line'
    → stands fs i ≡ not v → stands fs k ≡ v → Follows v fs line line' i (finish fs line k) (finish fs line' k)
own_finish_follows v fs line line' i k outline below others turned same = by (finish_join (fragment_at fs k)) refl
  where
    line_same : line' k ≡ line k
    line_same = others k (apart_if_turned fs v i k turned same)

    by : (t : Join) → finish_join (fragment_at fs k) ≡ t → Follows v fs line line' i (finish fs line k) (finish fs line' k)
    by (Cut j) e = inl (
        finish_is fs line' k v _ _ same e refl
        ∙ ap (λ l. placed v l (finish_place (fragment_at fs k))) line_same
        ∙ sym (finish_is fs line k v _ _ same e refl))
    by (Corner j) e =
        let old : finish fs line k ≡ placed v (line k) (line j) = finish_is fs line k v _ _ same e refl in
        let new : finish fs line' k ≡ placed v (line' k) (line' j) = finish_is fs line' k v _ _ same e refl in
        elim (eqb_tells j i) [
          | inr w ↦ inl (new ∙ ap (λ l. placed v l (line' j)) line_same ∙ ap (placed v (line k)) (others j w.1) ∙ sym old)
          | inl w ↦
              let back : start_join (fragment_at fs i) ≡ Corner k =
              ap (λ m. start_join (fragment_at fs m)) (sym w.1) ∙ (outline.corner k j below e).0 in
              let new_across : across v (finish fs line' k) ≡ line k = ap (across v) new ∙ across-placed v (line' k) (line' j) ∙ line_same in
              inr (record {
                at_end = subst (IsEnd fs line i) (ap (λ t. end_at line t (start_place (fragment_at fs i))) back ∙ sym new_across) (start_is_end fs line i);
                same = ap (across v) old ∙ across-placed v (line k) (line j) ∙ sym new_across;
                was = ap (along v) old ∙ along-placed v (line k) (line j) ∙ ap line w.1;
                is = ap (along v) new ∙ along-placed v (line' k) (line' j) ∙ ap line' w.1;
              })
        ]

-- a point of a jog, at the place of its cut and on the line of the fragment m
cut_follows : (v : Bool) (fs : List Fragment) (line line' : ℕ → ℤ) (i m : ℕ) (place : ℤ) → DiffersOnlyAt i line line'
    → (m ≡ i → IsEnd fs line i place)
    → Follows v fs line line' i (placed (not v) (line m) place) (placed (not v) (line' m) place)
cut_follows v fs line line' i m place others an_end = elim (eqb_tells m i) [
  | inr w ↦ inl (ap (λ l. placed (not v) l place) (others m w.1))
  | inl w ↦ inr (record {
    at_end = subst (IsEnd fs line i) (sym (across-turned v (line' m) place)) (an_end w.1);
    same = across-turned v (line m) place ∙ sym (across-turned v (line' m) place);
    was = along-turned v (line m) place ∙ ap line w.1;
    is = along-turned v (line' m) place ∙ ap line' w.1;
  })
]

cut_finish_is_end : (fs : List Fragment) (line : ℕ → ℤ) (i k j : ℕ) → finish_join (fragment_at fs k) ≡ Cut j → k ≡ i
    → IsEnd fs line i (finish_place (fragment_at fs k))
cut_finish_is_end fs line i k j e here =
    subst (IsEnd fs line i)
    (ap (λ m. end_at line (finish_join (fragment_at fs m)) (finish_place (fragment_at fs m))) (sym here)
    ∙ ap (λ t. end_at line t (finish_place (fragment_at fs k))) e)
    (finish_is_end fs line i)

cut_start_is_end : (fs : List Fragment) (line : ℕ → ℤ) (i k j : ℕ) → start_join (fragment_at fs j) ≡ Cut k
    → start_place (fragment_at fs j) ≡ finish_place (fragment_at fs k) → j ≡ i → IsEnd fs line i (finish_place (fragment_at fs k))
cut_start_is_end fs line i k j e place here =
    subst (IsEnd fs line i)
    (ap (λ m. end_at line (start_join (fragment_at fs m)) (start_place (fragment_at fs m))) (sym here)
    ∙ ap (λ t. end_at line t (start_place (fragment_at fs j))) e ∙ place)
    (start_is_end fs line i)

-- ---- straight pieces, and jogs with no length

pub own_is_straight : (v : Bool) (fs : List Fragment) (line : ℕ → ℤ) (k : ℕ) → stands fs k ≡ v
    → across v (own_piece fs line k).from ≡ across v (own_piece fs line k).to
own_is_straight v fs line k same =
    ap (across v) (start_is fs line k v _ _ same refl refl)
    ∙ across-placed v (line k) (end_at line (start_join (fragment_at fs k)) (start_place (fragment_at fs k)))
    ∙ sym (across-placed v (line k) (end_at line (finish_join (fragment_at fs k)) (finish_place (fragment_at fs k))))
    ∙ sym (ap (across v) (finish_is fs line k v _ _ same refl refl))

-- the jog at a cut between k and j
abbrev pub cut_jog : Bool → List Fragment → (ℕ → ℤ) → ℕ → ℕ → Piece
cut_jog v fs line k j = record {
  from = placed (not v) (line k) (finish_place (fragment_at fs k));
  to = placed (not v) (line j) (finish_place (fragment_at fs k));
}

pub cut_jog_is : (v : Bool) (fs : List Fragment) (line : ℕ → ℤ) (k j : ℕ) → IsOutline fs → k < length fs → stands fs k ≡ not v
    → finish_join (fragment_at fs k) ≡ Cut j → jog fs line k ≡ cut_jog v fs line k j
cut_jog_is v fs line k j outline below flat e =
    jog_at_cut fs line k j outline below e
    ∙ ap (λ u. record { from = placed u (line k) (finish_place (fragment_at fs k)); to = placed u (line j) (finish_place (fragment_at fs k)) }) flat

pub cut_jog_is_straight : (v : Bool) (fs : List Fragment) (line : ℕ → ℤ) (k j : ℕ)
    → across v (cut_jog v fs line k j).from ≡ across v (cut_jog v fs line k j).to
cut_jog_is_straight v fs line k j =
    across-turned v (line k) (finish_place (fragment_at fs k)) ∙ sym (across-turned v (line j) (finish_place (fragment_at fs k)))

pub no_length_up : (v : Bool) (piece : Piece) (a t : ℤ) → piece.from ≡ piece.to → ¬ StandsUp v piece a t
no_length_up v piece a t none up =
    let same : along v piece.from ≡ along v piece.to = ap (along v) none in
    let low = up.1 in let high = up.2 in omega (arith, ints)

pub no_length_down : (v : Bool) (piece : Piece) (a t : ℤ) → piece.from ≡ piece.to → ¬ StandsDown v piece a t
no_length_down v piece a t none down =
    let same : along v piece.from ≡ along v piece.to = ap (along v) none in
    let low = down.1 in let high = down.2 in omega (arith, ints)

-- ---- pieces across the moved fragment

pub own_up_across : (v : Bool) (fs : List Fragment) (line line' : ℕ → ℤ) (i k : ℕ) (a t : ℤ) → IsOutline fs → k < length fs → DiffersOnlyAt i line line'
    → stands fs i ≡ not v → stands fs k ≡ v → StandsUp v (own_piece fs line' k) a t
    → StandsUp v (own_piece fs line k) a t ⊎ IsBesideAcross fs line line' i a t
own_up_across v fs line line' i k a t outline below others turned same =
    up_follows v fs line line' i (own_piece fs line k) (own_piece fs line' k) a t
    (own_start_follows v fs line line' i k outline below others turned same)
    (own_finish_follows v fs line line' i k outline below others turned same)
    (own_is_straight v fs line' k same)

pub own_down_across : (v : Bool) (fs : List Fragment) (line line' : ℕ → ℤ) (i k : ℕ) (a t : ℤ) → IsOutline fs → k < length fs → DiffersOnlyAt i line line'
    → stands fs i ≡ not v → stands fs k ≡ v → StandsDown v (own_piece fs line' k) a t
    → StandsDown v (own_piece fs line k) a t ⊎ IsBesideAcross fs line line' i a t
own_down_across v fs line line' i k a t outline below others turned same =
    down_follows v fs line line' i (own_piece fs line k) (own_piece fs line' k) a t
    (own_start_follows v fs line line' i k outline below others turned same)
    (own_finish_follows v fs line line' i k outline below others turned same)
    (own_is_straight v fs line' k same)

pub jog_up_across : (v : Bool) (fs : List Fragment) (line line' : ℕ → ℤ) (i k : ℕ) (a t : ℤ) → IsOutline fs → k < length fs → DiffersOnlyAt i line line'
    → stands fs k ≡ not v → StandsUp v (jog fs line' k) a t
    → StandsUp v (jog fs line k) a t ⊎ IsBesideAcross fs line line' i a t
jog_up_across v fs line line' i k a t outline below others flat up = by (finish_join (fragment_at fs k)) refl
  where
    by : (t' : Join) → finish_join (fragment_at fs k) ≡ t' → StandsUp v (jog fs line k) a t ⊎ IsBesideAcross fs line line' i a t
    by (Cut j) e =
        let met = outline.cut k j below e in
        let new : jog fs line' k ≡ cut_jog v fs line' k j = cut_jog_is v fs line' k j outline below flat e in
        let old : jog fs line k ≡ cut_jog v fs line k j = cut_jog_is v fs line k j outline below flat e in
        elim (up_follows v fs line line' i (cut_jog v fs line k j) (cut_jog v fs line' k j) a t
        (cut_follows v fs line line' i k (finish_place (fragment_at fs k)) others (cut_finish_is_end fs line i k j e))
        (cut_follows v fs line line' i j (finish_place (fragment_at fs k)) others (cut_start_is_end fs line i k j met.0 met.2))
        (cut_jog_is_straight v fs line' k j)
        (subst (λ (p : Piece). StandsUp v p a t) new up)) [
          | inl stood ↦ inl (subst (λ (p : Piece). StandsUp v p a t) (sym old) stood)
          | inr beside ↦ inr beside
        ]
    by (Corner j) e = absurd (no_length_up v (jog fs line' k) a t (jog_at_corner fs line' k j outline below e) up)

pub jog_down_across : (v : Bool) (fs : List Fragment) (line line' : ℕ → ℤ) (i k : ℕ) (a t : ℤ) → IsOutline fs → k < length fs → DiffersOnlyAt i line line'
    → stands fs k ≡ not v → StandsDown v (jog fs line' k) a t
    → StandsDown v (jog fs line k) a t ⊎ IsBesideAcross fs line line' i a t
jog_down_across v fs line line' i k a t outline below others flat down = by (finish_join (fragment_at fs k)) refl
  where
    by : (t' : Join) → finish_join (fragment_at fs k) ≡ t' → StandsDown v (jog fs line k) a t ⊎ IsBesideAcross fs line line' i a t
    by (Cut j) e =
        let met = outline.cut k j below e in
        let new : jog fs line' k ≡ cut_jog v fs line' k j = cut_jog_is v fs line' k j outline below flat e in
        let old : jog fs line k ≡ cut_jog v fs line k j = cut_jog_is v fs line k j outline below flat e in
        elim (down_follows v fs line line' i (cut_jog v fs line k j) (cut_jog v fs line' k j) a t
        (cut_follows v fs line line' i k (finish_place (fragment_at fs k)) others (cut_finish_is_end fs line i k j e))
        (cut_follows v fs line line' i j (finish_place (fragment_at fs k)) others (cut_start_is_end fs line i k j met.0 met.2))
        (cut_jog_is_straight v fs line' k j)
        (subst (λ (p : Piece). StandsDown v p a t) new down)) [
          | inl stood ↦ inl (subst (λ (p : Piece). StandsDown v p a t) (sym old) stood)
          | inr beside ↦ inr beside
        ]
    by (Corner j) e = absurd (no_length_down v (jog fs line' k) a t (jog_at_corner fs line' k j outline below e) down)

-- ---- pieces along the moved fragment

-- beside the line to which a fragment moves
abbrev pub IsBesideAlong : List Fragment → (ℕ → ℤ) → (ℕ → ℤ) → ℕ → ℤ → ℤ → Type 0
IsBesideAlong fs line line' i a t = (line' i ≡ a) × (low_end fs line i ≤ℤ t) × (t <ℤ high_end fs line i)

jog_along : (v : Bool) (fs : List Fragment) (line line' : ℕ → ℤ) (i k j : ℕ) → IsOutline fs → k < length fs → DiffersOnlyAt i line line'
    → stands fs i ≡ v → stands fs k ≡ not v → finish_join (fragment_at fs k) ≡ Cut j → jog fs line' k ≡ jog fs line k
jog_along v fs line line' i k j outline below others same flat e =
    let met = outline.cut k j below e in
    let k_apart : k ≢ i = λ h. not_itself v (sym same ∙ ap (stands fs) (sym h) ∙ flat) in
    let j_apart : j ≢ i = λ h. not_itself v (sym same ∙ ap (stands fs) (sym h) ∙ ap is_vertical met.1 ∙ flat) in
    cut_jog_is v fs line' k j outline below flat e
    ∙ ap (λ l. record { from = placed (not v) l (finish_place (fragment_at fs k)); to = placed (not v) (line' j) (finish_place (fragment_at fs k)) }) (others k k_apart)
    ∙ ap (λ l. record { from = placed (not v) (line k) (finish_place (fragment_at fs k)); to = placed (not v) l (finish_place (fragment_at fs k)) }) (others j j_apart)
    ∙ sym (cut_jog_is v fs line k j outline below flat e)

pub jog_up_along : (v : Bool) (fs : List Fragment) (line line' : ℕ → ℤ) (i k : ℕ) (a t : ℤ) → IsOutline fs → k < length fs → DiffersOnlyAt i line line'
    → stands fs i ≡ v → stands fs k ≡ not v → StandsUp v (jog fs line' k) a t → StandsUp v (jog fs line k) a t
jog_up_along v fs line line' i k a t outline below others same flat up = by (finish_join (fragment_at fs k)) refl
  where
    by : (t' : Join) → finish_join (fragment_at fs k) ≡ t' → StandsUp v (jog fs line k) a t
    by (Cut j) e = subst (λ (p : Piece). StandsUp v p a t) (jog_along v fs line line' i k j outline below others same flat e) up
    by (Corner j) e = absurd (no_length_up v (jog fs line' k) a t (jog_at_corner fs line' k j outline below e) up)

pub jog_down_along : (v : Bool) (fs : List Fragment) (line line' : ℕ → ℤ) (i k : ℕ) (a t : ℤ) → IsOutline fs → k < length fs → DiffersOnlyAt i line line'
    → stands fs i ≡ v → stands fs k ≡ not v → StandsDown v (jog fs line' k) a t → StandsDown v (jog fs line k) a t
jog_down_along v fs line line' i k a t outline below others same flat down = by (finish_join (fragment_at fs k)) refl
  where
    by : (t' : Join) → finish_join (fragment_at fs k) ≡ t' → StandsDown v (jog fs line k) a t
    by (Cut j) e = subst (λ (p : Piece). StandsDown v p a t) (jog_along v fs line line' i k j outline below others same flat e) down
    by (Corner j) e = absurd (no_length_down v (jog fs line' k) a t (jog_at_corner fs line' k j outline below e) down)

-- the moved fragment's own piece
moved_piece : (v : Bool) (fs : List Fragment) (line line' : ℕ → ℤ) (i : ℕ) → IsOutline fs → i < length fs → DiffersOnlyAt i line line'
    → stands fs i ≡ v → own_piece fs line' i ≡ record {
      from = placed v (line' i) (if is_rising (side_of fs i) then low_end fs line i else high_end fs line i);
      to = placed v (line' i) (if is_rising (side_of fs i) then high_end fs line i else low_end fs line i);
    }
moved_piece v fs line line' i outline below others same =
    own_piece_is fs line line' i (start_stays fs line line' i i outline below others refl) (finish_stays fs line line' i i outline below others refl)
    ∙ ap (λ u. record {
      from = placed u (line' i) (if is_rising (side_of fs i) then low_end fs line i else high_end fs line i);
      to = placed u (line' i) (if is_rising (side_of fs i) then high_end fs line i else low_end fs line i);
    }) same

pub moved_up : (v : Bool) (fs : List Fragment) (line line' : ℕ → ℤ) (i : ℕ) (a t : ℤ) → IsOutline fs → i < length fs → DiffersOnlyAt i line line'
    → stands fs i ≡ v → low_end fs line i ≤ℤ high_end fs line i → StandsUp v (own_piece fs line' i) a t → IsBesideAlong fs line line' i a t
moved_up v fs line line' i a t outline below others same ordered up =
    by v (is_rising (side_of fs i)) (subst (λ (p : Piece). StandsUp v p a t) (moved_piece v fs line line' i outline below others same) up)
  where
    by : (v r : Bool) → StandsUp v (record {
      from = placed v (line' i) (if r then low_end fs line i else high_end fs line i);
      to = placed v (line' i) (if r then high_end fs line i else low_end fs line i);
    }) a t → IsBesideAlong fs line line' i a t
    by true true h = h
    by false true h = h
    by true false h = let low = h.1 in let high = h.2 in absurd (omega (arith, ints))
    by false false h = let low = h.1 in let high = h.2 in absurd (omega (arith, ints))

pub moved_down : (v : Bool) (fs : List Fragment) (line line' : ℕ → ℤ) (i : ℕ) (a t : ℤ) → IsOutline fs → i < length fs → DiffersOnlyAt i line line'
    → stands fs i ≡ v → low_end fs line i ≤ℤ high_end fs line i → StandsDown v (own_piece fs line' i) a t → IsBesideAlong fs line line' i a t
moved_down v fs line line' i a t outline below others same ordered down =
    by v (is_rising (side_of fs i)) (subst (λ (p : Piece). StandsDown v p a t) (moved_piece v fs line line' i outline below others same) down)
  where
    by : (v r : Bool) → StandsDown v (record {
      from = placed v (line' i) (if r then low_end fs line i else high_end fs line i);
      to = placed v (line' i) (if r then high_end fs line i else low_end fs line i);
    }) a t → IsBesideAlong fs line line' i a t
    by true false h = h
    by false false h = h
    by true true h = let low = h.1 in let high = h.2 in absurd (omega (arith, ints))
    by false true h = let low = h.1 in let high = h.2 in absurd (omega (arith, ints))
