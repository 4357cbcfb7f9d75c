-- The pieces of a fragment keep near its place on the target, so only fragments near a pixel have pieces there.
use Rattle.std.proofs.Common.{◌≡◌, ◌⊎◌, inl, inr, ℕ, ◌<◌, ℤ, pos, ◌+ℤ◌, ◌-ℤ◌, ◌≤ℤ◌, ◌<ℤ◌, Bool, true, false, not, if◌then◌else◌, List, length, refl, sym, ◌∙◌, ap, subst, arith}
use Rattle.std.proofs.lemmas.Int.{ints}
use Rattle.outline_model.specs.declared.fragment.Join.{Join}
use Rattle.outline_model.specs.declared.fragment.Join.TheVariants.{Cut, Corner}
use Rattle.outline_model.specs.declared.fragment.Fragment.{Fragment}
use Rattle.outline_model.specs.Near.{IsWithinReach, KeepNear}
use Rattle.outline_model.specs.Outline.{Piece, IsOutline, fragment_at, side_of, is_vertical, is_rising, end_at, start_join, start_place, finish_join, finish_place, joined, finish, own_piece, jog, vertical_piece, horizontal_piece}
use Rattle.outline_model.specs.Rules.{FallsOn, RisesOn, LeftwardOn, RightwardOn}
use Rattle.outline_model.proofs.Walk.{placed, stands, start_corner_back, start_is, finish_is, jog_at_corner}
use Rattle.outline_model.proofs.Crossings.{StandsUp, StandsDown, cut_jog, cut_jog_is, no_length_up, no_length_down}

abbrev IsClose : ℤ → ℤ → ℤ → Type 0
IsClose reach a b = ((b -ℤ reach) ≤ℤ a) × (a ≤ℤ (b +ℤ reach))

finish_close : (fs : List Fragment) (line : ℕ → ℤ) (reach : ℤ) (k : ℕ) → IsOutline fs → KeepNear fs line reach → pos 0 ≤ℤ reach → k < length fs
    → IsClose reach (end_at line (finish_join (fragment_at fs k)) (finish_place (fragment_at fs k))) (finish_place (fragment_at fs k))
finish_close fs line reach k outline near some below = by (finish_join (fragment_at fs k)) refl
  where
    by : (t : Join) → finish_join (fragment_at fs k) ≡ t → IsClose reach (end_at line t (finish_place (fragment_at fs k))) (finish_place (fragment_at fs k))
    by (Cut j) e = (omega (arith, ints), omega (arith, ints))
    by (Corner j) e = subst (IsClose reach (line j)) (sym (outline.corner k j below e).2) (near j)

start_close : (fs : List Fragment) (line : ℕ → ℤ) (reach : ℤ) (k : ℕ) → IsOutline fs → KeepNear fs line reach → pos 0 ≤ℤ reach → k < length fs
    → IsClose reach (end_at line (start_join (fragment_at fs k)) (start_place (fragment_at fs k))) (start_place (fragment_at fs k))
start_close fs line reach k outline near some below = by (start_join (fragment_at fs k)) refl
  where
    by : (t : Join) → start_join (fragment_at fs k) ≡ t → IsClose reach (end_at line t (start_place (fragment_at fs k))) (start_place (fragment_at fs k))
    by (Cut j) e = (omega (arith, ints), omega (arith, ints))
    by (Corner j) e =
        let back : finish_join (fragment_at fs j) ≡ Corner k = start_corner_back fs k j outline below e in
        let inside : j < length fs = subst (λ m. m < length fs) (ap joined e) (outline.previous_in k below) in
        subst (IsClose reach (line j)) (sym (outline.corner j k inside back).3) (near j)

-- a place between an end and another, each close to its place on the target
between_ends : (r : Bool) (lo hi reach start_end finish_end t : ℤ) → lo ≤ℤ hi
    → IsClose reach start_end (if r then lo else hi) → IsClose reach finish_end (if r then hi else lo)
    → ((start_end ≤ℤ t) × (t <ℤ finish_end)) ⊎ ((finish_end ≤ℤ t) × (t <ℤ start_end))
    → ((lo -ℤ reach) ≤ℤ t) × (t ≤ℤ (hi +ℤ reach))
between_ends true lo hi reach s f t ordered s_close f_close between = elim between [
  | inl h ↦ (let a = s_close.0 in let b = f_close.1 in let c = h.0 in let d = h.1 in (omega (arith, ints), omega (arith, ints)))
  | inr h ↦ (let a = f_close.0 in let b = s_close.1 in let c = h.0 in let d = h.1 in (omega (arith, ints), omega (arith, ints)))
]
between_ends false lo hi reach s f t ordered s_close f_close between = elim between [
  | inl h ↦ (let a = s_close.0 in let b = f_close.1 in let c = h.0 in let d = h.1 in (omega (arith, ints), omega (arith, ints)))
  | inr h ↦ (let a = f_close.0 in let b = s_close.1 in let c = h.0 in let d = h.1 in (omega (arith, ints), omega (arith, ints)))
]

-- the piece is at `a` across and beside t, walked either way
abbrev StandsAt : Bool → Piece → ℤ → ℤ → Type 0
StandsAt v piece a t = StandsUp v piece a t ⊎ StandsDown v piece a t

abbrev WithinAt : Bool → Fragment → ℤ → ℤ → ℤ → Type 0
WithinAt v f reach a t = IsWithinReach f reach (if v then a else t) (if v then t else a)

within_own : (v : Bool) (f : Fragment) (reach a t : ℤ) → is_vertical f.side ≡ v → IsClose reach a f.edge
    → ((f.lo -ℤ reach) ≤ℤ t) × (t ≤ℤ (f.hi +ℤ reach)) → WithinAt v f reach a t
within_own true f reach a t e close between = record {
  left = rw e close.0;
  right = rw e close.1;
  below = rw e between.0;
  above = rw e between.1;
}
within_own false f reach a t e close between = record {
  left = rw e between.0;
  right = rw e between.1;
  below = rw e close.0;
  above = rw e close.1;
}

within_jog : (v : Bool) (f : Fragment) (reach a t : ℤ) → is_vertical f.side ≡ not v → ((f.lo -ℤ reach) ≤ℤ a) × (a ≤ℤ (f.hi +ℤ reach))
    → IsClose reach t f.edge → WithinAt v f reach a t
within_jog true f reach a t e between close = record {
  left = rw e between.0;
  right = rw e between.1;
  below = rw e close.0;
  above = rw e close.1;
}
within_jog false f reach a t e between close = record {
  left = rw e close.0;
  right = rw e close.1;
  below = rw e between.0;
  above = rw e between.1;
}

own_within : (v : Bool) (fs : List Fragment) (line : ℕ → ℤ) (reach : ℤ) (k : ℕ) (a t : ℤ) → IsOutline fs → KeepNear fs line reach → pos 0 ≤ℤ reach
    → k < length fs → (fragment_at fs k).lo ≤ℤ (fragment_at fs k).hi → stands fs k ≡ v → StandsAt v (own_piece fs line k) a t
    → WithinAt v (fragment_at fs k) reach a t
own_within v fs line reach k a t outline near some below ordered own at =
    by v own (subst (λ (p : Piece). StandsAt v p a t) piece_is at)
  where
    s : ℤ
    s = end_at line (start_join (fragment_at fs k)) (start_place (fragment_at fs k))

    f : ℤ
    f = end_at line (finish_join (fragment_at fs k)) (finish_place (fragment_at fs k))

    piece_is : own_piece fs line k ≡ record { from = placed v (line k) s; to = placed v (line k) f }
    piece_is =
        ap (λ p. record { from = p; to = finish fs line k }) (start_is fs line k v _ _ own refl refl)
        ∙ ap (λ p. record { from = placed v (line k) s; to = p }) (finish_is fs line k v _ _ own refl refl)

    ends : ((s ≤ℤ t) × (t <ℤ f)) ⊎ ((f ≤ℤ t) × (t <ℤ s)) → (((fragment_at fs k).lo -ℤ reach) ≤ℤ t) × (t ≤ℤ ((fragment_at fs k).hi +ℤ reach))
    ends = between_ends (is_rising (side_of fs k)) (fragment_at fs k).lo (fragment_at fs k).hi reach s f t ordered
        (start_close fs line reach k outline near some below) (finish_close fs line reach k outline near some below)

    by : (v : Bool) → stands fs k ≡ v → StandsAt v (record { from = placed v (line k) s; to = placed v (line k) f }) a t → WithinAt v (fragment_at fs k) reach a t
    by true e h = elim h [
      | inl up ↦ within_own true (fragment_at fs k) reach a t e (subst (λ l. IsClose reach l (fragment_at fs k).edge) up.0 (near k)) (ends (inl (up.1, up.2)))
      | inr down ↦ within_own true (fragment_at fs k) reach a t e (subst (λ l. IsClose reach l (fragment_at fs k).edge) down.0 (near k)) (ends (inr (down.1, down.2)))
    ]
    by false e h = elim h [
      | inl up ↦ within_own false (fragment_at fs k) reach a t e (subst (λ l. IsClose reach l (fragment_at fs k).edge) up.0 (near k)) (ends (inl (up.1, up.2)))
      | inr down ↦ within_own false (fragment_at fs k) reach a t e (subst (λ l. IsClose reach l (fragment_at fs k).edge) down.0 (near k)) (ends (inr (down.1, down.2)))
    ]

cut_place : (r : Bool) (lo hi reach : ℤ) → lo ≤ℤ hi → pos 0 ≤ℤ reach
    → ((lo -ℤ reach) ≤ℤ (if r then hi else lo)) × ((if r then hi else lo) ≤ℤ (hi +ℤ reach))
cut_place true lo hi reach ordered some = (omega (arith, ints), omega (arith, ints))
cut_place false lo hi reach ordered some = (omega (arith, ints), omega (arith, ints))

between_lines : (reach edge first second t : ℤ) → IsClose reach first edge → IsClose reach second edge
    → ((first ≤ℤ t) × (t <ℤ second)) ⊎ ((second ≤ℤ t) × (t <ℤ first)) → IsClose reach t edge
between_lines reach edge first second t first_close second_close between = elim between [
  | inl h ↦ (let a = first_close.0 in let b = second_close.1 in let c = h.0 in let d = h.1 in (omega (arith, ints), omega (arith, ints)))
  | inr h ↦ (let a = second_close.0 in let b = first_close.1 in let c = h.0 in let d = h.1 in (omega (arith, ints), omega (arith, ints)))
]

jog_within : (v : Bool) (fs : List Fragment) (line : ℕ → ℤ) (reach : ℤ) (k : ℕ) (a t : ℤ) → IsOutline fs → KeepNear fs line reach → pos 0 ≤ℤ reach
    → k < length fs → (fragment_at fs k).lo ≤ℤ (fragment_at fs k).hi → stands fs k ≡ not v → StandsAt v (jog fs line k) a t
    → WithinAt v (fragment_at fs k) reach a t
jog_within v fs line reach k a t outline near some below ordered flat at = by (finish_join (fragment_at fs k)) refl
  where
    place : ((fragment_at fs k).lo -ℤ reach) ≤ℤ finish_place (fragment_at fs k) × finish_place (fragment_at fs k) ≤ℤ ((fragment_at fs k).hi +ℤ reach)
    place = cut_place (is_rising (side_of fs k)) (fragment_at fs k).lo (fragment_at fs k).hi reach ordered some

    within : (v : Bool) (j : ℕ) → is_vertical (side_of fs k) ≡ not v → IsClose reach (line j) (fragment_at fs k).edge
        → StandsAt v (cut_jog v fs line k j) a t → WithinAt v (fragment_at fs k) reach a t
    within true j e close h = elim h [
      | inl up ↦ within_jog true (fragment_at fs k) reach a t e (subst (λ p. ((fragment_at fs k).lo -ℤ reach) ≤ℤ p × p ≤ℤ ((fragment_at fs k).hi +ℤ reach)) up.0 place)
          (between_lines reach (fragment_at fs k).edge (line k) (line j) t (near k) close (inl (up.1, up.2)))
      | inr down ↦ within_jog true (fragment_at fs k) reach a t e (subst (λ p. ((fragment_at fs k).lo -ℤ reach) ≤ℤ p × p ≤ℤ ((fragment_at fs k).hi +ℤ reach)) down.0 place)
          (between_lines reach (fragment_at fs k).edge (line k) (line j) t (near k) close (inr (down.1, down.2)))
    ]
    within false j e close h = elim h [
      | inl up ↦ within_jog false (fragment_at fs k) reach a t e (subst (λ p. ((fragment_at fs k).lo -ℤ reach) ≤ℤ p × p ≤ℤ ((fragment_at fs k).hi +ℤ reach)) up.0 place)
          (between_lines reach (fragment_at fs k).edge (line k) (line j) t (near k) close (inl (up.1, up.2)))
      | inr down ↦ within_jog false (fragment_at fs k) reach a t e (subst (λ p. ((fragment_at fs k).lo -ℤ reach) ≤ℤ p × p ≤ℤ ((fragment_at fs k).hi +ℤ reach)) down.0 place)
          (between_lines reach (fragment_at fs k).edge (line k) (line j) t (near k) close (inr (down.1, down.2)))
    ]

    by : (u : Join) → finish_join (fragment_at fs k) ≡ u → WithinAt v (fragment_at fs k) reach a t
    by (Cut j) e =
        let met = outline.cut k j below e in
        within v j flat (subst (IsClose reach (line j)) met.3 (near j))
        (subst (λ (p : Piece). StandsAt v p a t) (cut_jog_is v fs line k j outline below flat e) at)
    by (Corner j) e = elim at [
      | inl up ↦ absurd (no_length_up v (jog fs line k) a t (jog_at_corner fs line k j outline below e) up)
      | inr down ↦ absurd (no_length_down v (jog fs line k) a t (jog_at_corner fs line k j outline below e) down)
    ]

-- a vertical piece on a pixel's left side is near its fragment's place on the target
pub vertical_within : (fs : List Fragment) (line : ℕ → ℤ) (reach : ℤ) (k : ℕ) (x y : ℤ) → IsOutline fs → KeepNear fs line reach → pos 0 ≤ℤ reach
    → k < length fs → (fragment_at fs k).lo ≤ℤ (fragment_at fs k).hi
    → FallsOn (vertical_piece fs line k) x y ⊎ RisesOn (vertical_piece fs line k) x y → IsWithinReach (fragment_at fs k) reach x y
vertical_within fs line reach k x y outline near some below ordered = by (stands fs k) refl
  where
    by : (s : Bool) → stands fs k ≡ s → FallsOn (if s then own_piece fs line k else jog fs line k) x y ⊎ RisesOn (if s then own_piece fs line k else jog fs line k) x y
        → IsWithinReach (fragment_at fs k) reach x y
    by true e at = own_within true fs line reach k x y outline near some below ordered e (elim at [ inl falls ↦ inr falls | inr rises ↦ inl rises ])
    by false e at = jog_within true fs line reach k x y outline near some below ordered e (elim at [ inl falls ↦ inr falls | inr rises ↦ inl rises ])

-- and so is a horizontal piece on its lower side
pub horizontal_within : (fs : List Fragment) (line : ℕ → ℤ) (reach : ℤ) (k : ℕ) (x y : ℤ) → IsOutline fs → KeepNear fs line reach → pos 0 ≤ℤ reach
    → k < length fs → (fragment_at fs k).lo ≤ℤ (fragment_at fs k).hi
    → LeftwardOn (horizontal_piece fs line k) x y ⊎ RightwardOn (horizontal_piece fs line k) x y → IsWithinReach (fragment_at fs k) reach x y
horizontal_within fs line reach k x y outline near some below ordered = by (stands fs k) refl
  where
    by : (s : Bool) → stands fs k ≡ s → LeftwardOn (if s then jog fs line k else own_piece fs line k) x y ⊎ RightwardOn (if s then jog fs line k else own_piece fs line k) x y
        → IsWithinReach (fragment_at fs k) reach x y
    by true e at = jog_within false fs line reach k y x outline near some below ordered e (elim at [ inl left ↦ inr left | inr right ↦ inl right ])
    by false e at = own_within false fs line reach k y x outline near some below ordered e (elim at [ inl left ↦ inr left | inr right ↦ inl right ])
