-- After the move of one fragment of an outline that kept all rules, each broken place is near the swept rectangle.
use Rattle.std.proofs.Common.{◌≡◌, ◌≢◌, ◌⊎◌, inl, inr, ℕ, ◌<◌, ℤ, pos, neg_ℤ, ◌≤ℤ◌, ◌<ℤ◌, Bool, true, false, not, if◌then◌else◌, List, length, set, get_or-set_other, int_le, int_lt, refl, sym, ◌∙◌, ap, subst, arith}
use Rattle.std.proofs.lemmas.Int.{ints, clamps}
use Rattle.std.proofs.lemmas.Bool.Decides.{eqb_tells}
use Rattle.std.specs.Int.{int_min, int_max}
use Rattle.outline_model.specs.declared.fragment.Fragment.{Fragment}
use Rattle.opc_base.specs.declared.plane.Rect.{Rect}
use Rattle.outline_model.specs.declared.fragment.Join.{Join}
use Rattle.outline_model.specs.declared.fragment.Join.TheVariants.{Cut, Corner}
use Rattle.opc_base.specs.declared.rules.MaskRules.{MaskRules}
use Rattle.opc_base.specs.declared.broken.RuleName.{RuleName}
use Rattle.opc_base.specs.declared.broken.RuleName.TheVariants.{M0, M1, M2, M3, M4, M5}
use Rattle.opc_base.specs.declared.plane.Pix.{Pix}
use Rattle.opc_base.specs.declared.broken.Place.{Place}
use Rattle.opc_base.specs.declared.broken.Place.TheVariants.{Pixel, Fragment as FragmentNumber}
use Rattle.outline_model.specs.Near.{IsNear}
use Rattle.outline_model.specs.Outline.{Piece, IsOutline, DiffersOnlyAt, side_of, low_end, high_end, own_piece, jog, vertical_piece, horizontal_piece, lines, fragment_at, end_at, start_place, finish_place, joined, next, previous, start_join, finish_join, is_rising, mask, swept}
use Rattle.opc_base.specs.Plane.{rect_cover}
use Rattle.outline_model.specs.Rules.{FallsOn, RisesOn, LeftwardOn, RightwardOn, CrossesAt, Breaks, IsNearMove, KeepsRules, reach_of}
use Rattle.outline_model.proofs.Walk.{stands, start_corner_back}
use Rattle.outline_model.proofs.Moves.{own_stays}
use Rattle.outline_model.proofs.Crossings.{StandsUp, StandsDown, IsBetween, IsBesideAcross, IsBesideAlong, own_up_across, own_down_across, jog_up_across, jog_down_across, jog_up_along, jog_down_along, moved_up, moved_down}
use Rattle.outline_model.proofs.Locality.{rect_cover-out, narrow_near, space_near, touch_near}
use Rattle.outline_model.proofs.MaskMoves.{IsSingle, count-elsewhere, mask-elsewhere}
use Rattle.outline_model.proofs.MoveLaw.{differs_at-set, start_end, finish_end}

-- a place across and a place along, as a pixel
abbrev IsNearAt : Bool → Rect → ℤ → ℤ → Type 0
IsNearAt v r a t = IsNear r (pos 1) (if v then a else t) (if v then t else a)

abbrev band_rect : Bool → ℤ → ℤ → ℤ → ℤ → Rect
band_rect s l l' low high =
    if s then record { x0 = int_min l l'; y0 = low; x1 = int_max l l'; y1 = high }
    else record { x0 = low; y0 = int_min l l'; x1 = high; y1 = int_max l l' }

along_near : (v s : Bool) (l l' low high a t : ℤ) → s ≡ v → l' ≡ a → low ≤ℤ t → t <ℤ high → IsNearAt v (band_rect s l l' low high) a t
along_near true true l l' low high a t e here above below = record {
  left = omega (arith, ints, clamps);
  right = omega (arith, ints, clamps);
  below = omega (arith, ints);
  above = omega (arith, ints);
}
along_near false false l l' low high a t e here above below = record {
  left = omega (arith, ints);
  right = omega (arith, ints);
  below = omega (arith, ints, clamps);
  above = omega (arith, ints, clamps);
}
along_near true false l l' low high a t e here above below = absurd (cc e)
along_near false true l l' low high a t e here above below = absurd (cc e)

across_near : (v s : Bool) (l l' low high a t : ℤ) → s ≡ not v → low ≤ℤ a → a ≤ℤ high → IsBetween l l' t → IsNearAt v (band_rect s l l' low high) a t
across_near true false l l' low high a t e above below between = elim between [
  | inl h ↦ (let h0 = h.0 in let h1 = h.1 in record {
    left = omega (arith, ints);
    right = omega (arith, ints);
    below = omega (arith, ints, clamps);
    above = omega (arith, ints, clamps);
  })
  | inr h ↦ (let h0 = h.0 in let h1 = h.1 in record {
    left = omega (arith, ints);
    right = omega (arith, ints);
    below = omega (arith, ints, clamps);
    above = omega (arith, ints, clamps);
  })
]
across_near false true l l' low high a t e above below between = elim between [
  | inl h ↦ (let h0 = h.0 in let h1 = h.1 in record {
    left = omega (arith, ints, clamps);
    right = omega (arith, ints, clamps);
    below = omega (arith, ints);
    above = omega (arith, ints);
  })
  | inr h ↦ (let h0 = h.0 in let h1 = h.1 in record {
    left = omega (arith, ints, clamps);
    right = omega (arith, ints, clamps);
    below = omega (arith, ints);
    above = omega (arith, ints);
  })
]
across_near true true l l' low high a t e above below between = absurd (cc e)
across_near false false l l' low high a t e above below between = absurd (cc e)

beside_along : (v : Bool) (fs : List Fragment) (line line' : ℕ → ℤ) (i : ℕ) (a t : ℤ) → stands fs i ≡ v
    → IsBesideAlong fs line line' i a t → IsNearAt v (swept fs line i (line' i)) a t
beside_along v fs line line' i a t same h =
    along_near v (stands fs i) (line i) (line' i) (low_end fs line i) (high_end fs line i) a t same h.0 h.1 h.2

beside_across : (v : Bool) (fs : List Fragment) (line line' : ℕ → ℤ) (i : ℕ) (a t : ℤ) → stands fs i ≡ not v
    → low_end fs line i ≤ℤ high_end fs line i → IsBesideAcross fs line line' i a t → IsNearAt v (swept fs line i (line' i)) a t
beside_across v fs line line' i a t turned ordered h = elim h.0 [
  | inl e ↦ across_near v (stands fs i) (line i) (line' i) (low_end fs line i) (high_end fs line i) a t turned (omega (arith, ints)) (omega (arith, ints)) h.1
  | inr e ↦ across_near v (stands fs i) (line i) (line' i) (low_end fs line i) (high_end fs line i) a t turned (omega (arith, ints)) (omega (arith, ints)) h.1
]

same_or_turned : (a b : Bool) → (a ≡ b) ⊎ (a ≡ not b)
same_or_turned true true = inl refl
same_or_turned true false = inr refl
same_or_turned false true = inr refl
same_or_turned false false = inl refl

-- what an outline and the move of one of its fragments are
pub record IsMove (fs : List Fragment) (line line' : ℕ → ℤ) (i : ℕ) : Type 0 where
  pub outline : IsOutline fs
  pub below : i < length fs
  pub others : DiffersOnlyAt i line line'
  pub ordered : low_end fs line i ≤ℤ high_end fs line i

own_up_near : (v : Bool) (fs : List Fragment) (line line' : ℕ → ℤ) (i k : ℕ) (a t : ℤ) → IsMove fs line line' i → k < length fs → stands fs k ≡ v
    → StandsUp v (own_piece fs line' k) a t → StandsUp v (own_piece fs line k) a t ⊎ IsNearAt v (swept fs line i (line' i)) a t
own_up_near v fs line line' i k a t move inside own up = elim (same_or_turned (stands fs i) v) [
  | inl same ↦ elim (eqb_tells k i) [
    | inl w ↦ inr (beside_along v fs line line' i a t same
        (moved_up v fs line line' i a t move.outline move.below move.others same move.ordered
        (subst (λ m. StandsUp v (own_piece fs line' m) a t) w.1 up)))
    | inr w ↦ inl (subst (λ (p : Piece). StandsUp v p a t) (own_stays fs line line' i k move.outline inside move.others (own ∙ sym same) w.1) up)
  ]
  | inr turned ↦ elim (own_up_across v fs line line' i k a t move.outline inside move.others turned own up) [
    | inl stood ↦ inl stood
    | inr beside ↦ inr (beside_across v fs line line' i a t turned move.ordered beside)
  ]
]

own_down_near : (v : Bool) (fs : List Fragment) (line line' : ℕ → ℤ) (i k : ℕ) (a t : ℤ) → IsMove fs line line' i → k < length fs → stands fs k ≡ v
    → StandsDown v (own_piece fs line' k) a t → StandsDown v (own_piece fs line k) a t ⊎ IsNearAt v (swept fs line i (line' i)) a t
own_down_near v fs line line' i k a t move inside own down = elim (same_or_turned (stands fs i) v) [
  | inl same ↦ elim (eqb_tells k i) [
    | inl w ↦ inr (beside_along v fs line line' i a t same
        (moved_down v fs line line' i a t move.outline move.below move.others same move.ordered
        (subst (λ m. StandsDown v (own_piece fs line' m) a t) w.1 down)))
    | inr w ↦ inl (subst (λ (p : Piece). StandsDown v p a t) (own_stays fs line line' i k move.outline inside move.others (own ∙ sym same) w.1) down)
  ]
  | inr turned ↦ elim (own_down_across v fs line line' i k a t move.outline inside move.others turned own down) [
    | inl stood ↦ inl stood
    | inr beside ↦ inr (beside_across v fs line line' i a t turned move.ordered beside)
  ]
]

jog_up_near : (v : Bool) (fs : List Fragment) (line line' : ℕ → ℤ) (i k : ℕ) (a t : ℤ) → IsMove fs line line' i → k < length fs → stands fs k ≡ not v
    → StandsUp v (jog fs line' k) a t → StandsUp v (jog fs line k) a t ⊎ IsNearAt v (swept fs line i (line' i)) a t
jog_up_near v fs line line' i k a t move inside flat up = elim (same_or_turned (stands fs i) v) [
  | inl same ↦ inl (jog_up_along v fs line line' i k a t move.outline inside move.others same flat up)
  | inr turned ↦ elim (jog_up_across v fs line line' i k a t move.outline inside move.others flat up) [
    | inl stood ↦ inl stood
    | inr beside ↦ inr (beside_across v fs line line' i a t turned move.ordered beside)
  ]
]

jog_down_near : (v : Bool) (fs : List Fragment) (line line' : ℕ → ℤ) (i k : ℕ) (a t : ℤ) → IsMove fs line line' i → k < length fs → stands fs k ≡ not v
    → StandsDown v (jog fs line' k) a t → StandsDown v (jog fs line k) a t ⊎ IsNearAt v (swept fs line i (line' i)) a t
jog_down_near v fs line line' i k a t move inside flat down = elim (same_or_turned (stands fs i) v) [
  | inl same ↦ inl (jog_down_along v fs line line' i k a t move.outline inside move.others same flat down)
  | inr turned ↦ elim (jog_down_across v fs line line' i k a t move.outline inside move.others flat down) [
    | inl stood ↦ inl stood
    | inr beside ↦ inr (beside_across v fs line line' i a t turned move.ordered beside)
  ]
]

-- ---- the pieces of each direction

falls_near : (fs : List Fragment) (line line' : ℕ → ℤ) (i k : ℕ) (x y : ℤ) → IsMove fs line line' i → k < length fs
    → FallsOn (vertical_piece fs line' k) x y → FallsOn (vertical_piece fs line k) x y ⊎ IsNear (swept fs line i (line' i)) (pos 1) x y
falls_near fs line line' i k x y move inside = by (stands fs k) refl
  where
    by : (s : Bool) → stands fs k ≡ s → FallsOn (if s then own_piece fs line' k else jog fs line' k) x y
        → FallsOn (if s then own_piece fs line k else jog fs line k) x y ⊎ IsNear (swept fs line i (line' i)) (pos 1) x y
    by true e = own_down_near true fs line line' i k x y move inside e
    by false e = jog_down_near true fs line line' i k x y move inside e

rises_near : (fs : List Fragment) (line line' : ℕ → ℤ) (i k : ℕ) (x y : ℤ) → IsMove fs line line' i → k < length fs
    → RisesOn (vertical_piece fs line' k) x y → RisesOn (vertical_piece fs line k) x y ⊎ IsNear (swept fs line i (line' i)) (pos 1) x y
rises_near fs line line' i k x y move inside = by (stands fs k) refl
  where
    by : (s : Bool) → stands fs k ≡ s → RisesOn (if s then own_piece fs line' k else jog fs line' k) x y
        → RisesOn (if s then own_piece fs line k else jog fs line k) x y ⊎ IsNear (swept fs line i (line' i)) (pos 1) x y
    by true e = own_up_near true fs line line' i k x y move inside e
    by false e = jog_up_near true fs line line' i k x y move inside e

leftward_near : (fs : List Fragment) (line line' : ℕ → ℤ) (i k : ℕ) (x y : ℤ) → IsMove fs line line' i → k < length fs
    → LeftwardOn (horizontal_piece fs line' k) x y → LeftwardOn (horizontal_piece fs line k) x y ⊎ IsNear (swept fs line i (line' i)) (pos 1) x y
leftward_near fs line line' i k x y move inside = by (stands fs k) refl
  where
    by : (s : Bool) → stands fs k ≡ s → LeftwardOn (if s then jog fs line' k else own_piece fs line' k) x y
        → LeftwardOn (if s then jog fs line k else own_piece fs line k) x y ⊎ IsNear (swept fs line i (line' i)) (pos 1) x y
    by true e = jog_down_near false fs line line' i k y x move inside e
    by false e = own_down_near false fs line line' i k y x move inside e

rightward_near : (fs : List Fragment) (line line' : ℕ → ℤ) (i k : ℕ) (x y : ℤ) → IsMove fs line line' i → k < length fs
    → RightwardOn (horizontal_piece fs line' k) x y → RightwardOn (horizontal_piece fs line k) x y ⊎ IsNear (swept fs line i (line' i)) (pos 1) x y
rightward_near fs line line' i k x y move inside = by (stands fs k) refl
  where
    by : (s : Bool) → stands fs k ≡ s → RightwardOn (if s then jog fs line' k else own_piece fs line' k) x y
        → RightwardOn (if s then jog fs line k else own_piece fs line k) x y ⊎ IsNear (swept fs line i (line' i)) (pos 1) x y
    by true e = jog_up_near false fs line line' i k y x move inside e
    by false e = own_up_near false fs line line' i k y x move inside e

-- ---- the rules

covered_near : (r : Rect) (x y : ℤ) → ((rect_cover r x y ≡ false) → ⊥) → IsNear r (pos 1) x y
covered_near r x y covered = by (int_le r.x0 x) (int_lt x r.x1) (int_le r.y0 y) (int_lt y r.y1) refl refl refl refl
  where
    by : (p q u v : Bool) → int_le r.x0 x ≡ p → int_lt x r.x1 ≡ q → int_le r.y0 y ≡ u → int_lt y r.y1 ≡ v → IsNear r (pos 1) x y
    by false q u v e f g h = absurd (covered (rect_cover-out r x y (λ c. let b = c.0 in omega (arith, ints))))
    by true false u v e f g h = absurd (covered (rect_cover-out r x y (λ c. let b = c.1 in omega (arith, ints))))
    by true true false v e f g h = absurd (covered (rect_cover-out r x y (λ c. let b = c.2 in omega (arith, ints))))
    by true true true false e f g h = absurd (covered (rect_cover-out r x y (λ c. let b = c.3 in omega (arith, ints))))
    by true true true true e f g h = record {
      left = omega (arith, ints);
      right = omega (arith, ints);
      below = omega (arith, ints);
      above = omega (arith, ints);
    }

crosses_near : (fs : List Fragment) (line line' : ℕ → ℤ) (i : ℕ) (x y : ℤ) → IsMove fs line line' i
    → CrossesAt fs line' x y → ¬ CrossesAt fs line x y → IsNear (swept fs line i (line' i)) (pos 1) x y
crosses_near fs line line' i x y move broken kept = elim broken [
  | inl not_single ↦ covered_near (swept fs line i (line' i)) x y (λ out.
      kept (inl (λ single. not_single (subst IsSingle
      (sym (count-elsewhere fs line line' i x y move.outline move.below move.others move.ordered out)) single))))
  | inr meets ↦ elim meets [
    | inl upright ↦ elim (falls_near fs line line' i upright.j x y move upright.j_below upright.falls) [
      | inr near ↦ near
      | inl falls ↦ elim (rises_near fs line line' i upright.k x y move upright.k_below upright.rises) [
        | inr near ↦ near
        | inl rises ↦ absurd (kept (inr (inl (record {
          j = upright.j;
          k = upright.k;
          j_below = upright.j_below;
          k_below = upright.k_below;
          falls = falls;
          rises = rises;
        }))))
      ]
    ]
    | inr level ↦ elim (leftward_near fs line line' i level.j x y move level.j_below level.leftward) [
      | inr near ↦ near
      | inl leftward ↦ elim (rightward_near fs line line' i level.k x y move level.k_below level.rightward) [
        | inr near ↦ near
        | inl rightward ↦ absurd (kept (inr (inr (record {
          j = level.j;
          k = level.k;
          j_below = level.j_below;
          k_below = level.k_below;
          leftward = leftward;
          rightward = rightward;
        }))))
      ]
    ]
  ]
]

move_of_offset : (fs : List Fragment) (offsets : List ℤ) (i : ℕ) (to : ℤ) → IsOutline fs → i < length fs
    → low_end fs (lines fs offsets) i ≤ℤ high_end fs (lines fs offsets) i
    → IsMove fs (lines fs offsets) (lines fs (set offsets i to)) i
move_of_offset fs offsets i to outline below ordered = record {
  outline = outline;
  below = below;
  others = differs_at-set fs offsets i to;
  ordered = ordered;
}

-- where a pixel breaks a rule that held, it is near the rectangle that the move swept
pub broken_near : (rules : MaskRules) (fs : List Fragment) (offsets : List ℤ) (i : ℕ) (to : ℤ) (rule : RuleName) (p : Pix)
    → IsOutline fs → i < length fs → low_end fs (lines fs offsets) i ≤ℤ high_end fs (lines fs offsets) i
    → KeepsRules rules fs offsets → Breaks rules fs (set offsets i to) rule (Pixel p)
    → IsNear (swept fs (lines fs offsets) i (lines fs (set offsets i to) i)) (reach_of rules rule) p.x p.y
broken_near rules fs offsets i to M0 p outline below ordered keeps broken =
    crosses_near fs (lines fs offsets) (lines fs (set offsets i to)) i p.x p.y (move_of_offset fs offsets i to outline below ordered)
    broken (keeps M0 (Pixel p))
broken_near rules fs offsets i to M1 p outline below ordered keeps broken =
    narrow_near (mask fs (lines fs offsets)) (mask fs (lines fs (set offsets i to)))
    (swept fs (lines fs offsets) i (lines fs (set offsets i to) i)) rules.width p.x p.y
    (mask-elsewhere fs (lines fs offsets) (lines fs (set offsets i to)) i outline below (differs_at-set fs offsets i to) ordered)
    broken (keeps M1 (Pixel p))
broken_near rules fs offsets i to M2 p outline below ordered keeps broken =
    space_near (mask fs (lines fs offsets)) (mask fs (lines fs (set offsets i to)))
    (swept fs (lines fs offsets) i (lines fs (set offsets i to) i)) rules.space p.x p.y
    (mask-elsewhere fs (lines fs offsets) (lines fs (set offsets i to)) i outline below (differs_at-set fs offsets i to) ordered)
    broken (keeps M2 (Pixel p))
broken_near rules fs offsets i to M3 p outline below ordered keeps broken =
    touch_near (mask fs (lines fs offsets)) (mask fs (lines fs (set offsets i to)))
    (swept fs (lines fs offsets) i (lines fs (set offsets i to) i)) p.x p.y
    (mask-elsewhere fs (lines fs offsets) (lines fs (set offsets i to)) i outline below (differs_at-set fs offsets i to) ordered)
    broken (keeps M3 (Pixel p))
broken_near rules fs offsets i to M4 p outline below ordered keeps broken = absurd broken
broken_near rules fs offsets i to M5 p outline below ordered keeps broken = absurd broken

-- ---- the rules of fragments

-- only the moved fragment can come out of range
pub broken_offset : (rules : MaskRules) (fs : List Fragment) (offsets : List ℤ) (i : ℕ) (to : ℤ) (k : ℕ)
    → KeepsRules rules fs offsets → Breaks rules fs (set offsets i to) M5 (FragmentNumber k) → k ≡ i
broken_offset rules fs offsets i to k keeps broken = elim (eqb_tells k i) [
  | inl w ↦ w.1
  | inr w ↦ absurd (keeps M5 (FragmentNumber k) (subst
      (λ o. (k < length fs) × ¬ ((neg_ℤ rules.max_in ≤ℤ o) × (o ≤ℤ rules.max_out)))
      (get_or-set_other {A = ℤ} offsets i k to (pos 0) w.1) broken))
]

pub start_as_before : (fs : List Fragment) (line line' : ℕ → ℤ) (i k : ℕ) → IsOutline fs → DiffersOnlyAt i line line' → k < length fs → k ≢ next fs i
    → end_at line' (start_join (fragment_at fs k)) (start_place (fragment_at fs k)) ≡ end_at line (start_join (fragment_at fs k)) (start_place (fragment_at fs k))
start_as_before fs line line' i k outline others below apart = by (start_join (fragment_at fs k)) refl
  where
    by : (t : Join) → start_join (fragment_at fs k) ≡ t → end_at line' t (start_place (fragment_at fs k)) ≡ end_at line t (start_place (fragment_at fs k))
    by (Cut j) e = refl
    by (Corner j) e = others j (λ here. apart (sym (ap (next fs) (sym here) ∙ ap joined (start_corner_back fs k j outline below e))))

pub finish_as_before : (fs : List Fragment) (line line' : ℕ → ℤ) (i k : ℕ) → IsOutline fs → DiffersOnlyAt i line line' → k < length fs → k ≢ previous fs i
    → end_at line' (finish_join (fragment_at fs k)) (finish_place (fragment_at fs k)) ≡ end_at line (finish_join (fragment_at fs k)) (finish_place (fragment_at fs k))
finish_as_before fs line line' i k outline others below apart = by (finish_join (fragment_at fs k)) refl
  where
    by : (t : Join) → finish_join (fragment_at fs k) ≡ t → end_at line' t (finish_place (fragment_at fs k)) ≡ end_at line t (finish_place (fragment_at fs k))
    by (Cut j) e = refl
    by (Corner j) e = others j (λ here. apart (sym (ap (previous fs) (sym here) ∙ ap joined (outline.corner k j below e).0)))

ends_as_before : (fs : List Fragment) (line line' : ℕ → ℤ) (i k : ℕ) → IsOutline fs → DiffersOnlyAt i line line' → k < length fs
    → k ≢ previous fs i → k ≢ next fs i → (low_end fs line' k ≡ low_end fs line k) × (high_end fs line' k ≡ high_end fs line k)
ends_as_before fs line line' i k outline others below not_before not_after =
    by (is_rising (side_of fs k))
    (sym (start_end line' (fragment_at fs k)) ∙ start_as_before fs line line' i k outline others below not_after ∙ start_end line (fragment_at fs k))
    (sym (finish_end line' (fragment_at fs k)) ∙ finish_as_before fs line line' i k outline others below not_before ∙ finish_end line (fragment_at fs k))
  where
    by : (r : Bool)
        → (if r then low_end fs line' k else high_end fs line' k) ≡ (if r then low_end fs line k else high_end fs line k)
        → (if r then high_end fs line' k else low_end fs line' k) ≡ (if r then high_end fs line k else low_end fs line k)
        → (low_end fs line' k ≡ low_end fs line k) × (high_end fs line' k ≡ high_end fs line k)
    by true e f = (e, f)
    by false e f = (f, e)

-- only the fragments before and after the moved one can have their ends out of order
pub broken_ends : (rules : MaskRules) (fs : List Fragment) (offsets : List ℤ) (i : ℕ) (to : ℤ) (k : ℕ) → IsOutline fs
    → KeepsRules rules fs offsets → Breaks rules fs (set offsets i to) M4 (FragmentNumber k) → (k ≡ previous fs i) ⊎ (k ≡ next fs i)
broken_ends rules fs offsets i to k outline keeps broken = elim (eqb_tells k (previous fs i)) [
  | inl w ↦ inl w.1
  | inr w ↦ elim (eqb_tells k (next fs i)) [
    | inl u ↦ inr u.1
    | inr u ↦ absurd (
        let same = ends_as_before fs (lines fs offsets) (lines fs (set offsets i to)) i k outline (differs_at-set fs offsets i to) broken.0 w.1 u.1 in
        keeps M4 (FragmentNumber k) (
          broken.0,
          λ ordered. broken.1 (
              subst (λ l. l <ℤ high_end fs (lines fs (set offsets i to)) k) (sym same.0)
              (subst (λ h. low_end fs (lines fs offsets) k <ℤ h) (sym same.1) ordered)),
        ))
  ]
]

-- ---- all rules

-- A place that breaks a rule that held is near the move.
pub broken_near_move : (rules : MaskRules) (fs : List Fragment) (offsets : List ℤ) (i : ℕ) (to : ℤ) (rule : RuleName) (place : Place)
    → IsOutline fs → i < length fs → low_end fs (lines fs offsets) i ≤ℤ high_end fs (lines fs offsets) i
    → KeepsRules rules fs offsets → Breaks rules fs (set offsets i to) rule place → IsNearMove rules fs offsets i to rule place
broken_near_move rules fs offsets i to rule (Pixel p) outline below ordered keeps broken =
    broken_near rules fs offsets i to rule p outline below ordered keeps broken
broken_near_move rules fs offsets i to M5 (FragmentNumber k) outline below ordered keeps broken = broken_offset rules fs offsets i to k keeps broken
broken_near_move rules fs offsets i to M4 (FragmentNumber k) outline below ordered keeps broken = broken_ends rules fs offsets i to k outline keeps broken
broken_near_move rules fs offsets i to M0 (FragmentNumber k) outline below ordered keeps broken = broken
broken_near_move rules fs offsets i to M1 (FragmentNumber k) outline below ordered keeps broken = broken
broken_near_move rules fs offsets i to M2 (FragmentNumber k) outline below ordered keeps broken = broken
broken_near_move rules fs offsets i to M3 (FragmentNumber k) outline below ordered keeps broken = broken
