-- What clashes with a changed stretch is what a move breaks.
use Rattle.std.proofs.Common.{◌≡◌, ◌⊎◌, inl, inr, ℕ, ◌<◌, ℤ, pos, ◌+ℤ◌, ◌-ℤ◌, Bool, true, false, Option, Some, List, length, sym, ◌∙◌, ap, subst, arith}
use Rattle.std.specs.Int.{int_max}
use Rattle.std.proofs.lemmas.Int.{ints}
use Rattle.std.proofs.lemmas.Bool.Decides.{eqb_tells}
use Rattle.outline_model.specs.declared.fragment.Fragment.{Fragment}
use Rattle.opc_base.specs.declared.plane.Pix.{Pix}
use Rattle.outline_model.specs.Outline.{IsOutline, DiffersOnlyAt, mask, next, previous, vertical_piece, horizontal_piece}
use Rattle.outline_model.specs.Rules.{RisesOn, LeftwardOn, MeetUpright, MeetLevel, NoneCrosses}
use Rattle.opc_base.specs.Runs.{LiesInShortRun, IsCornerTouch}
use Rattle.mask_rules.specs.declared.clash.Clash.{Clash}
use Rattle.mask_rules.specs.declared.clash.Clash.TheVariants.{Meet, Narrow, Touch}
use Rattle.mask_rules.specs.declared.stretch.Stretch.{Stretch}
use Rattle.mask_rules.specs.Clashes.{clash_pixel, is_meeting, is_narrow, is_touching, of_colour, ClashesOf, ClashesNow}
use Rattle.mask_rules.specs.First.{IsUpTo, IsFirst}
use Rattle.outline_model.specs.Edges.{seen}
use Rattle.mask_rules.specs.Stretches.{pixel_at, stretch_at}
use Rattle.mask_rules.proofs.Changed.{stretch-same}
use Rattle.mask_rules.proofs.ClashFacts.{some_of, some_if, pair_of_test, test_of_pair, point_of_test, test_of_point, IsMeeting, meeting_of_test, test_of_meeting, pixel_up_to}
use Rattle.mask_rules.proofs.Drawn.{drawn, upright_piece, level_piece, falls_stretch, rises_stretch, leftward_stretch, rightward_stretch}
use Rattle.mask_rules.proofs.Firsts.{IsUpTo-refl, IsFirst-cover}
use Rattle.mask_rules.proofs.Runs.{IsPair, run_of_pair, pair_of_run, IsMeetingPoint, touch_of_point, point_of_touch}

-- a move of fragment i
pub record IsStep (fs : List Fragment) (line line' : ℕ → ℤ) (i : ℕ) : Type 0 where
  pub outline : IsOutline fs
  pub below : i < length fs
  pub others : DiffersOnlyAt i line line'

-- two stretches that clash at a pixel
pub record ClashPair (fs : List Fragment) (line : ℕ → ℤ) (clash : Clash) (p : Pix) : Type 0 where
  pub v : Bool
  pub j : ℕ
  pub k : ℕ
  pub j_below : j < length fs
  pub k_below : k < length fs
  pub clashes : clash_pixel clash v (stretch_at fs line v j) (stretch_at fs line v k) ≡ Some p

pair_of_clash : (fs : List Fragment) (line : ℕ → ℤ) (clash : Clash) (v : Bool) (c : ℕ) (p : Pix) → c < length fs → ClashesOf fs line clash v c p → ClashPair fs line clash p
pair_of_clash fs line clash v c p below found = elim found.2 [
  | inl h ↦ record { v = v; j = c; k = found.0; j_below = below; k_below = found.1; clashes = h }
  | inr h ↦ record { v = v; j = found.0; k = c; j_below = found.1; k_below = below; clashes = h }
]

pair_now : (fs : List Fragment) (line : ℕ → ℤ) (clash : Clash) (i : ℕ) (p : Pix) → IsOutline fs → i < length fs → ClashesNow fs line clash i p → ClashPair fs line clash p
pair_now fs line clash i p outline below found = elim found [
  | inl h ↦ elim h [
    | inl before ↦ beside (previous fs i) (outline.previous_in i below) before
    | inr here ↦ beside i below here
  ]
  | inr after ↦ beside (next fs i) (outline.next_in i below) after
]
  where
    beside : (c : ℕ) → c < length fs → ClashesOf fs line clash true c p ⊎ ClashesOf fs line clash false c p → ClashPair fs line clash p
    beside c inside h = elim h [
      | inl up ↦ pair_of_clash fs line clash true c p inside up
      | inr level ↦ pair_of_clash fs line clash false c p inside level
    ]

-- a stretch that stays, or is one of those that are looked at
clash_or_same : (fs : List Fragment) (line line' : ℕ → ℤ) (i : ℕ) (clash : Clash) (v : Bool) (c : ℕ) (p : Pix) → IsStep fs line line' i → c < length fs
    → ClashesOf fs line' clash v c p → ClashesNow fs line' clash i p ⊎ (stretch_at fs line' v c ≡ stretch_at fs line v c)
clash_or_same fs line line' i clash v c p move below clashes = elim (eqb_tells c (previous fs i)) [
  | inl w ↦ inl (inl (inl (by _ v (subst (λ m. ClashesOf fs line' clash v m p) w.1 clashes))))
  | inr not_before ↦ elim (eqb_tells c i) [
    | inl w ↦ inl (inl (inr (by _ v (subst (λ m. ClashesOf fs line' clash v m p) w.1 clashes))))
    | inr not_it ↦ elim (eqb_tells c (next fs i)) [
      | inl w ↦ inl (inr (by _ v (subst (λ m. ClashesOf fs line' clash v m p) w.1 clashes)))
      | inr not_after ↦ inr (stretch-same fs line line' i c v move.outline move.others below not_before.1 not_it.1 not_after.1)
    ]
  ]
]
  where
    by : (m : ℕ) (v : Bool) → ClashesOf fs line' clash v m p → ClashesOf fs line' clash true m p ⊎ ClashesOf fs line' clash false m p
    by m true h = inl h
    by m false h = inr h

-- a clash that no changed stretch is in was there before
clash_now : (fs : List Fragment) (line line' : ℕ → ℤ) (i : ℕ) (clash : Clash) (v : Bool) (j k : ℕ) (p : Pix) → IsStep fs line line' i
    → j < length fs → k < length fs → clash_pixel clash v (stretch_at fs line' v j) (stretch_at fs line' v k) ≡ Some p
    → ClashesNow fs line' clash i p ⊎ ((stretch_at fs line' v j ≡ stretch_at fs line v j) × (stretch_at fs line' v k ≡ stretch_at fs line v k))
clash_now fs line line' i clash v j k p move j_below k_below clashes = elim (clash_or_same fs line line' i clash v j p move j_below (k, k_below, inl clashes)) [
  | inl now ↦ inl now
  | inr j_same ↦ elim (clash_or_same fs line line' i clash v k p move k_below (j, j_below, inr clashes)) [
    | inl now ↦ inl now
    | inr k_same ↦ inr (j_same, k_same)
  ]
]

-- ---- M1 and M2

abbrev pub NarrowAt : Bool → (ℤ → ℤ → Bool) → ℤ → Pix → Type 0
NarrowAt c inside least p =
    LiesInShortRun (λ a. of_colour c (inside a p.y)) least p.x ⊎ LiesInShortRun (λ a. of_colour c (inside p.x a)) least p.y

narrow_at : (v c : Bool) (inside : ℤ → ℤ → Bool) (least a t : ℤ) → LiesInShortRun (λ b. of_colour c (seen v inside b t)) least a
    → NarrowAt c inside least (pixel_at v a t)
narrow_at true c inside least a t short = inl short
narrow_at false c inside least a t short = inr short

pub narrow_first : (fs : List Fragment) (line line' : ℕ → ℤ) (i : ℕ) (c : Bool) (least : ℤ) (first : Option Pix) → IsStep fs line line' i
    → NoneCrosses fs line → NoneCrosses fs line' → ((p : Pix) → ¬ NarrowAt c (mask fs line) least p)
    → IsFirst (ClashesNow fs line' (Narrow c least) i) first → IsFirst (NarrowAt c (mask fs line') least) first
narrow_first fs line line' i c least first move kept none keeps = IsFirst-cover _ _ first there back
  where
    there : (p : Pix) → ClashesNow fs line' (Narrow c least) i p → NarrowAt c (mask fs line') least p
    there p now =
        let two = pair_now fs line' (Narrow c least) i p move.outline move.below now in
        let test = some_of (is_narrow c least (stretch_at fs line' two.v two.j) (stretch_at fs line' two.v two.k)) _ _ two.clashes in
        subst (NarrowAt c (mask fs line') least) test.1
        (narrow_at two.v c (mask fs line') least _ _
        (run_of_pair (mask fs line') (length fs) (stretch_at fs line') (drawn fs line' move.outline none) two.v c two.j two.k least _ two.j_below two.k_below
        (pair_of_test _ _ c least test.0)))

    found : (v : Bool) (a t : ℤ) → LiesInShortRun (λ b. of_colour c (seen v (mask fs line') b t)) least a
        → (p : Pix) × ClashesNow fs line' (Narrow c least) i p × IsUpTo p (pixel_at v a t)
    found v a t short =
        let at = pair_of_run (mask fs line') (length fs) (stretch_at fs line') (drawn fs line' move.outline none) v c least a t short in
        let p = stretch_at fs line' v at.j in
        let q = stretch_at fs line' v at.k in
        let test = test_of_pair p q c least t at.pair in
        let clashes : clash_pixel (Narrow c least) v p q ≡ Some (pixel_at v p.at (int_max p.low q.low)) = some_if (is_narrow c least p q) _ test.0 in
        elim (clash_now fs line line' i (Narrow c least) v at.j at.k _ move at.j_below at.k_below clashes) [
          | inl now ↦ (pixel_at v p.at (int_max p.low q.low), now, pixel_up_to v p.at a (int_max p.low q.low) t at.from test.1)
          | inr same ↦ absurd (keeps _ (narrow_at v c (mask fs line) least _ t
              (run_of_pair (mask fs line) (length fs) (stretch_at fs line) (drawn fs line move.outline kept) v c at.j at.k least t at.j_below at.k_below
              (subst (λ (s : Stretch). IsPair s (stretch_at fs line v at.k) c least t) same.0
              (subst (λ (s : Stretch). IsPair p s c least t) same.1 at.pair)))))
        ]

    back : (q : Pix) → NarrowAt c (mask fs line') least q → (p : Pix) × ClashesNow fs line' (Narrow c least) i p × IsUpTo p q
    back q short = elim short [ inl row ↦ found true q.x q.y row | inr column ↦ found false q.y q.x column ]

-- ---- M3

abbrev pub TouchAt : (ℤ → ℤ → Bool) → Pix → Type 0
TouchAt inside p = IsCornerTouch inside p.x p.y

pub touch_first : (fs : List Fragment) (line line' : ℕ → ℤ) (i : ℕ) (first : Option Pix) → IsStep fs line line' i
    → NoneCrosses fs line → NoneCrosses fs line' → ((p : Pix) → ¬ TouchAt (mask fs line) p)
    → IsFirst (ClashesNow fs line' Touch i) first → IsFirst (TouchAt (mask fs line')) first
touch_first fs line line' i first move kept none keeps = IsFirst-cover _ _ first there back
  where
    level : (v : Bool) (j k : ℕ) (p : Pix) → j < length fs → k < length fs → v ≡ false
        → clash_pixel Touch v (stretch_at fs line' v j) (stretch_at fs line' v k) ≡ Some p → TouchAt (mask fs line') p
    level true j k p j_below k_below e clashes = absurd (cc e)
    level false j k p j_below k_below e clashes =
        let test = some_of (is_touching false (stretch_at fs line' false j) (stretch_at fs line' false k)) _ _ clashes in
        subst (TouchAt (mask fs line')) test.1
        (touch_of_point (mask fs line') (length fs) (stretch_at fs line') (drawn fs line' move.outline none) j k j_below k_below (point_of_test false _ _ test.0).1)

    there : (p : Pix) → ClashesNow fs line' Touch i p → TouchAt (mask fs line') p
    there p now =
        let two = pair_now fs line' Touch i p move.outline move.below now in
        let test = some_of (is_touching two.v (stretch_at fs line' two.v two.j) (stretch_at fs line' two.v two.k)) _ _ two.clashes in
        level two.v two.j two.k p two.j_below two.k_below (point_of_test two.v _ _ test.0).0 two.clashes

    back : (q : Pix) → TouchAt (mask fs line') q → (p : Pix) × ClashesNow fs line' Touch i p × IsUpTo p q
    back q touch =
        let at = point_of_touch (mask fs line') (length fs) (stretch_at fs line') (drawn fs line' move.outline none) q.x q.y touch in
        let p = stretch_at fs line' false at.j in
        let r = stretch_at fs line' false at.k in
        let high : p.high ≡ q.x +ℤ pos 1 = at.high_is in
        let up : p.at ≡ q.y +ℤ pos 1 = at.at_is in
        let x_is : p.high -ℤ pos 1 ≡ q.x = omega (arith, ints) in
        let y_is : p.at -ℤ pos 1 ≡ q.y = omega (arith, ints) in
        let place_is : pixel_at false (p.at -ℤ pos 1) (p.high -ℤ pos 1) ≡ q =
        ap (λ x. pixel_at false (p.at -ℤ pos 1) x) x_is ∙ ap (λ y. pixel_at false y q.x) y_is in
        let clashes : clash_pixel Touch false p r ≡ Some q = some_if (is_touching false p r) _ (test_of_point p r at.point) ∙ ap Some place_is in
        elim (clash_now fs line line' i Touch false at.j at.k q move at.j_below at.k_below clashes) [
          | inl now ↦ (q, now, IsUpTo-refl q)
          | inr same ↦ absurd (keeps _
              (touch_of_point (mask fs line) (length fs) (stretch_at fs line) (drawn fs line move.outline kept) at.j at.k at.j_below at.k_below
              (subst (λ (s : Stretch). IsMeetingPoint s (stretch_at fs line false at.k)) same.0
              (subst (λ (s : Stretch). IsMeetingPoint p s) same.1 at.point))))
        ]

-- ---- pieces of opposite sign on one side of a pixel

abbrev pub MeetsAt : List Fragment → (ℕ → ℤ) → Pix → Type 0
MeetsAt fs line p = MeetUpright fs line p.x p.y ⊎ MeetLevel fs line p.x p.y

meets_at : (fs : List Fragment) (line : ℕ → ℤ) (v : Bool) (j k : ℕ) (t : ℤ) → j < length fs → k < length fs
    → IsMeeting (stretch_at fs line v j) (stretch_at fs line v k) t → MeetsAt fs line (pixel_at v (stretch_at fs line v j).at t)
meets_at fs line true j k t j_below k_below meeting = elim (upright_piece fs line j t meeting.first) [
  | inr h ↦ absurd (let e = sym meeting.opens ∙ h.0 in cc e)
  | inl falls ↦ elim (upright_piece fs line k t meeting.second) [
    | inl h ↦ absurd (let e = sym meeting.closes ∙ h.0 in cc e)
    | inr rises ↦ inl (record {
      j = j;
      k = k;
      j_below = j_below;
      k_below = k_below;
      falls = falls.1;
      rises = subst (λ a. RisesOn (vertical_piece fs line k) a t) (sym meeting.level) rises.1;
    })
  ]
]
meets_at fs line false j k t j_below k_below meeting = elim (level_piece fs line j t meeting.first) [
  | inl h ↦ absurd (let e = sym meeting.opens ∙ h.0 in cc e)
  | inr rightward ↦ elim (level_piece fs line k t meeting.second) [
    | inr h ↦ absurd (let e = sym meeting.closes ∙ h.0 in cc e)
    | inl leftward ↦ inr (record {
      j = k;
      k = j;
      j_below = k_below;
      k_below = j_below;
      leftward = subst (λ a. LeftwardOn (horizontal_piece fs line k) t a) (sym meeting.level) leftward.1;
      rightward = rightward.1;
    })
  ]
]

pub meet_first : (fs : List Fragment) (line line' : ℕ → ℤ) (i : ℕ) (first : Option Pix) → IsStep fs line line' i
    → ((p : Pix) → ¬ MeetsAt fs line p) → IsFirst (ClashesNow fs line' Meet i) first → IsFirst (MeetsAt fs line') first
meet_first fs line line' i first move keeps = IsFirst-cover _ _ first there back
  where
    there : (p : Pix) → ClashesNow fs line' Meet i p → MeetsAt fs line' p
    there p now =
        let two = pair_now fs line' Meet i p move.outline move.below now in
        let test = some_of (is_meeting (stretch_at fs line' two.v two.j) (stretch_at fs line' two.v two.k)) _ _ two.clashes in
        subst (MeetsAt fs line') test.1
        (meets_at fs line' two.v two.j two.k _ two.j_below two.k_below (meeting_of_test _ _ test.0))

    found : (v : Bool) (j k : ℕ) (a t : ℤ) → j < length fs → k < length fs → (stretch_at fs line' v j).at ≡ a
        → IsMeeting (stretch_at fs line' v j) (stretch_at fs line' v k) t
        → (p : Pix) × ClashesNow fs line' Meet i p × IsUpTo p (pixel_at v a t)
    found v j k a t j_below k_below at meeting =
        let p = stretch_at fs line' v j in
        let q = stretch_at fs line' v k in
        let test = test_of_meeting p q t meeting in
        let clashes : clash_pixel Meet v p q ≡ Some (pixel_at v p.at (int_max p.low q.low)) = some_if (is_meeting p q) _ test.0 in
        elim (clash_now fs line line' i Meet v j k _ move j_below k_below clashes) [
          | inl now ↦ (pixel_at v p.at (int_max p.low q.low), now, pixel_up_to v p.at a (int_max p.low q.low) t (omega (arith, ints, at)) test.1)
          | inr same ↦ absurd (keeps _ (meets_at fs line v j k t j_below k_below
              (subst (λ (s : Stretch). IsMeeting s (stretch_at fs line v k) t) same.0
              (subst (λ (s : Stretch). IsMeeting p s t) same.1 meeting))))
        ]

    back : (q : Pix) → MeetsAt fs line' q → (p : Pix) × ClashesNow fs line' Meet i p × IsUpTo p q
    back q meets = elim meets [
      | inl m ↦
          let falls = falls_stretch fs line' m.j q.x q.y m.falls in
          let rises = rises_stretch fs line' m.k q.x q.y m.rises in
          found true m.j m.k q.x q.y m.j_below m.k_below falls.0 (record {
            opens = falls.2;
            closes = rises.2;
            level = falls.0 ∙ sym rises.0;
            first = falls.1;
            second = rises.1;
          })
      | inr m ↦
          let leftward = leftward_stretch fs line' m.j q.x q.y m.leftward in
          let rightward = rightward_stretch fs line' m.k q.x q.y m.rightward in
          found false m.k m.j q.y q.x m.k_below m.j_below rightward.0 (record {
            opens = rightward.2;
            closes = leftward.2;
            level = rightward.0 ∙ sym leftward.0;
            first = rightward.1;
            second = leftward.1;
          })
    ]
