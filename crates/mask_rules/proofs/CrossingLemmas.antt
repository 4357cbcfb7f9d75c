-- Rule M0 after a move, by the swept rectangle and the pieces of opposite sign on one side of a pixel.
use Rattle.std.proofs.Common.{◌≡◌, ◌≢◌, ◌⊎◌, inl, inr, ℕ, ℤ, pos, negsuc, ◌+ℤ◌, ◌-ℤ◌, ◌<ℤ◌, Bool, true, false, not, if◌then◌else◌, Option, List, int_lt, refl, sym, ◌∙◌, ap, subst, arith}
use Rattle.std.specs.Int.{int_min, int_max}
use Rattle.std.specs.Ordering.{int_eq}
use Rattle.std.proofs.lemmas.Int.{ints, clamps}
use Rattle.std.proofs.lemmas.Bool.Decides.{Decides-int_eq}
use Rattle.opc_base.specs.declared.plane.Side.{Side}
use Rattle.opc_base.specs.declared.plane.Side.TheVariants.{Left, Right, Down, Up}
use Rattle.outline_model.specs.declared.fragment.Fragment.{Fragment}
use Rattle.opc_base.specs.declared.plane.Rect.{Rect}
use Rattle.opc_base.specs.declared.plane.Pix.{Pix}
use Rattle.outline_model.specs.Outline.{fragment_at, side_of, is_vertical, is_rising, low_end, high_end, end_at, finish_join, finish_place, count, mask, rect_between, swept, is_outward}
use Rattle.opc_base.specs.Plane.{rect_cover}
use Rattle.outline_model.specs.Rules.{CrossesAt, NoneCrosses}
use Rattle.outline_model.proofs.MaskMoves.{IsSingle, single_count}
use Rattle.outline_model.proofs.MoveLaw.{count-move, start_end, finish_end}
use Rattle.outline_model.proofs.Steps.{int_eq-false}
use Rattle.outline_model.proofs.Walk.{stands}
use Rattle.mask_rules.specs.First.{earlier, IsFirst}
use Rattle.mask_rules.specs.Spots.{lowest}
use Rattle.outline_model.specs.Edges.{seen}
use Rattle.mask_rules.specs.Stretches.{walked, Spans, stretch_at}
use Rattle.mask_rules.specs.Sweeps.{IsBeside, MiscountAt}
use Rattle.mask_rules.proofs.Drawn.{drawn}
use Rattle.mask_rules.proofs.Firsts.{IsFirst-earlier, IsFirst-same}
use Rattle.mask_rules.proofs.Judged.{IsStep, MeetsAt}
use Rattle.mask_rules.proofs.StretchIs.{stretch-own}

wrong_count : (old new : ℤ) (outward : Bool) → new ≡ old +ℤ (if outward then pos 1 else negsuc 0) → IsSingle old → int_eq old (pos 1) ≡ outward → ¬ IsSingle new
wrong_count old new true e single is h =
    let one : old ≡ pos 1 = (Decides-int_eq old (pos 1)).0 is in
    elim h [ inl f ↦ omega (arith, ints, f) | inr f ↦ omega (arith, ints, f) ]
wrong_count old new false e single is h =
    let apart : old ≢ pos 1 = int_eq-false old (pos 1) is in
    elim single [
      | inl none ↦ elim h [ inl f ↦ omega (arith, ints, f) | inr f ↦ omega (arith, ints, f) ]
      | inr one ↦ apart one
    ]

count_wrong : (old new : ℤ) (outward : Bool) → new ≡ old +ℤ (if outward then pos 1 else negsuc 0) → IsSingle old → ¬ IsSingle new → int_eq old (pos 1) ≡ outward
count_wrong old new true e single not_single = elim single [
  | inl none ↦ absurd (not_single (inr (omega (arith, ints))))
  | inr one ↦ (Decides-int_eq old (pos 1)).1 one
]
count_wrong old new false e single not_single = elim single [
  | inl none ↦ ap (λ c. int_eq c (pos 1)) none
  | inr one ↦ absurd (not_single (inl (omega (arith, ints))))
]

pub crossing_first : (fs : List Fragment) (line line' : ℕ → ℤ) (i : ℕ) (outward : Bool) (m w : Option Pix) → IsStep fs line line' i
    → NoneCrosses fs line → low_end fs line i <ℤ high_end fs line i → outward ≡ is_outward (side_of fs i) (line i) (line' i)
    → IsFirst (MeetsAt fs line') m → IsFirst (MiscountAt (mask fs line) (swept fs line i (line' i)) outward) w
    → IsFirst (λ p. CrossesAt fs line' p.x p.y) (earlier m w)
crossing_first fs line line' i outward m w move kept ordered outward_is m_first w_first =
    IsFirst-same (λ p. MeetsAt fs line' p ⊎ MiscountAt (mask fs line) r outward p) _ (earlier m w) there back
    (IsFirst-earlier (MeetsAt fs line') (MiscountAt (mask fs line) r outward) m w m_first w_first)
  where
    r : Rect
    r = swept fs line i (line' i)

    law : (x y : ℤ) (b : Bool) → rect_cover (swept fs line i (line' i)) x y ≡ b
        → count fs line' x y ≡ count fs line x y +ℤ (if b then (if outward then pos 1 else negsuc 0) else pos 0)
    law x y b e =
        count-move fs line line' i x y move.outline move.below move.others (omega (arith, ints))
        ∙ ap (λ (t : Bool). count fs line x y +ℤ (if t then (if is_outward (side_of fs i) (line i) (line' i) then pos 1 else negsuc 0) else pos 0)) e
        ∙ ap (λ (t : Bool). count fs line x y +ℤ (if b then (if t then pos 1 else negsuc 0) else pos 0)) (sym outward_is)

    there : (p : Pix) → MeetsAt fs line' p ⊎ MiscountAt (mask fs line) (swept fs line i (line' i)) outward p → CrossesAt fs line' p.x p.y
    there p h = elim h [
      | inl meets ↦ inr meets
      | inr wrong ↦ inl (wrong_count (count fs line p.x p.y) (count fs line' p.x p.y) outward (law p.x p.y true wrong.0) (single_count fs line p.x p.y kept) wrong.1)
    ]

    back : (p : Pix) → CrossesAt fs line' p.x p.y → MeetsAt fs line' p ⊎ MiscountAt (mask fs line) (swept fs line i (line' i)) outward p
    back p h = elim h [
      | inr meets ↦ inl meets
      | inl not_single ↦ by (rect_cover (swept fs line i (line' i)) p.x p.y) refl not_single
    ]
      where
        by : (b : Bool) → rect_cover (swept fs line i (line' i)) p.x p.y ≡ b → ¬ IsSingle (count fs line' p.x p.y)
            → MeetsAt fs line' p ⊎ MiscountAt (mask fs line) (swept fs line i (line' i)) outward p
        by true e not_single = inr (e, count_wrong (count fs line p.x p.y) (count fs line' p.x p.y) outward (law p.x p.y true e) (single_count fs line p.x p.y kept) not_single)
        by false e not_single =
            let same : count fs line' p.x p.y ≡ count fs line p.x p.y = (let is = law p.x p.y false e in omega (arith, ints)) in
            absurd (not_single (subst IsSingle (sym same) (single_count fs line p.x p.y kept)))

-- ---- beside the old line

beside_line : (inside : ℤ → ℤ → Bool) (v : Bool) (band : Rect) (l l' : ℤ) (opens : Bool) → band.x0 ≡ int_min l l' → band.x1 ≡ int_max l l' → l' ≢ l
    → seen v inside l band.y0 ≡ opens → seen v inside (l -ℤ pos 1) band.y0 ≡ not opens
    → IsBeside inside v band (if opens then int_lt l' l else int_lt l l')
beside_line inside v band l l' true first past apart here left = by (int_lt l' l) refl
  where
    by : (b : Bool) → int_lt l' l ≡ b → IsBeside inside v band b
    by true e = record { place = l -ℤ pos 1; from = omega (arith, ints, clamps); below = omega (arith, ints, clamps); free = left }
    by false e = record { place = l; from = omega (arith, ints, clamps); below = omega (arith, ints, clamps); free = here }
beside_line inside v band l l' false first past apart here left = by (int_lt l l') refl
  where
    by : (b : Bool) → int_lt l l' ≡ b → IsBeside inside v band b
    by true e = record { place = l; from = omega (arith, ints, clamps); below = omega (arith, ints, clamps); free = here }
    by false e = record { place = l -ℤ pos 1; from = omega (arith, ints, clamps); below = omega (arith, ints, clamps); free = left }

lt_is : (a b : ℤ) → a <ℤ b → (int_lt a b ≡ true) × (int_lt b a ≡ false)
lt_is a b less = by (int_lt a b) (int_lt b a) refl refl
  where
    by : (p q : Bool) → int_lt a b ≡ p → int_lt b a ≡ q → (p ≡ true) × (q ≡ false)
    by true false e f = (refl, refl)
    by true true e f = absurd (omega (arith, ints))
    by false q e f = absurd (omega (arith, ints))

walk_spans : (v r : Bool) (at low high : ℤ) → low <ℤ high → Spans (walked v at (if r then low else high) (if r then high else low)) low
walk_spans v true at low high less = (omega (arith, ints, clamps), omega (arith, ints, clamps))
walk_spans v false at low high less = (omega (arith, ints, clamps), omega (arith, ints, clamps))

beside_side : (side : Side) (inside : ℤ → ℤ → Bool) (l l' low high : ℤ) → low <ℤ high → l' ≢ l
    → ((t : ℤ) → Spans (walked (is_vertical side) l (if is_rising side then low else high) (if is_rising side then high else low)) t
    → (seen (is_vertical side) inside l t ≡ (walked (is_vertical side) l (if is_rising side then low else high) (if is_rising side then high else low)).opens)
    × (seen (is_vertical side) inside (l -ℤ pos 1) t ≡ not (walked (is_vertical side) l (if is_rising side then low else high) (if is_rising side then high else low)).opens))
    → IsBeside inside (is_vertical side) (lowest (is_vertical side) (rect_between side l l' low high)) (is_outward side l l')
beside_side Left inside l l' low high less apart faces =
    let face = faces low (walk_spans true false l low high less) in
    beside_line inside true _ l l' true refl refl apart (face.0 ∙ (lt_is low high less).0) (face.1 ∙ ap not (lt_is low high less).0)
beside_side Right inside l l' low high less apart faces =
    let face = faces low (walk_spans true true l low high less) in
    beside_line inside true _ l l' false refl refl apart (face.0 ∙ (lt_is low high less).1) (face.1 ∙ ap not (lt_is low high less).1)
beside_side Down inside l l' low high less apart faces =
    let face = faces low (walk_spans false true l low high less) in
    beside_line inside false _ l l' true refl refl apart (face.0 ∙ (lt_is low high less).0) (face.1 ∙ ap not (lt_is low high less).0)
beside_side Up inside l l' low high less apart faces =
    let face = faces low (walk_spans false false l low high less) in
    beside_line inside false _ l l' false refl refl apart (face.0 ∙ (lt_is low high less).1) (face.1 ∙ ap not (lt_is low high less).1)

pub beside_of : (fs : List Fragment) (line line' : ℕ → ℤ) (i : ℕ) → IsStep fs line line' i → NoneCrosses fs line
    → low_end fs line i <ℤ high_end fs line i → line' i ≢ line i
    → IsBeside (mask fs line) (stands fs i) (lowest (stands fs i) (swept fs line i (line' i))) (is_outward (side_of fs i) (line i) (line' i))
beside_of fs line line' i move kept ordered apart =
    beside_side (side_of fs i) (mask fs line) (line i) (line' i) (low_end fs line i) (high_end fs line i) ordered apart
    (λ t spans.
    let face = (drawn fs line move.outline kept).faces (stands fs i) i t move.below (subst (λ s. Spans s t) (sym own) spans) in
    subst (λ s. (seen (stands fs i) (mask fs line) s.at t ≡ s.opens) × (seen (stands fs i) (mask fs line) (s.at -ℤ pos 1) t ≡ not s.opens)) own face)
  where
    own : stretch_at fs line (stands fs i) i ≡ walked (stands fs i) (line i)
        (if is_rising (side_of fs i) then low_end fs line i else high_end fs line i) (if is_rising (side_of fs i) then high_end fs line i else low_end fs line i)
    own =
        stretch-own fs line (stands fs i) i refl
        ∙ ap (λ t. walked (stands fs i) (line i) t (end_at line (finish_join (fragment_at fs i)) (finish_place (fragment_at fs i)))) (start_end line (fragment_at fs i))
        ∙ ap (λ t. walked (stands fs i) (line i) (if is_rising (side_of fs i) then low_end fs line i else high_end fs line i) t) (finish_end line (fragment_at fs i))

pub swept_some : (side : Side) (l l' low high : ℤ) → low <ℤ high → l' ≢ l
    → ((rect_between side l l' low high).x0 <ℤ (rect_between side l l' low high).x1) × ((rect_between side l l' low high).y0 <ℤ (rect_between side l l' low high).y1)
swept_some Left l l' low high less apart = (omega (arith, ints, clamps), less)
swept_some Right l l' low high less apart = (omega (arith, ints, clamps), less)
swept_some Down l l' low high less apart = (less, omega (arith, ints, clamps))
swept_some Up l l' low high less apart = (less, omega (arith, ints, clamps))
