-- From the first pixels of each rule to the verdict.
use Rattle.std.proofs.Common.{◌≡◌, inl, inr, ℕ, ◌<◌, ℤ, pos, neg_ℤ, ◌≤ℤ◌, ◌<ℤ◌, Bool, true, false, Option, Some, None, List, length, get_or, set, get_or-set_same, int_lt, refl, sym, ◌∙◌, ap, subst, arith}
use Rattle.std.specs.Prelude.{IfSome, IsNone, ◌↔◌}
use Rattle.std.proofs.lemmas.Int.{ints}
use Rattle.outline_model.specs.declared.fragment.Fragment.{Fragment}
use Rattle.opc_base.specs.declared.rules.MaskRules.{MaskRules}
use Rattle.opc_base.specs.declared.broken.RuleName.{RuleName}
use Rattle.opc_base.specs.declared.broken.RuleName.TheVariants.{M0, M1, M2, M3, M4, M5}
use Rattle.opc_base.specs.declared.plane.Pix.{Pix}
use Rattle.opc_base.specs.declared.broken.Place.{Place}
use Rattle.opc_base.specs.declared.broken.Place.TheVariants.{Pixel, Fragment as FragmentNumber}
use Rattle.outline_model.specs.Outline.{IsOutline, high_end, lines, low_end, next, previous}
use Rattle.outline_model.specs.Rules.{Breaks, IsNearMove, KeepsRules, IsFirstBroken, NoneCrosses, ComesBefore, rank}
use Rattle.outline_model.proofs.RuleLocality.{broken_ends, broken_near_move, broken_offset}
use Rattle.opc_base.specs.declared.broken.Broken.{Broken}
use Rattle.mask_rules.specs.declared.clash.Clash.TheVariants.{Narrow, Touch}
use Rattle.mask_rules.specs.Clashes.{ClashesNow}
use Rattle.mask_rules.specs.First.{IsUpTo, ReachesUpTo, IsFirst}
use Rattle.mask_rules.specs.Verdicts.{IsJudged, IsOrdered, NoneBreaks, broken_fragment}
use Rattle.mask_rules.specs.TargetRules.{at_pixel, verdict}
use Rattle.mask_rules.proofs.Judged.{narrow_first, touch_first}
use Rattle.mask_rules.proofs.OffsetMoves.{step_of}

-- ---- the rules of pixels

pub none_crosses : (rules : MaskRules) (fs : List Fragment) (offsets : List ℤ) → NoneBreaks rules fs offsets M0 → NoneCrosses fs (lines fs offsets)
none_crosses rules fs offsets none x y h = none (Pixel (record { x = x; y = y })) h

pub first_m1 : (rules : MaskRules) (fs : List Fragment) (offsets : List ℤ) (i : ℕ) (from to : ℤ) (first : Option Pix) → IsOutline fs → i < length fs
    → KeepsRules rules fs (set offsets i from) → NoneBreaks rules fs (set offsets i to) M0
    → IsFirst (ClashesNow fs (lines fs (set offsets i to)) (Narrow true rules.width) i) first
    → IsFirst (λ p. Breaks rules fs (set offsets i to) M1 (Pixel p)) first
first_m1 rules fs offsets i from to first outline below keeps none found =
    narrow_first fs (lines fs (set offsets i from)) (lines fs (set offsets i to)) i true rules.width first (step_of fs offsets i from to outline below)
    (none_crosses rules fs (set offsets i from) (keeps M0)) (none_crosses rules fs (set offsets i to) none) (λ p h. keeps M1 (Pixel p) h) found

pub first_m2 : (rules : MaskRules) (fs : List Fragment) (offsets : List ℤ) (i : ℕ) (from to : ℤ) (first : Option Pix) → IsOutline fs → i < length fs
    → KeepsRules rules fs (set offsets i from) → NoneBreaks rules fs (set offsets i to) M0
    → IsFirst (ClashesNow fs (lines fs (set offsets i to)) (Narrow false rules.space) i) first
    → IsFirst (λ p. Breaks rules fs (set offsets i to) M2 (Pixel p)) first
first_m2 rules fs offsets i from to first outline below keeps none found =
    narrow_first fs (lines fs (set offsets i from)) (lines fs (set offsets i to)) i false rules.space first (step_of fs offsets i from to outline below)
    (none_crosses rules fs (set offsets i from) (keeps M0)) (none_crosses rules fs (set offsets i to) none) (λ p h. keeps M2 (Pixel p) h) found

pub first_m3 : (rules : MaskRules) (fs : List Fragment) (offsets : List ℤ) (i : ℕ) (from to : ℤ) (first : Option Pix) → IsOutline fs → i < length fs
    → KeepsRules rules fs (set offsets i from) → NoneBreaks rules fs (set offsets i to) M0
    → IsFirst (ClashesNow fs (lines fs (set offsets i to)) Touch i) first
    → IsFirst (λ p. Breaks rules fs (set offsets i to) M3 (Pixel p)) first
first_m3 rules fs offsets i from to first outline below keeps none found =
    touch_first fs (lines fs (set offsets i from)) (lines fs (set offsets i to)) i first (step_of fs offsets i from to outline below)
    (none_crosses rules fs (set offsets i from) (keeps M0)) (none_crosses rules fs (set offsets i to) none) (λ p h. keeps M3 (Pixel p) h) found

none_pixel : (rules : MaskRules) (fs : List Fragment) (offsets : List ℤ) (rule : RuleName) (first : Option Pix)
    → IsFirst (λ p. Breaks rules fs offsets rule (Pixel p)) first → first ≡ None → ((k : ℕ) → ¬ Breaks rules fs offsets rule (FragmentNumber k))
    → NoneBreaks rules fs offsets rule
none_pixel rules fs offsets rule first is_first e other (Pixel p) h = subst (λ o. ReachesUpTo o p) e (is_first.before_all p h)
none_pixel rules fs offsets rule first is_first e other (FragmentNumber k) h = other k h

pub none_m0 : (rules : MaskRules) (fs : List Fragment) (offsets : List ℤ) (first : Option Pix)
    → IsFirst (λ p. Breaks rules fs offsets M0 (Pixel p)) first → first ≡ None → NoneBreaks rules fs offsets M0
none_m0 rules fs offsets first is_first e = none_pixel rules fs offsets M0 first is_first e (λ k h. h)

pub none_m1 : (rules : MaskRules) (fs : List Fragment) (offsets : List ℤ) (first : Option Pix)
    → IsFirst (λ p. Breaks rules fs offsets M1 (Pixel p)) first → first ≡ None → NoneBreaks rules fs offsets M1
none_m1 rules fs offsets first is_first e = none_pixel rules fs offsets M1 first is_first e (λ k h. h)

pub none_m2 : (rules : MaskRules) (fs : List Fragment) (offsets : List ℤ) (first : Option Pix)
    → IsFirst (λ p. Breaks rules fs offsets M2 (Pixel p)) first → first ≡ None → NoneBreaks rules fs offsets M2
none_m2 rules fs offsets first is_first e = none_pixel rules fs offsets M2 first is_first e (λ k h. h)

pub none_m3 : (rules : MaskRules) (fs : List Fragment) (offsets : List ℤ) (first : Option Pix)
    → IsFirst (λ p. Breaks rules fs offsets M3 (Pixel p)) first → first ≡ None → NoneBreaks rules fs offsets M3
none_m3 rules fs offsets first is_first e = none_pixel rules fs offsets M3 first is_first e (λ k h. h)

not_before : (p q : Pix) → IsUpTo p q → ¬ ComesBefore (Pixel q) (Pixel p)
not_before p q up before = elim up [
  | inl low ↦ elim before [
    | inl h ↦ omega (arith, ints, low, h)
    | inr h ↦ (let same = h.0 in omega (arith, ints, low, same))
  ]
  | inr level ↦ (let same = level.0 in let left = level.1 in elim before [
    | inl h ↦ omega (arith, ints, same, h)
    | inr h ↦ (let right = h.1 in omega (arith, ints, left, right))
  ])
]

some_broken : (a b : Broken) → Some a ≡ Some b → a ≡ b
some_broken a b e = cc

some_none : (a : Broken) → ¬ (Some a ≡ None)
some_none a e = cc

judged_some : (rules : MaskRules) (fs : List Fragment) (offsets : List ℤ) (b : Broken) → IsFirstBroken rules fs offsets b.rule b.at → IsJudged rules fs offsets (Some b)
judged_some rules fs offsets b is = record {
  broken = λ a e. subst (λ (x : Broken). IsFirstBroken rules fs offsets x.rule x.at) (some_broken b a e) is;
  kept = λ e. absurd (some_none b e);
}

pub judged_pixel : (rules : MaskRules) (fs : List Fragment) (offsets : List ℤ) (rule : RuleName) (p : Pix) (first : Option Pix)
    → IsFirst (λ q. Breaks rules fs offsets rule (Pixel q)) first → first ≡ Some p
    → ((r : RuleName) → rank r < rank rule → NoneBreaks rules fs offsets r) → IsJudged rules fs offsets (Some (at_pixel rule p))
judged_pixel rules fs offsets rule p first is_first e before = judged_some rules fs offsets (at_pixel rule p) (record {
  broken = is_first.is_one p e;
  rules_before = λ r q less. before r less q;
  places_before = by;
})
  where
    by : (q : Place) → ComesBefore q (Pixel p) → ¬ Breaks rules fs offsets rule q
    by (Pixel q) comes h = not_before p q (subst (λ o. ReachesUpTo o q) e (is_first.before_all q h)) comes
    by (FragmentNumber k) comes h = comes

pub before_m0 : (rules : MaskRules) (fs : List Fragment) (offsets : List ℤ) → NoneBreaks rules fs offsets M5 → NoneBreaks rules fs offsets M4
    → (r : RuleName) → rank r < 2 → NoneBreaks rules fs offsets r
before_m0 rules fs offsets m5 m4 M5 less = m5
before_m0 rules fs offsets m5 m4 M4 less = m4
before_m0 rules fs offsets m5 m4 M0 less = absurd (omega arith)
before_m0 rules fs offsets m5 m4 M1 less = absurd (omega arith)
before_m0 rules fs offsets m5 m4 M2 less = absurd (omega arith)
before_m0 rules fs offsets m5 m4 M3 less = absurd (omega arith)

pub before_m1 : (rules : MaskRules) (fs : List Fragment) (offsets : List ℤ) → NoneBreaks rules fs offsets M5 → NoneBreaks rules fs offsets M4
    → NoneBreaks rules fs offsets M0 → (r : RuleName) → rank r < 3 → NoneBreaks rules fs offsets r
before_m1 rules fs offsets m5 m4 m0 M5 less = m5
before_m1 rules fs offsets m5 m4 m0 M4 less = m4
before_m1 rules fs offsets m5 m4 m0 M0 less = m0
before_m1 rules fs offsets m5 m4 m0 M1 less = absurd (omega arith)
before_m1 rules fs offsets m5 m4 m0 M2 less = absurd (omega arith)
before_m1 rules fs offsets m5 m4 m0 M3 less = absurd (omega arith)

pub before_m2 : (rules : MaskRules) (fs : List Fragment) (offsets : List ℤ) → NoneBreaks rules fs offsets M5 → NoneBreaks rules fs offsets M4
    → NoneBreaks rules fs offsets M0 → NoneBreaks rules fs offsets M1 → (r : RuleName) → rank r < 4 → NoneBreaks rules fs offsets r
before_m2 rules fs offsets m5 m4 m0 m1 M5 less = m5
before_m2 rules fs offsets m5 m4 m0 m1 M4 less = m4
before_m2 rules fs offsets m5 m4 m0 m1 M0 less = m0
before_m2 rules fs offsets m5 m4 m0 m1 M1 less = m1
before_m2 rules fs offsets m5 m4 m0 m1 M2 less = absurd (omega arith)
before_m2 rules fs offsets m5 m4 m0 m1 M3 less = absurd (omega arith)

pub before_m3 : (rules : MaskRules) (fs : List Fragment) (offsets : List ℤ) → NoneBreaks rules fs offsets M5 → NoneBreaks rules fs offsets M4
    → NoneBreaks rules fs offsets M0 → NoneBreaks rules fs offsets M1 → NoneBreaks rules fs offsets M2 → (r : RuleName) → rank r < 5 → NoneBreaks rules fs offsets r
before_m3 rules fs offsets m5 m4 m0 m1 m2 M5 less = m5
before_m3 rules fs offsets m5 m4 m0 m1 m2 M4 less = m4
before_m3 rules fs offsets m5 m4 m0 m1 m2 M0 less = m0
before_m3 rules fs offsets m5 m4 m0 m1 m2 M1 less = m1
before_m3 rules fs offsets m5 m4 m0 m1 m2 M2 less = m2
before_m3 rules fs offsets m5 m4 m0 m1 m2 M3 less = absurd (omega arith)

pub judged_none : (rules : MaskRules) (fs : List Fragment) (offsets : List ℤ) → NoneBreaks rules fs offsets M5 → NoneBreaks rules fs offsets M4
    → NoneBreaks rules fs offsets M0 → NoneBreaks rules fs offsets M1 → NoneBreaks rules fs offsets M2 → NoneBreaks rules fs offsets M3 → IsJudged rules fs offsets None
judged_none rules fs offsets m5 m4 m0 m1 m2 m3 = record {
  broken = λ b e. absurd (some_none b (sym e));
  kept = λ e. all;
}
  where
    all : (r : RuleName) → NoneBreaks rules fs offsets r
    all M5 = m5
    all M4 = m4
    all M0 = m0
    all M1 = m1
    all M2 = m2
    all M3 = m3

-- the first of the rules M1, M2 and M3 for which there is a pixel
pub judged_verdict : (rules : MaskRules) (fs : List Fragment) (offsets : List ℤ) (narrow tight touch : Option Pix)
    → NoneBreaks rules fs offsets M5 → NoneBreaks rules fs offsets M4 → NoneBreaks rules fs offsets M0
    → IsFirst (λ p. Breaks rules fs offsets M1 (Pixel p)) narrow → IsFirst (λ p. Breaks rules fs offsets M2 (Pixel p)) tight
    → IsFirst (λ p. Breaks rules fs offsets M3 (Pixel p)) touch → IsJudged rules fs offsets (verdict narrow tight touch)
judged_verdict rules fs offsets (Some p) tight touch m5 m4 m0 is_m1 is_m2 is_m3 =
    judged_pixel rules fs offsets M1 p (Some p) is_m1 refl (before_m1 rules fs offsets m5 m4 m0)
judged_verdict rules fs offsets None (Some p) touch m5 m4 m0 is_m1 is_m2 is_m3 =
    let m1 = none_m1 rules fs offsets None is_m1 refl in
    judged_pixel rules fs offsets M2 p (Some p) is_m2 refl (before_m2 rules fs offsets m5 m4 m0 m1)
judged_verdict rules fs offsets None None (Some p) m5 m4 m0 is_m1 is_m2 is_m3 =
    let m1 = none_m1 rules fs offsets None is_m1 refl in
    let m2 = none_m2 rules fs offsets None is_m2 refl in
    judged_pixel rules fs offsets M3 p (Some p) is_m3 refl (before_m3 rules fs offsets m5 m4 m0 m1 m2)
judged_verdict rules fs offsets None None None m5 m4 m0 is_m1 is_m2 is_m3 =
    judged_none rules fs offsets m5 m4 m0 (none_m1 rules fs offsets None is_m1 refl) (none_m2 rules fs offsets None is_m2 refl)
    (none_m3 rules fs offsets None is_m3 refl)

-- ---- the rules of fragments

pub none_m5 : (rules : MaskRules) (fs : List Fragment) (offsets : List ℤ) (i : ℕ) (to : ℤ) → i < length offsets → KeepsRules rules fs offsets
    → (neg_ℤ rules.max_in ≤ℤ to) × (to ≤ℤ rules.max_out) → NoneBreaks rules fs (set offsets i to) M5
none_m5 rules fs offsets i to inside keeps in_range (Pixel p) h = h
none_m5 rules fs offsets i to inside keeps in_range (FragmentNumber k) h =
    let here : k ≡ i = broken_offset rules fs offsets i to k keeps h in
    let is : get_or (set offsets i to) k (pos 0) ≡ to = ap (λ m. get_or (set offsets i to) m (pos 0)) here ∙ get_or-set_same {A = ℤ} offsets i to (pos 0) inside in
    h.1 (subst (λ o. (neg_ℤ rules.max_in ≤ℤ o) × (o ≤ℤ rules.max_out)) (sym is) in_range)

pub judged_offset : (rules : MaskRules) (fs : List Fragment) (offsets : List ℤ) (i : ℕ) (to : ℤ) → i < length fs → i < length offsets → KeepsRules rules fs offsets
    → ¬ ((neg_ℤ rules.max_in ≤ℤ to) × (to ≤ℤ rules.max_out)) → IsJudged rules fs (set offsets i to) (Some (broken_fragment M5 i))
judged_offset rules fs offsets i to below inside keeps out = judged_some rules fs (set offsets i to) (broken_fragment M5 i) (record {
  broken = (below, λ in_range. out (subst (λ o. (neg_ℤ rules.max_in ≤ℤ o) × (o ≤ℤ rules.max_out)) (get_or-set_same {A = ℤ} offsets i to (pos 0) inside) in_range));
  rules_before = λ r q less h. (let l : rank r < 0 = less in omega arith);
  places_before = by;
})
  where
    by : (q : Place) → ComesBefore q (FragmentNumber i) → ¬ Breaks rules fs (set offsets i to) M5 q
    by (Pixel q) comes h = comes
    by (FragmentNumber k) comes h = (let here : k ≡ i = broken_offset rules fs offsets i to k keeps h in omega (arith, comes, here))

pub none_m4 : (rules : MaskRules) (fs : List Fragment) (offsets : List ℤ) (i : ℕ) (to : ℤ) → IsOutline fs → KeepsRules rules fs offsets
    → IsOrdered fs (lines fs (set offsets i to)) (previous fs i) → IsOrdered fs (lines fs (set offsets i to)) (next fs i)
    → NoneBreaks rules fs (set offsets i to) M4
none_m4 rules fs offsets i to outline keeps before after (Pixel p) h = h
none_m4 rules fs offsets i to outline keeps before after (FragmentNumber k) h = elim (broken_ends rules fs offsets i to k outline keeps h) [
  | inl e ↦ h.1 (subst (IsOrdered fs (lines fs (set offsets i to))) (sym e) before)
  | inr e ↦ h.1 (subst (IsOrdered fs (lines fs (set offsets i to))) (sym e) after)
]

before_m4 : (rules : MaskRules) (fs : List Fragment) (offsets : List ℤ) → NoneBreaks rules fs offsets M5 → (r : RuleName) → rank r < 1 → NoneBreaks rules fs offsets r
before_m4 rules fs offsets m5 M5 less = m5
before_m4 rules fs offsets m5 M4 less = absurd (omega arith)
before_m4 rules fs offsets m5 M0 less = absurd (omega arith)
before_m4 rules fs offsets m5 M1 less = absurd (omega arith)
before_m4 rules fs offsets m5 M2 less = absurd (omega arith)
before_m4 rules fs offsets m5 M3 less = absurd (omega arith)

pub judged_ends : (rules : MaskRules) (fs : List Fragment) (offsets : List ℤ) (i : ℕ) (to : ℤ) (k : ℕ) → IsOutline fs → KeepsRules rules fs offsets
    → NoneBreaks rules fs (set offsets i to) M5 → k < length fs → ¬ IsOrdered fs (lines fs (set offsets i to)) k
    → (previous fs i < k → IsOrdered fs (lines fs (set offsets i to)) (previous fs i))
    → (next fs i < k → IsOrdered fs (lines fs (set offsets i to)) (next fs i))
    → IsJudged rules fs (set offsets i to) (Some (broken_fragment M4 k))
judged_ends rules fs offsets i to k outline keeps m5 below out before after = judged_some rules fs (set offsets i to) (broken_fragment M4 k) (record {
  broken = (below, out);
  rules_before = λ r q less. before_m4 rules fs (set offsets i to) m5 r less q;
  places_before = by;
})
  where
    by : (q : Place) → ComesBefore q (FragmentNumber k) → ¬ Breaks rules fs (set offsets i to) M4 q
    by (Pixel q) comes h = comes
    by (FragmentNumber j) comes h = elim (broken_ends rules fs offsets i to j outline keeps h) [
      | inl e ↦ h.1 (subst (IsOrdered fs (lines fs (set offsets i to))) (sym e) (before (subst (λ m. m < k) e comes)))
      | inr e ↦ h.1 (subst (IsOrdered fs (lines fs (set offsets i to))) (sym e) (after (subst (λ m. m < k) e comes)))
    ]

-- ---- the clauses

pub judged_if_some : (rules : MaskRules) (fs : List Fragment) (offsets : List ℤ) (verdict : Option Broken) → IsJudged rules fs offsets verdict
    → IfSome verdict (λ b. IsFirstBroken rules fs offsets b.rule b.at)
judged_if_some rules fs offsets None judged = tt
judged_if_some rules fs offsets (Some b) judged = judged.broken b refl

pub judged_is_none : (rules : MaskRules) (fs : List Fragment) (offsets : List ℤ) (verdict : Option Broken) → IsJudged rules fs offsets verdict
    → IsNone verdict ↔ KeepsRules rules fs offsets
judged_is_none rules fs offsets None judged = (λ e. judged.kept refl, λ keeps. refl)
judged_is_none rules fs offsets (Some b) judged = (λ e. absurd (cc e), λ keeps. absurd (keeps b.rule b.at (judged.broken b refl).broken))

pub ordered_of : (a b : ℤ) → ¬ (¬ (a <ℤ b)) → a <ℤ b
ordered_of a b h = by (int_lt a b) refl
  where
    by : (t : Bool) → int_lt a b ≡ t → a <ℤ b
    by true e = omega (arith, ints)
    by false e = absurd (h (λ less. omega (arith, ints, e, less)))

-- what is first broken after a move is near it
pub judged_near : (rules : MaskRules) (fs : List Fragment) (offsets : List ℤ) (i : ℕ) (to : ℤ) (verdict : Option Broken) → IsOutline fs → i < length fs
    → KeepsRules rules fs offsets → IsJudged rules fs (set offsets i to) verdict → IfSome verdict (λ b. IsNearMove rules fs offsets i to b.rule b.at)
judged_near rules fs offsets i to None outline below keeps judged = tt
judged_near rules fs offsets i to (Some b) outline below keeps judged =
    let less = ordered_of (low_end fs (lines fs offsets) i) (high_end fs (lines fs offsets) i) (λ out. keeps M4 (FragmentNumber i) (below, out)) in
    broken_near_move rules fs offsets i to b.rule b.at outline below (omega (arith, ints)) keeps (judged.broken b refl).broken
