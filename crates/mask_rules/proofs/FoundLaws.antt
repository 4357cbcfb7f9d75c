-- The first pixels of all kinds of clash at once.
use Rattle.std.proofs.Common.{◌≡◌, ◌⊎◌, inl, inr, ℕ, ℤ, pos, ◌≤ℤ◌, Bool, true, false, not, Option, Some, None, List, [], ◌∷◌, refl, sym, ◌∙◌, ap, subst, arith}
use Rattle.std.specs.List.{fold}
use Rattle.std.proofs.lemmas.Int.{ints}
use Rattle.outline_model.specs.declared.fragment.Fragment.{Fragment}
use Rattle.outline_model.specs.Limits.{IsFragmentList}
use Rattle.outline_model.specs.Near.{KeepNear}
use Rattle.opc_base.specs.declared.plane.Pix.{Pix}
use Rattle.opc_base.specs.declared.plane.Rect.{Rect}
use Rattle.opc_base.specs.declared.rules.MaskRules.{MaskRules}
use Rattle.mask_rules.specs.declared.clash.Clash.{Clash}
use Rattle.mask_rules.specs.declared.clash.Clash.TheVariants.{Meet, Narrow, Touch}
use Rattle.mask_rules.specs.declared.first.Found.{Found}
use Rattle.mask_rules.specs.declared.search.Changed.{Changed}
use Rattle.mask_rules.specs.declared.stretch.Stretch.{Stretch}
use Rattle.mask_rules.specs.Changes.{HasClashes, changed_at, changed_found}
use Rattle.mask_rules.specs.Clashes.{ClashesNow, IsClash, clash_pixel, is_meeting, is_narrow, is_touching, pair_pixel}
use Rattle.mask_rules.specs.First.{IsFirst, earlier}
use Rattle.mask_rules.specs.Found.{IsFound, earlier_each, none_found, pair_found}
use Rattle.mask_rules.specs.Limits.{IsRules}
use Rattle.mask_rules.specs.Stretches.{StandsIn, stretch_at}
use Rattle.mask_rules.proofs.ChangeLaws.{changed_pixel, first_clash_is, none_changed, none_is}
use Rattle.mask_rules.proofs.ClashFacts.{meeting_of_test, pair_of_test, point_of_test, some_of}
use Rattle.mask_rules.proofs.ClashSearch.{IsAllNear, clash_some, some_clash}
use Rattle.mask_rules.proofs.Firsts.{first_from}

abbrev pub each_from : (ℕ → Found) → Found → List ℕ → Found
each_from f a xs = fold (λ best k. earlier_each best (f k)) a xs

each_from-meet : (f : ℕ → Found) (a : Found) (xs : List ℕ) → first_from (λ k. (f k).meet) a.meet xs ≡ (each_from f a xs).meet
each_from-meet f a [] = refl
each_from-meet f a (x ∷ xs) = each_from-meet f (earlier_each a (f x)) xs

each_from-narrow : (f : ℕ → Found) (a : Found) (xs : List ℕ) → first_from (λ k. (f k).narrow) a.narrow xs ≡ (each_from f a xs).narrow
each_from-narrow f a [] = refl
each_from-narrow f a (x ∷ xs) = each_from-narrow f (earlier_each a (f x)) xs

each_from-close : (f : ℕ → Found) (a : Found) (xs : List ℕ) → first_from (λ k. (f k).close) a.close xs ≡ (each_from f a xs).close
each_from-close f a [] = refl
each_from-close f a (x ∷ xs) = each_from-close f (earlier_each a (f x)) xs

each_from-touch : (f : ℕ → Found) (a : Found) (xs : List ℕ) → first_from (λ k. (f k).touch) a.touch xs ≡ (each_from f a xs).touch
each_from-touch f a [] = refl
each_from-touch f a (x ∷ xs) = each_from-touch f (earlier_each a (f x)) xs

width_clash : (rules : MaskRules) → IsRules rules → IsClash (Narrow true rules.width)
width_clash rules limits = let least = limits.width_least in (omega (arith, ints), limits.width_most)

space_clash : (rules : MaskRules) → IsRules rules → IsClash (Narrow false rules.space)
space_clash rules limits = let least = limits.space_least in (omega (arith, ints), limits.space_most)

abbrev pub all_found : MaskRules → List Fragment → (ℕ → ℤ) → ℕ → ℕ → Found
all_found rules fs line i k =
    earlier_each (changed_found rules true (changed_at fs line true i) (stretch_at fs line true k))
    (changed_found rules false (changed_at fs line false i) (stretch_at fs line false k))

far_some : (rules : MaskRules) (v : Bool) (c : Changed) (area : Rect) → IsRules rules → (has : HasClashes rules v c area) → pos 0 ≤ℤ has.far
far_some rules v c area limits has = let positive = limits.width_least in let far = has.width in omega (arith, ints)

-- the first pixels of the clashes of the stretches that the move of fragment i can have changed
pub found_is : (rules : MaskRules) (fs : List Fragment) (line : ℕ → ℤ) (most : ℤ) (area : Rect) (i : ℕ) (numbers : List ℕ)
    → IsRules rules → IsFragmentList fs → pos 0 ≤ℤ most → KeepNear fs line most
    → HasClashes rules true (changed_at fs line true i) area → HasClashes rules false (changed_at fs line false i) area → IsAllNear fs most area numbers
    → IsFound rules (λ clash. ClashesNow fs line clash i) (each_from (all_found rules fs line i) none_found numbers)
found_is rules fs line most area i numbers limits fragments least keep upright level near = record {
  meet = subst (IsFirst (ClashesNow fs line Meet i)) (each_from-meet (all_found rules fs line i) none_found numbers)
      (first_clash_is rules fs line most area Meet i numbers fragments least keep tt upright up level flat near);
  narrow = subst (IsFirst (ClashesNow fs line (Narrow true rules.width) i)) (each_from-narrow (all_found rules fs line i) none_found numbers)
      (first_clash_is rules fs line most area (Narrow true rules.width) i numbers fragments least keep (width_clash rules limits) upright upright.width level level.width near);
  close = subst (IsFirst (ClashesNow fs line (Narrow false rules.space) i)) (each_from-close (all_found rules fs line i) none_found numbers)
      (first_clash_is rules fs line most area (Narrow false rules.space) i numbers fragments least keep (space_clash rules limits) upright upright.space level level.space near);
  touch = subst (IsFirst (ClashesNow fs line Touch i)) (each_from-touch (all_found rules fs line i) none_found numbers)
      (first_clash_is rules fs line most area Touch i numbers fragments least keep tt upright up level flat near);
}
  where
    up : pos 0 ≤ℤ upright.far
    up = far_some rules true (changed_at fs line true i) area limits upright

    flat : pos 0 ≤ℤ level.far
    flat = far_some rules false (changed_at fs line false i) area limits level

-- ---- stretches that clash in no way

not_itself : (b : Bool) → ¬ (b ≡ not b)
not_itself true e = cc
not_itself false e = cc

-- stretches that clash have the inside on different sides
opposite : (clash : Clash) (v : Bool) (p q : Stretch) (pixel : Pix) → clash_pixel clash v p q ≡ Some pixel → ¬ (p.opens ≡ q.opens)
opposite Meet v p q pixel e same =
    let m = meeting_of_test p q (some_of (is_meeting p q) _ _ e).0 in
    not_itself true (sym m.opens ∙ same ∙ m.closes)
opposite (Narrow covered least) v p q pixel e same =
    let m = pair_of_test p q covered least (some_of (is_narrow covered least p q) _ _ e).0 in
    not_itself covered (sym m.opens ∙ same ∙ m.closes)
opposite Touch v p q pixel e same =
    let m = (point_of_test v p q (some_of (is_touching v p q) _ _ e).0).1 in
    not_itself q.opens (sym same ∙ m.opposite)

no_pair : (clash : Clash) (v : Bool) (p q : Stretch) → IsClash clash → (p.opens ≡ q.opens) ⊎ (p.low ≡ p.high) ⊎ (q.low ≡ q.high) → pair_pixel clash v p q ≡ None
no_pair clash v p q limits apart =
    let first : clash_pixel clash v p q ≡ None = none_is (clash_pixel clash v p q) (λ pixel e. elim apart [
      | inl same ↦ opposite clash v p q pixel e same
      | inr empty ↦ elim empty [ inl h ↦ some_clash clash v p q pixel limits e h | inr h ↦ clash_some clash v p q pixel limits e h ]
    ]) in
    let second : clash_pixel clash v q p ≡ None = none_is (clash_pixel clash v q p) (λ pixel e. elim apart [
      | inl same ↦ opposite clash v q p pixel e (sym same)
      | inr empty ↦ elim empty [ inl h ↦ clash_some clash v q p pixel limits e h | inr h ↦ some_clash clash v q p pixel limits e h ]
    ]) in
    ap (λ o. earlier o (clash_pixel clash v q p)) first ∙ ap (earlier None) second

all_none : (a b c d : Option Pix) → a ≡ None → b ≡ None → c ≡ None → d ≡ None
    → record { meet = a; narrow = b; close = c; touch = d } ≡ none_found
all_none a b c d is_a is_b is_c is_d = rw (is_a, is_b, is_c, is_d) refl

pub none_apart : (rules : MaskRules) (v : Bool) (p q : Stretch) → IsRules rules → (p.opens ≡ q.opens) ⊎ (p.low ≡ p.high) ⊎ (q.low ≡ q.high)
    → pair_found rules v p q ≡ none_found
none_apart rules v p q limits apart =
    all_none (pair_pixel Meet v p q) (pair_pixel (Narrow true rules.width) v p q) (pair_pixel (Narrow false rules.space) v p q) (pair_pixel Touch v p q)
    (no_pair Meet v p q tt apart) (no_pair (Narrow true rules.width) v p q (width_clash rules limits) apart)
    (no_pair (Narrow false rules.space) v p q (space_clash rules limits) apart) (no_pair Touch v p q tt apart)

-- what does not stand in the area of the changed stretches clashes with none of them
pub none_outside : (rules : MaskRules) (area : Rect) (v : Bool) (c : Changed) (s : Stretch) → IsRules rules → HasClashes rules v c area
    → ¬ StandsIn area v s → changed_found rules v c s ≡ none_found
none_outside rules area v c s limits has out =
    all_none (changed_pixel Meet v c s) (changed_pixel (Narrow true rules.width) v c s) (changed_pixel (Narrow false rules.space) v c s) (changed_pixel Touch v c s)
    (none_changed rules area Meet v c s tt has (far_some rules v c area limits has) out)
    (none_changed rules area (Narrow true rules.width) v c s (width_clash rules limits) has has.width out)
    (none_changed rules area (Narrow false rules.space) v c s (space_clash rules limits) has has.space out)
    (none_changed rules area Touch v c s tt has (far_some rules v c area limits has) out)
