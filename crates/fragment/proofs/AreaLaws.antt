-- Areas round fragments, and areas round these.
use Rattle.std.proofs.Common.{◌≡◌, ◌≢◌, ℕ, zero, suc, ◌+◌, ◌-◌, ◌*◌, ◌/◌, ◌%◌, ◌<◌, ◌≤◌, ◌==◌, nat_lt, ℤ, pos, ◌+ℤ◌, ◌-ℤ◌, ◌≤ℤ◌, ◌<ℤ◌, int_le, int_lt, Bool, true, false, ◌&&◌, if◌then◌else◌, List, [], ◌∷◌, ◌++◌, length, get_or, min, refl, sym, ◌∙◌, ap, subst, arith, length-append}
use Rattle.std.specs.Prelude.{All}
use Rattle.std.proofs.lemmas.Int.{ints}
use Rattle.std.proofs.lemmas.List.{get_or_append_left, get_or_default, get_or_push, get_or-map, length-map}
use Rattle.std.proofs.lemmas.Bool.Decides.{Decides-eqb, Decides-ltb, not_from_Decides}
use Rattle.opc_base.specs.declared.plane.Rect.{Rect}
use Rattle.opc_base.specs.Plane.{rect_cover}
use Rattle.outline_model.specs.declared.fragment.Fragment.{Fragment}
use Rattle.outline_model.specs.Limits.{IsFragmentList, IsPlacedFragment}
use Rattle.outline_model.specs.Near.{IsWithinReach}
use Rattle.outline_model.specs.Outline.{fragment_at, is_vertical}
use Rattle.fragment.specs.Index.{AreEnclosed, AreNested, IsInside, IsShrunk, NoneMet, area_at, area_of, areas_of, is_met, reaches}

-- ---- the area of a fragment

rect_same : (a b c d a' b' c' d' : ℤ) → a ≡ a' → b ≡ b' → c ≡ c' → d ≡ d'
    → (let r : Rect = record { x0 = a; y0 = b; x1 = c; y1 = d } in r) ≡ (let r : Rect = record { x0 = a'; y0 = b'; x1 = c'; y1 = d' } in r)
rect_same a b c d a' b' c' d' e f g h =
    ap (λ t. let r : Rect = record { x0 = t; y0 = b; x1 = c; y1 = d } in r) e
    ∙ ap (λ t. let r : Rect = record { x0 = a'; y0 = t; x1 = c; y1 = d } in r) f
    ∙ ap (λ t. let r : Rect = record { x0 = a'; y0 = b'; x1 = t; y1 = d } in r) g
    ∙ ap (λ t. let r : Rect = record { x0 = a'; y0 = b'; x1 = c'; y1 = t } in r) h

abbrev upright_area : Fragment → Rect
upright_area f = record { x0 = f.edge -ℤ pos 128; y0 = f.lo -ℤ pos 128; x1 = f.edge +ℤ pos 128; y1 = f.hi +ℤ pos 128 }

abbrev level_area : Fragment → Rect
level_area f = record { x0 = f.lo -ℤ pos 128; y0 = f.edge -ℤ pos 128; x1 = f.hi +ℤ pos 128; y1 = f.edge +ℤ pos 128 }

pub area_upright : (f : Fragment) (a b c d : ℤ) → is_vertical f.side ≡ true
    → a ≡ f.edge -ℤ pos 128 → b ≡ f.lo -ℤ pos 128 → c ≡ f.edge +ℤ pos 128 → d ≡ f.hi +ℤ pos 128
    → (let r : Rect = record { x0 = a; y0 = b; x1 = c; y1 = d } in r) ≡ area_of f
area_upright f a b c d v e g h i =
    rect_same a b c d _ _ _ _ e g h i ∙ sym (ap (λ (t : Bool). if t then upright_area f else level_area f) v)

pub area_level : (f : Fragment) (a b c d : ℤ) → is_vertical f.side ≡ false
    → a ≡ f.lo -ℤ pos 128 → b ≡ f.edge -ℤ pos 128 → c ≡ f.hi +ℤ pos 128 → d ≡ f.edge +ℤ pos 128
    → (let r : Rect = record { x0 = a; y0 = b; x1 = c; y1 = d } in r) ≡ area_of f
area_level f a b c d v e g h i =
    rect_same a b c d _ _ _ _ e g h i ∙ sym (ap (λ (t : Bool). if t then upright_area f else level_area f) v)

pub placed_at : (fs : List Fragment) (k : ℕ) → IsFragmentList fs → k < length fs → IsPlacedFragment (fragment_at fs k)
placed_at fs k list below = record { edge = list.edge_within k below; lo = list.lo_within k below; hi = list.hi_within k below }

pub all_placed : (fs : List Fragment) → IsFragmentList fs → All IsPlacedFragment fs
all_placed fs list k d below = subst IsPlacedFragment (same fs k below) (placed_at fs k list below)
  where
    same : (fs : List Fragment) (k : ℕ) → k < length fs → fragment_at fs k ≡ get_or fs k d
    same [] k below = absurd (omega arith)
    same (f ∷ fs) zero below = refl
    same (f ∷ fs) (suc k) below = same fs k (omega arith)

-- ---- an area that has one inside

reaches_true : (a r : Rect) → r.x0 ≤ℤ a.x1 → a.x0 <ℤ r.x1 → r.y0 ≤ℤ a.y1 → a.y0 <ℤ r.y1 → reaches a r ≡ true
reaches_true a r e f g h = by (int_le r.x0 a.x1) (int_lt a.x0 r.x1) (int_le r.y0 a.y1) (int_lt a.y0 r.y1) refl refl refl refl
  where
    by : (p q u v : Bool) → int_le r.x0 a.x1 ≡ p → int_lt a.x0 r.x1 ≡ q → int_le r.y0 a.y1 ≡ u → int_lt a.y0 r.y1 ≡ v → ((p && q) && u) && v ≡ true
    by true true true true i j k l = refl
    by false q u v i j k l = absurd (omega (arith, ints))
    by true false u v i j k l = absurd (omega (arith, ints))
    by true true false v i j k l = absurd (omega (arith, ints))
    by true true true false i j k l = absurd (omega (arith, ints))

inside_more : (a b c : Rect) → IsInside a b → IsInside b c → IsInside a c
inside_more a b c e f =
    let left = e.left in let below = e.below in let right = e.right in let above = e.above in
    let left' = f.left in let below' = f.below in let right' = f.right in let above' = f.above in
    record { left = omega (arith, ints); below = omega (arith, ints); right = omega (arith, ints); above = omega (arith, ints) }

-- where the outer area has no pixel of the rectangle, the inner one has none
pub misses_inside : (inner outer r : Rect) → IsInside inner outer → reaches outer r ≡ false → reaches inner r ≡ false
misses_inside inner outer r inside none = by (int_le r.x0 inner.x1) (int_lt inner.x0 r.x1) (int_le r.y0 inner.y1) (int_lt inner.y0 r.y1) refl refl refl refl
  where
    true_false : true ≡ false → ⊥
    true_false e = cc e

    by : (p q u v : Bool) → int_le r.x0 inner.x1 ≡ p → int_lt inner.x0 r.x1 ≡ q → int_le r.y0 inner.y1 ≡ u → int_lt inner.y0 r.y1 ≡ v → ((p && q) && u) && v ≡ false
    by false q u v i j k l = refl
    by true false u v i j k l = refl
    by true true false v i j k l = refl
    by true true true false i j k l = refl
    by true true true true i j k l =
        let left = inside.left in let below = inside.below in let right = inside.right in let above = inside.above in
        absurd (true_false (sym (reaches_true outer r (omega (arith, ints)) (omega (arith, ints)) (omega (arith, ints)) (omega (arith, ints))) ∙ none))

-- A fragment within reach of a pixel of the rectangle is met by the rectangle that is smaller by what the reach lacks.
pub area_met_within : (fs : List Fragment) (r s : Rect) (reach margin : ℤ) (k : ℕ) (x y : ℤ) → IsShrunk r margin s → (reach +ℤ margin) ≡ pos 128
    → rect_cover r x y ≡ true → IsWithinReach (fragment_at fs k) reach x y → reaches (area_of (fragment_at fs k)) s ≡ true
area_met_within fs r s reach margin k x y shrunk whole covered near =
    by (int_le r.x0 x) (int_lt x r.x1) (int_le r.y0 y) (int_lt y r.y1) refl refl refl refl covered (is_vertical (fragment_at fs k).side) refl
  where
    false_true : false ≡ true → ⊥
    false_true e = cc e

    met : (v : Bool) → is_vertical (fragment_at fs k).side ≡ v → r.x0 ≤ℤ x → x <ℤ r.x1 → r.y0 ≤ℤ y → y <ℤ r.y1 → reaches (area_of (fragment_at fs k)) s ≡ true
    met true v e f g h =
        let a = shrunk.left in let b = shrunk.below in let c = shrunk.right in let d = shrunk.above in
        let area_is : area_of (fragment_at fs k) ≡ upright_area (fragment_at fs k) = ap (λ (t : Bool). if t then upright_area (fragment_at fs k) else level_area (fragment_at fs k)) v in
        let l = subst (λ (t : Bool). ((if t then (fragment_at fs k).edge else (fragment_at fs k).lo) -ℤ reach) ≤ℤ x) v near.left in
        let m = subst (λ (t : Bool). x ≤ℤ ((if t then (fragment_at fs k).edge else (fragment_at fs k).hi) +ℤ reach)) v near.right in
        let n = subst (λ (t : Bool). ((if t then (fragment_at fs k).lo else (fragment_at fs k).edge) -ℤ reach) ≤ℤ y) v near.below in
        let o = subst (λ (t : Bool). y ≤ℤ ((if t then (fragment_at fs k).hi else (fragment_at fs k).edge) +ℤ reach)) v near.above in
        ap (λ a. reaches a s) area_is
        ∙ reaches_true (upright_area (fragment_at fs k)) s (omega (arith, ints)) (omega (arith, ints)) (omega (arith, ints)) (omega (arith, ints))
    met false v e f g h =
        let a = shrunk.left in let b = shrunk.below in let c = shrunk.right in let d = shrunk.above in
        let area_is : area_of (fragment_at fs k) ≡ level_area (fragment_at fs k) = ap (λ (t : Bool). if t then upright_area (fragment_at fs k) else level_area (fragment_at fs k)) v in
        let l = subst (λ (t : Bool). ((if t then (fragment_at fs k).edge else (fragment_at fs k).lo) -ℤ reach) ≤ℤ x) v near.left in
        let m = subst (λ (t : Bool). x ≤ℤ ((if t then (fragment_at fs k).edge else (fragment_at fs k).hi) +ℤ reach)) v near.right in
        let n = subst (λ (t : Bool). ((if t then (fragment_at fs k).lo else (fragment_at fs k).edge) -ℤ reach) ≤ℤ y) v near.below in
        let o = subst (λ (t : Bool). y ≤ℤ ((if t then (fragment_at fs k).hi else (fragment_at fs k).edge) +ℤ reach)) v near.above in
        ap (λ a. reaches a s) area_is
        ∙ reaches_true (level_area (fragment_at fs k)) s (omega (arith, ints)) (omega (arith, ints)) (omega (arith, ints)) (omega (arith, ints))

    by : (p q u v : Bool) → int_le r.x0 x ≡ p → int_lt x r.x1 ≡ q → int_le r.y0 y ≡ u → int_lt y r.y1 ≡ v → ((p && q) && u) && v ≡ true
        → (w : Bool) → is_vertical (fragment_at fs k).side ≡ w → reaches (area_of (fragment_at fs k)) s ≡ true
    by true true true true i j g l c w is = met w is (omega (arith, ints)) (omega (arith, ints)) (omega (arith, ints)) (omega (arith, ints))
    by false q u v i j g l c w is = absurd (false_true c)
    by true false u v i j g l c w is = absurd (false_true c)
    by true true false v i j g l c w is = absurd (false_true c)
    by true true true false i j g l c w is = absurd (false_true c)

not_shrunk : (r : Rect) → IsShrunk r (pos 0) r
not_shrunk r = record { left = omega (arith, ints); below = omega (arith, ints); right = omega (arith, ints); above = omega (arith, ints) }

pub length-areas : (fs : List Fragment) → length (areas_of fs) ≡ length fs
length-areas fs = length-map fs area_of

area_is : (fs : List Fragment) (k : ℕ) → k < length fs → area_at (areas_of fs) k ≡ area_of (fragment_at fs k)
area_is fs k below = get_or-map area_of fs k _ _ below

-- among the areas of the fragments, those of fragments within reach are met by the rectangle that is smaller by what the reach lacks
pub is_met_within : (fs : List Fragment) (r s : Rect) (reach margin : ℤ) (k : ℕ) (x y : ℤ) → IsShrunk r margin s → (reach +ℤ margin) ≡ pos 128 → k < length fs
    → rect_cover r x y ≡ true → IsWithinReach (fragment_at fs k) reach x y → is_met (areas_of fs) s k ≡ true
is_met_within fs r s reach margin k x y shrunk whole below covered near =
    ap (λ a. reaches a s) (area_is fs k below) ∙ area_met_within fs r s reach margin k x y shrunk whole covered near

-- a fragment within 128 of a pixel of the rectangle is met
pub is_met_near : (fs : List Fragment) (r : Rect) (k : ℕ) (x y : ℤ) → k < length fs → rect_cover r x y ≡ true → IsWithinReach (fragment_at fs k) (pos 128) x y
    → is_met (areas_of fs) r k ≡ true
is_met_near fs r k x y below covered near = is_met_within fs r r (pos 128) (pos 0) k x y (not_shrunk r) refl below covered near

-- ---- what areas round many leave out

-- so many areas stand under one of a level
abbrev AreRound : ℕ → List Rect → List Rect → Type 0
AreRound span areas outer = (k : ℕ) → k < length areas → (k / span < length outer) × IsInside (area_at areas k) (area_at outer (k / span))

round_missed : (span : ℕ) (areas outer : List Rect) (r : Rect) (k : ℕ) → ((j : ℕ) → k ≤ j → j < k + span → k / span ≡ j / span) → AreRound span areas outer
    → reaches (area_at outer (k / span)) r ≡ false → NoneMet areas r k span
round_missed span areas outer r k same round none j from below within =
    misses_inside (area_at areas j) (area_at outer (j / span)) r (round j within).1
    (subst (λ i. reaches (area_at outer i) r ≡ false) (same j from below) none)

groups_round : (areas blocks groups clusters : List Rect) → AreNested areas blocks groups clusters → AreRound 256 areas groups
groups_round areas blocks groups clusters nested k below =
    let block = nested.blocks_enclose k below in
    let group = nested.groups_enclose (k / 16) block.0 in
    let same : k / 16 / 16 ≡ k / 256 = omega arith in
    subst (λ i. (i < length groups) × IsInside (area_at areas k) (area_at groups i)) same
    (group.0, inside_more (area_at areas k) (area_at blocks (k / 16)) (area_at groups (k / 16 / 16)) block.1 group.1)

clusters_round : (areas blocks groups clusters : List Rect) → AreNested areas blocks groups clusters → AreRound 4096 areas clusters
clusters_round areas blocks groups clusters nested k below =
    let group = groups_round areas blocks groups clusters nested k below in
    let cluster = nested.clusters_enclose (k / 256) group.0 in
    let same : k / 256 / 16 ≡ k / 4096 = omega arith in
    subst (λ i. (i < length clusters) × IsInside (area_at areas k) (area_at clusters i)) same
    (cluster.0, inside_more (area_at areas k) (area_at groups (k / 256)) (area_at clusters (k / 256 / 16)) group.1 cluster.1)

pub one_missed : (areas : List Rect) (r : Rect) (k : ℕ) → is_met areas r k ≡ false → NoneMet areas r k 1
one_missed areas r k none j from below within = let same : k ≡ j = omega arith in subst (λ i. is_met areas r i ≡ false) same none

pub none_more : (areas : List Rect) (r : Rect) (from k count : ℕ)
    → ((j : ℕ) → from ≤ j → j < k → j < length areas → is_met areas r j ≡ false) → NoneMet areas r k count
    → (j : ℕ) → from ≤ j → j < k + count → j < length areas → is_met areas r j ≡ false
none_more areas r from k count before here j low high within = by (nat_lt j k) refl
  where
    by : (t : Bool) → nat_lt j k ≡ t → is_met areas r j ≡ false
    by true e = let h : j < k = (Decides-ltb j k).0 e in before j low h within
    by false e = let h = not_from_Decides _ (Decides-ltb j k) e in here j (omega arith) high within

-- ---- how the index is made

pub round_more : (areas : List Rect) (old new : Rect) (first k : ℕ) → ((j : ℕ) → first ≤ j → j < k → IsInside (area_at areas j) old)
    → IsInside old new → IsInside (area_at areas k) new → (j : ℕ) → first ≤ j → j < k + 1 → IsInside (area_at areas j) new
round_more areas old new first k before grows here j low high = by (j == k) refl
  where
    by : (t : Bool) → (j == k) ≡ t → IsInside (area_at areas j) new
    by true e = subst (λ i. IsInside (area_at areas i) new) (sym ((Decides-eqb j k).0 e)) here
    by false e =
        let apart : j ≢ k = not_from_Decides _ (Decides-eqb j k) e in
        inside_more (area_at areas j) old new (before j low (omega arith)) grows

-- the first i blocks of 16 areas have one round them
pub record AreBlocks (areas outer : List Rect) (i : ℕ) : Type 0 where
  pub count : length outer ≡ i
  pub enclose : (k : ℕ) → k < 16 * i → k < length areas → IsInside (area_at areas k) (area_at outer (k / 16))

pub blocks_more : (areas outer new : List Rect) (area : Rect) (i first past : ℕ) → AreBlocks areas outer i → new ≡ outer ++ area ∷ []
    → first ≡ 16 * i → past ≡ min (length areas) (first + 16)
    → ((k : ℕ) → first ≤ k → k < past → IsInside (area_at areas k) area) → AreBlocks areas new (i + 1)
blocks_more areas outer new area i first past blocks is from to round = record {
  count = (let a = blocks.count in let b = ap length is in omega (arith, length-append outer (area ∷ [])));
  enclose = λ k below within. subst (λ (l : List Rect). IsInside (area_at areas k) (area_at l (k / 16))) (sym is) (by k below within (nat_lt k (16 * i)) refl);
}
  where
    by : (k : ℕ) → k < 16 * (i + 1) → k < length areas → (t : Bool) → nat_lt k (16 * i) ≡ t → IsInside (area_at areas k) (area_at (outer ++ area ∷ []) (k / 16))
    by k below within true e =
        let h : k < 16 * i = (Decides-ltb k (16 * i)).0 e in
        let all = blocks.count in
        subst (IsInside (area_at areas k)) (sym (get_or_append_left outer (area ∷ []) _ (k / 16) (omega arith))) (blocks.enclose k h within)
    by k below within false e =
        let h = not_from_Decides _ (Decides-ltb k (16 * i)) e in
        let last : length outer ≡ k / 16 = (let all = blocks.count in omega arith) in
        subst (IsInside (area_at areas k)) (sym (get_or_push outer area _ (k / 16) last)) (round k (omega arith) (omega arith))

pub enclosed_all : (areas outer : List Rect) (i : ℕ) → AreBlocks areas outer i → i ≡ (length areas + 16 - 1) / 16 → AreEnclosed areas outer
enclosed_all areas outer i blocks all k below = let count = blocks.count in (omega arith, blocks.enclose k (omega arith) below)

-- ---- as the code reads it

pub block_missed_at : (areas now blocks groups clusters : List Rect) (r a : Rect) (k : ℕ) → areas ≡ now → AreNested areas blocks groups clusters → k < length now
    → k % 16 ≡ 0 → a ≡ get_or blocks (k / 16) a → reaches a r ≡ false → NoneMet now r k 16
block_missed_at areas now blocks groups clusters r a k same nested below even is none =
    let here : k < length areas = subst (λ (l : List Rect). k < length l) (sym same) below in
    let at : a ≡ area_at blocks (k / 16) = is ∙ get_or_default blocks (k / 16) a _ (nested.blocks_enclose k here).0 in
    subst (λ l. NoneMet l r k 16) same
    (round_missed 16 areas blocks r k (λ j from past. omega arith) nested.blocks_enclose (subst (λ b. reaches b r ≡ false) at none))

pub group_missed_at : (areas now blocks groups clusters : List Rect) (r a : Rect) (k : ℕ) → areas ≡ now → AreNested areas blocks groups clusters → k < length now
    → k % 256 ≡ 0 → a ≡ get_or groups (k / 16 / 16) a → reaches a r ≡ false → NoneMet now r k 256
group_missed_at areas now blocks groups clusters r a k same nested below even is none =
    let here : k < length areas = subst (λ (l : List Rect). k < length l) (sym same) below in
    let round = groups_round areas blocks groups clusters nested in
    let place : k / 16 / 16 ≡ k / 256 = omega arith in
    let at : a ≡ area_at groups (k / 256) = is ∙ ap (λ i. get_or groups i a) place ∙ get_or_default groups (k / 256) a _ (round k here).0 in
    subst (λ l. NoneMet l r k 256) same
    (round_missed 256 areas groups r k (λ j from past. omega arith) round (subst (λ b. reaches b r ≡ false) at none))

pub cluster_missed_at : (areas now blocks groups clusters : List Rect) (r a : Rect) (k : ℕ) → areas ≡ now → AreNested areas blocks groups clusters → k < length now
    → k % 4096 ≡ 0 → a ≡ get_or clusters (k / 16 / 16 / 16) a → reaches a r ≡ false → NoneMet now r k 4096
cluster_missed_at areas now blocks groups clusters r a k same nested below even is none =
    let here : k < length areas = subst (λ (l : List Rect). k < length l) (sym same) below in
    let round = clusters_round areas blocks groups clusters nested in
    let place : k / 16 / 16 / 16 ≡ k / 4096 = omega arith in
    let at : a ≡ area_at clusters (k / 4096) = is ∙ ap (λ i. get_or clusters i a) place ∙ get_or_default clusters (k / 4096) a _ (round k here).0 in
    subst (λ l. NoneMet l r k 4096) same
    (round_missed 4096 areas clusters r k (λ j from past. omega arith) round (subst (λ b. reaches b r ≡ false) at none))

pub nested_within : (areas now blocks groups clusters : List Rect) (k : ℕ) → areas ≡ now → AreNested areas blocks groups clusters → k < length now
    → (k / 16 < length blocks) × (k / 16 / 16 < length groups) × (k / 16 / 16 / 16 < length clusters)
nested_within areas now blocks groups clusters k same nested below =
    let here : k < length areas = subst (λ (l : List Rect). k < length l) (sym same) below in
    let block = (nested.blocks_enclose k here).0 in
    let group = (nested.groups_enclose (k / 16) block).0 in
    (block, group, (nested.clusters_enclose (k / 16 / 16) group).0)

-- whether an area is met is whether it reaches the rectangle
pub met_at : (areas now : List Rect) (r a : Rect) (t : Bool) (k : ℕ) → areas ≡ now → k < length now
    → a ≡ get_or areas k a → reaches a r ≡ t → is_met now r k ≡ t
met_at areas now r a t k same below is tells =
    let here : k < length areas = subst (λ (l : List Rect). k < length l) (sym same) below in
    let at : a ≡ area_at areas k = is ∙ get_or_default areas k a _ here in
    subst (λ l. is_met l r k ≡ t) same (ap (λ b. reaches b r) (sym at) ∙ tells)
