-- All that clashes with the stretches that a move can have changed stands near them.
use Rattle.std.proofs.Common.{◌≡◌, ◌⊎◌, inl, inr, ℕ, ◌<◌, ℤ, pos, ◌≤ℤ◌, Bool, true, false, Option, Some, None, List, length, refl, arith}
use Rattle.std.specs.Prelude.{Contains}
use Rattle.std.proofs.lemmas.Int.{ints}
use Rattle.fragment.specs.Index.{IsInside}
use Rattle.outline_model.specs.declared.fragment.Fragment.{Fragment}
use Rattle.outline_model.specs.Limits.{IsFragmentList}
use Rattle.outline_model.specs.Near.{KeepNear}
use Rattle.opc_base.specs.declared.plane.Rect.{Rect}
use Rattle.opc_base.specs.declared.plane.Pix.{Pix}
use Rattle.opc_base.specs.declared.rules.MaskRules.{MaskRules}
use Rattle.opc_base.specs.Plane.{rect_cover}
use Rattle.mask_rules.specs.declared.clash.Clash.{Clash}
use Rattle.mask_rules.specs.declared.search.Changed.{Changed}
use Rattle.mask_rules.specs.declared.stretch.Stretch.{Stretch}
use Rattle.mask_rules.specs.Changes.{HasClashes, changed_at}
use Rattle.mask_rules.specs.Clashes.{ClashesNow, IsClash, clash_area, clash_pixel, pair_pixel}
use Rattle.mask_rules.specs.First.{IsFirst, earlier}
use Rattle.mask_rules.specs.Stretches.{StandsIn, stretch_at}
use Rattle.mask_rules.proofs.Changed.{stretch_within}
use Rattle.mask_rules.proofs.ClashSearch.{IsAllNear, clash_near, contained_below, covers_in, reach, reaching}
use Rattle.mask_rules.proofs.Firsts.{first_from, IsFirst-cover, IsFirst-earlier, IsFirst-list, IsFirst-one}
use Rattle.mask_rules.proofs.Miscount.{covers_of}

inside_covers : (inner outer : Rect) (x y : ℤ) → IsInside inner outer → rect_cover inner x y ≡ true → rect_cover outer x y ≡ true
inside_covers inner outer x y inside covers =
    let c = covers_of inner x y covers in
    let x_from = c.0 in let x_to = c.1 in let y_from = c.2 in let y_to = c.3 in
    let left = inside.left in let right = inside.right in let below = inside.below in let above = inside.above in
    covers_in outer x y (omega (arith, ints)) (omega (arith, ints)) (omega (arith, ints)) (omega (arith, ints))

pub inside_inside : (inner middle outer : Rect) → IsInside inner middle → IsInside middle outer → IsInside inner outer
inside_inside inner middle outer first second =
    let a = first.left in let b = first.below in let c = first.right in let d = first.above in
    let e = second.left in let f = second.below in let g = second.right in let h = second.above in
    record { left = omega (arith, ints); below = omega (arith, ints); right = omega (arith, ints); above = omega (arith, ints) }

stands_in : (inner outer : Rect) (v : Bool) (s : Stretch) → IsInside inner outer → StandsIn inner v s → StandsIn outer v s
stands_in inner outer v s inside stands = (stands.0, stands.1, inside_covers inner outer _ _ inside stands.2)

-- a rectangle that has another in it has what that one has
pub wider : (rules : MaskRules) (v : Bool) (c : Changed) (inner outer : Rect) → IsInside inner outer → HasClashes rules v c inner → HasClashes rules v c outer
wider rules v c inner outer inside has = record {
  far = has.far;
  width = has.width;
  space = has.space;
  before = inside_inside _ inner outer has.before inside;
  beside = inside_inside _ inner outer has.beside inside;
  after = inside_inside _ inner outer has.after inside;
}

-- two stretches clash, whichever comes first
abbrev ClashAt : Clash → Bool → Stretch → Stretch → Pix → Type 0
ClashAt clash v p q pixel = (clash_pixel clash v p q ≡ Some pixel) ⊎ (clash_pixel clash v q p ≡ Some pixel)

pair_first : (clash : Clash) (v : Bool) (p q : Stretch) → IsFirst (ClashAt clash v p q) (pair_pixel clash v p q)
pair_first clash v p q =
    IsFirst-earlier (λ pixel. clash_pixel clash v p q ≡ Some pixel) (λ pixel. clash_pixel clash v q p ≡ Some pixel) (clash_pixel clash v p q) (clash_pixel clash v q p)
    (IsFirst-one (clash_pixel clash v p q)) (IsFirst-one (clash_pixel clash v q p))

pair_stands : (area : Rect) (far : ℤ) (clash : Clash) (v : Bool) (p q : Stretch) (pixel : Pix) → IsClash clash → reach clash ≤ℤ far
    → IsInside (clash_area far v p) area → ClashAt clash v p q pixel → StandsIn area v q
pair_stands area far clash v p q pixel limits enough inside clashes = stands_in (clash_area far v p) area v q inside (elim clashes [
  | inl first ↦ (clash_near far clash v p q pixel limits enough first).0
  | inr second ↦ (clash_near far clash v q p pixel limits enough second).1
])

-- one of the changed stretches clashes with another
abbrev ChangedAt : Clash → Bool → Changed → Stretch → Pix → Type 0
ChangedAt clash v c s p = (ClashAt clash v c.before s p ⊎ ClashAt clash v c.beside s p) ⊎ ClashAt clash v c.after s p

abbrev pub changed_pixel : Clash → Bool → Changed → Stretch → Option Pix
changed_pixel clash v c s = earlier (earlier (pair_pixel clash v c.before s) (pair_pixel clash v c.beside s)) (pair_pixel clash v c.after s)

changed_first : (clash : Clash) (v : Bool) (c : Changed) (s : Stretch) → IsFirst (ChangedAt clash v c s) (changed_pixel clash v c s)
changed_first clash v c s =
    IsFirst-earlier (λ p. ClashAt clash v c.before s p ⊎ ClashAt clash v c.beside s p) (ClashAt clash v c.after s)
    (earlier (pair_pixel clash v c.before s) (pair_pixel clash v c.beside s)) (pair_pixel clash v c.after s)
    (IsFirst-earlier (ClashAt clash v c.before s) (ClashAt clash v c.beside s) (pair_pixel clash v c.before s) (pair_pixel clash v c.beside s)
    (pair_first clash v c.before s) (pair_first clash v c.beside s))
    (pair_first clash v c.after s)

changed_stands : (rules : MaskRules) (area : Rect) (clash : Clash) (v : Bool) (c : Changed) (s : Stretch) (p : Pix) → IsClash clash
    → (has : HasClashes rules v c area) → reach clash ≤ℤ has.far → ChangedAt clash v c s p → StandsIn area v s
changed_stands rules area clash v c s p limits has enough clashes = elim clashes [
  | inl two ↦ elim two [
    | inl h ↦ pair_stands area has.far clash v c.before s p limits enough has.before h
    | inr h ↦ pair_stands area has.far clash v c.beside s p limits enough has.beside h
  ]
  | inr h ↦ pair_stands area has.far clash v c.after s p limits enough has.after h
]

pub none_is : (o : Option Pix) → ((p : Pix) → ¬ (o ≡ Some p)) → o ≡ None
none_is None none = refl
none_is (Some p) none = absurd (none p refl)

-- what does not stand in the area clashes in no way
pub none_changed : (rules : MaskRules) (area : Rect) (clash : Clash) (v : Bool) (c : Changed) (s : Stretch) → IsClash clash
    → (has : HasClashes rules v c area) → reach clash ≤ℤ has.far → ¬ StandsIn area v s → changed_pixel clash v c s ≡ None
none_changed rules area clash v c s limits has enough out =
    none_is (changed_pixel clash v c s) (λ p e. out (changed_stands rules area clash v c s p limits has enough ((changed_first clash v c s).is_one p e)))

-- the first pixel of the clashes of the stretches that the move of fragment i can have changed with those of fragment k
abbrev pub all_pixel : Clash → List Fragment → (ℕ → ℤ) → ℕ → ℕ → Option Pix
all_pixel clash fs line i k =
    earlier (changed_pixel clash true (changed_at fs line true i) (stretch_at fs line true k))
    (changed_pixel clash false (changed_at fs line false i) (stretch_at fs line false k))

pub first_clash_is : (rules : MaskRules) (fs : List Fragment) (line : ℕ → ℤ) (most : ℤ) (area : Rect) (clash : Clash) (i : ℕ) (numbers : List ℕ)
    → IsFragmentList fs → pos 0 ≤ℤ most → KeepNear fs line most → IsClash clash
    → (upright : HasClashes rules true (changed_at fs line true i) area) → reach clash ≤ℤ upright.far
    → (level : HasClashes rules false (changed_at fs line false i) area) → reach clash ≤ℤ level.far
    → IsAllNear fs most area numbers
    → IsFirst (ClashesNow fs line clash i) (first_from (all_pixel clash fs line i) None numbers)
first_clash_is rules fs line most area clash i numbers fragments least keep limits upright enough level enough_too near =
    IsFirst-cover (λ p. (k : ℕ) × Contains numbers k × (all_pixel clash fs line i k ≡ Some p)) (ClashesNow fs line clash i) _
    (λ p found. there found.0 p (contained_below fs most area numbers found.0 near found.1) ((all_first found.0).is_one p found.2))
    (λ q now.
    let at = back q now in
    let k = at.0 in
    let reaches = reaching (all_pixel clash fs line i k) q ((all_first k).before_all q at.2) in
    (reaches.0, (k, contained k at.1 q at.2, reaches.1), reaches.2))
    (IsFirst-list (all_pixel clash fs line i) numbers)
  where
    At : ℕ → Pix → Type 0
    At k p = ChangedAt clash true (changed_at fs line true i) (stretch_at fs line true k) p
        ⊎ ChangedAt clash false (changed_at fs line false i) (stretch_at fs line false k) p

    all_first : (k : ℕ) → IsFirst (At k) (all_pixel clash fs line i k)
    all_first k =
        IsFirst-earlier (ChangedAt clash true (changed_at fs line true i) (stretch_at fs line true k))
        (ChangedAt clash false (changed_at fs line false i) (stretch_at fs line false k))
        (changed_pixel clash true (changed_at fs line true i) (stretch_at fs line true k))
        (changed_pixel clash false (changed_at fs line false i) (stretch_at fs line false k))
        (changed_first clash true (changed_at fs line true i) (stretch_at fs line true k))
        (changed_first clash false (changed_at fs line false i) (stretch_at fs line false k))

    there : (k : ℕ) (p : Pix) → k < length fs → At k p → ClashesNow fs line clash i p
    there k p below h = elim h [
      | inl up ↦ elim up [
        | inl two ↦ elim two [ inl a ↦ inl (inl (inl (k, below, a))) | inr b ↦ inl (inr (inl (k, below, b))) ]
        | inr c ↦ inr (inl (k, below, c))
      ]
      | inr flat ↦ elim flat [
        | inl two ↦ elim two [ inl a ↦ inl (inl (inr (k, below, a))) | inr b ↦ inl (inr (inr (k, below, b))) ]
        | inr c ↦ inr (inr (k, below, c))
      ]
    ]

    back : (q : Pix) → ClashesNow fs line clash i q → (k : ℕ) × (k < length fs) × At k q
    back q now = elim now [
      | inl two ↦ elim two [
        | inl before ↦ elim before [ inl a ↦ (a.0, a.1, inl (inl (inl a.2))) | inr a ↦ (a.0, a.1, inr (inl (inl a.2))) ]
        | inr beside ↦ elim beside [ inl b ↦ (b.0, b.1, inl (inl (inr b.2))) | inr b ↦ (b.0, b.1, inr (inl (inr b.2))) ]
      ]
      | inr after ↦ elim after [ inl c ↦ (c.0, c.1, inl (inr c.2)) | inr c ↦ (c.0, c.1, inr (inr c.2)) ]
    ]

    in_list : (v : Bool) (k : ℕ) → k < length fs → StandsIn area v (stretch_at fs line v k) → Contains numbers k
    in_list v k below stands = near.complete k _ _ below stands.2 (stretch_within fs line most v k stands.0 fragments least keep below stands.1)

    contained : (k : ℕ) → k < length fs → (q : Pix) → At k q → Contains numbers k
    contained k below q h = elim h [
      | inl up ↦ in_list true k below (changed_stands rules area clash true _ (stretch_at fs line true k) q limits upright enough up)
      | inr flat ↦ in_list false k below (changed_stands rules area clash false _ (stretch_at fs line false k) q limits level enough_too flat)
    ]
