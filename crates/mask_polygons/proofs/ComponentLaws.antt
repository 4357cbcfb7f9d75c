-- Parts of a region, as they grow.
use Rattle.std.proofs.Common.{◌≡◌, ◌≢◌, ◌∙◌, ◌⊎◌, inl, inr, ◌≤◌, ◌<◌, ◌+◌, ℕ, zero, suc, nat_lt, nat_eq, ℤ, pos, Bool, true, false, if◌then◌else◌, List, [], ◌∷◌, ◌++◌, ◌||◌, length, get_or, set, take, All, AllPairs, Contains, refl, ap, sym, subst, arith, length-append, length-set, get_or-set_same, get_or-set_other}
use Rattle.std.specs.Prelude.{Vec}
use Rattle.std.specs.declared.alloc.Global.{Global}
use Rattle.std.specs.List.{list_any}
use Rattle.std.proofs.lemmas.Bool.{cases_order}
use Rattle.std.proofs.lemmas.List.{get_or_push, get_or_append_left, get_or_default, get_or-map, length-map, take_all}
use Rattle.std.proofs.lemmas.List.Elements.{All-from_get_or, Contains-append_left, Contains-push}
use Rattle.std.proofs.lemmas.List.Quantifiers.{all_pairs_push}
use Rattle.std.proofs.lemmas.Bool.Decides.{Decides-ltb, eqb_tells, not_from_Decides}
use Rattle.opc_base.specs.declared.plane.Rect.{Rect}
use Rattle.opc_base.specs.Canonical.{AreCanonical, IsSolid, Precedes, StartsBefore}
use Rattle.opc_base.specs.Plane.{IsRectWithin, cover, rect_cover}
use Rattle.outline_model.specs.MaskRange.{mask_limit}
use Rattle.mask_polygons.specs.Components.{AreLabels, ArePartsOf, number_at, part_at, placed, rect_lists}
use Rattle.mask_polygons.specs.Links.{rect_at}
use Rattle.mask_polygons.specs.Walk.{IsComponent}
use Rattle.mask_polygons.proofs.CoverLaws.{any-more, any-push, or-assoc, or-false}
use Rattle.mask_polygons.proofs.PartLaws.{HasLabel, part-is}

abbrev zero_rect : Rect
zero_rect = record { x0 = pos 0; y0 = pos 0; x1 = pos 0; y1 = pos 0 }

-- those of the first n rectangles that have this label, in order
pub record IsSub (rects : List Rect) (labels : List ℕ) (label n : ℕ) (part : List Rect) : Type 0 where
  pub from : (k : ℕ) → k < length part → (i : ℕ) × (i < n) × (number_at labels i ≡ label) × (rect_at part k ≡ rect_at rects i)
  pub pairs : AllPairs Precedes part

sub-wider : (rects : List Rect) (labels : List ℕ) (label n : ℕ) (part : List Rect) → IsSub rects labels label n part → IsSub rects labels label (n + 1) part
sub-wider rects labels label n part sub = record {
  from = λ k below. (let h = sub.from k below in (h.0, (let a = h.1 in omega (arith, a)), h.2, h.3));
  pairs = sub.pairs;
}

rect-default : (rects : List Rect) (k : ℕ) (d : Rect) → k < length rects → rect_at rects k ≡ get_or rects k d
rect-default rects k d below = get_or_default rects k zero_rect d below

push-cases : (part : List Rect) (r : Rect) (k : ℕ) → k < length (part ++ r ∷ []) → (k < length part) ⊎ (k ≡ length part)
push-cases part r k below = elim (cases_order k (length part)) [
  | inl same ↦ inr same
  | inr other ↦ elim other [
    | inl less ↦ inl less
    | inr more ↦ absurd (let size = length-append part (r ∷ []) in omega (arith, size, below, more))
  ]
]

sub-push : (rects : List Rect) (labels : List ℕ) (label n : ℕ) (part : List Rect) → AreCanonical rects → n < length rects → number_at labels n ≡ label → IsSub rects labels label n part
    → IsSub rects labels label (n + 1) (part ++ rect_at rects n ∷ [])
sub-push rects labels label n part canonical below its sub = record {
  from = λ k k_below. elim (push-cases part (rect_at rects n) k k_below) [
    | inr same ↦ (n, omega arith, its, get_or_push part (rect_at rects n) zero_rect k (sym same))
    | inl early ↦ (let h = sub.from k early in let a = h.1 in (h.0, omega (arith, a), h.2, get_or_append_left part (rect_at rects n ∷ []) zero_rect k early ∙ h.3))
  ];
  pairs = all_pairs_push Precedes part (rect_at rects n) sub.pairs (λ k d k_below.
      (let h = sub.from k k_below in
      subst (λ r. Precedes r (rect_at rects n)) (sym (sym (rect-default part k d k_below) ∙ h.3)) (canonical.pairs h.0 n zero_rect h.1 below)));
}

-- The first n rectangles stand in the parts of their labels. There is a part for each root below n, and it begins with it.
pub record ArePlaced (rects : List Rect) (labels roots : List ℕ) (n : ℕ) (parts : List (List Rect)) : Type 0 where
  pub members : (c : ℕ) → c < length parts → IsSub rects labels c n (part_at parts c)
  pub covers : (x y : ℤ) → list_any (λ part. cover part x y) parts ≡ cover (take n rects) x y
  pub few : length parts ≤ length roots
  pub opened : (c : ℕ) → c < length roots → number_at roots c < n → c < length parts
  pub has : (i : ℕ) → i < n → (number_at labels i < length parts) × Contains (part_at parts (number_at labels i)) (rect_at rects i)
  pub first : (c : ℕ) → c < length parts → (0 < length (part_at parts c)) × (rect_at (part_at parts c) 0 ≡ rect_at rects (number_at roots c))

or-move : (a b c : Bool) → ((a || c) || b) ≡ ((a || b) || c)
or-move true b c = refl
or-move false true true = refl
or-move false true false = refl
or-move false false true = refl
or-move false false false = refl

cover-push : (part : List Rect) (r : Rect) (x y : ℤ) → cover (part ++ r ∷ []) x y ≡ (cover part x y || rect_cover r x y)
cover-push part r x y = any-push (λ s. rect_cover s x y) part r

set-covers : (parts : List (List Rect)) (i : ℕ) (r : Rect) (x y : ℤ) → i < length parts
    → list_any (λ part. cover part x y) (set parts i (part_at parts i ++ r ∷ [])) ≡ (list_any (λ part. cover part x y) parts || rect_cover r x y)
set-covers [] i r x y inside = absurd (omega arith)
set-covers (p ∷ parts) zero r x y inside =
    ap (λ b. b || list_any (λ part. cover part x y) parts) (cover-push p r x y) ∙ or-move (cover p x y) (list_any (λ part. cover part x y) parts) (rect_cover r x y)
set-covers (p ∷ parts) (suc i) r x y inside =
    ap (λ b. cover p x y || b) (set-covers parts i r x y (omega arith)) ∙ sym (or-assoc (cover p x y) (list_any (λ part. cover part x y) parts) (rect_cover r x y))

-- the parts with one more rectangle in one of them
set-cases : (parts : List (List Rect)) (l c : ℕ) (part : List Rect) → l < length parts
    → ((c ≡ l) × (part_at (set parts l part) c ≡ part)) ⊎ ((c ≢ l) × (part_at (set parts l part) c ≡ part_at parts c))
set-cases parts l c part below = elim (eqb_tells c l) [
  | inl w ↦ inl (w.1, ap (part_at (set parts l part)) w.1 ∙ get_or-set_same parts l part [] below)
  | inr w ↦ inr (w.1, get_or-set_other parts l c part [] w.1)
]

-- the parts with a new one
new-cases : (parts : List (List Rect)) (c : ℕ) (part : List Rect) → c < length (parts ++ part ∷ [])
    → ((c < length parts) × (part_at (parts ++ part ∷ []) c ≡ part_at parts c)) ⊎ ((c ≡ length parts) × (part_at (parts ++ part ∷ []) c ≡ part))
new-cases parts c part below = elim (cases_order c (length parts)) [
  | inl same ↦ inr (same, get_or_push parts part [] c (sym same))
  | inr other ↦ elim other [
    | inl less ↦ inl (less, get_or_append_left parts (part ∷ []) [] c less)
    | inr more ↦ absurd (let size = length-append parts (part ∷ []) in omega (arith, size, below, more))
  ]
]

first-kept : (part : List Rect) (r : Rect) → 0 < length part → rect_at (part ++ r ∷ []) 0 ≡ rect_at part 0
first-kept part r some = get_or_append_left part (r ∷ []) zero_rect 0 some

pub one_placed : (rects : List Rect) (labels roots : List ℕ) (n : ℕ) (parts new : List (List Rect)) → AreCanonical rects → AreLabels rects labels roots → n < length rects
    → ArePlaced rects labels roots n parts → new ≡ placed parts (number_at labels n) (rect_at rects n) → ArePlaced rects labels roots (n + 1) new
one_placed rects labels roots n parts new canonical are below far is = by (nat_lt label (length parts)) refl
  where
    r : Rect
    r = rect_at rects n

    label : ℕ
    label = number_at labels n

    rooted : (number_at labels n < length roots) × (number_at roots (number_at labels n) ≤ n)
    rooted = let h = are.rooted n below in (h.0, h.2)

    -- a root that is n has the label of n
    root-label : (c : ℕ) → c < length roots → number_at roots c ≡ n → number_at labels n ≡ c
    root-label c inside at = ap (number_at labels) (sym at) ∙ (are.own c inside).1

    more : (x y : ℤ) → (list_any (λ part. cover part x y) parts || rect_cover r x y) ≡ cover (take (n + 1) rects) x y
    more x y = ap (λ b. b || rect_cover r x y) (far.covers x y) ∙ sym (any-more (λ s. rect_cover s x y) rects n zero_rect below)

    by : (t : Bool) → nat_lt (number_at labels n) (length parts) ≡ t → ArePlaced rects labels roots (n + 1) new
    by true e = subst (ArePlaced rects labels roots (n + 1)) (sym made) (record {
      members = λ c c_below. member c (set-cases parts label c grown inside) (omega (arith, size, c_below));
      covers = λ x y. set-covers parts label r x y inside ∙ more x y;
      few = (let a = far.few in omega (arith, size, a));
      opened = λ c c_below less. opened c c_below (cases_order (number_at roots c) n) less;
      has = λ i less. has i (eqb_tells i n) less;
      first = λ c c_below. first c (set-cases parts label c grown inside) (omega (arith, size, c_below));
    })
      where
        inside : number_at labels n < length parts
        inside = (Decides-ltb (number_at labels n) (length parts)).0 e

        grown : List Rect
        grown = part_at parts (number_at labels n) ++ rect_at rects n ∷ []

        made : new ≡ set parts (number_at labels n) (part_at parts (number_at labels n) ++ rect_at rects n ∷ [])
        made = is ∙ ap (λ t. if t then set parts label (part_at parts label ++ r ∷ []) else parts ++ (r ∷ []) ∷ []) e

        size : length (set parts (number_at labels n) (part_at parts (number_at labels n) ++ rect_at rects n ∷ [])) ≡ length parts
        size = length-set parts label grown

        Cases : ℕ → Type 0
        Cases c = ((c ≡ number_at labels n) × (part_at (set parts (number_at labels n) (part_at parts (number_at labels n) ++ rect_at rects n ∷ [])) c ≡ part_at parts (number_at labels n) ++ rect_at rects n ∷ []))
            ⊎ ((c ≢ number_at labels n) × (part_at (set parts (number_at labels n) (part_at parts (number_at labels n) ++ rect_at rects n ∷ [])) c ≡ part_at parts c))

        member : (c : ℕ) → Cases c → c < length parts → IsSub rects labels c (n + 1) (part_at (set parts (number_at labels n) (part_at parts (number_at labels n) ++ rect_at rects n ∷ [])) c)
        member c (inl h) c_below =
            subst (IsSub rects labels c (n + 1)) (sym h.1) (subst (λ l. IsSub rects labels l (n + 1) grown) (sym h.0)
            (sub-push rects labels label n (part_at parts label) canonical below refl (far.members label inside)))
        member c (inr h) c_below = subst (IsSub rects labels c (n + 1)) (sym h.1) (sub-wider rects labels c n (part_at parts c) (far.members c c_below))

        opened : (c : ℕ) → c < length roots → (number_at roots c ≡ n) ⊎ ((number_at roots c < n) ⊎ (n < number_at roots c)) → number_at roots c < n + 1
            → c < length (set parts (number_at labels n) (part_at parts (number_at labels n) ++ rect_at rects n ∷ []))
        opened c c_below (inl at) less = let l = root-label c c_below at in omega (arith, size, l, inside)
        opened c c_below (inr (inl early)) less = let a = far.opened c c_below early in omega (arith, size, a)
        opened c c_below (inr (inr late)) less = absurd (omega (arith, late, less))

        has : (i : ℕ) → ((nat_eq i n ≡ true) × (i ≡ n)) ⊎ ((nat_eq i n ≡ false) × (i ≢ n)) → i < n + 1
            → (number_at labels i < length (set parts (number_at labels n) (part_at parts (number_at labels n) ++ rect_at rects n ∷ [])))
            × Contains (part_at (set parts (number_at labels n) (part_at parts (number_at labels n) ++ rect_at rects n ∷ [])) (number_at labels i)) (rect_at rects i)
        has i (inl w) less = (
          (let l = ap (number_at labels) w.1 in omega (arith, size, l, inside)),
          subst (λ k. Contains (part_at (set parts (number_at labels n) (part_at parts (number_at labels n) ++ rect_at rects n ∷ [])) (number_at labels k)) (rect_at rects k)) (sym w.1)
              (subst (λ l. Contains l (rect_at rects n)) (sym (get_or-set_same parts label grown [] inside)) (Contains-push (part_at parts label) (rect_at rects n))),
        )
        has i (inr w) less =
            let apart = w.1 in
            let was = far.has i (omega (arith, less, apart)) in
            let a = was.0 in
            (omega (arith, size, a), kept (set-cases parts label (number_at labels i) grown inside) was.1)
          where
            kept : Cases (number_at labels i) → Contains (part_at parts (number_at labels i)) (rect_at rects i)
                → Contains (part_at (set parts (number_at labels n) (part_at parts (number_at labels n) ++ rect_at rects n ∷ [])) (number_at labels i)) (rect_at rects i)
            kept (inl h) at =
                subst (λ l. Contains l (rect_at rects i)) (sym h.1) (Contains-append_left (part_at parts label) (r ∷ []) (rect_at rects i) (subst (λ c. Contains (part_at parts c) (rect_at rects i)) h.0 at))
            kept (inr h) at = subst (λ l. Contains l (rect_at rects i)) (sym h.1) at

        first : (c : ℕ) → Cases c → c < length parts → (0 < length (part_at (set parts (number_at labels n) (part_at parts (number_at labels n) ++ rect_at rects n ∷ [])) c))
            × (rect_at (part_at (set parts (number_at labels n) (part_at parts (number_at labels n) ++ rect_at rects n ∷ [])) c) 0 ≡ rect_at rects (number_at roots c))
        first c (inl h) c_below =
            let was = far.first label inside in
            let some = was.0 in
            subst (λ p. (0 < length p) × (rect_at p 0 ≡ rect_at rects (number_at roots c))) (sym h.1) (
              (let a = length-append (part_at parts label) (r ∷ []) in omega (arith, a, some)),
              first-kept (part_at parts label) r some ∙ was.1 ∙ ap (λ l. rect_at rects (number_at roots l)) (sym h.0),
            )
        first c (inr h) c_below = subst (λ p. (0 < length p) × (rect_at p 0 ≡ rect_at rects (number_at roots c))) (sym h.1) (far.first c c_below)
    by false e = subst (ArePlaced rects labels roots (n + 1)) (sym made) (record {
      members = λ c c_below. member c (new-cases parts c (r ∷ []) c_below);
      covers = λ x y. any-push (λ part. cover part x y) parts (r ∷ []) ∙ ap (λ b. list_any (λ part. cover part x y) parts || b) (or-false (rect_cover r x y)) ∙ more x y;
      few = (let a = rooted.0 in omega (arith, size, last, a));
      opened = λ c c_below less. opened c c_below (cases_order (number_at roots c) n) less;
      has = λ i less. has i (eqb_tells i n) less;
      first = λ c c_below. first c (new-cases parts c (r ∷ []) c_below);
    })
      where
        out : ¬ (number_at labels n < length parts)
        out = not_from_Decides _ (Decides-ltb (number_at labels n) (length parts)) e

        made : new ≡ parts ++ (rect_at rects n ∷ []) ∷ []
        made = is ∙ ap (λ t. if t then set parts label (part_at parts label ++ r ∷ []) else parts ++ (r ∷ []) ∷ []) e

        size : length (parts ++ (rect_at rects n ∷ []) ∷ []) ≡ length parts + 1
        size = length-append parts ((r ∷ []) ∷ [])

        root : number_at roots (number_at labels n) ≡ n
        root = elim (cases_order (number_at roots (number_at labels n)) n) [
          | inl same ↦ same
          | inr other ↦ elim other [
            | inl less ↦ absurd (out (far.opened label rooted.0 less))
            | inr more ↦ absurd (let a = rooted.1 in omega (arith, a, more))
          ]
        ]

        last : length parts ≡ number_at labels n
        last = elim (cases_order (length parts) (number_at labels n)) [
          | inl same ↦ same
          | inr other ↦ elim other [
            | inl less ↦ absurd (early less)
            | inr more ↦ absurd (out more)
          ]
        ]
          where
            early : length parts < number_at labels n → ⊥
            early less =
                let a = rooted.0 in
                let rise : number_at roots (length parts) < number_at roots (number_at labels n) = are.rising (length parts) (number_at labels n) 0 less a in
                let there = far.opened (length parts) (omega (arith, less, a)) (omega (arith, rise, root)) in omega (arith, there)

        member : (c : ℕ) → ((c < length parts) × (part_at (parts ++ (rect_at rects n ∷ []) ∷ []) c ≡ part_at parts c)) ⊎ ((c ≡ length parts) × (part_at (parts ++ (rect_at rects n ∷ []) ∷ []) c ≡ rect_at rects n ∷ []))
            → IsSub rects labels c (n + 1) (part_at (parts ++ (rect_at rects n ∷ []) ∷ []) c)
        member c (inl h) = subst (IsSub rects labels c (n + 1)) (sym h.1) (sub-wider rects labels c n (part_at parts c) (far.members c h.0))
        member c (inr h) =
            let none : IsSub rects labels c n [] = record { from = λ k k_below. absurd (omega (arith, k_below)); pairs = λ j k d less k_below. absurd (omega (arith, k_below)) } in
            subst (IsSub rects labels c (n + 1)) (sym h.1) (sub-push rects labels c n [] canonical below (sym (h.0 ∙ last)) none)

        opened : (c : ℕ) → c < length roots → (number_at roots c ≡ n) ⊎ ((number_at roots c < n) ⊎ (n < number_at roots c)) → number_at roots c < n + 1
            → c < length (parts ++ (rect_at rects n ∷ []) ∷ [])
        opened c c_below (inl at) less = let l = root-label c c_below at in omega (arith, size, l, last)
        opened c c_below (inr (inl before)) less = let a = far.opened c c_below before in omega (arith, size, a)
        opened c c_below (inr (inr late)) less = absurd (omega (arith, late, less))

        has : (i : ℕ) → ((nat_eq i n ≡ true) × (i ≡ n)) ⊎ ((nat_eq i n ≡ false) × (i ≢ n)) → i < n + 1
            → (number_at labels i < length (parts ++ (rect_at rects n ∷ []) ∷ [])) × Contains (part_at (parts ++ (rect_at rects n ∷ []) ∷ []) (number_at labels i)) (rect_at rects i)
        has i (inl w) less = (
          (let l = ap (number_at labels) w.1 in omega (arith, size, l, last)),
          subst (λ k. Contains (part_at (parts ++ (rect_at rects n ∷ []) ∷ []) (number_at labels k)) (rect_at rects k)) (sym w.1)
              (subst (λ l. Contains l (rect_at rects n)) (sym (get_or_push parts (rect_at rects n ∷ []) [] (number_at labels n) last)) (Contains-push [] (rect_at rects n))),
        )
        has i (inr w) less =
            let apart = w.1 in
            let was = far.has i (omega (arith, less, apart)) in
            let a = was.0 in (
              omega (arith, size, a),
              subst (λ l. Contains l (rect_at rects i)) (sym (get_or_append_left parts ((rect_at rects n ∷ []) ∷ []) [] (number_at labels i) a)) was.1,
            )

        first : (c : ℕ) → ((c < length parts) × (part_at (parts ++ (rect_at rects n ∷ []) ∷ []) c ≡ part_at parts c)) ⊎ ((c ≡ length parts) × (part_at (parts ++ (rect_at rects n ∷ []) ∷ []) c ≡ rect_at rects n ∷ []))
            → (0 < length (part_at (parts ++ (rect_at rects n ∷ []) ∷ []) c)) × (rect_at (part_at (parts ++ (rect_at rects n ∷ []) ∷ []) c) 0 ≡ rect_at rects (number_at roots c))
        first c (inl h) = subst (λ p. (0 < length p) × (rect_at p 0 ≡ rect_at rects (number_at roots c))) (sym h.1) (far.first c h.0)
        first c (inr h) =
            subst (λ p. (0 < length p) × (rect_at p 0 ≡ rect_at rects (number_at roots c))) (sym h.1)
            (omega arith, ap (rect_at rects) (sym root ∙ ap (number_at roots) (sym (h.0 ∙ last))))

pub none_placed : (rects : List Rect) (labels roots : List ℕ) → ArePlaced rects labels roots 0 []
none_placed rects labels roots = record {
  members = λ c below. absurd (omega (arith, below));
  covers = λ x y. refl;
  few = omega arith;
  opened = λ c below less. absurd (omega (arith, less));
  has = λ i less. absurd (omega (arith, less));
  first = λ c below. absurd (omega (arith, below));
}

pub all_placed : (rects : List Rect) (labels roots : List ℕ) (n : ℕ) (parts : List (List Rect)) → AreCanonical rects → All (IsRectWithin mask_limit) rects → AreLabels rects labels roots
    → n ≡ length rects → ArePlaced rects labels roots n parts → ArePartsOf rects parts
all_placed rects labels roots n parts canonical within are all far = record {
  canonical = All-from_get_or AreCanonical parts [] (λ c below. canonical-part c below);
  within = All-from_get_or (All (IsRectWithin mask_limit)) parts [] (λ c below. near c below);
  covers = λ x y. far.covers x y ∙ ap (λ l. cover l x y) (take_all n rects (omega (arith, all)));
  some = All-from_get_or (λ part. 0 < length part) parts [] (λ c below. (far.first c below).0);
  components = All-from_get_or (λ part. IsComponent (cover rects) (cover part)) parts []
      (λ c below. part-is rects labels roots c (part_at parts c) canonical are (let few = far.few in omega (arith, few, below)) (labelled c below));
  sorted = λ c d e less below. sorted c d e less below;
}
  where
    canonical-part : (c : ℕ) → c < length parts → AreCanonical (part_at parts c)
    canonical-part c below =
        let sub = far.members c below in
        record {
          solid = λ k d k_below. (let h = sub.from k k_below in let a = h.1 in
              subst IsSolid (sym (sym (rect-default (part_at parts c) k d k_below) ∙ h.3)) (canonical.solid h.0 zero_rect (omega (arith, a, all))));
          pairs = sub.pairs;
        }

    near : (c : ℕ) → c < length parts → All (IsRectWithin mask_limit) (part_at parts c)
    near c below k d k_below =
        let sub = far.members c below in
        let h = sub.from k k_below in let a = h.1 in
        subst (IsRectWithin mask_limit) (sym (sym (rect-default (part_at parts c) k d k_below) ∙ h.3)) (within h.0 zero_rect (omega (arith, a, all)))

    labelled : (c : ℕ) → c < length parts → HasLabel rects labels c (part_at parts c)
    labelled c below = record {
      from = λ k k_below. (let h = (far.members c below).from k k_below in let a = h.1 in (h.0, omega (arith, a, all), h.2, h.3));
      all = λ i i_below e. subst (λ l. Contains (part_at parts l) (rect_at rects i)) e (far.has i (omega (arith, i_below, all))).1;
    }

    sorted : (c d : ℕ) (e : List Rect) → c < d → d < length parts → StartsBefore (rect_at (get_or parts c e) 0) (rect_at (get_or parts d e) 0)
    sorted c d e less below =
        let c_below : c < length parts = omega (arith, less, below) in
        let few = far.few in
        let rise : number_at roots c < number_at roots d = are.rising c d 0 less (omega (arith, few, below)) in
        let first = (far.first c c_below).1 in
        let second = (far.first d below).1 in
        let last = (are.own d (omega (arith, few, below))).0 in
        subst (λ p. StartsBefore (rect_at p 0) (rect_at (get_or parts d e) 0)) (get_or_default parts c [] e c_below)
        (subst (λ q. StartsBefore (rect_at (part_at parts c) 0) (rect_at q 0)) (get_or_default parts d [] e below)
        (subst (λ r. StartsBefore r (rect_at (part_at parts d) 0)) (sym first)
        (subst (StartsBefore (rect_at rects (number_at roots c))) (sym second) (canonical.pairs (number_at roots c) (number_at roots d) zero_rect rise last).sorted)))

rects-set : (rows : List (Vec Rect Global)) (i : ℕ) (row : Vec Rect Global) → rect_lists (set rows i row) ≡ set (rect_lists rows) i row.items
rects-set [] i row = refl
rects-set (r ∷ rows) zero row = refl
rects-set (r ∷ rows) (suc i) row = ap (λ l. r.items ∷ l) (rects-set rows i row)

-- a rectangle is added to a part
pub placed_in : (rows : List (Vec Rect Global)) (label : ℕ) (rect : Rect) (row new : Vec Rect Global) → label < length rows → row ≡ get_or rows label row
    → new.items ≡ row.items ++ rect ∷ [] → rect_lists (set rows label new) ≡ placed (rect_lists rows) label rect
placed_in rows label rect row new below is pushed =
    let many : length (rect_lists rows) ≡ length rows = length-map rows (λ v. v.items) in
    let inside : label < length (rect_lists rows) = omega arith in
    let test : nat_lt label (length (rect_lists rows)) ≡ true = (Decides-ltb label (length (rect_lists rows))).1 inside in
    let part : row.items ≡ part_at (rect_lists rows) label =
    ap (λ (v : Vec Rect Global). v.items) is ∙ sym (get_or-map (λ (v : Vec Rect Global). v.items) rows label row [] below) in
    rects-set rows label new ∙ ap (set (rect_lists rows) label) (pushed ∙ ap (λ l. l ++ rect ∷ []) part)
    ∙ sym (ap (λ t. if t then set (rect_lists rows) label (part_at (rect_lists rows) label ++ rect ∷ []) else rect_lists rows ++ (rect ∷ []) ∷ []) test)
