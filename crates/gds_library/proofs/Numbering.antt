-- Names with numbers: what a look-up finds, and what a new name changes.
use Rattle.std.proofs.Common.{◌≡◌, ◌≢◌, ℕ, ◌+◌, ◌<◌, ◌==◌, Bool, true, false, cond, refl, Option, Some, None, List, [], ◌∷◌, ◌++◌, length, map, ap, sym, ◌∙◌, subst, inl, inr, arith}
use Rattle.std.specs.Prelude.{slice_get, get_or, is_some, unwrap_or, All, IfSome}
use Rattle.std.specs.Global.{Vec}
use Rattle.std.specs.List.{range_with_len}
use Rattle.std.specs.Ordering.{is_eq, nat_cmp, match_ordering}
use Rattle.std.specs.declared.cmp.Ordering.{Ordering}
use Rattle.std.specs.declared.cmp.Ordering.TheVariants.{Less, Equal, Greater}
use Rattle.std.specs.Cmp.Lexicographic.{slice_cmp, same_text}
use Rattle.std.specs.Map.{values_of}
use Rattle.std.specs.BTreeMap.{insert_entry}
use Rattle.std.proofs.lemmas.Bool.{cases_Bool, cond-true, cond-false, eq-eqb, ne_eqb, false≢true, cases_eq}
use Rattle.std.proofs.lemmas.Cmp.{nat_list_eq_equiv}
use Rattle.std.proofs.lemmas.Option.{none-some, slice_get-get_or}
use Rattle.std.proofs.lemmas.List.{ext_get_or}
use Rattle.std.proofs.lemmas.List.FromFn.{get_or-map-range_with_len, length-map-range_with_len, map-range_with_len_more}
use Rattle.std.proofs.lemmas.List.Elements.{All-head, All-tail, All-weaker}
use Rattle.std.proofs.lemmas.Map.Text.{is_eq-slice_cmp}
use Rattle.std.proofs.lemmas.Map.Views.{All-values-insert_entry}
use Rattle.gds_library.specs.Texts.{has_name}
use Rattle.gds_library.specs.NameNumbers.{number_in, name_at, in_order, AreNumbered}
use Rattle.gds_library.proofs.NameSets.{has_name-Contains, Contains-has_name}

-- the order of names
abbrev pub by_name : Vec ℕ → Vec ℕ → Ordering
by_name x y = slice_cmp nat_cmp x.items y.items

-- whether two names are one
abbrev pub is_name : List ℕ → List ℕ → Bool
is_name x y = is_eq (slice_cmp nat_cmp x y)

same_name : (x y : List ℕ) → is_name x y ≡ true → x ≡ y
same_name x y test = same_text x y (sym test ∙ is_eq-slice_cmp x y)

name_itself : (x : List ℕ) → is_name x x ≡ true
name_itself x = is_eq-slice_cmp x x ∙ nat_list_eq_equiv.refl x

-- a number that is found is one of the numbers
number_below-step : (b : Bool) (first : ℕ) (rest : Option ℕ) (i n : ℕ) → first < n → (rest ≡ Some i → i < n) → cond b (Some first) rest ≡ Some i → i < n
number_below-step true first rest i n below later found =
    let same : first ≡ i = ap (λ o. unwrap_or o 0) found in
    subst (λ j. j < n) same below
number_below-step false first rest i n below later found = later found

pub number_below : (es : List (Vec ℕ × ℕ)) (name : List ℕ) (i n : ℕ) → All (λ j. j < n) (values_of es) → number_in es name ≡ Some i → i < n
number_below [] name i n below found = absurd (none-some i found)
number_below (e ∷ es) name i n below found =
    number_below-step (is_name name e.0.items) e.1 (number_in es name) i n (All-head (λ j. j < n) e.1 (values_of es) below)
    (λ later. number_below es name i n (All-tail (λ j. j < n) e.1 (values_of es) below) later) found

-- two choices that exclude each other come in either order
exchanged : {A : Type 0} (a b : Bool) (x y z : A) → (a ≡ true → b ≡ true → ⊥) → cond a x (cond b y z) ≡ cond b y (cond a x z)
exchanged true true x y z apart = absurd (apart refl refl)
exchanged true false x y z apart = refl
exchanged false b x y z apart = refl

-- a new name k with the number n
module _ (k : Vec ℕ) (n : ℕ) where
  -- it stands below, and not at, a name that is greater
  apart : (e : Vec ℕ) (name : List ℕ) → by_name k e ≡ Greater → is_name name e.items ≡ true → is_name name k.items ≡ true → ⊥
  apart e name greater at_e at_k =
      false≢true
      (sym (ap is_eq greater) ∙ ap (λ l. is_name l e.items) (sym (same_name name k.items at_k)) ∙ at_e)

  -- only this name gets the number
  number_new-step : (o : Ordering) (e : Vec ℕ × ℕ) (es : List (Vec ℕ × ℕ)) (name : List ℕ) → by_name k e.0 ≡ o
      → cond (is_eq o) (Some e.1) (number_in es k.items) ≡ None
      → (number_in es k.items ≡ None → number_in (insert_entry by_name es k n) name ≡ cond (is_name name k.items) (Some n) (number_in es name))
      → number_in (match_ordering o ((k, n) ∷ e ∷ es) ((e.0, n) ∷ es) (e ∷ insert_entry by_name es k n)) name
      ≡ cond (is_name name k.items) (Some n) (number_in (e ∷ es) name)
  number_new-step Less e es name is absent rest = refl
  number_new-step Equal e es name is absent rest = absurd (none-some e.1 (sym absent))
  number_new-step Greater e es name is absent rest =
      ap (λ o. cond (is_name name e.0.items) (Some e.1) o) (rest absent)
      ∙ exchanged (is_name name e.0.items) (is_name name k.items) (Some e.1) (Some n) (number_in es name) (apart e.0 name is)

  pub number_new : (es : List (Vec ℕ × ℕ)) (name : List ℕ) → number_in es k.items ≡ None
      → number_in (insert_entry by_name es k n) name ≡ cond (is_name name k.items) (Some n) (number_in es name)
  number_new [] name absent = refl
  number_new (e ∷ es) name absent = number_new-step (by_name k e.0) e es name refl absent (number_new es name)

  -- the number gives the name
  name_new-step : (o : Ordering) (e : Vec ℕ × ℕ) (es : List (Vec ℕ × ℕ)) → e.1 < n
      → cond (is_eq o) (Some e.1) (number_in es k.items) ≡ None
      → (number_in es k.items ≡ None → name_at (insert_entry by_name es k n) n ≡ k.items)
      → name_at (match_ordering o ((k, n) ∷ e ∷ es) ((e.0, n) ∷ es) (e ∷ insert_entry by_name es k n)) n ≡ k.items
  name_new-step Less e es below absent rest = cond-true (n == n) k.items (name_at (e ∷ es) n) (eq-eqb n n refl)
  name_new-step Equal e es below absent rest = absurd (none-some e.1 (sym absent))
  name_new-step Greater e es below absent rest =
      cond-false (e.1 == n) e.0.items (name_at (insert_entry by_name es k n) n) (ne_eqb e.1 n (λ same. omega (arith, same, below))) ∙ rest absent

  pub name_new : (es : List (Vec ℕ × ℕ)) → All (λ j. j < n) (values_of es) → number_in es k.items ≡ None
      → name_at (insert_entry by_name es k n) n ≡ k.items
  name_new [] below absent = cond-true (n == n) k.items [] (eq-eqb n n refl)
  name_new (e ∷ es) below absent =
      name_new-step (by_name k e.0) e es (All-head (λ j. j < n) e.1 (values_of es) below) absent
      (name_new es (All-tail (λ j. j < n) e.1 (values_of es) below))

  -- the other numbers give the names that they gave
  name_other-step : (o : Ordering) (e : Vec ℕ × ℕ) (es : List (Vec ℕ × ℕ)) (i : ℕ) → i ≢ n
      → cond (is_eq o) (Some e.1) (number_in es k.items) ≡ None
      → (number_in es k.items ≡ None → name_at (insert_entry by_name es k n) i ≡ name_at es i)
      → name_at (match_ordering o ((k, n) ∷ e ∷ es) ((e.0, n) ∷ es) (e ∷ insert_entry by_name es k n)) i ≡ name_at (e ∷ es) i
  name_other-step Less e es i other absent rest = cond-false (n == i) k.items (name_at (e ∷ es) i) (ne_eqb n i (λ same. other (sym same)))
  name_other-step Equal e es i other absent rest = absurd (none-some e.1 (sym absent))
  name_other-step Greater e es i other absent rest = ap (λ l. cond (e.1 == i) e.0.items l) (rest absent)

  pub name_other : (es : List (Vec ℕ × ℕ)) (i : ℕ) → i ≢ n → number_in es k.items ≡ None → name_at (insert_entry by_name es k n) i ≡ name_at es i
  name_other [] i other absent = cond-false (n == i) k.items [] (ne_eqb n i (λ same. other (sym same)))
  name_other (e ∷ es) i other absent = name_other-step (by_name k e.0) e es i other absent (name_other es i other)

-- the names in order, with a new one
pub in_order-new : (es : List (Vec ℕ × ℕ)) (k : Vec ℕ) → AreNumbered es → number_in es k.items ≡ None
    → length (insert_entry by_name es k (length es)) ≡ length es + 1
    → in_order (insert_entry by_name es k (length es)) ≡ in_order es ++ k.items ∷ []
in_order-new es k numbered absent more =
    let n = length es in
    let new = insert_entry by_name es k n in
    let before : map (name_at new) (range_with_len 0 n) ≡ in_order es =
    ext_get_or [] (map (name_at new) (range_with_len 0 n)) (in_order es)
    (length-map-range_with_len (name_at new) 0 n ∙ sym (length-map-range_with_len (name_at es) 0 n))
    (λ i within.
    let below : i < n = subst (λ m. i < m) (length-map-range_with_len (name_at new) 0 n) within in
    get_or-map-range_with_len (name_at new) 0 n i i [] below (omega arith)
    ∙ name_other k n es i (λ same. omega (arith, same, below)) absent
    ∙ sym (get_or-map-range_with_len (name_at es) 0 n i i [] below (omega arith))) in
    ap (λ m. map (name_at new) (range_with_len 0 m)) more
    ∙ map-range_with_len_more (name_at new) 0 n n (omega arith)
    ∙ ap (λ l. l ++ name_at new n ∷ []) before
    ∙ ap (λ name. in_order es ++ name ∷ []) (name_new k n es numbered.below absent)

-- a new name is numbered as the others are
found-new : (es : List (Vec ℕ × ℕ)) (k : Vec ℕ) (name : List ℕ) (i : ℕ) → AreNumbered es → number_in es k.items ≡ None
    → number_in (insert_entry by_name es k (length es)) name ≡ Some i → name_at (insert_entry by_name es k (length es)) i ≡ name
found-new es k name i numbered absent found =
    let n = length es in
    let new = insert_entry by_name es k n in
    let chosen : cond (is_name name k.items) (Some n) (number_in es name) ≡ Some i = sym (number_new k n es name absent) ∙ found in
    elim (cases_Bool (is_name name k.items)) [
      | inl this ↦
          let last : n ≡ i = ap (λ o. unwrap_or o 0) (sym (cond-true (is_name name k.items) (Some n) (number_in es name) this) ∙ chosen) in
          ap (name_at new) (sym last) ∙ name_new k n es numbered.below absent ∙ sym (same_name name k.items this)
      | inr other ↦
          let old : number_in es name ≡ Some i = sym (cond-false (is_name name k.items) (Some n) (number_in es name) other) ∙ chosen in
          let below : i < n = number_below es name i n numbered.below old in
          name_other k n es i (λ same. omega (arith, same, below)) absent ∙ numbered.found name i old
    ]

all-new : (es : List (Vec ℕ × ℕ)) (k : Vec ℕ) (i : ℕ) → AreNumbered es → number_in es k.items ≡ None → i < length es + 1
    → number_in (insert_entry by_name es k (length es)) (name_at (insert_entry by_name es k (length es)) i) ≡ Some i
all-new es k i numbered absent within =
    let n = length es in
    let new = insert_entry by_name es k n in
    elim (cases_eq i n) [
      | inl last ↦
          let named : name_at new i ≡ k.items = ap (name_at new) last ∙ name_new k n es numbered.below absent in
          ap (number_in new) named ∙ number_new k n es k.items absent
          ∙ cond-true (is_name k.items k.items) (Some n) (number_in es k.items) (name_itself k.items) ∙ ap (λ m. Some m) (sym last)
      | inr other ↦
          let below : i < n = omega (arith, within, other) in
          let named : name_at new i ≡ name_at es i = name_other k n es i other absent in
          let old : number_in es (name_at es i) ≡ Some i = numbered.all i below in
          ap (number_in new) named ∙ number_new k n es (name_at es i) absent
          ∙ elim (cases_Bool (is_name (name_at es i) k.items)) [
            | inl this ↦
                absurd (none-some i (sym absent ∙ ap (number_in es) (sym (same_name (name_at es i) k.items this)) ∙ old))
            | inr apart ↦ cond-false (is_name (name_at es i) k.items) (Some n) (number_in es (name_at es i)) apart ∙ old
          ]
    ]

pub AreNumbered-new : (es : List (Vec ℕ × ℕ)) (k : Vec ℕ) → AreNumbered es → number_in es k.items ≡ None
    → length (insert_entry by_name es k (length es)) ≡ length es + 1 → AreNumbered (insert_entry by_name es k (length es))
AreNumbered-new es k numbered absent more = record {
  below =
      let n = length es in
      let wider : All (λ j. j < n + 1) (values_of es) =
      All-weaker (λ j. j < n) (λ j. j < n + 1) (λ j below. omega (arith, below)) (values_of es) numbered.below in
      subst (λ m. All (λ j. j < m) (values_of (insert_entry by_name es k n))) (sym more)
      (All-values-insert_entry by_name k n (λ j. j < n + 1) es wider (omega arith));
  found = λ name i found. found-new es k name i numbered absent found;
  all = λ i within. all-new es k i numbered absent (subst (λ m. i < m) more within);
}

-- what a search for a name finds
at_number : (es : List (Vec ℕ × ℕ)) (i : ℕ) (d : List ℕ) → i < length es → get_or (in_order es) i d ≡ name_at es i
at_number es i d within = get_or-map-range_with_len (name_at es) 0 (length es) i i d within (omega arith)

within_order : (es : List (Vec ℕ × ℕ)) (i : ℕ) → i < length es → i < length (in_order es)
within_order es i within = subst (λ m. i < m) (sym (length-map-range_with_len (name_at es) 0 (length es))) within

pub named_at : (es : List (Vec ℕ × ℕ)) (name : List ℕ) (i : ℕ) → AreNumbered es → number_in es name ≡ Some i
    → slice_get (in_order es) i ≡ Some name
named_at es name i numbered found =
    let within : i < length es = number_below es name i (length es) numbered.below found in
    slice_get-get_or (in_order es) i [] (within_order es i within)
    ∙ ap (λ l. Some l) (at_number es i [] within ∙ numbered.found name i found)

pub found_at : (o : Option ℕ) (es : List (Vec ℕ × ℕ)) (name : List ℕ) (names : List (List ℕ)) → AreNumbered es → in_order es ≡ names
    → o ≡ number_in es name → IfSome o (λ i. slice_get names i ≡ Some name)
found_at (Some i) es name names numbered same is = ap (λ l. slice_get l i) (sym same) ∙ named_at es name i numbered (sym is)
found_at None es name names numbered same is = tt

has_name-step : (o : Option ℕ) (es : List (Vec ℕ × ℕ)) (name : List ℕ) → AreNumbered es → number_in es name ≡ o
    → has_name (in_order es) name ≡ is_some o
has_name-step (Some i) es name numbered found =
    let within : i < length es = number_below es name i (length es) numbered.below found in
    Contains-has_name (in_order es) name (i, within_order es i within, at_number es i name within ∙ numbered.found name i found)
has_name-step None es name numbered missing =
    elim (cases_Bool (has_name (in_order es) name)) [
      | inl has ↦
          let there = has_name-Contains (in_order es) name has in
          let within : there.0 < length es = subst (λ m. there.0 < m) (length-map-range_with_len (name_at es) 0 (length es)) there.1 in
          let named : name_at es there.0 ≡ name = sym (at_number es there.0 name within) ∙ there.2 in
          absurd (none-some there.0 (sym missing ∙ ap (number_in es) (sym named) ∙ numbered.all there.0 within))
      | inr not ↦ not
    ]

pub has_name-number : (es : List (Vec ℕ × ℕ)) (name : List ℕ) → AreNumbered es → has_name (in_order es) name ≡ is_some (number_in es name)
has_name-number es name numbered = has_name-step (number_in es name) es name numbered refl

-- a name that none of them has
absent-step : (o : Option ℕ) → is_some o ≡ false → o ≡ None
absent-step (Some i) none = absurd (false≢true (sym none))
absent-step None none = refl

pub absent_name : (es : List (Vec ℕ × ℕ)) (name : List ℕ) → AreNumbered es → has_name (in_order es) name ≡ false → number_in es name ≡ None
absent_name es name numbered none = absent-step (number_in es name) (sym (has_name-number es name numbered) ∙ none)
