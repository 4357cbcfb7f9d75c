-- What is left after a first record: the records that may follow it, and no others.
use Rattle.std.proofs.Common.{◌≡◌, ℕ, ◌==◌, ◌&&◌, ◌||◌, Bool, true, false, refl, List, [], ◌∷◌, ◌++◌, Some, None, ◌⊎◌, inl, inr, ap, sym, ◌∙◌}
use Rattle.std.specs.Prelude.{if◌then◌else◌}
use Rattle.std.proofs.lemmas.Bool.{eqb-true, eq-eqb}
use Rattle.std.proofs.Math.Bool.{or-true}
use Rattle.std.proofs.lemmas.List.Concat.{flat_map-cons}
use Rattle.gds_records.specs.Records.{StreamRecord}
use Rattle.gds_model.specs.declared.record_kind.RecordKind.{RecordKind}
use Rattle.gds_model.specs.RecordKind.{code_of}
use Rattle.gds_model.specs.Grammar.{Grammar, never, empty, one, ◌⨾◌, ◌∣◌, optional, many, Content, Tree, records_of, Spells}
use Rattle.gds_library.specs.Derivative.{after, can_be_empty, sequence, either}

sequence-split : (g h : Grammar) (rs : List StreamRecord) → Spells (sequence g h) rs → Spells (g ⨾ h) rs
sequence-split never h rs s = absurd s.0
sequence-split empty h rs s = ((tt, s.0), s.1)
sequence-split g h rs s = s

sequence-join : (g h : Grammar) (rs : List StreamRecord) → Spells (g ⨾ h) rs → Spells (sequence g h) rs
sequence-join never h rs s = absurd s.0.0
sequence-join empty h rs s = (s.0.1, s.1)
sequence-join g h rs s = s

either-left : (g h : Grammar) (rs : List StreamRecord) → Spells g rs → Spells (either g h) rs
either-left never h rs s = absurd s.0
either-left g never rs s = s
either-left g h rs s = (inl s.0, s.1)

either-right : (g h : Grammar) (rs : List StreamRecord) → Spells h rs → Spells (either g h) rs
either-right never h rs s = s
either-right g never rs s = absurd s.0
either-right g h rs s = (inr s.0, s.1)

-- a choice that is spelled is spelled on one of its sides
choice_cases : (g h : Grammar) (rs : List StreamRecord) (t : Tree g ⊎ Tree h) → records_of (g ∣ h) t ≡ rs → Spells g rs ⊎ Spells h rs
choice_cases g h rs (inl t) e = inl (t, e)
choice_cases g h rs (inr t) e = inr (t, e)

either-cases : (g h : Grammar) (rs : List StreamRecord) → Spells (either g h) rs → Spells g rs ⊎ Spells h rs
either-cases never h rs s = inr s
either-cases g never rs s = inl s
either-cases g h rs s = choice_cases g h rs s.0 s.1

-- the parts of a test
pub both_true : (a b : Bool) → (a && b) ≡ true → (a ≡ true) × (b ≡ true)
both_true true true e = (refl, refl)
both_true true false e = cc
both_true false b e = cc

one_true : (a b : Bool) → (a || b) ≡ true → (a ≡ true) ⊎ (b ≡ true)
one_true true b e = inl refl
one_true false b e = inr e

pub empty_spelled : (g : Grammar) → can_be_empty g ≡ true → Spells g []
empty_spelled never e = cc
empty_spelled empty e = (tt, refl)
empty_spelled (one k) e = cc
empty_spelled (g ⨾ h) e =
    let parts = both_true (can_be_empty g) (can_be_empty h) e in
    let left = empty_spelled g parts.0 in
    let right = empty_spelled h parts.1 in
    ((left.0, right.0), ap (λ xs. xs ++ records_of h right.0) left.1 ∙ right.1)
empty_spelled (g ∣ h) e =
    elim (one_true (can_be_empty g) (can_be_empty h) e) [
      | inl p ↦ let s = empty_spelled g p in (inl s.0, s.1)
      | inr p ↦ let s = empty_spelled h p in (inr s.0, s.1)
    ]
empty_spelled (optional g) e = (None, refl)
empty_spelled (many g) e = ([], refl)

-- a record, as a first one
abbrev pub entry : ℕ → Content → StreamRecord
entry c t = record { offset = t.offset; code = c; body = t.body }

when-sound : (b : Bool) (g : Grammar) (rs : List StreamRecord) → Spells (if b then g else never) rs → (b ≡ true) × Spells g rs
when-sound true g rs s = (refl, s)
when-sound false g rs s = absurd s.0

when-complete : (b : Bool) (g : Grammar) (rs : List StreamRecord) → b ≡ true → Spells g rs → Spells (if b then g else never) rs
when-complete true g rs e s = s
when-complete false g rs e s = cc

-- What is left, after a record with this code, is spelled by what may follow it.
pub after-sound : (c : ℕ) (t : Content) (g : Grammar) (rs : List StreamRecord) → Spells (after c g) rs → Spells g (entry c t ∷ rs)
after-sound c t never rs s = absurd s.0
after-sound c t empty rs s = absurd s.0
after-sound c t (one k) rs s =
    let test = when-sound (c == code_of k) empty rs s in
    let same : c ≡ code_of k = eqb-true c (code_of k) test.0 in
    (t, ap (λ n. entry n t ∷ []) (sym same) ∙ ap (λ l. entry c t ∷ l) test.1.1)
after-sound c t (g ⨾ h) rs s =
    elim (either-cases (sequence (after c g) h) (if can_be_empty g then after c h else never) rs s) [
      | inl p ↦
          let q = sequence-split (after c g) h rs p in
          let left = after-sound c t g (records_of (after c g) q.0.0) (q.0.0, refl) in
          ((left.0, q.0.1), ap (λ xs. xs ++ records_of h q.0.1) left.1 ∙ ap (λ l. entry c t ∷ l) q.1)
      | inr p ↦
          let q = when-sound (can_be_empty g) (after c h) rs p in
          let nothing = empty_spelled g q.0 in
          let right = after-sound c t h rs q.1 in
          ((nothing.0, right.0), ap (λ xs. xs ++ records_of h right.0) nothing.1 ∙ right.1)
    ]
after-sound c t (g ∣ h) rs s =
    elim (either-cases (after c g) (after c h) rs s) [
      | inl p ↦ let q = after-sound c t g rs p in (inl q.0, q.1)
      | inr p ↦ let q = after-sound c t h rs p in (inr q.0, q.1)
    ]
after-sound c t (optional g) rs s = let q = after-sound c t g rs s in (Some q.0, q.1)
after-sound c t (many g) rs s =
    let q = sequence-split (after c g) (many g) rs s in
    let first = after-sound c t g (records_of (after c g) q.0.0) (q.0.0, refl) in
    (first.0 ∷ q.0.1, flat_map-cons (λ u. records_of g u) first.0 q.0.1 ∙ ap (λ xs. xs ++ records_of (many g) q.0.1) first.1 ∙ ap (λ l. entry c t ∷ l) q.1)

append_nothing : {A : Type 0} (xs ys : List A) → xs ++ ys ≡ [] → (xs ≡ []) × (ys ≡ [])
append_nothing [] ys e = (refl, e)
append_nothing (x ∷ xs) ys e = cc

pub spells_nothing : (g : Grammar) (t : Tree g) → records_of g t ≡ [] → can_be_empty g ≡ true
spells_nothing never t e = absurd t
spells_nothing empty t e = refl
spells_nothing (one k) t e = cc
spells_nothing (g ⨾ h) t e =
    let parts = append_nothing (records_of g t.0) (records_of h t.1) e in
    let left = spells_nothing g t.0 parts.0 in
    let right = spells_nothing h t.1 parts.1 in
    rw (left, right) refl
spells_nothing (g ∣ h) (inl t) e = let left = spells_nothing g t e in rw left refl
spells_nothing (g ∣ h) (inr t) e = let right = spells_nothing h t e in rw right (or-true (can_be_empty g))
spells_nothing (optional g) t e = refl
spells_nothing (many g) t e = refl

-- where the first record of two lists stands
append_first : {A : Type 0} (xs ys : List A) (r : A) (rs : List A) → xs ++ ys ≡ r ∷ rs
    → ((xs ≡ []) × (ys ≡ r ∷ rs)) ⊎ ((more : List A) × (xs ≡ r ∷ more) × (more ++ ys ≡ rs))
append_first [] ys r rs e = inl (refl, e)
append_first (x ∷ xs) ys r rs e =
    let head : x ≡ r = cc in
    let tail : xs ++ ys ≡ rs = cc in
    inr (xs, ap (λ y. y ∷ xs) head, tail)

one-complete : (k : RecordKind) (t : Content) (r : StreamRecord) (rs : List StreamRecord)
    → entry (code_of k) t ∷ [] ≡ r ∷ rs → Spells (after r.code (one k)) rs
one-complete k t r rs e =
    let same : entry (code_of k) t ≡ r = cc in
    let nothing : [] ≡ rs = cc in
    when-complete (r.code == code_of k) empty rs (eq-eqb r.code (code_of k) (sym (ap (λ x. x.code) same))) (tt, nothing)

many-complete : (g : Grammar) → ((t : Tree g) (r : StreamRecord) (rs : List StreamRecord) → records_of g t ≡ r ∷ rs → Spells (after r.code g) rs)
    → (ts : List (Tree g)) (r : StreamRecord) (rs : List StreamRecord) → records_of (many g) ts ≡ r ∷ rs → Spells (after r.code (many g)) rs
many-complete g ih [] r rs e = cc
many-complete g ih (t ∷ ts) r rs e =
    elim (append_first (records_of g t) (records_of (many g) ts) r rs (sym (flat_map-cons (λ u. records_of g u) t ts) ∙ e)) [
      | inl p ↦ many-complete g ih ts r rs p.1
      | inr p ↦
          let first = ih t r p.0 p.1 in
          sequence-join (after r.code g) (many g) rs
          ((first.0, ts), ap (λ xs. xs ++ records_of (many g) ts) first.1 ∙ p.2)
    ]

-- What may follow a first record is spelled by what is left after it.
pub after-complete : (g : Grammar) (t : Tree g) (r : StreamRecord) (rs : List StreamRecord) → records_of g t ≡ r ∷ rs → Spells (after r.code g) rs
after-complete never t r rs e = absurd t
after-complete empty t r rs e = cc
after-complete (one k) t r rs e = one-complete k t r rs e
after-complete (g ⨾ h) t r rs e =
    elim (append_first (records_of g t.0) (records_of h t.1) r rs e) [
      | inl p ↦
          either-right (sequence (after r.code g) h) (if can_be_empty g then after r.code h else never) rs
          (when-complete (can_be_empty g) (after r.code h) rs (spells_nothing g t.0 p.0) (after-complete h t.1 r rs p.1))
      | inr p ↦
          let first = after-complete g t.0 r p.0 p.1 in
          either-left (sequence (after r.code g) h) (if can_be_empty g then after r.code h else never) rs
          (sequence-join (after r.code g) h rs
          ((first.0, t.1), ap (λ xs. xs ++ records_of h t.1) first.1 ∙ p.2))
    ]
after-complete (g ∣ h) (inl t) r rs e = either-left (after r.code g) (after r.code h) rs (after-complete g t r rs e)
after-complete (g ∣ h) (inr t) r rs e = either-right (after r.code g) (after r.code h) rs (after-complete h t r rs e)
after-complete (optional g) None r rs e = cc
after-complete (optional g) (Some t) r rs e = after-complete g t r rs e
after-complete (many g) ts r rs e = many-complete g (λ t r rs e. after-complete g t r rs e) ts r rs e
