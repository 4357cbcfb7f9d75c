-- One more record.
use Rattle.std.proofs.Common.{◌≡◌, ◌≢◌, ℕ, ◌+◌, ◌≤◌, ◌<◌, ◌==◌, ◌&&◌, Bool, true, false, cond, refl, List, [], ◌∷◌, ◌++◌, ap, sym, ◌∙◌, subst, inl, inr, arith}
use Rattle.std.proofs.lemmas.Bool.{ne_eqb, eq-eqb, eqb-true, eqb-false, true≢false, cases_Bool, cases_eq}
use Rattle.std.proofs.Math.Bool.{or-false}
use Rattle.std.proofs.lemmas.List.{append-nil}
use Rattle.std.proofs.lemmas.List.Sums.{sum_by-append, fold-append}
use Rattle.std.specs.Prelude.{if◌then◌else◌, nat_le}
use Rattle.std.proofs.lemmas.Bool.Decides.{nat_tests}
use Rattle.std.proofs.lemmas.Grind.{flat_map-append}
use Rattle.std.proofs.lemmas.List.Concat.{flat_map-cons}
use Rattle.gds_records.specs.Records.{StreamRecord, ENDLIB}
use Rattle.gds_model.specs.declared.record_kind.RecordKind.{RecordKind}
use Rattle.gds_model.specs.declared.record_kind.RecordKind.TheVariants.{BgnStr, StrName}
use Rattle.gds_library.specs.declared.state.State.{State}
use Rattle.gds_library.specs.declared.progress.Progress.{Progress}
use Rattle.gds_model.specs.RecordKind.{code_of}
use Rattle.gds_model.specs.Grammar.{Grammar, never, empty, one, ◌⨾◌, ◌∣◌, optional, many, Spells}
use Rattle.gds_model.specs.StreamFile.{library, IsPrefix, IsSentence}
use Rattle.gds_library.specs.Derivative.{after, left, is_possible, can_be_empty}
use Rattle.gds_library.specs.State.{rest_of}
use Rattle.gds_model.specs.Faults.{IsUnexpected, Wrong, unexpected, one_too_many, bad_body, duplicate, IsWrong, rank, structure_count, element_of, names_in, names_of}
use Rattle.gds_model.specs.Body.{fits, body_of_kind, element_code, element_kinds, is_one_of}
use Rattle.gds_library.specs.Progress.{Follows, Passes, Advances, names_read}
use Rattle.gds_library.specs.Texts.{has_name}
use Rattle.gds_library.proofs.NameSets.{has_name-Contains, Contains-has_name}
use Rattle.gds_library.proofs.Firsts.{code_same}
use Rattle.gds_model.specs.Names.{name_of}
use Rattle.gds_library.proofs.Language.{empty_spelled, both_true}
use Rattle.gds_library.proofs.Prefix.{left-append, left-sound, IsPrefix-possible, IsPrefix-never}

after_rest : (c : ℕ) (h : Grammar) (b : Bool) → after c h ≡ never → (if b then after c h else never) ≡ never
after_rest c h true e = e
after_rest c h false e = refl

-- nothing is left after a record that no grammar has
after-unknown : (c : ℕ) → ((k : RecordKind) → code_of k ≢ c) → (g : Grammar) → after c g ≡ never
after-unknown c h never = refl
after-unknown c h empty = refl
after-unknown c h (one k) =
    let other = ne_eqb c (code_of k) (λ e. h k (sym e)) in
    rw other refl
after-unknown c h (g ⨾ i) =
    let first = after-unknown c h g in
    let second = after_rest c i (can_be_empty g) (after-unknown c h i) in
    rw (first, second) refl
after-unknown c h (g ∣ i) =
    let first = after-unknown c h g in
    let second = after-unknown c h i in
    rw (first, second) refl
after-unknown c h (optional g) = after-unknown c h g
after-unknown c h (many g) = let first = after-unknown c h g in rw first refl

-- the count of structures after one more record
pub structure_count-begin : (rs : List StreamRecord) (r : StreamRecord) → r.code ≡ code_of BgnStr → structure_count (rs ++ r ∷ []) ≡ structure_count rs + 1
structure_count-begin rs r e =
    let test = eq-eqb r.code (code_of BgnStr) e in
    sum_by-append (λ (x : StreamRecord). cond (x.code == code_of BgnStr) 1 0) rs (r ∷ []) ∙ ap (λ b. structure_count rs + (0 + cond b 1 0)) test

pub structure_count-other : (rs : List StreamRecord) (r : StreamRecord) → r.code ≢ code_of BgnStr → structure_count (rs ++ r ∷ []) ≡ structure_count rs
structure_count-other rs r e =
    let test = ne_eqb r.code (code_of BgnStr) e in
    let more : structure_count (rs ++ r ∷ []) ≡ structure_count rs + 0 =
    sum_by-append (λ (x : StreamRecord). cond (x.code == code_of BgnStr) 1 0) rs (r ∷ []) ∙ ap (λ b. structure_count rs + (0 + cond b 1 0)) test in
    omega arith

-- the element around the record after one more
pub element_of-more : (rs : List StreamRecord) (r : StreamRecord)
    → element_of (rs ++ r ∷ []) ≡ cond (is_one_of element_kinds r.code) r.code (element_of rs)
element_of-more rs r = fold-append _ 0 rs (r ∷ [])

pub element_of-begin : (rs : List StreamRecord) (r : StreamRecord) → is_one_of element_kinds r.code ≡ true → element_of (rs ++ r ∷ []) ≡ r.code
element_of-begin rs r test = element_of-more rs r ∙ ap (λ b. cond b r.code (element_of rs)) test

pub element_of-other : (rs : List StreamRecord) (r : StreamRecord) → is_one_of element_kinds r.code ≡ false → element_of (rs ++ r ∷ []) ≡ element_of rs
element_of-other rs r test = element_of-more rs r ∙ ap (λ b. cond b r.code (element_of rs)) test

-- the names after one more record
names_of-more : (rs : List StreamRecord) (r : StreamRecord) → names_of (rs ++ r ∷ []) ≡ names_of rs ++ names_in r
names_of-more rs r = flat_map-append names_in rs (r ∷ []) ∙ ap (λ l. names_of rs ++ l) (flat_map-cons names_in r [] ∙ append-nil (names_in r))

-- a test that is one of one kind
one_kind : (k : RecordKind) (code : ℕ) → is_one_of (k ∷ []) code ≡ (code == code_of k)
one_kind k code = or-false (code == code_of k)

module _ (p : Progress) (before : List StreamRecord) (r : StreamRecord) (f : Follows p before) where
  left_next : left library (before ++ r ∷ []) ≡ after r.code (rest_of p.state)
  left_next = left-append library before r ∙ ap (λ g. after r.code g) f.rest

  prefix_before : IsPrefix before
  prefix_before = IsPrefix-possible before (rest_of p.state) f.rest f.possible

  pub unknown : ((k : RecordKind) → code_of k ≢ r.code) → IsUnexpected before r
  unknown h = (prefix_before, IsPrefix-never (before ++ r ∷ []) (left_next ∙ after-unknown r.code h (rest_of p.state)))

  pub no_step : (k : RecordKind) → code_of k ≡ r.code → after (code_of k) (rest_of p.state) ≡ never → IsUnexpected before r
  no_step k same e =
      (prefix_before, IsPrefix-never (before ++ r ∷ []) (left_next ∙ ap (λ c. after c (rest_of p.state)) (sym same) ∙ e))

  left_state : (k : RecordKind) (s : State) → code_of k ≡ r.code → after (code_of k) (rest_of p.state) ≡ rest_of s
      → left library (before ++ r ∷ []) ≡ rest_of s
  left_state k s same e = left_next ∙ ap (λ c. after c (rest_of p.state)) (sym same) ∙ e

  pub expected : (k : RecordKind) (s : State) → code_of k ≡ r.code → after (code_of k) (rest_of p.state) ≡ rest_of s
      → is_possible (rest_of s) ≡ true → ¬ IsUnexpected before r
  expected k s same e possible u =
      u.1 (IsPrefix-possible (before ++ r ∷ []) (rest_of s) (left_state k s same e) possible)

  pub fit_body : (k : RecordKind) → code_of k ≡ r.code → fits (body_of_kind k) (element_code p.element) r.body ≡ true
      → ¬ IsWrong bad_body before r
  fit_body k same fit (j, (other, unfit)) =
      let kinds : j ≡ k = code_same j k (other ∙ sym same) in
      let P : RecordKind → Type 0 = λ i. fits (body_of_kind i) (element_of before) r.body ≡ false in
      let still : fits (body_of_kind k) (element_of before) r.body ≡ true =
      ap (λ e. fits (body_of_kind k) e r.body) (sym f.element) ∙ fit in
      let not_fit : fits (body_of_kind k) (element_of before) r.body ≡ false = subst P kinds unfit in
      true≢false (sym still ∙ not_fit)

  -- where the file may end, the records are a sentence
  sentence : (k : RecordKind) (s : State) → code_of k ≡ r.code → after (code_of k) (rest_of p.state) ≡ rest_of s
      → can_be_empty (rest_of s) ≡ true → IsSentence (before ++ r ∷ [])
  sentence k s same e ends =
      let P : Grammar → Type 0 = λ g. Spells g [] in
      let Q : List StreamRecord → Type 0 = λ rs. IsSentence rs in
      let rest = empty_spelled (rest_of s) ends in
      subst Q (append-nil (before ++ r ∷ []))
      (left-sound library (before ++ r ∷ []) [] (subst P (sym (left_state k s same e)) rest))

  -- what is one too many, bad or a duplicate
  pub one_too_many_is : (k : RecordKind) → code_of k ≡ r.code → (is_one_of (BgnStr ∷ []) (code_of k) && nat_le 65535 p.structures) ≡ true
      → IsWrong one_too_many before r
  one_too_many_is k same test =
      let parts = both_true (is_one_of (BgnStr ∷ []) (code_of k)) (nat_le 65535 p.structures) test in
      let begins : code_of k ≡ code_of BgnStr = eqb-true (code_of k) (code_of BgnStr) (sym (one_kind BgnStr (code_of k)) ∙ parts.0) in
      let many : 65535 ≤ p.structures = grind (arith, nat_tests, parts.1) in
      let count = f.structures in
      let few = f.few in
      (sym same ∙ begins, omega arith)

  pub not_one_too_many : (k : RecordKind) → code_of k ≡ r.code → (is_one_of (BgnStr ∷ []) (code_of k) && nat_le 65535 p.structures) ≡ false
      → ¬ IsWrong one_too_many before r
  not_one_too_many k same test (begins, full) =
      let first : is_one_of (BgnStr ∷ []) (code_of k) ≡ true = one_kind BgnStr (code_of k) ∙ eq-eqb (code_of k) (code_of BgnStr) (same ∙ begins) in
      let count = f.structures in
      let second : nat_le 65535 p.structures ≡ true = grind (arith, nat_tests, count, full) in
      true≢false (sym (ap (λ b. b && nat_le 65535 p.structures) first ∙ second) ∙ test)

  pub bad_body_is : (k : RecordKind) → code_of k ≡ r.code → fits (body_of_kind k) (element_code p.element) r.body ≡ false
      → IsWrong bad_body before r
  bad_body_is k same fit = (k, (same, ap (λ e. fits (body_of_kind k) e r.body) (sym f.element) ∙ fit))

  pub duplicate_is : (k : RecordKind) → code_of k ≡ r.code
      → (is_one_of (StrName ∷ []) (code_of k) && has_name (names_read p) (name_of r.body)) ≡ true → IsWrong duplicate before r
  duplicate_is k same test =
      let parts = both_true (is_one_of (StrName ∷ []) (code_of k)) (has_name (names_read p) (name_of r.body)) test in
      let begins : code_of k ≡ code_of StrName = eqb-true (code_of k) (code_of StrName) (sym (one_kind StrName (code_of k)) ∙ parts.0) in
      (sym same ∙ begins, has_name-Contains (names_of before) (name_of r.body) (ap (λ l. has_name l (name_of r.body)) (sym f.names) ∙ parts.1))

  pub not_duplicate : (k : RecordKind) → code_of k ≡ r.code
      → (is_one_of (StrName ∷ []) (code_of k) && has_name (names_read p) (name_of r.body)) ≡ false → ¬ IsWrong duplicate before r
  not_duplicate k same test (begins, has) =
      let first : is_one_of (StrName ∷ []) (code_of k) ≡ true = one_kind StrName (code_of k) ∙ eq-eqb (code_of k) (code_of StrName) (same ∙ begins) in
      let second : has_name (names_read p) (name_of r.body) ≡ true =
      ap (λ l. has_name l (name_of r.body)) f.names ∙ Contains-has_name (names_of before) (name_of r.body) has in
      true≢false (sym (ap (λ b. b && has_name (names_read p) (name_of r.body)) first ∙ second) ∙ test)

  -- nothing is wrong with the record
  pub passes : (k : RecordKind) (s : State) → code_of k ≡ r.code → after (code_of k) (rest_of p.state) ≡ rest_of s
      → is_possible (rest_of s) ≡ true → can_be_empty (rest_of s) ≡ (code_of k == ENDLIB) → ¬ IsWrong one_too_many before r
      → fits (body_of_kind k) (element_code p.element) r.body ≡ true → ¬ IsWrong duplicate before r → Passes before r p k s
  passes k s same step possible end fewer fit other = record {
    kind_is = same;
    fine = λ w. fine_by_cases (expected k s same step possible) fewer (fit_body k same fit) other w;
    rest = left_state k s same step;
    possible = possible;
    end = λ last. sentence k s same step (end ∙ eq-eqb (code_of k) ENDLIB (same ∙ last));
    fit = fit;
  }
    where
      fine_by_cases : ¬ IsWrong unexpected before r → ¬ IsWrong one_too_many before r → ¬ IsWrong bad_body before r
          → ¬ IsWrong duplicate before r → (w : Wrong) → ¬ IsWrong w before r
      fine_by_cases u m b d unexpected = u
      fine_by_cases u m b d one_too_many = m
      fine_by_cases u m b d bad_body = b
      fine_by_cases u m b d duplicate = d

  -- what comes first at a record
  pub nothing_first : (w : Wrong) → rank w < 0 → ¬ IsWrong w before r
  nothing_first w low = absurd (omega arith)

  pub unexpected_first : ¬ IsWrong unexpected before r → (w : Wrong) → rank w < 1 → ¬ IsWrong w before r
  unexpected_first u unexpected low = u
  unexpected_first u one_too_many low = absurd (omega arith)
  unexpected_first u bad_body low = absurd (omega arith)
  unexpected_first u duplicate low = absurd (omega arith)

  pub two_first : ¬ IsWrong unexpected before r → ¬ IsWrong one_too_many before r → (w : Wrong) → rank w < 2 → ¬ IsWrong w before r
  two_first u m unexpected low = u
  two_first u m one_too_many low = m
  two_first u m bad_body low = absurd (omega arith)
  two_first u m duplicate low = absurd (omega arith)

  pub three_first : ¬ IsWrong unexpected before r → ¬ IsWrong one_too_many before r → ¬ IsWrong bad_body before r
      → (w : Wrong) → rank w < 3 → ¬ IsWrong w before r
  three_first u m b unexpected low = u
  three_first u m b one_too_many low = m
  three_first u m b bad_body low = b
  three_first u m b duplicate low = absurd (omega arith)

  counted : (k : RecordKind) (s : State) (q : Progress) → Passes before r p k s → Advances p k s r.body q
      → (q.structures ≡ structure_count (before ++ r ∷ [])) × (q.structures ≤ 65535)
  counted k s q pass more =
      let was = f.structures in
      let few = f.few in
      let now : q.structures ≡ p.structures + cond (r.code == code_of BgnStr) 1 0 =
      more.structures ∙ ap (λ b. p.structures + cond b 1 0) (one_kind BgnStr (code_of k) ∙ ap (λ c. c == code_of BgnStr) pass.kind_is) in
      elim (cases_Bool (r.code == code_of BgnStr)) [
        | inl begins ↦
            let code = eqb-true r.code (code_of BgnStr) begins in
            let count = structure_count-begin before r code in
            let one : q.structures ≡ p.structures + 1 = now ∙ ap (λ b. p.structures + cond b 1 0) begins in
            elim (cases_eq (structure_count before) 65535) [
              | inl full ↦ absurd (pass.fine one_too_many (code, full))
              | inr room ↦ (omega (arith, count, one, was), omega (arith, room, one, was, few))
            ]
        | inr other ↦
            let count = structure_count-other before r (eqb-false r.code (code_of BgnStr) other) in
            let same : q.structures ≡ p.structures + 0 = now ∙ ap (λ b. p.structures + cond b 1 0) other in
            (omega (arith, count, same, was), omega (arith, same, few))
      ]

  -- after the record is taken, it has been read
  pub follows : (k : RecordKind) (s : State) (q : Progress) → Passes before r p k s → Advances p k s r.body q → Follows q (before ++ r ∷ [])
  follows k s q pass more = record {
    rest = pass.rest ∙ ap rest_of (sym more.state);
    possible = ap (λ t. is_possible (rest_of t)) more.state ∙ pass.possible;
    structures = (counted k s q pass more).0;
    few = (counted k s q pass more).1;
    element =
        more.element ∙ ap (λ c. cond (is_one_of element_kinds c) c (element_code p.element)) pass.kind_is
        ∙ ap (λ c. cond (is_one_of element_kinds r.code) r.code c) f.element ∙ sym (element_of-more before r);
    names =
        more.names ∙ ap (λ l. l ++ cond (is_one_of (StrName ∷ []) (code_of k)) (name_of r.body ∷ []) []) f.names
        ∙ ap (λ b. names_of before ++ cond b (name_of r.body ∷ []) []) (one_kind StrName (code_of k) ∙ ap (λ c. c == code_of StrName) pass.kind_is)
        ∙ sym (names_of-more before r);
  }
