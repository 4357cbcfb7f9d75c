-- What the reader's loop keeps, and where it leads.
use Rattle.std.proofs.Common.{◌≡◌, ◌≢◌, ℕ, ◌≤◌, ◌==◌, ◌&&◌, ◌||◌, Bool, true, false, cond, refl, List, [], ◌∷◌, ◌++◌, length, Some, None, inl, inr, ap, sym, ◌∙◌, subst, append_assoc, arith}
use Rattle.std.proofs.lemmas.Bool.{eq-eqb, ne_eqb, cases_Bool}
use Rattle.std.proofs.lemmas.List.{append-nil}
use Rattle.gds_records.specs.Records.{StreamRecord, record_at, records_from, end_of, stop_after, ENDLIB}
use Rattle.gds_records.proofs.RecordsLemmas.{record_at-end, records_from-some, records_from-none}
use Rattle.gds_model.specs.declared.record_kind.RecordKind.{RecordKind}
use Rattle.gds_model.specs.declared.layout_fault.LayoutFault.{LayoutFault}
use Rattle.gds_library.specs.declared.progress.Progress.{Progress}
use Rattle.gds_library.specs.declared.state.State.{State}
use Rattle.gds_records.specs.declared.library_head.Head.{Head}
use Rattle.gds_model.specs.declared.elements.Structure.{Structure}
use Rattle.gds_model.specs.Grammar.{Tree, records_of}
use Rattle.gds_model.specs.Library.{StreamLibrary, IsLibraryOf, IsLayout, library_of, names as structure_names}
use Rattle.gds_model.proofs.Layouts.{library_names, library_is_layout}
use Rattle.gds_model.specs.Faults.{IsFine, FaultAt, AllFine, FirstFault, has_end, AllZeroFrom, IsTrailingFrom, IsStopFault, IsFaultOf, IsFault, HasNoFault, names_of, duplicate}
use Rattle.gds_model.specs.RecordKind.{code_of}
use Rattle.gds_model.specs.declared.record_kind.RecordKind.TheVariants.{StrName}
use Rattle.gds_model.specs.Names.{name_of}
use Rattle.gds_model.specs.Body.{Body, fits, is_one_of}
use Rattle.gds_model.specs.Body as body_forms
use Rattle.gds_library.specs.Texts.{has_name}
use Rattle.gds_library.specs.OpenElement.{has_size}
use Rattle.gds_model.specs.StreamFile.{library}
use Rattle.gds_library.specs.declared.draft.Draft.{Draft}
use Rattle.gds_library.specs.Progress.{Follows, Passes, Advances, names_read}
use Rattle.gds_library.specs.Gathered.{Gathered, nothing_gathered, with_record, with_records}
use Rattle.gds_library.specs.Draft.{HoldsGathered}
use Rattle.gds_library.proofs.Accepting.{duplicate_is, follows}
use Rattle.gds_library.proofs.Drafting.{with_records-append, library_taken}

AllFine-snoc : (before rs : List StreamRecord) (r : StreamRecord) → AllFine before rs → IsFine (before ++ rs) r → AllFine before (rs ++ r ∷ [])
AllFine-snoc before [] r all fine =
    let P : List StreamRecord → Type 0 = λ l. IsFine l r in
    (subst P (append-nil before) fine, tt)
AllFine-snoc before (s ∷ rs) r all fine =
    let P : List StreamRecord → Type 0 = λ l. IsFine l r in
    (all.0, AllFine-snoc (before ++ s ∷ []) rs r all.1 (subst P (sym (append_assoc before (s ∷ []) rs)) fine))

FirstFault-after : (before rs more : List StreamRecord) (r : StreamRecord) (fault : LayoutFault) → AllFine before rs
    → FaultAt (before ++ rs) r fault → FirstFault before (rs ++ r ∷ more) fault
FirstFault-after before [] more r fault all at =
    let P : List StreamRecord → Type 0 = λ l. FaultAt l r fault in
    inl (subst P (append-nil before) at)
FirstFault-after before (s ∷ rs) more r fault all at =
    let P : List StreamRecord → Type 0 = λ l. FaultAt l r fault in
    inr (all.0, FirstFault-after (before ++ s ∷ []) rs more r fault all.1 (subst P (sym (append_assoc before (s ∷ []) rs)) at))

has_end-first : (first old new b : Bool) → (old ≡ false → new ≡ b) → (first || old) ≡ false → (first || new) ≡ b
has_end-first true old new b h e = cc
has_end-first false old new b h e = h e

has_end-snoc : (rs : List StreamRecord) (r : StreamRecord) (b : Bool) → has_end rs ≡ false → (r.code == ENDLIB) ≡ b → has_end (rs ++ r ∷ []) ≡ b
has_end-snoc [] r true none test = rw test refl
has_end-snoc [] r false none test = rw test refl
has_end-snoc (s ∷ rs) r b none test =
    has_end-first (s.code == ENDLIB) (has_end rs) (has_end (rs ++ r ∷ [])) b (λ e. has_end-snoc rs r b e test) none

stop_after-snoc : (at : ℕ) (rs : List StreamRecord) (r : StreamRecord) → stop_after at (rs ++ r ∷ []) ≡ end_of r
stop_after-snoc at [] r = refl
stop_after-snoc at (s ∷ rs) r = stop_after-snoc (end_of s) rs r

pub record Reading (bytes : List ℕ) (at : ℕ) (progress : Progress) (draft : Draft) : Type 0 where
  pub before : List StreamRecord
  pub follows : Follows progress before
  pub gathered : HoldsGathered draft (with_records nothing_gathered before)
  pub fine : AllFine [] before
  pub within : at ≤ length bytes
  pub stop : stop_after 0 before ≡ at
  pub unended : has_end before ≡ false
  pub rest : records_from bytes 0 ≡ before ++ records_from bytes at

pub at_start : (bytes : List ℕ) (progress : Progress) (draft : Draft) → Follows progress [] → HoldsGathered draft nothing_gathered
    → Reading bytes 0 progress draft
at_start bytes progress draft follows gathered = record {
  before = [];
  follows = follows;
  gathered = gathered;
  fine = tt;
  within = omega arith;
  stop = refl;
  unended = refl;
  rest = refl;
}

-- what has been read when ENDLIB is taken
pub record Ended (bytes : List ℕ) (at : ℕ) (names : List (List ℕ)) (head : Head) (structures : List Structure) : Type 0 where
  pub tree : Tree library
  pub spelled : records_of library tree ≡ records_from bytes 0
  pub head_is : head ≡ (library_of tree).head
  pub structures_are : structures ≡ (library_of tree).structures
  pub names_are : names ≡ names_of (records_of library tree)
  pub fine : AllFine [] (records_of library tree)
  pub stop : stop_after 0 (records_from bytes 0) ≡ at
  pub has_end : has_end (records_from bytes 0) ≡ true

module _ (bytes : List ℕ) (at : ℕ) (progress : Progress) (draft : Draft) (reading : Reading bytes at progress draft) where
  pub stopped : record_at bytes at ≡ None → (fault : LayoutFault) → IsStopFault bytes at fault → IsFault bytes fault
  stopped none fault wrong =
      let all : records_from bytes 0 ≡ reading.before =
      reading.rest ∙ ap (λ l. reading.before ++ l) (records_from-none bytes at none) ∙ append-nil reading.before in
      let P : List StreamRecord → Type 0 = λ rs. IsFaultOf bytes rs fault in
      let Q : ℕ → Type 0 = λ n. IsStopFault bytes n fault in
      subst P (sym all) (inr (reading.fine, inl (reading.unended, subst Q (sym reading.stop) wrong)))

  module _ (r : StreamRecord) (stands : record_at bytes at ≡ Some r) where
    pub faulty : (fault : LayoutFault) → FaultAt reading.before r fault → IsFault bytes fault
    faulty fault wrong =
        let all : records_from bytes 0 ≡ reading.before ++ r ∷ _ =
        reading.rest ∙ ap (λ l. reading.before ++ l) (records_from-some bytes at r stands) in
        let P : List StreamRecord → Type 0 = λ rs. IsFaultOf bytes rs fault in
        subst P (sym all) (inl (FirstFault-after [] reading.before _ r fault reading.fine wrong))

    module _ (p : Progress) (d : Draft) (kind : RecordKind) (state : State) (pass : Passes reading.before r progress kind state)
        (advances : Advances progress kind state r.body p)
        (taken : HoldsGathered d (with_record (with_records nothing_gathered reading.before) r)) where
      gathered_next : HoldsGathered d (with_records nothing_gathered (reading.before ++ r ∷ []))
      gathered_next =
          let P : Gathered → Type 0 = λ g. HoldsGathered d g in
          subst P (sym (with_records-append nothing_gathered reading.before (r ∷ []))) taken

      pub read : r.code ≢ ENDLIB → Reading bytes (end_of r) p d
      read more = record {
        before = reading.before ++ r ∷ [];
        follows = follows progress reading.before r reading.follows kind state p pass advances;
        gathered = gathered_next;
        fine = AllFine-snoc [] reading.before r reading.fine pass.fine;
        within = (record_at-end bytes at r stands).1;
        stop = stop_after-snoc 0 reading.before r;
        unended = has_end-snoc reading.before r false reading.unended (ne_eqb r.code ENDLIB more);
        rest =
            let test = ne_eqb r.code ENDLIB more in
            reading.rest ∙ ap (λ l. reading.before ++ l) (records_from-some bytes at r stands)
            ∙ ap (λ b. reading.before ++ r ∷ (cond b [] (records_from bytes (end_of r)))) test
            ∙ sym (append_assoc reading.before (r ∷ []) (records_from bytes (end_of r)));
      }

      all_read : r.code ≡ ENDLIB → records_from bytes 0 ≡ reading.before ++ r ∷ []
      all_read last =
          let test = eq-eqb r.code ENDLIB last in
          reading.rest ∙ ap (λ l. reading.before ++ l) (records_from-some bytes at r stands)
          ∙ ap (λ b. reading.before ++ r ∷ (cond b [] (records_from bytes (end_of r)))) test

      pub ended : r.code ≡ ENDLIB → Ended bytes (end_of r) (names_read p) d.head d.structures.items
      ended last =
          let sentence = pass.end last in
          let rs = reading.before ++ r ∷ [] in
          let all = all_read last in
          let spelled : records_of library sentence.0 ≡ rs = sentence.1 in
          let same : (with_records nothing_gathered rs).library ≡ library_of sentence.0 =
          ap (λ l. (with_records nothing_gathered l).library) (sym spelled) ∙ library_taken sentence.0 in
          let next = follows progress reading.before r reading.follows kind state p pass advances in
          let P : List StreamRecord → Type 0 = λ l. AllFine [] l in
          record {
            tree = sentence.0;
            spelled = spelled ∙ sym all;
            head_is = gathered_next.head ∙ ap (λ x. x.head) same;
            structures_are = gathered_next.structures ∙ ap (λ x. x.structures) same;
            names_are = next.names ∙ ap names_of (sym spelled);
            fine = subst P (sym spelled) (AllFine-snoc [] reading.before r reading.fine pass.fine);
            stop = ap (λ l. stop_after 0 l) all ∙ stop_after-snoc 0 reading.before r;
            has_end = ap has_end all ∙ has_end-snoc reading.before r true reading.unended (eq-eqb r.code ENDLIB last);
          }

module _ (bytes : List ℕ) (at : ℕ) (names : List (List ℕ)) (head : Head) (structures : List Structure) (end : Ended bytes at names head structures) where
  all_fine : AllFine [] (records_from bytes 0)
  all_fine =
      let P : List StreamRecord → Type 0 = λ l. AllFine [] l in
      subst P end.spelled end.fine

  pub no_fault_there : AllZeroFrom bytes at → HasNoFault bytes
  no_fault_there zeros =
      let Q : ℕ → Type 0 = λ n. AllZeroFrom bytes n in
      (all_fine, end.has_end, subst Q (sym end.stop) zeros)

  pub trailing : (fault : LayoutFault) → IsTrailingFrom bytes at fault → IsFault bytes fault
  trailing fault wrong =
      let Q : ℕ → Type 0 = λ n. IsTrailingFrom bytes n fault in
      inr (all_fine, inr (end.has_end, subst Q (sym end.stop) wrong))

  library_same : record { head = head; structures = structures } ≡ library_of end.tree
  library_same = ap (λ h. record { head = h; structures = structures }) end.head_is ∙ ap (λ s. record { head = (library_of end.tree).head; structures = s }) end.structures_are

  pub library_there : IsLibraryOf bytes (record { head = head; structures = structures })
  library_there = record { tree = end.tree; spelled = end.spelled; same = library_same }

  pub layout_there : IsLayout (record { head = head; structures = structures })
  layout_there =
      let P : StreamLibrary → Type 0 = λ l. IsLayout l in
      subst P (sym library_same) (library_is_layout bytes end.tree end.spelled end.fine)

  pub names_there : names ≡ structure_names structures
  names_there = end.names_are ∙ library_names end.tree ∙ ap structure_names (sym end.structures_are)

-- what a record that passes lets the reader do
pub has_size-fits : (b : Body) (element : ℕ) (body : List ℕ) → fits b element body ≡ true → has_size b body ≡ true
has_size-fits (body_forms.bytes n) element body fit = fit
has_size-fits other element body fit = refl

pub another_name : (p : Progress) (before : List StreamRecord) (r : StreamRecord) (kind : RecordKind) (state : State) → Follows p before
    → Passes before r p kind state → (is_one_of (StrName ∷ []) (code_of kind) && has_name (names_read p) (name_of r.body)) ≡ false
another_name p before r kind state follows pass =
    elim (cases_Bool (is_one_of (StrName ∷ []) (code_of kind) && has_name (names_read p) (name_of r.body))) [
      | inl again ↦ absurd (pass.fine duplicate (duplicate_is p before r follows kind pass.kind_is again))
      | inr new ↦ new
    ]
