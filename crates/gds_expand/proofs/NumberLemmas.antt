-- The number of the structure with a name.
use Rattle.std.proofs.Common.{◌≡◌, ℕ, ◌<◌, Bool, true, false, Some, None, List, [], length, get_or, if◌then◌else◌, Contains, refl, ap, sym, ◌∙◌, arith}
use Rattle.std.specs.Prelude.{slice_get, nat_lt}
use Rattle.std.specs.Str.{bytes_eq}
use Rattle.std.proofs.lemmas.Bool.{false_from_ne_true, lt-ltb}
use Rattle.std.proofs.lemmas.List.{length-map, get_or-map}
use Rattle.std.proofs.lemmas.List.Sums.{position_or_len_is}
use Rattle.std.proofs.lemmas.Slice.Eq.{bytes_eq-Decides}
use Rattle.std.proofs.lemmas.Option.{slice_get_within, get_or_from_slice_get}
use Rattle.gds_model.specs.declared.elements.Structure.{Structure}
use Rattle.gds_model.specs.Library.{names, HasDistinctNames}
use Rattle.gds_model.specs.Reach.{number_of}

blank : Structure
blank = record { name = []; elements = [] }

name_at : (library : List Structure) (k : ℕ) → k < length library → get_or (names library) k [] ≡ (get_or library k blank).name
name_at library k there = get_or-map (λ (s : Structure). s.name) library k blank [] there

-- no earlier structure has the name
pub number_at : (library : List Structure) (name : List ℕ) (i : ℕ) → HasDistinctNames library → slice_get (names library) i ≡ Some name →
    number_of library name ≡ Some i
number_at library name i distinct is =
    let sized : length (names library) ≡ length library = length-map library (λ (s : Structure). s.name) in
    let named : i < length (names library) = slice_get_within (names library) i name is in
    let there : i < length library = omega arith in
    let own : get_or (names library) i [] ≡ name = get_or_from_slice_get (names library) i name [] is in
    let other : (k : ℕ) → k < i → bytes_eq (get_or library k blank).name name ≡ false = λ k below.
    false_from_ne_true _ (λ same.
    let inside : k < length library = omega arith in
    let equal : k ≡ i = distinct k i inside there (name_at library k inside ∙ (bytes_eq-Decides _ name).0 same ∙ sym own) in
    omega arith) in
    let this : bytes_eq (get_or library i blank).name name ≡ true =
    ap (λ (n : List ℕ). bytes_eq n name) (sym (name_at library i there) ∙ own) ∙ (bytes_eq-Decides name name).1 refl in
    let place = position_or_len_is (λ (s : Structure). bytes_eq s.name name) library i blank (omega arith) other (λ _. this) in
    ap (λ (n : ℕ). if nat_lt n (length library) then Some n else None) place
    ∙ ap (λ (b : Bool). if b then Some i else None) (lt-ltb i (length library) there)

-- a name that is found is a name of the library
pub no_number : (library : List Structure) (name : List ℕ) → (Contains (names library) name → ⊥) → number_of library name ≡ None
no_number library name lacks =
    let sized : length (names library) ≡ length library = length-map library (λ (s : Structure). s.name) in
    let other : (k : ℕ) → k < length library → bytes_eq (get_or library k blank).name name ≡ false = λ k inside.
    false_from_ne_true _ (λ same.
    let below : k < length (names library) = omega arith in
    lacks (k, below, get_or-map (λ (s : Structure). s.name) library k blank name inside ∙ (bytes_eq-Decides _ name).0 same)) in
    let place = position_or_len_is (λ (s : Structure). bytes_eq s.name name) library (length library) blank (omega arith) other (λ below. absurd (omega arith)) in
    let past : nat_lt (length library) (length library) ≡ false = search arith in
    ap (λ (n : ℕ). if nat_lt n (length library) then Some n else None) place
    ∙ ap (λ (b : Bool). if b then Some (length library) else None) past
