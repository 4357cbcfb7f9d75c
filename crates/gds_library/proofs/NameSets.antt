-- Names in a list of names.
use Rattle.std.proofs.Common.{◌≡◌, ℕ, ◌||◌, true, List, [], ◌∷◌, ap, sym, ◌∙◌, inl, inr, arith}
use Rattle.std.specs.Prelude.{nat_eq}
use Rattle.std.specs.List.{Contains}
use Rattle.std.specs.Cmp.Lexicographic.{pointwise, same_text}
use Rattle.std.proofs.lemmas.Bool.{cases_Bool}
use Rattle.std.proofs.lemmas.Cmp.{nat_list_eq_equiv}
use Rattle.std.proofs.lemmas.List.Elements.{Contains-append_right}
use Rattle.std.proofs.lemmas.Map.Views.{list_any-from_Contains}
use Rattle.gds_library.specs.Texts.{has_name}

-- a name that is found in a list stands in it
pub has_name-Contains : (names : List (List ℕ)) (name : List ℕ) → has_name names name ≡ true → Contains names name
has_name-Contains [] name e = cc
has_name-Contains (first ∷ rest) name e =
    elim (cases_Bool (pointwise nat_eq name first)) [
      | inl same ↦
          let equal : name ≡ first = same_text name first (sym same) in
          (0, omega arith, sym equal)
      | inr other ↦
          let later : has_name rest name ≡ true = sym (ap (λ b. b || has_name rest name) other) ∙ e in
          Contains-append_right (first ∷ []) rest name (has_name-Contains rest name later)
    ]

pub Contains-has_name : (names : List (List ℕ)) (name : List ℕ) → Contains names name → has_name names name ≡ true
Contains-has_name names name h = list_any-from_Contains nat_list_eq_equiv name names h
