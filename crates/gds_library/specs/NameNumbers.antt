-- Names and their numbers.
use Rattle.std.specs.Prelude.{◌≡◌, ℕ, ◌<◌, ◌==◌, List, [], ◌∷◌, length, map, cond, All, Option, Some}
use Rattle.std.specs.List.{range_with_len}
use Rattle.std.specs.Global.{Vec}
use Rattle.std.specs.Ordering.{nat_cmp}
use Rattle.std.specs.Cmp.Lexicographic.{slice_cmp}
use Rattle.std.specs.Map.{lookup, values_of}
use Rattle.std.specs.BTreeMap.{is_at}

-- the number of a name
abbrev pub number_in : List (Vec ℕ × ℕ) → List ℕ → Option ℕ
number_in entries name = lookup (is_at (λ key. slice_cmp nat_cmp name key.items)) entries

-- the name of a number
abbrev pub name_at : List (Vec ℕ × ℕ) → ℕ → List ℕ
name_at [] i = []
name_at (entry ∷ rest) i = cond (entry.1 == i) entry.0.items (name_at rest i)

-- the names in the order of their numbers
abbrev pub in_order : List (Vec ℕ × ℕ) → List (List ℕ)
in_order entries = map (name_at entries) (range_with_len 0 (length entries))

-- each name has a number of its own, and the numbers are those from 0 on
pub record AreNumbered (entries : List (Vec ℕ × ℕ)) : Type 0 where
  pub below : All (λ i. i < length entries) (values_of entries)
  pub found : (name : List ℕ) (i : ℕ) → number_in entries name ≡ Some i → name_at entries i ≡ name
  pub all : (i : ℕ) → i < length entries → number_in entries (name_at entries i) ≡ Some i
