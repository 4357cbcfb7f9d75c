-- Lists of texts.
use Rattle.std.specs.Prelude.{ℕ, Bool, List, nat_eq}
use Rattle.std.specs.List.{list_any}
use Rattle.std.specs.Cmp.Lexicographic.{pointwise}

-- one of them is this text
abbrev pub has_name : List (List ℕ) → List ℕ → Bool
has_name names name = list_any (pointwise nat_eq name) names
