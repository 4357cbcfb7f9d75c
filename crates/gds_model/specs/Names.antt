-- The name in a body: the body without its trailing zero bytes.
use Rattle.std.specs.Prelude.{ℕ, ◌==◌, not, Bool, List, [], ◌∷◌, if◌then◌else◌}
use Rattle.std.specs.List.{list_any}

-- some byte isn't zero
abbrev pub has_nonzero : List ℕ → Bool
has_nonzero bytes = list_any (λ byte. not (byte == 0)) bytes

abbrev pub name_of : List ℕ → List ℕ
name_of [] = []
name_of (byte ∷ bytes) = if has_nonzero (byte ∷ bytes) then byte ∷ name_of bytes else []
