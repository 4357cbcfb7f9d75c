-- Names that are none of some others, in two parts.
use Rattle.std.proofs.Common.{◌≡◌, ◌∙◌, ℕ, List, [], ◌∷◌, ◌++◌, Bool, true, false, not, ◌&&◌, refl, ap}
use Rattle.std.specs.Str.{bytes_eq}
use Rattle.opc_cli.specs.Command.{is_new}

both : (a b c : Bool) → (a && (b && c)) ≡ ((a && b) && c)
both true b c = refl
both false b c = refl

pub new_beside : (name : List ℕ) (others more : List (List ℕ)) → is_new name (others ++ more) ≡ (is_new name others && is_new name more)
new_beside name [] more = refl
new_beside name (other ∷ others) more =
    ap (λ b. not (bytes_eq other name) && b) (new_beside name others more) ∙ both (not (bytes_eq other name)) (is_new name others) (is_new name more)
