-- What a command stores goes under names of its own.
use Rattle.std.proofs.Common.{◌≡◌, ◌≢◌, ℕ, List, [], ◌∷◌, map, Bool, true, false, not, ◌&&◌, Option, Some, None, refl, ap, sym, subst}
use Rattle.std.proofs.lemmas.Slice.Eq.{bytes_eq-Decides}
use Rattle.std.specs.Prelude.{Result, Ok, Err}
use Rattle.std.specs.Str.{bytes_eq}
use Rattle.opc_base.specs.Outside.{Files}
use Rattle.opc_cli.specs.declared.command.Command.{Command}
use Rattle.opc_cli.specs.declared.command.Command.TheVariants.{Probe, Simulate, Correct, Moves, Check, Polygons, Trial, Assist, Window}
use Rattle.opc_cli.specs.Command.{are_new, command_of, command_with, is_new, reads, with_new_names, writes}
use Rattle.opc_cli.specs.NewNames.{AreNew, IsNew, StoresNewNames}
use Rattle.opc_cli.specs.Plan.{Delivery, IsPlanOf, IsPlanWhere, IsVerdict, answered, bytes_in, first_missing}

both_true : (a b : Bool) → (a && b) ≡ true → (a ≡ true) × (b ≡ true)
both_true true b e = (refl, e)
both_true false b e = cc

not_same : (other name : List ℕ) → not (bytes_eq other name) ≡ true → other ≢ name
not_same other name e same = let eq = (bytes_eq-Decides other name).1 same in cc

name_is_new : (name : List ℕ) (others : List (List ℕ)) → is_new name others ≡ true → IsNew name others
name_is_new name [] e = tt
name_is_new name (other ∷ others) e =
    let both = both_true (not (bytes_eq other name)) (is_new name others) e in
    (not_same other name both.0, name_is_new name others both.1)

names_are_new : (names outputs : List (List ℕ)) → are_new names outputs ≡ true → AreNew names outputs
names_are_new names [] e = tt
names_are_new names (output ∷ outputs) e =
    let both = both_true (is_new output names) (are_new (output ∷ names) outputs) e in
    (name_is_new output names both.0, names_are_new (output ∷ names) outputs both.1)

-- the stores that a command calls for are those that it names
stores_named : (command : Command) (files : Files) (delivery : Delivery) → IsVerdict command (map (bytes_in files) (reads command)) (Ok delivery)
    → map (λ s. s.0) delivery.stores ≡ writes command
stores_named (Probe layout kernels ask) files delivery h = ap (λ d. map (λ s. s.0) d.stores) h.1.1
stores_named (Simulate layout kernels rules table) files delivery h = ap (λ d. map (λ s. s.0) d.stores) h.1.1
stores_named (Correct layout kernels rules mask table) files delivery h = ap (λ d. map (λ s. s.0) d.stores) h.1.1
stores_named (Polygons layout kernels rules mask table) files delivery h = ap (λ d. map (λ s. s.0) d.stores) h.1.1
stores_named (Moves layout kernels rules moves mask table) files delivery h = ap (λ d. map (λ s. s.0) d.stores) h.1.1
stores_named (Check layout kernels rules printed list) files delivery h = ap (λ d. map (λ s. s.0) d.stores) h.1.1
stores_named (Trial n) files delivery h = ap (λ d. map (λ s. s.0) d.stores) h.1.1
stores_named (Assist layout kernels rules mask table gap width end min) files delivery h = ap (λ d. map (λ s. s.0) d.stores) h.1.1
stores_named (Window layout rules mask table conditions) files delivery h = ap (λ d. map (λ s. s.0) d.stores) h.1.1

stores_named_where : (first : Option (List ℕ)) (command : Command) (files : Files) (delivery : Delivery) → IsPlanWhere first command files (answered delivery)
    → map (λ s. s.0) delivery.stores ≡ writes command
stores_named_where (Some name) command files delivery h = cc
stores_named_where None command files delivery h = stores_named command files delivery h

-- where words have a command, its stores have new names
new_where : (b : Bool) (found command : Command) → are_new (reads found) (writes found) ≡ b → with_new_names (Some found) ≡ Some command
    → AreNew (reads command) (writes command)
new_where true found command new is =
    let P : Command → Type 0 = λ c. AreNew (reads c) (writes c) in
    let same : found ≡ command = cc in
    subst P same (names_are_new (reads found) (writes found) new)
new_where false found command new is = cc

new_found : (found : Option Command) (command : Command) → with_new_names found ≡ Some command → AreNew (reads command) (writes command)
new_found None command is = cc
new_found (Some found) command is = new_where (are_new (reads found) (writes found)) found command refl is

new_names : (words : List (List ℕ)) (command : Command) → command_of words ≡ Some command → AreNew (reads command) (writes command)
new_names [] command is = cc
new_names (name ∷ words) command is = new_found (command_with name words) command is

pub stores_new_names : (words : List (List ℕ)) → StoresNewNames words
stores_new_names words command files delivery is plan =
    let P : List (List ℕ) → Type 0 = λ outputs. AreNew (reads command) outputs in
    subst P (sym (stores_named_where (first_missing files (reads command)) command files delivery plan)) (new_names words command is)
