-- Files as they were loaded.
use Rattle.std.specs.Prelude.{◌≡◌, ℕ, ◌+◌, List, [], ◌∷◌, take, Option, Some, IfSome}
use Rattle.std.specs.FinMap.{get}
use Rattle.std.specs.Option.{option_map}
use Rattle.opc_base.specs.Outside.{Files}
use Rattle.opc_engine.specs.declared.ask.Which.{Which}
use Rattle.opc_cli.specs.Limit.{limit_of}

-- the bytes are those of the file of this name, as far as one past the limit of its kind
abbrev pub IsLoaded : Option Files → Which → List ℕ → List ℕ → Type 0
IsLoaded told kind name bytes = IfSome told (λ files. option_map (take (limit_of kind + 1)) (get files name) ≡ Some bytes)

-- the files of these kinds and names were loaded in this order
abbrev pub AreLoaded : Option Files → List (Which × List ℕ) → List (List ℕ) → Type 0
AreLoaded told [] [] = Unit {0}
AreLoaded told (file ∷ files) (bytes ∷ more) = IsLoaded told file.0 file.1 bytes × AreLoaded told files more
AreLoaded _ _ _ = ⊥
