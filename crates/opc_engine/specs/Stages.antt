-- Stages that are done one after the other, each of which gives something or refuses.
use Rattle.std.specs.Prelude.{◌≡◌, ◌⊎◌, Result, Ok, Err}
use Rattle.opc_engine.specs.declared.fault.EngineFault.{EngineFault}

-- the first refuses, or the second goes on from what it gives
abbrev pub Then : {A B : Type 0} → (Result A EngineFault → Type 0) → (A → Result B EngineFault → Type 0) → Result B EngineFault → Type 0
Then {A = A} first second result =
    ((fault : EngineFault) × (first (Err fault) × (result ≡ Err fault))) ⊎ ((given : A) × (first (Ok given) × second given result))

-- it gives one result at most
abbrev pub IsOne : {A : Type 0} → (Result A EngineFault → Type 0) → Type 0
IsOne {A = A} Gives = (p q : Result A EngineFault) → Gives p → Gives q → p ≡ q
