-- Loads one after the other.
use Rattle.std.proofs.Common.{◌≡◌, ◌≤◌, ◌⊎◌, ℕ, suc, ◌+◌, ◌-◌, List, [], ◌∷◌, ◌++◌, drop, get_or, length, take, Option, Some, None, refl, ap, sym, subst, ◌∙◌, inl, inr, arith}
use Rattle.std.proofs.lemmas.List.{length-map}
use Rattle.std.specs.Prelude.{IfErr, IsSome, Result, Ok, Err}
use Rattle.std.specs.FinMap.{get}
use Rattle.std.specs.Option.{option_map}
use Rattle.opc_base.specs.Outside.{Files, Loads, Outside, Rose}
use Rattle.opc_engine.specs.declared.ask.Which.{Which}
use Rattle.opc_engine.specs.declared.ask.Which.TheVariants as which
use Rattle.opc_cli.specs.Command.{files_of, kernel_files, names_of, reads}
use Rattle.opc_cli.specs.Limit.{limit_of}
use Rattle.opc_cli.specs.Outcome.{IsHeld, IsMissing, StopsAt}
use Rattle.opc_cli.specs.Sources.{AreLoaded, IsLoaded}
use Rattle.opc_cli.specs.Steps.{CommandStops, LoadStops, LoadsStop}
use Rattle.opc_cli.proofs.WordLemmas.{rest_is}
use Rattle.opc_cli.specs.declared.command.Command.{Command}
use Rattle.opc_cli.specs.declared.command.Command.TheVariants.{Window}
use Rattle.opc_cli.specs.declared.conditions.ConditionWords.{ConditionWords}
use Rattle.opc_cli.specs.declared.stop.Stop.{Stop}
use Rattle.opc_cli.specs.declared.stop.Stop.TheVariants.{Words, Read, Write, Said, Refused, NoMemory}

-- a file that was loaded is held
found_held : (found : Option (List ℕ)) (n : ℕ) (bytes : List ℕ) → option_map (take n) found ≡ Some bytes → IsSome found
found_held None n bytes e = cc
found_held (Some whole) n bytes e = refl

loaded_held : (told : Option Files) (kind : Which) (name bytes : List ℕ) → IsLoaded told kind name bytes → IsHeld told name
loaded_held None kind name bytes loaded = tt
loaded_held (Some files) kind name bytes loaded = found_held (get files name) (limit_of kind + 1) bytes loaded

stops_map : (told : Option Files) (P Q : Type 0) → (P → Q) → (names : List (List ℕ)) (name : List ℕ) → StopsAt told P names name → StopsAt told Q names name
stops_map told P Q f [] name h = absurd h
stops_map told P Q f (n ∷ names) name (inl here) = inl (here.0, elim here.1 [ inl p ↦ inl (f p) | inr gone ↦ inr gone ])
stops_map told P Q f (n ∷ names) name (inr later) = inr (later.0, stops_map told P Q f names name later.1)

module _ (name : List ℕ) (names : List (List ℕ)) where
  -- the first load stopped
  pub first_stops : (before after : Outside) (stop : Stop) → LoadStops name before after stop → LoadsStop (name ∷ names) before after stop
  first_stops before after (Read at) h =
      let P : List ℕ → Type 0 = λ n. Rose before.load_faults after.load_faults ⊎ IsMissing before.files n in
      inl (sym h.0, subst P (sym h.0) h.1)
  first_stops before after NoMemory h = tt
  first_stops before after Words h = absurd h
  first_stops before after (Write at) h = absurd h
  first_stops before after Said h = absurd h
  first_stops before after (Refused fault) h = absurd h

  -- a later one did
  pub later_stops : (kind : Which) (bytes : List ℕ) (before mid after : Outside) (stop : Stop) → IsLoaded before.files kind name bytes → Loads before mid
      → LoadsStop names mid after stop → LoadsStop (name ∷ names) before after stop
  later_stops kind bytes before mid after (Read at) loaded rest h =
      inr (
        loaded_held before.files kind name bytes loaded,
        stops_map before.files (Rose mid.load_faults after.load_faults) (Rose before.load_faults after.load_faults)
            (λ rose. omega (arith, rest.load_faults)) names at.now (rw rest.files at h),
      )
  later_stops kind bytes before mid after NoMemory loaded rest h = tt
  later_stops kind bytes before mid after Words loaded rest h = absurd h
  later_stops kind bytes before mid after (Write at) loaded rest h = absurd h
  later_stops kind bytes before mid after Said loaded rest h = absurd h
  later_stops kind bytes before mid after (Refused fault) loaded rest h = absurd h

-- where the loads of a command stop, the command does
pub loads_stop : (command : Command) (before after : Outside) (stop : Stop) → LoadsStop (reads command) before after stop → CommandStops command before after stop
loads_stop command before after (Read at) h = h
loads_stop command before after NoMemory h = tt
loads_stop command before after Words h = absurd h
loads_stop command before after (Write at) h = absurd h
loads_stop command before after Said h = absurd h
loads_stop command before after (Refused fault) h = absurd h

-- each file that is loaded has its bytes
loaded_count : (told : Option Files) (files : List (Which × List ℕ)) (bytes : List (List ℕ)) → AreLoaded told files bytes → length bytes ≡ length files
loaded_count told [] [] loaded = refl
loaded_count told [] (b ∷ bytes) loaded = absurd loaded
loaded_count told (file ∷ files) [] loaded = absurd loaded
loaded_count told (file ∷ files) (b ∷ bytes) loaded = ap suc (loaded_count told files bytes loaded.1)

pub kernels_count : (told : Option Files) (conditions : List ConditionWords) (bytes : List (List ℕ)) → AreLoaded told (kernel_files conditions) bytes
    → length bytes ≡ length conditions
kernels_count told conditions bytes loaded = loaded_count told (kernel_files conditions) bytes loaded ∙ length-map conditions (λ condition. (which.Kernels, condition.kernels))

-- a later load of kernels stopped
pub later_kernels_stop : {A : Type 0} (conditions : List ConditionWords) (c : ConditionWords) (bytes : List ℕ) (before mid after : Outside) (result : Result A Stop)
    → 1 ≤ length conditions → c ≡ get_or conditions 0 c → IsLoaded before.files which.Kernels c.kernels bytes → Loads before mid
    → IfErr result (LoadsStop (names_of (kernel_files (take (length conditions - 1) (drop 1 conditions)))) mid after) → IfErr result (LoadsStop (names_of (kernel_files conditions)) before after)
later_kernels_stop [] c bytes before mid after result some is loaded rest h = absurd (omega (arith, some))
later_kernels_stop (d ∷ cs) c bytes before mid after (Ok a) some is loaded rest h = tt
later_kernels_stop (d ∷ cs) c bytes before mid after (Err stop) some is loaded rest h =
    let P : ConditionWords → Type 0 = λ e. IsLoaded before.files which.Kernels e.kernels bytes in
    let R : List ConditionWords → Type 0 = λ more. LoadsStop (names_of (kernel_files more)) mid after stop in
    later_stops d.kernels (names_of (kernel_files cs)) which.Kernels bytes before mid after stop (subst P is loaded) rest (subst R (rest_is 1 (d ∷ cs)) h)

-- ---- the files of `window`: the layout, the rules, and then the kernel files behind none

module _ (before one two : Outside) (first : Loads before one) (second : Loads one two) (layout_name rules_name mask_name table_name : List ℕ) (conditions given : List ConditionWords) (same : given ≡ conditions)
    (layout rules : List ℕ) (layout_is : IsLoaded before.files which.Layout layout_name layout) (rules_is : IsLoaded one.files which.Rules rules_name rules) where
  pub window_loaded : (old new : List (List ℕ)) → old ≡ [] → (more : List (List ℕ)) → new ≡ old ++ more → AreLoaded two.files (kernel_files given) more
      → AreLoaded before.files (files_of (Window layout_name rules_name mask_name table_name conditions)) (layout ∷ rules ∷ new)
  window_loaded old new none more behind loaded =
      let P : List (List ℕ) → Type 0 = λ ks. AreLoaded before.files (kernel_files conditions) ks in
      let Q : Option Files → Type 0 = λ told. AreLoaded told (kernel_files conditions) more in
      let R : List ConditionWords → Type 0 = λ cs. AreLoaded two.files (kernel_files cs) more in
      let T : Option Files → Type 0 = λ told. IsLoaded told which.Rules rules_name rules in (
        layout_is,
        (
          subst T first.files rules_is,
          subst P (sym (behind ∙ ap (λ (o : List (List ℕ)). o ++ more) none)) (subst Q (second.files ∙ first.files) (subst R same loaded)),
        ),
      )

  pub window_stops : (after : Outside) (stop : Stop) → LoadsStop (names_of (kernel_files given)) two after stop
      → CommandStops (Window layout_name rules_name mask_name table_name conditions) before after stop
  window_stops after stop h =
      let P : List ConditionWords → Type 0 = λ cs. LoadsStop (names_of (kernel_files cs)) two after stop in
      let names = names_of (kernel_files conditions) in
      loads_stop (Window layout_name rules_name mask_name table_name conditions) before after stop
      (later_stops layout_name (rules_name ∷ names) which.Layout layout before one after stop layout_is first
      (later_stops rules_name names which.Rules rules one two after stop rules_is second (subst P same h)))
