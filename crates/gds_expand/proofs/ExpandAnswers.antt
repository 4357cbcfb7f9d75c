-- From what an expansion answers to when it must answer so.
use Rattle.std.proofs.Common.{◌≡◌, refl, List, ◌⊎◌, inl, inr, ap}
use Rattle.std.specs.Prelude.{Result, Ok, Err, IfOk, IfErr, IsOk, IsErrOf}
use Rattle.opc_base.specs.declared.outline.Outline.{Outline}
use Rattle.opc_base.specs.declared.rules.Pick.{Pick}
use Rattle.gds_model.specs.declared.elements.Structure.{Structure}
use Rattle.gds_model.specs.declared.place_fault.PlaceFault.{PlaceFault}
use Rattle.gds_model.specs.declared.place_fault.PlaceFault.TheVariants.{NoMemory}
use Rattle.gds_model.specs.Library.{HasAscendingOffsets}
use Rattle.gds_model.specs.PlaceFaults.{IsPlaceFault, IsPlacement}
use Rattle.gds_model.proofs.Offsets.{distinct_from_ascending}
use Rattle.gds_model.proofs.PlaceLaws.{no_place_fault, one_place_fault}

module _ (library : List Structure) (ascend : HasAscendingOffsets library) (pick : Pick) where
  abbrev Places : Result (List Outline) PlaceFault → Type 0
  Places r = IfOk r (λ outlines. IsPlacement library pick outlines)

  abbrev Refuses : Result (List Outline) PlaceFault → Type 0
  Refuses r = IfErr r (λ fault. (fault ≡ NoMemory) ⊎ IsPlaceFault library pick fault)

  pub must_place : (r : Result (List Outline) PlaceFault) → Refuses r → (outlines : List Outline) → IsPlacement library pick outlines
      → IsOk r ⊎ IsErrOf r NoMemory
  must_place (Ok placed) refuses outlines places = inl refl
  must_place (Err e) (inl none) outlines places = inr (ap (λ f. Err f) none)
  must_place (Err e) (inr wrong) outlines places =
      absurd (no_place_fault library (distinct_from_ascending library ascend) pick e outlines places wrong)

  pub must_refuse : (r : Result (List Outline) PlaceFault) → Places r → Refuses r → (fault : PlaceFault) → IsPlaceFault library pick fault
      → IsErrOf r fault ⊎ IsErrOf r NoMemory
  must_refuse (Ok placed) places refuses fault wrong =
      absurd (no_place_fault library (distinct_from_ascending library ascend) pick fault placed places wrong)
  must_refuse (Err e) places (inl none) fault wrong = inr (ap (λ f. Err f) none)
  must_refuse (Err e) places (inr one) fault wrong =
      inl (ap (λ f. Err f) (one_place_fault library (distinct_from_ascending library ascend) pick e fault one wrong))
