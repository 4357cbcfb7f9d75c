-- From what a read answers to when it must answer so.
use Rattle.std.proofs.Common.{◌≡◌, ℕ, refl, List, ◌⊎◌, inl, inr, ap}
use Rattle.std.specs.Prelude.{Result, Ok, Err, IfOk, IfErr, IsOk, IsErrOf}
use Rattle.gds_model.specs.declared.layout_fault.LayoutFault.{LayoutFault}
use Rattle.gds_model.specs.declared.layout_fault.LayoutFault.TheVariants.{NoMemory}
use Rattle.gds_model.specs.Faults.{IsFault, HasNoFault}
use Rattle.gds_model.proofs.OneFault.{one_fault, no_fault}

module _ (bytes : List ℕ) (T : Type 0) (P : T → Type 0) where
  abbrev Reads : Result T LayoutFault → Type 0
  Reads r = IfOk r (λ x. HasNoFault bytes × P x)

  abbrev Refuses : Result T LayoutFault → Type 0
  Refuses r = IfErr r (λ e. (e ≡ NoMemory) ⊎ IsFault bytes e)

  pub must_read : (r : Result T LayoutFault) → Refuses r → HasNoFault bytes → IsOk r ⊎ IsErrOf r NoMemory
  must_read (Ok x) h fine = inl refl
  must_read (Err e) (inl none) fine = inr (ap (λ f. Err f) none)
  must_read (Err e) (inr fault) fine = absurd (no_fault bytes e fine fault)

  pub must_refuse : (r : Result T LayoutFault) → Reads r → Refuses r → (f : LayoutFault) → IsFault bytes f → IsErrOf r f ⊎ IsErrOf r NoMemory
  must_refuse (Ok x) reads h f fault = absurd (no_fault bytes f reads.0 fault)
  must_refuse (Err e) reads (inl none) f fault = inr (ap (λ g. Err g) none)
  must_refuse (Err e) reads (inr wrong) f fault = inl (ap (λ g. Err g) (one_fault bytes e f wrong fault))
