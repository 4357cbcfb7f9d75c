-- A file has one fault at most, and none where nothing is wrong.
use Rattle.std.proofs.Common.{◌≡◌, ℕ, refl, List, [], ◌∷◌, ◌++◌, inl, inr, ap, sym, ◌∙◌, arith}
use Rattle.std.proofs.lemmas.Bool.{cases_lt, true≢false}
use Rattle.gds_records.specs.Records.{StreamRecord, records_from, stop_after}
use Rattle.gds_model.specs.declared.layout_fault.LayoutFault.{LayoutFault}
use Rattle.gds_model.specs.declared.layout_fault.LayoutFault.TheVariants.{Cut, BadLength, Trailing}
use Rattle.gds_model.specs.Faults.{Wrong, unexpected, one_too_many, bad_body, duplicate, rank, fault_of, FaultAt, AllFine, FirstFault, AllZeroFrom, IsTrailingFrom, IsStopFault, EndFault, IsFault, HasNoFault}

rank-same : (v w : Wrong) → rank v ≡ rank w → v ≡ w
rank-same unexpected unexpected e = refl
rank-same unexpected one_too_many e = absurd (omega arith)
rank-same unexpected bad_body e = absurd (omega arith)
rank-same unexpected duplicate e = absurd (omega arith)
rank-same one_too_many unexpected e = absurd (omega arith)
rank-same one_too_many one_too_many e = refl
rank-same one_too_many bad_body e = absurd (omega arith)
rank-same one_too_many duplicate e = absurd (omega arith)
rank-same bad_body unexpected e = absurd (omega arith)
rank-same bad_body one_too_many e = absurd (omega arith)
rank-same bad_body bad_body e = refl
rank-same bad_body duplicate e = absurd (omega arith)
rank-same duplicate unexpected e = absurd (omega arith)
rank-same duplicate one_too_many e = absurd (omega arith)
rank-same duplicate bad_body e = absurd (omega arith)
rank-same duplicate duplicate e = refl

one_at : (before : List StreamRecord) (r : StreamRecord) (f g : LayoutFault) → FaultAt before r f → FaultAt before r g → f ≡ g
one_at before r f g p q =
    elim (cases_lt (rank p.wrong) (rank q.wrong)) [
      | inl below ↦ absurd (q.first p.wrong below p.is)
      | inr above ↦
          elim (cases_lt (rank q.wrong) (rank p.wrong)) [
            | inl below ↦ absurd (p.first q.wrong below q.is)
            | inr same ↦
                p.fault_is ∙ ap (λ w. fault_of w r) (rank-same p.wrong q.wrong (omega arith)) ∙ sym q.fault_is
          ]
    ]

one_first : (before rs : List StreamRecord) (f g : LayoutFault) → FirstFault before rs f → FirstFault before rs g → f ≡ g
one_first before [] f g p q = absurd p
one_first before (r ∷ rs) f g (inl p) (inl q) = one_at before r f g p q
one_first before (r ∷ rs) f g (inl p) (inr q) = absurd (q.0 p.wrong p.is)
one_first before (r ∷ rs) f g (inr p) (inl q) = absurd (p.0 q.wrong q.is)
one_first before (r ∷ rs) f g (inr p) (inr q) = one_first (before ++ r ∷ []) rs f g p.1 q.1

none_first : (before rs : List StreamRecord) (f : LayoutFault) → AllFine before rs → FirstFault before rs f → ⊥
none_first before [] f all p = p
none_first before (r ∷ rs) f all (inl p) = all.0 p.wrong p.is
none_first before (r ∷ rs) f all (inr p) = none_first (before ++ r ∷ []) rs f all.1 p.1

one_stop : (bytes : List ℕ) (stop : ℕ) (f g : LayoutFault) → IsStopFault bytes stop f → IsStopFault bytes stop g → f ≡ g
one_stop bytes stop (Cut o) (Cut u) p q = ap (λ n. Cut n) (p.0 ∙ sym q.0)
one_stop bytes stop (Cut o) (BadLength u) p q = absurd (p.1 q.1)
one_stop bytes stop (Cut o) g p q = absurd q
one_stop bytes stop (BadLength o) (Cut u) p q = absurd (q.1 p.1)
one_stop bytes stop (BadLength o) (BadLength u) p q = ap (λ n. BadLength n) (p.0 ∙ sym q.0)
one_stop bytes stop (BadLength o) g p q = absurd q
one_stop bytes stop f g p q = absurd p

one_trailing : (bytes : List ℕ) (stop : ℕ) (f g : LayoutFault) → IsTrailingFrom bytes stop f → IsTrailingFrom bytes stop g → f ≡ g
one_trailing bytes stop (Trailing o) (Trailing u) p q =
    elim (cases_lt o u) [
      | inl below ↦ absurd (p.2 (q.3 o p.0 below))
      | inr above ↦
          elim (cases_lt u o) [
            | inl below ↦ absurd (q.2 (p.3 u q.0 below))
            | inr same ↦ ap (λ n. Trailing n) (omega arith)
          ]
    ]
one_trailing bytes stop (Trailing o) g p q = absurd q
one_trailing bytes stop f g p q = absurd p

no_trailing : (bytes : List ℕ) (stop : ℕ) (f : LayoutFault) → AllZeroFrom bytes stop → IsTrailingFrom bytes stop f → ⊥
no_trailing bytes stop (Trailing o) zeros p = p.2 (zeros o p.0 p.1)
no_trailing bytes stop f zeros p = absurd p

one_end : (bytes : List ℕ) (rs : List StreamRecord) (f g : LayoutFault) → EndFault bytes rs f → EndFault bytes rs g → f ≡ g
one_end bytes rs f g (inl p) (inl q) = one_stop bytes (stop_after 0 rs) f g p.1 q.1
one_end bytes rs f g (inl p) (inr q) = absurd (true≢false (sym q.0 ∙ p.0))
one_end bytes rs f g (inr p) (inl q) = absurd (true≢false (sym p.0 ∙ q.0))
one_end bytes rs f g (inr p) (inr q) = one_trailing bytes (stop_after 0 rs) f g p.1 q.1

pub one_fault : (bytes : List ℕ) (f g : LayoutFault) → IsFault bytes f → IsFault bytes g → f ≡ g
one_fault bytes f g (inl p) (inl q) = one_first [] (records_from bytes 0) f g p q
one_fault bytes f g (inl p) (inr q) = absurd (none_first [] (records_from bytes 0) f q.0 p)
one_fault bytes f g (inr p) (inl q) = absurd (none_first [] (records_from bytes 0) g p.0 q)
one_fault bytes f g (inr p) (inr q) = one_end bytes (records_from bytes 0) f g p.1 q.1

pub no_fault : (bytes : List ℕ) (f : LayoutFault) → HasNoFault bytes → IsFault bytes f → ⊥
no_fault bytes f fine (inl p) = none_first [] (records_from bytes 0) f fine.0 p
no_fault bytes f fine (inr (all, inl p)) = true≢false (sym fine.1 ∙ p.0)
no_fault bytes f fine (inr (all, inr p)) = no_trailing bytes (stop_after 0 (records_from bytes 0)) f fine.2 p.1
