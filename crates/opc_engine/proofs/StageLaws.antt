-- Stages one after the other: what refuses, what goes on, and that they give one result.
use Rattle.std.proofs.Common.{◌≡◌, inl, inr, ap, sym, ◌∙◌, subst}
use Rattle.std.specs.Prelude.{Result, Ok, Err}
use Rattle.opc_engine.specs.declared.fault.EngineFault.{EngineFault}
use Rattle.opc_engine.specs.Stages.{Then}
pub use Rattle.opc_engine.specs.Stages.{IsOne}

abbrev pub failed : (A : Type 0) → EngineFault → Result A EngineFault
failed A f = Err f

abbrev pub done : {A : Type 0} → A → Result A EngineFault
done a = Ok a

pub same_fault : (A : Type 0) (f g : EngineFault) → failed A f ≡ failed A g → f ≡ g
same_fault A f g e = cc

pub same_value : {A : Type 0} (a b : A) → done a ≡ done b → a ≡ b
same_value a b e = cc

pub not_fault : {A : Type 0} (f : EngineFault) (a : A) → failed A f ≡ done a → ⊥
not_fault f a e = cc

pub then_one : {A B : Type 0} (first : Result A EngineFault → Type 0) (second : A → Result B EngineFault → Type 0) → IsOne first
    → ((a : A) → first (Ok a) → IsOne (second a)) → IsOne (Then first second)
then_one {A = A} first second one next p q (inl a) (inl b) = a.1.1 ∙ ap (λ f. Err f) (same_fault A a.0 b.0 (one (Err a.0) (Err b.0) a.1.0 b.1.0)) ∙ sym b.1.1
then_one first second one next p q (inl a) (inr b) = absurd (not_fault a.0 b.0 (one (Err a.0) (Ok b.0) a.1.0 b.1.0))
then_one first second one next p q (inr a) (inl b) = absurd (not_fault b.0 a.0 (one (Err b.0) (Ok a.0) b.1.0 a.1.0))
then_one {A = A} first second one next p q (inr a) (inr b) =
    let P : A → Type 0 = λ x. second x q in
    next a.0 a.1.0 p q a.1.1 (subst P (same_value b.0 a.0 (one (Ok b.0) (Ok a.0) b.1.0 a.1.0)) b.1.1)

-- the same where the bytes that it looks at are cut after their limit
pub then_map : {A B : Type 0} (first first' : Result A EngineFault → Type 0) (second second' : A → Result B EngineFault → Type 0)
    → ((p : Result A EngineFault) → first p → first' p) → ((a : A) (p : Result B EngineFault) → second a p → second' a p)
    → (p : Result B EngineFault) → Then first second p → Then first' second' p
then_map first first' second second' f g p (inl a) = inl (a.0, (f (Err a.0) a.1.0, a.1.1))
then_map first first' second second' f g p (inr a) = inr (a.0, (f (Ok a.0) a.1.0, g a.0 p a.1.1))
