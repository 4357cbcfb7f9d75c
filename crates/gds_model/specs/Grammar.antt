-- Grammars without recursion, and the lists of records that they describe.
use Rattle.std.specs.Prelude.{◌≡◌, ℕ, List, [], ◌∷◌, ◌++◌, Option, Some, None, ◌⊎◌}
use Rattle.std.proofs.Common.{inl, inr}
use Rattle.std.specs.List.{flat_map}
use Rattle.gds_model.specs.declared.record_kind.RecordKind.{RecordKind}
use Rattle.gds_records.specs.Records.{StreamRecord}
use Rattle.gds_model.specs.RecordKind.{code_of}

infixr 7 ◌⨾◌
infixr 6 ◌∣◌
pub data Grammar : Type 0 where
  never : Grammar
  empty : Grammar
  one : RecordKind → Grammar
  ◌⨾◌ : Grammar → Grammar → Grammar
  ◌∣◌ : Grammar → Grammar → Grammar
  optional : Grammar → Grammar
  many : Grammar → Grammar

-- what a record holds besides its kind
pub record Content : Type 0 where
  pub offset : ℕ
  pub body : List ℕ

-- what a grammar describes: the contents of its records at their places
abbrev pub Tree : Grammar → Type 0
Tree never = ⊥
Tree empty = Unit {0}
Tree (one k) = Content
Tree (g ⨾ h) = Tree g × Tree h
Tree (g ∣ h) = Tree g ⊎ Tree h
Tree (optional g) = Option (Tree g)
Tree (many g) = List (Tree g)

abbrev pub records_of : (g : Grammar) → Tree g → List StreamRecord
records_of never t = []
records_of empty t = []
records_of (one k) t = record { offset = t.offset; code = code_of k; body = t.body } ∷ []
records_of (g ⨾ h) t = records_of g t.0 ++ records_of h t.1
records_of (g ∣ h) (inl t) = records_of g t
records_of (g ∣ h) (inr t) = records_of h t
records_of (optional g) None = []
records_of (optional g) (Some t) = records_of g t
records_of (many g) ts = flat_map (λ t. records_of g t) ts

-- these records are described by the grammar
abbrev pub Spells : Grammar → List StreamRecord → Type 0
Spells g rs = (t : Tree g) × (records_of g t ≡ rs)
