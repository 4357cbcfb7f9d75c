-- A host in memory that never fails, as contracts see it.
use Rattle.std.specs.Prelude.{ℕ, List, Some, refl}
use Rattle.std.specs.FinMap.{code}
use Rattle.std.specs.Coded.{Coded, code_by, coded×, coded_ℕ, coded_list}
use Rattle.opc_base.specs.Outside.{Files, Outside}

pub record Calm : Type 0 where
  pub files : Files
  pub said : List ℕ

-- stored as the pair of its fields
abbrev pub coded_calm : Coded Calm
coded_calm =
    code_by (Files × List ℕ) (coded× (code (coded_list coded_ℕ) (coded_list coded_ℕ)) (coded_list coded_ℕ)) (λ m. (m.files, m.said)) (λ p. record { files = p.0; said = p.1 }) (λ _. refl)

-- it tells its files and what was said, and counts no faults
abbrev pub outside_of : Calm → Outside
outside_of m = record {
  files = Some m.files;
  said = Some m.said;
  load_faults = 0;
  store_faults = 0;
  say_faults = 0;
}
