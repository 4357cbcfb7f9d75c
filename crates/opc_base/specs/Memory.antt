-- A host in memory, as contracts see it.
use Rattle.std.specs.Prelude.{ℕ, ◌+◌, ◌-◌, ◌^◌, ◌==◌, List, min, max, find, Option, Some, refl}
use Rattle.std.specs.Option.{option_map}
use Rattle.std.specs.FinMap.{code}
use Rattle.std.specs.Coded.{Coded, code_by, coded×, coded_ℕ, coded_list}
use Rattle.opc_base.specs.declared.mem_host.Fail.{Fail}
use Rattle.opc_base.specs.Outside.{Files, Outside}

pub record Memory : Type 0 where
  pub files : Files
  pub said : List ℕ
  pub load_faults : ℕ
  pub store_faults : ℕ
  pub say_faults : ℕ
  pub calls : ℕ
  pub fails : List Fail

-- stored as a pair of numbers
abbrev pub coded_fail : Coded Fail
coded_fail = code_by (ℕ × ℕ) (coded× coded_ℕ coded_ℕ) (λ f. (f.call, f.keep)) (λ p. record { call = p.0; keep = p.1 }) (λ _. refl)

abbrev pub coded_bytes : Coded (List ℕ)
coded_bytes = coded_list coded_ℕ

-- stored as what it holds, its counts and its fails
abbrev pub coded_memory : Coded Memory
coded_memory =
    code_by
    ((Files × List ℕ) × ((ℕ × ℕ) × ((ℕ × ℕ) × List Fail)))
    (coded× (coded× (code coded_bytes coded_bytes) coded_bytes) (coded× (coded× coded_ℕ coded_ℕ) (coded× (coded× coded_ℕ coded_ℕ) (coded_list coded_fail))))
    (λ m. ((m.files, m.said), ((m.load_faults, m.store_faults), ((m.say_faults, m.calls), m.fails))))
    (λ p. record { files = p.0.0; said = p.0.1; load_faults = p.1.0.0; store_faults = p.1.0.1; say_faults = p.1.1.0.0; calls = p.1.1.0.1; fails = p.1.1.1 })
    (λ _. refl)

-- it tells its files and what was said
abbrev pub outside_of : Memory → Outside
outside_of m = record {
  files = Some m.files;
  said = Some m.said;
  load_faults = m.load_faults;
  store_faults = m.store_faults;
  say_faults = m.say_faults;
}

-- one more, up to the counter's last value
abbrev pub one_more : ℕ → ℕ
one_more n = max n (min (n + 1) (2 ^ 64 - 1))

-- how much the next call keeps, where it is one of those that fail
abbrev pub planned : Memory → Option ℕ
planned m = option_map (λ f. f.keep) (find (λ f. f.call == one_more m.calls) m.fails)
