-- A row of pixels, as a list of runs with gaps between them.
use Rattle.std.specs.Prelude.{ℤ, ◌<ℤ◌, int_le, int_lt, Bool, false, ◌&&◌, ◌||◌, List, All, AllPairs, Option, Some, None}
use Rattle.std.specs.List.{list_any}
use Rattle.rect_union.specs.declared.run.Run.{Run}
use Rattle.rect_union.specs.declared.runs.RunBuilder.{RunBuilder}

abbrev pub run_has : Run → ℤ → Bool
run_has r x = int_le r.first x && int_lt x r.past

-- some run of the list has the number
abbrev pub in_runs : List Run → ℤ → Bool
in_runs runs x = list_any (λ r. run_has r x) runs

-- the runs are not empty, and between each and the next there is a gap
pub record AreRuns (runs : List Run) : Type 0 where
  pub some : All (λ r. r.first <ℤ r.past) runs
  pub apart : AllPairs (λ r s. r.past <ℤ s.first) runs

-- the numbers from the start of the open run on
abbrev pub is_open_at : Option ℤ → ℤ → Bool
is_open_at None x = false
is_open_at (Some first) x = int_le first x

-- the row as it was built so far, to the right without end where a run is open
abbrev pub is_on : RunBuilder → ℤ → Bool
is_on b x = in_runs b.runs.items x || is_open_at b.started x

-- each run ends before the number
abbrev pub RunsEndBefore : List Run → ℤ → Type 0
RunsEndBefore runs at = All (λ r. r.past <ℤ at) runs

abbrev pub OpensBefore : Option ℤ → ℤ → Type 0
OpensBefore None at = Unit {0}
OpensBefore (Some first) at = first <ℤ at

abbrev pub OpensAfter : List Run → Option ℤ → Type 0
OpensAfter runs None = Unit {0}
OpensAfter runs (Some first) = RunsEndBefore runs first

-- all that was built lies left of the number
pub record EndsBefore (b : RunBuilder) (at : ℤ) : Type 0 where
  pub runs : RunsEndBefore b.runs.items at
  pub started : OpensBefore b.started at

pub record IsRunBuilder (b : RunBuilder) : Type 0 where
  pub runs : AreRuns b.runs.items
  pub started : OpensAfter b.runs.items b.started
