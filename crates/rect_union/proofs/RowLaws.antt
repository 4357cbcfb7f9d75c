-- Laws of the runs of a row.
use Rattle.std.proofs.Common.{◌≡◌, ℤ, ◌≤ℤ◌, ◌<ℤ◌, int_le, int_lt, Bool, true, false, ◌&&◌, ◌||◌, if◌then◌else◌, List, [], ◌∷◌, ◌++◌, get_or, arith}
use Rattle.std.proofs.lemmas.Int.{ints}
use Rattle.std.proofs.lemmas.List.Folds.{list_any_none, list_any-append}
use Rattle.std.proofs.lemmas.List.Quantifiers.{all_pairs_push}
use Rattle.std.proofs.lemmas.List.Elements.{All-push}
use Rattle.rect_union.specs.declared.run.Run.{Run}
use Rattle.rect_union.specs.RowRuns.{run_has, in_runs, AreRuns, RunsEndBefore}

ends_before : (first past at x : ℤ) → past <ℤ at → at ≤ℤ x → run_has (record { first = first; past = past }) x ≡ false
ends_before first past at x before right = grind (arith, ints)

-- right of all runs
pub in_runs-right : (runs : List Run) (at x : ℤ) → RunsEndBefore runs at → at ≤ℤ x → in_runs runs x ≡ false
in_runs-right runs at x before right =
    list_any_none (λ r. run_has r x) runs (λ k d below. ends_before (get_or runs k d).first (get_or runs k d).past at x (before k d below) right)

switched_on : (runs at x : Bool) → (runs || at) ≡ (if at then true else runs || false)
switched_on runs at x = grind arith

-- a run begins
pub in_runs-starts : (runs : List Run) (at x : ℤ) →
    (in_runs runs x || int_le at x) ≡ (if int_le at x then true else in_runs runs x || false)
in_runs-starts runs at x = switched_on (in_runs runs x) (int_le at x) false

stays_off : (runs at : Bool) → (at ≡ true → runs ≡ false) → (runs || false) ≡ (if at then false else runs || false)
stays_off runs at right = grind arith

pub in_runs-stays_off : (runs : List Run) (at x : ℤ) → RunsEndBefore runs at →
    (in_runs runs x || false) ≡ (if int_le at x then false else in_runs runs x || false)
in_runs-stays_off runs at x before =
    stays_off (in_runs runs x) (int_le at x) (λ right. in_runs-right runs at x before (grind (arith, ints)))

stays_on : (runs first at : Bool) → (at ≡ true → first ≡ true) → (runs || first) ≡ (if at then true else runs || first)
stays_on runs first at right = grind arith

pub in_runs-stays_on : (runs : List Run) (first at x : ℤ) → first <ℤ at →
    (in_runs runs x || int_le first x) ≡ (if int_le at x then true else in_runs runs x || int_le first x)
in_runs-stays_on runs first at x before = stays_on (in_runs runs x) (int_le first x) (int_le at x) (λ right. grind (arith, ints))

ended : (runs first at past : Bool) → (at ≡ true → runs ≡ false) → (at ≡ true → past ≡ false) → (at ≡ false → past ≡ true)
    → (runs || (first && past || false)) || false ≡ (if at then false else runs || first)
ended runs first at past right end begin = grind arith

-- the open run ends
pub in_runs-ends : (runs : List Run) (first at x : ℤ) → RunsEndBefore runs first → first <ℤ at →
    (in_runs (runs ++ record { first = first; past = at } ∷ []) x || false)
    ≡ (if int_le at x then false else in_runs runs x || int_le first x)
in_runs-ends runs first at x before wide =
    rw (list_any-append (λ r. run_has r x) runs (record { first = first; past = at } ∷ []))
    (ended (in_runs runs x) (int_le first x) (int_le at x) (int_lt x at)
    (λ right. in_runs-right runs first x before (grind (arith, ints)))
    (λ right. grind (arith, ints)) (λ left. grind (arith, ints)))

-- one more run at the end
pub AreRuns-push : (runs : List Run) (first past : ℤ) → AreRuns runs → RunsEndBefore runs first → first <ℤ past →
    AreRuns (runs ++ record { first = first; past = past } ∷ [])
AreRuns-push runs first past are before wide = record {
  some = All-push (λ r. r.first <ℤ r.past) runs (record { first = first; past = past }) are.some wide;
  apart = all_pairs_push (λ r s. r.past <ℤ s.first) runs (record { first = first; past = past }) are.apart before;
}
