-- What the runs of the target say of a printed run, and the list of flaws.
use Rattle.std.proofs.Common.{◌≡◌, inl, inr, ℕ, ◌+◌, ◌<◌, ◌≤◌, ℤ, pos, ◌≤ℤ◌, ◌<ℤ◌, true, false, List, length, get_or, refl, sym, ap, ◌∙◌, subst, arith}
use Rattle.std.proofs.lemmas.Bool.{and_parts, and_from, cases_lt, cases_order, lt-ltb, ltb-true}
use Rattle.std.proofs.lemmas.Int.{ints, by_lt_z}
use Rattle.std.proofs.lemmas.List.{get_or_default}
use Rattle.std.proofs.lemmas.List.Folds.{Any-from_list_any}
use Rattle.std.proofs.lemmas.List.Sums.{prefix_len_passes, prefix_len_stops}
use Rattle.std.proofs.Math.Dec.{ltb}
use Rattle.opc_base.specs.Plane.{PixelSet}
use Rattle.print_check.specs.Flaws.{HasGap, HasPlace}
use Rattle.print_check.specs.LineFlaws.{begins_in, ends_before, has_run_at, reach_place}
use Rattle.print_check.specs.LineRuns.{AreLineRuns, IsBefore, IsRunOf, run_has, runs_have}
use Rattle.print_check.specs.declared.line_runs.LineRun.{LineRun}

-- the run of the list at a place, by what it is
pub record IsAt (runs : List LineRun) (k : ℕ) (t : LineRun) : Type 0 where
  pub below : k < length runs
  pub is : (d : LineRun) → get_or runs k d ≡ t

at_place : (runs : List LineRun) (k : ℕ) (d : LineRun) → k < length runs → IsAt runs k (get_or runs k d)
at_place runs k d below = record { below = below; is = λ e. get_or_default runs k e d below }

true_false : true ≡ false → ⊥
true_false same = cc

-- some run of the list has the pixel
pub record Has (runs : List LineRun) (x y : ℤ) : Type 0 where
  pub k : ℕ
  pub t : LineRun
  pub at : IsAt runs k t
  pub row : t.row ≡ y
  pub low : t.first ≤ℤ x
  pub high : x <ℤ t.past

pub has_pixel : (runs : List LineRun) (x y : ℤ) → runs_have runs x y ≡ true → Has runs x y
has_pixel runs x y is =
    let found = Any-from_list_any (λ (r : LineRun). run_has r x y) runs is in
    let t : LineRun = get_or runs found.0 found.1 in
    let here : run_has (get_or runs found.0 found.1) x y ≡ true = ap (λ (r : LineRun). run_has r x y) found.3 ∙ found.4 in
    record { k = found.0; t = t; at = at_place runs found.0 found.1 found.2; row = row_of t here; low = low_of t here; high = high_of t here }
  where
    row_of : (t : LineRun) → run_has t x y ≡ true → t.row ≡ y
    row_of t told = grind (arith, ints)

    low_of : (t : LineRun) → run_has t x y ≡ true → t.first ≤ℤ x
    low_of t told = grind (arith, ints)

    high_of : (t : LineRun) → run_has t x y ≡ true → x <ℤ t.past
    high_of t told = grind (arith, ints)

-- the run that meets another at a place
record Meets (runs : List LineRun) (k : ℕ) (run : LineRun) : Type 0 where
  pub t : LineRun
  pub at : IsAt runs k t
  pub row : t.row ≡ run.row
  pub early : t.first <ℤ run.past

meets_gives : (runs : List LineRun) (k : ℕ) (run : LineRun) → has_run_at runs k run ≡ true → Meets runs k run
meets_gives runs k run told =
    let none : LineRun = record { row = pos 0; first = pos 0; past = pos 0 } in
    let parts = and_parts (ltb k (length runs)) (begins_in (get_or runs k none) run) told in
    record {
      t = get_or runs k none;
      at = at_place runs k none (ltb-true k (length runs) parts.0);
      row = row_of (get_or runs k none) parts.1;
      early = early_of (get_or runs k none) parts.1;
    }
  where
    row_of : (t : LineRun) → begins_in t run ≡ true → t.row ≡ run.row
    row_of t both = grind (arith, ints)

    early_of : (t : LineRun) → begins_in t run ≡ true → t.first <ℤ run.past
    early_of t both = grind (arith, ints)

meets_from : (runs : List LineRun) (k : ℕ) (run t : LineRun) → IsAt runs k t → t.row ≡ run.row → t.first <ℤ run.past → has_run_at runs k run ≡ true
meets_from runs k run t at row early =
    let none : LineRun = record { row = pos 0; first = pos 0; past = pos 0 } in
    and_from (ltb k (length runs)) (begins_in (get_or runs k none) run) (lt-ltb k (length runs) at.below)
    (ap (λ (s : LineRun). begins_in s run) (at.is none) ∙ both t row early)
  where
    both : (s : LineRun) → s.row ≡ run.row → s.first <ℤ run.past → begins_in s run ≡ true
    both s same less = grind (arith, ints)

-- ---- one printed run against the runs of the target
module _ (target : PixelSet) (targets : List LineRun) (run : LineRun) (are : AreLineRuns target targets) (some : run.first <ℤ run.past) where
  passed : (k : ℕ) (t : LineRun) → IsAt targets k t → k < reach_place targets run → ends_before t run ≡ true
  passed k t at before = ap (λ (s : LineRun). ends_before s run) (sym (at.is t)) ∙ prefix_len_passes (λ s. ends_before s run) targets k t before

  stops : (k : ℕ) (t : LineRun) → IsAt targets k t → k ≡ reach_place targets run → ends_before t run ≡ false
  stops k t at here =
      ap (λ (s : LineRun). ends_before s run) (sym (at.is t) ∙ ap (λ j. get_or targets j t) here)
      ∙ prefix_len_stops (λ s. ends_before s run) targets t (omega (arith, at.below))

  run_at : (k : ℕ) (t : LineRun) → IsAt targets k t → IsRunOf target t
  run_at k t at = subst (IsRunOf target) (at.is t) (are.each k t at.below)

  in_order : (j k : ℕ) (s t : LineRun) → IsAt targets j s → IsAt targets k t → j < k → IsBefore s t
  in_order j k s t first second less =
      subst (λ (r : LineRun). IsBefore r t) (first.is t) (subst (λ (r : LineRun). IsBefore (get_or targets j t) r) (second.is t) (are.sorted j k t less second.below))

  reaches : (t : LineRun) → ends_before t run ≡ false → t.row ≡ run.row → run.first <ℤ t.past
  reaches t not_before row = grind (arith, ints)

  not_yet : (t : LineRun) (x : ℤ) → ends_before t run ≡ true → t.row ≡ run.row → run.first ≤ℤ x → x <ℤ t.past → ⊥
  not_yet t x before row low high = true_false (sym before ∙ later)
    where
      later : ends_before t run ≡ false
      later = grind (arith, ints)

  lower_ends : (t : LineRun) → t.row <ℤ run.row → ends_before t run ≡ true
  lower_ends t less = grind (arith, ints)

  -- a pixel of the target in the run is at or after the first that reaches it
  from_reach : (x : ℤ) (h : Has targets x run.row) → run.first ≤ℤ x → reach_place targets run ≤ h.k
  from_reach x h low = elim (cases_lt h.k (reach_place targets run)) [
    | inl before ↦ absurd (not_yet h.t x (passed h.k h.t h.at before) h.row low h.high)
    | inr from ↦ from
  ]

  meets_if_pixel : (x : ℤ) → run.first ≤ℤ x → x <ℤ run.past → target x run.row ≡ true → has_run_at targets (reach_place targets run) run ≡ true
  meets_if_pixel x low high is =
      let h = has_pixel targets x run.row (are.covers x run.row is) in
      let next : ℕ = reach_place targets run in
      let from = from_reach x h low in
      let first : LineRun = get_or targets next run in
      let h_low = h.low in
      elim (cases_lt next h.k) [
        | inl less ↦ (let at = at_place targets next run (omega (arith, h.at.below)) in
            elim (in_order next h.k first h.t at h.at less) [
              | inl lower ↦ absurd (let row = h.row in true_false (sym (lower_ends first (omega (arith, ints))) ∙ stops next first at refl))
              | inr level ↦ (let wide = (run_at next first at).some in let gap = level.1 in meets_from targets next run first at (level.0 ∙ h.row) (omega (arith, ints)))
            ])
        | inr upto ↦ (let same : h.k ≡ reach_place targets run = omega (arith, from) in
            meets_from targets next run h.t (subst (λ j. IsAt targets j h.t) same h.at) h.row (omega (arith, ints)))
      ]

  -- the first place of the target in the run
  first_pixel : (k : ℕ) → k ≡ reach_place targets run → (m : Meets targets k run) → (p : HasPlace (λ s. target s run.row) run.first run.past) × (p.at <ℤ m.t.past)
  first_pixel k here m =
      let r = run_at k m.t m.at in
      let past = reaches m.t (stops k m.t m.at here) m.row in
      let wide = r.some in let early = m.early in
      by_lt_z m.t.first run.first
      (λ less. (record { at = run.first; low = omega (arith, ints); high = some; is = subst (λ y. target run.first y ≡ true) m.row (r.all run.first (omega (arith, ints)) past) }, past))
      (λ from. (record { at = m.t.first; low = from; high = early; is = subst (λ y. target m.t.first y ≡ true) m.row (r.all m.t.first (omega (arith, ints)) wide) }, wide))

  pub place_if_meets : has_run_at targets (reach_place targets run) run ≡ true → HasPlace (λ s. target s run.row) run.first run.past
  place_if_meets told = (first_pixel (reach_place targets run) refl (meets_gives targets (reach_place targets run) run told)).0

  pub meets_if_place : HasPlace (λ s. target s run.row) run.first run.past → has_run_at targets (reach_place targets run) run ≡ true
  meets_if_place p = meets_if_pixel p.at p.low p.high p.is

  pub gap_if_both : has_run_at targets (reach_place targets run) run ≡ true → has_run_at targets (reach_place targets run + 1) run ≡ true → HasGap (λ s. target s run.row) run.first run.past
  gap_if_both first second =
      let m = meets_gives targets (reach_place targets run) run first in
      let n = meets_gives targets (reach_place targets run + 1) run second in
      let p = first_pixel (reach_place targets run) refl m in
      let r = run_at (reach_place targets run) m.t m.at in
      let q = run_at (reach_place targets run + 1) n.t n.at in
      elim (in_order (reach_place targets run) (reach_place targets run + 1) m.t n.t m.at n.at (omega arith)) [
        | inl lower ↦ absurd (let a = m.row in let b = n.row in omega (arith, ints))
        | inr level ↦ (let gap = level.1 in let early = n.early in
            record {
              first = p.0.at;
              gap = m.t.past;
              again = n.t.first;
              low = p.0.low;
              later = p.1;
              still_later = gap;
              high = n.early;
              first_is = p.0.is;
              gap_is = subst (λ y. target m.t.past y ≡ false) m.row r.after;
              again_is = subst (λ y. target n.t.first y ≡ true) n.row (q.all n.t.first (omega (arith, ints)) q.some);
            })
      ]

  pub both_if_gap : HasGap (λ s. target s run.row) run.first run.past → has_run_at targets (reach_place targets run + 1) run ≡ true
  both_if_gap g =
      let a = g.low in let b = g.later in let c = g.still_later in let d = g.high in
      let h = has_pixel targets g.first run.row (are.covers g.first run.row g.first_is) in
      let i = has_pixel targets g.again run.row (are.covers g.again run.row g.again_is) in
      let next : ℕ = reach_place targets run in
      let from = from_reach g.first h a in
      let u : LineRun = get_or targets (next + 1) run in
      let h_low = h.low in let h_high = h.high in let i_low = i.low in let i_high = i.high in
      let apart : h.k < i.k = elim (cases_order h.k i.k) [
        | inl same ↦ absurd (let one : h.t ≡ i.t = sym (h.at.is h.t) ∙ ap (λ j. get_or targets j h.t) same ∙ i.at.is h.t in
            let r = run_at h.k h.t h.at in
            let upto : g.again <ℤ h.t.past = subst (λ (t : LineRun). g.again <ℤ t.past) (sym one) i.high in
            let on : target g.gap run.row ≡ true = subst (λ y. target g.gap y ≡ true) h.row (r.all g.gap (omega (arith, ints)) (omega (arith, ints))) in
            true_false (sym on ∙ g.gap_is))
        | inr other ↦ elim other [
          | inl less ↦ less
          | inr more ↦ absurd (elim (in_order i.k h.k i.t h.t i.at h.at more) [
            | inl lower ↦ (let p = h.row in let q = i.row in omega (arith, ints))
            | inr level ↦ (let gap = level.1 in omega (arith, ints))
          ])
        ]
      ] in
      elim (cases_lt (next + 1) i.k) [
        | inl less ↦ (let at = at_place targets (next + 1) run (omega (arith, i.at.below)) in
            elim (in_order (next + 1) i.k u i.t at i.at less) [
              | inl lower ↦ absurd (let first = meets_gives targets next run (meets_if_pixel g.first a (omega (arith, ints)) g.first_is) in
                  let row = i.row in let level = first.row in
                  elim (in_order next (next + 1) first.t u first.at at (omega arith)) [ inl under ↦ omega (arith, ints) | inr same ↦ (let e = same.0 in omega (arith, ints)) ])
              | inr level ↦ (let wide = (run_at (next + 1) u at).some in let gap = level.1 in meets_from targets (next + 1) run u at (level.0 ∙ i.row) (omega (arith, ints)))
            ])
        | inr upto ↦ (let same : i.k ≡ reach_place targets run + 1 = omega (arith, from, apart) in
            meets_from targets (next + 1) run i.t (subst (λ j. IsAt targets j i.t) same i.at) i.row (omega (arith, ints)))
      ]
