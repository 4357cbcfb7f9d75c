-- Lists of flaws.
use Rattle.std.proofs.Common.{◌≡◌, ◌⊎◌, inl, inr, ℕ, zero, suc, ◌+◌, ◌-◌, ◌<◌, ℤ, pos, ◌-ℤ◌, ◌≤ℤ◌, ◌<ℤ◌, int_lt, Bool, true, false, List, [], ◌∷◌, ◌++◌, length, get_or, take, refl, sym, ap, ap₂, ◌∙◌, subst, arith, length-append}
use Rattle.std.specs.Prelude.{All, AllPairs, Contains}
use Rattle.std.proofs.lemmas.Bool.{and_parts, and_from, cases_lt}
use Rattle.std.proofs.lemmas.Int.{ints, by_lt_z}
use Rattle.std.proofs.lemmas.List.{flat_map_more, get_or_append_left, get_or-append_right, get_or_default, take_more}
use Rattle.std.proofs.lemmas.List.Elements.{Contains-append_cases, Contains-append_left, Contains-append_right}
use Rattle.opc_base.specs.Plane.{IsRectWithin, PixelSet, cover}
use Rattle.opc_base.specs.declared.plane.Rect.{Rect}
use Rattle.rect_union.proofs.WithinLaws.{rects_within}
use Rattle.opc_base.specs.Runs.{IsRun}
use Rattle.print_check.specs.Flaws.{AreFlaws, ComesBefore, HasGap, HasPlace, IsFlaw, IsWrong, along}
use Rattle.print_check.specs.LineFlaws.{AreLineFlaws, IsLineFlaw, IsRunWithin, bridges, ends_before, flaw_of, flaws_at, line_flaws, has_run_at, one_if, pinches, reach_place, run_flaws}
use Rattle.print_check.specs.LineRuns.{AreLineRuns, IsBefore, IsRunOf}
use Rattle.print_check.specs.declared.flaw.Flaw.{Flaw}
use Rattle.print_check.specs.declared.flaw.FlawKind.{FlawKind}
use Rattle.print_check.specs.declared.flaw.FlawKind.TheVariants.{Pinch, Bridge}
use Rattle.print_check.specs.declared.flaw.Line.{Line}
use Rattle.print_check.specs.declared.flaw.Line.TheVariants.{Row, Column}
use Rattle.print_check.specs.declared.line_runs.LineRun.{LineRun}
use Rattle.print_check.proofs.FlawLaws.{both_if_gap, gap_if_both, has_pixel, meets_if_place, place_if_meets}

-- ---- lists that follow each other
pairs_append : {X : Type 0} (R : X → X → Type 0) (xs ys : List X) → AllPairs R xs → AllPairs R ys →
    ((x y : X) → Contains xs x → Contains ys y → R x y) → AllPairs R (xs ++ ys)
pairs_append {X} R xs ys first second across i j d before below = elim (cases_lt j (length xs)) [
  | inl inner ↦ subst (λ y. R (get_or (xs ++ ys) i d) y) (sym (get_or_append_left xs ys d j inner))
      (subst (λ x. R x (get_or xs j d)) (sym (get_or_append_left xs ys d i (omega arith))) (first i j d before inner))
  | inr outer ↦ (let at : j - length xs < length ys = omega (arith, length-append xs ys) in
      subst (λ y. R (get_or (xs ++ ys) i d) y) (sym (get_or-append_right xs ys (length xs) j d refl outer))
      (elim (cases_lt i (length xs)) [
        | inl early ↦ subst (λ x. R x (get_or ys (j - length xs) d)) (sym (get_or_append_left xs ys d i early))
            (across (get_or xs i d) (get_or ys (j - length xs) d) (i, early, get_or_default xs i (get_or xs i d) d early)
            (j - length xs, at, get_or_default ys (j - length xs) (get_or ys (j - length xs) d) d at))
        | inr late ↦ subst (λ x. R x (get_or ys (j - length xs) d)) (sym (get_or-append_right xs ys (length xs) i d refl late))
            (second (i - length xs) (j - length xs) d (omega arith) at)
      ]))
]

pairs_one : (b : Bool) (f : Flaw) → AllPairs ComesBefore (one_if b f)
pairs_one true f i j d before below = absurd (omega arith)
pairs_one false f i j d before below = absurd (omega arith)

contains_one : (b : Bool) (f h : Flaw) → Contains (one_if b f) h → (b ≡ true) × (f ≡ h)
contains_one true f h (zero, below, is) = (refl, is)
contains_one true f h (suc k, below, is) = absurd (omega arith)
contains_one false f h (k, below, is) = absurd (omega arith)

has_one : (b : Bool) (f : Flaw) → b ≡ true → Contains (one_if b f) f
has_one true f told = (0, omega arith, refl)
has_one false f told = absurd (cc)

-- ---- the flaws of one run
record IsFrom (line : Line) (run : LineRun) (f : Flaw) : Type 0 where
  pub kind : FlawKind
  pub is : flaw_of kind line run ≡ f

from_run : (line : Line) (targets : List LineRun) (width : ℤ) (run : LineRun) (f : Flaw) → Contains (run_flaws line targets width run) f → IsFrom line run f
from_run line targets width run f has =
    elim (Contains-append_cases (one_if (pinches targets (reach_place targets run) width run) (flaw_of Pinch line run)) (one_if (bridges targets (reach_place targets run) run) (flaw_of Bridge line run)) f has) [
      | inl first ↦ record { kind = Pinch; is = (contains_one (pinches targets (reach_place targets run) width run) (flaw_of Pinch line run) f first).1 }
      | inr second ↦ record { kind = Bridge; is = (contains_one (bridges targets (reach_place targets run) run) (flaw_of Bridge line run) f second).1 }
    ]

less_is : (a b : ℤ) → int_lt a b ≡ true → a <ℤ b
less_is a b told = grind (arith, ints)

is_less : (a b : ℤ) → a <ℤ b → int_lt a b ≡ true
is_less a b less = grind (arith, ints)

run_flaw_is : (line : Line) (target pixels : PixelSet) (targets : List LineRun) (width : ℤ) (run : LineRun) (f : Flaw) → AreLineRuns target targets → IsRunOf pixels run →
    Contains (run_flaws line targets width run) f → IsLineFlaw line target pixels width f
run_flaw_is line target pixels targets width run f are is_run has =
    elim (Contains-append_cases (one_if (pinches targets (reach_place targets run) width run) (flaw_of Pinch line run)) (one_if (bridges targets (reach_place targets run) run) (flaw_of Bridge line run)) f has) [
      | inl first ↦ (let told = contains_one (pinches targets (reach_place targets run) width run) (flaw_of Pinch line run) f first in
          let parts = and_parts (has_run_at targets (reach_place targets run) run) (int_lt (run.past -ℤ run.first) width) told.0 in
          subst (IsLineFlaw line target pixels width) told.1
          (record { line_is = refl; run = is_run; wrong = (less_is (run.past -ℤ run.first) width parts.1, place_if_meets target targets run are is_run.some parts.0) }))
      | inr second ↦ (let told = contains_one (bridges targets (reach_place targets run) run) (flaw_of Bridge line run) f second in
          let parts = and_parts (has_run_at targets (reach_place targets run) run) (has_run_at targets (reach_place targets run + 1) run) told.0 in
          subst (IsLineFlaw line target pixels width) told.1
          (record { line_is = refl; run = is_run; wrong = gap_if_both target targets run are is_run.some parts.0 parts.1 }))
    ]

has_run_flaw : (line : Line) (target : PixelSet) (targets : List LineRun) (width : ℤ) (run : LineRun) (kind : FlawKind) → AreLineRuns target targets → run.first <ℤ run.past →
    IsWrong kind width (λ s. target s run.row) run.first run.past → Contains (run_flaws line targets width run) (flaw_of kind line run)
has_run_flaw line target targets width run Pinch are some wrong =
    Contains-append_left (one_if (pinches targets (reach_place targets run) width run) (flaw_of Pinch line run)) (one_if (bridges targets (reach_place targets run) run) (flaw_of Bridge line run)) (flaw_of Pinch line run)
    (has_one (pinches targets (reach_place targets run) width run) (flaw_of Pinch line run)
    (and_from (has_run_at targets (reach_place targets run) run) (int_lt (run.past -ℤ run.first) width) (meets_if_place target targets run are some wrong.1) (is_less (run.past -ℤ run.first) width wrong.0)))
has_run_flaw line target targets width run Bridge are some wrong =
    Contains-append_right (one_if (pinches targets (reach_place targets run) width run) (flaw_of Pinch line run)) (one_if (bridges targets (reach_place targets run) run) (flaw_of Bridge line run)) (flaw_of Bridge line run)
    (has_one (bridges targets (reach_place targets run) run) (flaw_of Bridge line run)
    (and_from (has_run_at targets (reach_place targets run) run) (has_run_at targets (reach_place targets run + 1) run)
    (meets_if_place target targets run are some (place_of_gap wrong)) (both_if_gap target targets run are some wrong)))
  where
    place_of_gap : HasGap (λ s. target s run.row) run.first run.past → HasPlace (λ s. target s run.row) run.first run.past
    place_of_gap g =
        let b = g.later in let c = g.still_later in let d = g.high in
        record { at = g.first; low = g.low; high = omega (arith, ints); is = g.first_is }

-- ---- the flaws of all runs
flaws_each : (line : Line) (target pixels : PixelSet) (targets : List LineRun) (width : ℤ) (printed : List LineRun) → AreLineRuns target targets → All (IsRunOf pixels) printed →
    (f : Flaw) → Contains (line_flaws line targets width printed) f → IsLineFlaw line target pixels width f
flaws_each line target pixels targets width [] are all f (k, below, is) = absurd (omega arith)
flaws_each line target pixels targets width (r ∷ printed) are all f has = elim (Contains-append_cases (run_flaws line targets width r) (line_flaws line targets width printed) f has) [
  | inl here ↦ run_flaw_is line target pixels targets width r f are (all 0 r (omega arith)) here
  | inr later ↦ flaws_each line target pixels targets width printed are (λ k d below. all (suc k) d (omega arith)) f later
]

record IsAmong (line : Line) (printed : List LineRun) (f : Flaw) : Type 0 where
  pub run : LineRun
  pub among : Contains printed run
  pub from : IsFrom line run f

flaw_among : (line : Line) (targets : List LineRun) (width : ℤ) (printed : List LineRun) (f : Flaw) → Contains (line_flaws line targets width printed) f → IsAmong line printed f
flaw_among line targets width [] f (k, below, is) = absurd (omega arith)
flaw_among line targets width (r ∷ printed) f has = elim (Contains-append_cases (run_flaws line targets width r) (line_flaws line targets width printed) f has) [
  | inl here ↦ record { run = r; among = (0, omega arith, refl); from = from_run line targets width r f here }
  | inr later ↦ (let a = flaw_among line targets width printed f later in
      record { run = a.run; among = (suc a.among.0, (let below = a.among.1 in omega arith), a.among.2); from = a.from })
]

contains_line : (line : Line) (targets : List LineRun) (width : ℤ) (printed : List LineRun) (run : LineRun) (f : Flaw) → Contains printed run →
    Contains (run_flaws line targets width run) f → Contains (line_flaws line targets width printed) f
contains_line line targets width [] run f (k, below, is) has = absurd (omega arith)
contains_line line targets width (r ∷ printed) run f (zero, below, is) has =
    Contains-append_left (run_flaws line targets width r) (line_flaws line targets width printed) f (subst (λ (s : LineRun). Contains (run_flaws line targets width s) f) (sym is) has)
contains_line line targets width (r ∷ printed) run f (suc k, below, is) has =
    Contains-append_right (run_flaws line targets width r) (line_flaws line targets width printed) f (contains_line line targets width printed run f (k, omega arith, is) has)

later_flaw : (line : Line) (r s : LineRun) (k l : FlawKind) → r.first <ℤ r.past → IsBefore r s → ComesBefore (flaw_of k line r) (flaw_of l line s)
later_flaw line r s k l wide before = elim before [
  | inl lower ↦ inr (inl (refl, lower))
  | inr level ↦ inr (inr (inl (refl, level.0, (let gap = level.1 in omega (arith, ints)))))
]

flaws_sorted : (line : Line) (pixels : PixelSet) (targets : List LineRun) (width : ℤ) (printed : List LineRun) → AllPairs IsBefore printed → All (IsRunOf pixels) printed →
    AllPairs ComesBefore (line_flaws line targets width printed)
flaws_sorted line pixels targets width [] sorted all = λ i j d before below. absurd (omega arith)
flaws_sorted line pixels targets width (r ∷ printed) sorted all =
    pairs_append ComesBefore (run_flaws line targets width r) (line_flaws line targets width printed)
    (pairs_append ComesBefore (one_if (pinches targets (reach_place targets r) width r) (flaw_of Pinch line r)) (one_if (bridges targets (reach_place targets r) r) (flaw_of Bridge line r))
    (pairs_one (pinches targets (reach_place targets r) width r) (flaw_of Pinch line r)) (pairs_one (bridges targets (reach_place targets r) r) (flaw_of Bridge line r))
    (λ f g first second.
    subst (λ h. ComesBefore f h) (contains_one (bridges targets (reach_place targets r) r) (flaw_of Bridge line r) g second).1
    (subst (λ h. ComesBefore h (flaw_of Bridge line r)) (contains_one (pinches targets (reach_place targets r) width r) (flaw_of Pinch line r) f first).1
    (inr (inr (inr (refl, refl, refl, omega arith)))))))
    (flaws_sorted line pixels targets width printed (λ i j d before below. sorted (suc i) (suc j) d (omega arith) (omega arith)) (λ k d below. all (suc k) d (omega arith)))
    (λ f g first second.
    let a = from_run line targets width r f first in
    let b = flaw_among line targets width printed g second in
    let before : IsBefore r b.run = subst (IsBefore r) b.among.2 (sorted 0 (suc b.among.0) b.run (omega arith) (let below = b.among.1 in omega arith)) in
    subst (λ h. ComesBefore f h) b.from.is (subst (λ h. ComesBefore h (flaw_of b.from.kind line b.run)) a.is
    (later_flaw line r b.run a.kind b.from.kind (all 0 r (omega arith)).some before)))

-- two maximal runs that share a number are one
same_run : (f : ℤ → Bool) (a b c d : ℤ) → IsRun f a b → IsRun f c d → c ≤ℤ a → a <ℤ d → (c ≡ a) × (d ≡ b)
same_run f a b c d first second from to =
    let starts : c ≡ a = by_lt_z c a
    (λ less. absurd (true_false (sym (second.all (a -ℤ pos 1) (omega (arith, ints)) (omega (arith, ints))) ∙ first.before)))
    (λ most. omega (arith, ints)) in
    let wide = first.some in
    let ends : d ≡ b = by_lt_z b d
    (λ less. absurd (true_false (sym (second.all b (omega (arith, ints)) less) ∙ first.after)))
    (λ most. by_lt_z d b
    (λ less. absurd (true_false (sym (first.all d (omega (arith, ints)) less) ∙ second.after)))
    (λ least. omega (arith, ints))) in
    (starts, ends)
  where
    true_false : true ≡ false → ⊥
    true_false same = cc

flaws_complete : (line : Line) (target pixels : PixelSet) (targets : List LineRun) (width : ℤ) (printed : List LineRun) → AreLineRuns target targets → AreLineRuns pixels printed →
    (f : Flaw) → IsLineFlaw line target pixels width f → Contains (line_flaws line targets width printed) f
flaws_complete line target pixels targets width printed are runs f flaw =
    let some = flaw.run.some in
    let h = has_pixel printed f.from f.place (runs.covers f.from f.place (flaw.run.all f.from (omega (arith, ints)) some)) in
    let its : IsRun (λ s. pixels s f.place) h.t.first h.t.past = subst (λ (y : ℤ). IsRun (λ s. pixels s y) h.t.first h.t.past) h.row (subst (IsRunOf pixels) (h.at.is h.t) (runs.each h.k h.t h.at.below)) in
    let same = same_run (λ s. pixels s f.place) f.from f.to h.t.first h.t.past flaw.run its h.low h.high in
    let run : LineRun = record { row = f.place; first = f.from; past = f.to } in
    let one : h.t ≡ record { row = f.place; first = f.from; past = f.to } = run_is h.t h.row same.0 same.1 in
    subst (λ (l : Line). Contains (line_flaws l targets width printed) f) flaw.line_is
    (contains_line f.line targets width printed (record { row = f.place; first = f.from; past = f.to }) f
    (h.k, h.at.below, h.at.is (record { row = f.place; first = f.from; past = f.to }) ∙ one)
    (has_run_flaw f.line target targets width (record { row = f.place; first = f.from; past = f.to }) f.kind are some flaw.wrong))
  where
    run_is : (t : LineRun) → t.row ≡ f.place → t.first ≡ f.from → t.past ≡ f.to → t ≡ record { row = f.place; first = f.from; past = f.to }
    run_is t a b c =
        let make : ℤ → ℤ → ℤ → LineRun = λ row first past. record { row = row; first = first; past = past } in
        ap₂ (λ p q. make p q t.past) a b ∙ ap (λ p. make f.place f.from p) c

pub line_flaws_are : (line : Line) (target pixels : PixelSet) (targets : List LineRun) (width : ℤ) (printed : List LineRun) → AreLineRuns target targets → AreLineRuns pixels printed →
    AreLineFlaws line target pixels width (line_flaws line targets width printed)
line_flaws_are line target pixels targets width printed are runs = record {
  sorted = flaws_sorted line pixels targets width printed runs.sorted runs.each;
  each = flaws_each line target pixels targets width printed are runs.each;
  complete = flaws_complete line target pixels targets width printed are runs;
}

-- ---- rows, and then columns
IsRun-same : (f g : ℤ → Bool) (a b : ℤ) → ((t : ℤ) → f t ≡ g t) → IsRun f a b → IsRun g a b
IsRun-same f g a b same run = record {
  some = run.some;
  all = λ t from to. sym (same t) ∙ run.all t from to;
  before = sym (same (a -ℤ pos 1)) ∙ run.before;
  after = sym (same b) ∙ run.after;
}

IsWrong-same : (kind : FlawKind) (width : ℤ) (f g : ℤ → Bool) (a b : ℤ) → ((t : ℤ) → f t ≡ g t) → IsWrong kind width f a b → IsWrong kind width g a b
IsWrong-same Pinch width f g a b same wrong = (wrong.0, record { at = wrong.1.at; low = wrong.1.low; high = wrong.1.high; is = sym (same wrong.1.at) ∙ wrong.1.is })
IsWrong-same Bridge width f g a b same wrong = record {
  first = wrong.first;
  gap = wrong.gap;
  again = wrong.again;
  low = wrong.low;
  later = wrong.later;
  still_later = wrong.still_later;
  high = wrong.high;
  first_is = sym (same wrong.first) ∙ wrong.first_is;
  gap_is = sym (same wrong.gap) ∙ wrong.gap_is;
  again_is = sym (same wrong.again) ∙ wrong.again_is;
}

flaw_from : (line : Line) (target printed lines runs : PixelSet) (width : ℤ) (f : Flaw) → ((place s : ℤ) → lines s place ≡ along line target place s) → ((place s : ℤ) → runs s place ≡ along line printed place s) →
    IsLineFlaw line lines runs width f → IsFlaw target printed width f
flaw_from line target printed lines runs width f same_target same_printed flaw =
    let target_at : (s : ℤ) → lines s f.place ≡ along f.line target f.place s = λ s. same_target f.place s ∙ ap (λ (l : Line). along l target f.place s) (sym flaw.line_is) in
    let printed_at : (s : ℤ) → runs s f.place ≡ along f.line printed f.place s = λ s. same_printed f.place s ∙ ap (λ (l : Line). along l printed f.place s) (sym flaw.line_is) in
    record {
      run = IsRun-same (λ s. runs s f.place) (along f.line printed f.place) f.from f.to printed_at flaw.run;
      wrong = IsWrong-same f.kind width (λ s. lines s f.place) (along f.line target f.place) f.from f.to target_at flaw.wrong;
    }

flaw_to : (line : Line) (target printed lines runs : PixelSet) (width : ℤ) (f : Flaw) → ((place s : ℤ) → lines s place ≡ along line target place s) → ((place s : ℤ) → runs s place ≡ along line printed place s) →
    f.line ≡ line → IsFlaw target printed width f → IsLineFlaw line lines runs width f
flaw_to line target printed lines runs width f same_target same_printed line_is flaw =
    let target_at : (s : ℤ) → along f.line target f.place s ≡ lines s f.place = λ s. ap (λ (l : Line). along l target f.place s) line_is ∙ sym (same_target f.place s) in
    let printed_at : (s : ℤ) → along f.line printed f.place s ≡ runs s f.place = λ s. ap (λ (l : Line). along l printed f.place s) line_is ∙ sym (same_printed f.place s) in
    record {
      line_is = line_is;
      run = IsRun-same (along f.line printed f.place) (λ s. runs s f.place) f.from f.to printed_at flaw.run;
      wrong = IsWrong-same f.kind width (along f.line target f.place) (λ s. lines s f.place) f.from f.to target_at flaw.wrong;
    }

either_line : (l : Line) → (l ≡ Row) ⊎ (l ≡ Column)
either_line Row = inl refl
either_line Column = inr refl

pub all_flaws : (target printed across along_it : PixelSet) (width : ℤ) (rows columns : List Flaw) → ((x y : ℤ) → across x y ≡ target y x) → ((x y : ℤ) → along_it x y ≡ printed y x) →
    AreLineFlaws Row target printed width rows → AreLineFlaws Column across along_it width columns → AreFlaws target printed width (rows ++ columns)
all_flaws target printed across along_it width rows columns same_target same_printed in_rows in_columns = record {
  sorted = pairs_append ComesBefore rows columns in_rows.sorted in_columns.sorted
      (λ f g first second.
      let a = (in_rows.each f first).line_is in
      let b = (in_columns.each g second).line_is in
      inl (rw (a, b) (omega arith)));
  each = λ f has. elim (Contains-append_cases rows columns f has) [
    | inl first ↦ flaw_from Row target printed target printed width f (λ place s. refl) (λ place s. refl) (in_rows.each f first)
    | inr second ↦ flaw_from Column target printed across along_it width f (λ place s. same_target s place) (λ place s. same_printed s place) (in_columns.each f second)
  ];
  complete = λ f flaw. elim (either_line f.line) [
    | inl row ↦ Contains-append_left rows columns f (in_rows.complete f (flaw_to Row target printed target printed width f (λ place s. refl) (λ place s. refl) row flaw))
    | inr column ↦ Contains-append_right rows columns f (in_columns.complete f (flaw_to Column target printed across along_it width f (λ place s. same_target s place) (λ place s. same_printed s place) column flaw))
  ];
}

-- ---- while the runs are looked at

-- what ends before a run ends before all later ones
pub still_before : (t r s : LineRun) → ends_before t r ≡ true → IsBefore r s → r.first <ℤ r.past → ends_before t s ≡ true
still_before t r s told before wide = elim before [
  | inl lower ↦ in_lower told lower
  | inr level ↦ in_row told level.0 level.1
]
  where
    in_lower : ends_before t r ≡ true → r.row <ℤ s.row → ends_before t s ≡ true
    in_lower ends lower = grind (arith, ints)

    in_row : ends_before t r ≡ true → r.row ≡ s.row → r.past <ℤ s.first → ends_before t s ≡ true
    in_row ends same gap = grind (arith, ints)

pub found_more : (line : Line) (targets : List LineRun) (width : ℤ) (printed : List LineRun) (old found new : List Flaw) (i next : ℕ) (d : LineRun) → i < length printed →
    next ≡ reach_place targets (get_or printed i d) → found ≡ old ++ line_flaws line targets width (take i printed) → new ≡ found ++ flaws_at line targets next width (get_or printed i d) →
    new ≡ old ++ line_flaws line targets width (take (i + 1) printed)
found_more line targets width printed old found new i next d below next_is so_far pushed =
    pushed
    ∙ ap₂ (λ (l : List Flaw) (n : ℕ). l ++ flaws_at line targets n width (get_or printed i d)) so_far next_is
    ∙ flat_map_more (run_flaws line targets width) old (take i printed) (get_or printed i d)
    ∙ ap (λ (l : List LineRun). old ++ line_flaws line targets width l) (sym (take_more printed i d below))

-- the runs of rectangles are as near the origin as these
pub run_near : (rects : List Rect) (r : LineRun) → All (IsRectWithin 1048576) rects → IsRunOf (cover rects) r → IsRunWithin 1048576 r
run_near rects r within run =
    let wide = run.some in
    let a = rects_within 1048576 rects r.first r.row within (run.all r.first (omega (arith, ints)) wide) in
    let b = rects_within 1048576 rects (r.past -ℤ pos 1) r.row within (run.all (r.past -ℤ pos 1) (omega (arith, ints)) (omega (arith, ints))) in
    let left = a.left in let right = b.right in
    (omega (arith, ints), omega (arith, ints))
