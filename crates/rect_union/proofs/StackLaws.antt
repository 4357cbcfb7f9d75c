-- Laws of slabs that are stacked into rectangles.
use Rattle.std.proofs.Common.{◌≡◌, ◌≢◌, inl, inr, ℕ, zero, suc, ◌+◌, ◌<◌, ℤ, ◌≤ℤ◌, ◌<ℤ◌, int_le, int_lt, int_eq, Bool, true, false, ◌&&◌, ◌||◌, List, [], ◌∷◌, ◌++◌, length, get_or, set, take, refl, sym, ◌∙◌, ap, ap₂, subst, arith, All, AllPairs, get_or-set_other, length-set, length-append}
use Rattle.std.proofs.lemmas.Int.{ints, by_lt_z}
use Rattle.std.proofs.lemmas.Bool.Decides.{eqb_tells}
use Rattle.std.proofs.lemmas.Grind.{get_or-set_at}
use Rattle.std.proofs.lemmas.List.Elements.{All-push}
use Rattle.std.proofs.lemmas.List.Folds.{list_any-append, list_any_more}
use Rattle.std.specs.List.{list_any}
use Rattle.std.proofs.lemmas.List.Quantifiers.{all_pairs_push}
use Rattle.std.proofs.Math.Seq.{get_or-append_seam}
use Rattle.std.proofs.lemmas.List.{get_or_append_left, get_or_default}
use Rattle.std.proofs.lemmas.Bool.{cases_order}
use Rattle.opc_base.specs.declared.plane.Rect.{Rect}
use Rattle.rect_union.specs.declared.run.Run.{Run}
use Rattle.rect_union.specs.declared.stack.Growing.{Growing}
use Rattle.rect_union.specs.RowRuns.{AreRuns, run_has, in_runs}
use Rattle.opc_base.specs.Canonical.{AreCanonical, IsSolid, Precedes}
use Rattle.rect_union.specs.Stacks.{IsAddingSlab, IsFirstFrom, IsLeftOfRuns, IsDoneInSlab, HasColumns, EndsAt, HasAllAt, HasPlace, PlacesRun, AreStacked, slab_cover}
use Rattle.opc_base.specs.Plane.{cover, rect_cover}

-- ---- runs to come

left_of_later : (runs : List Run) (n : ℕ) (x : ℤ) → IsLeftOfRuns runs n x → IsLeftOfRuns runs (n + 1) x
left_of_later runs n x left m d from below = left m d (omega arith) below

left_of_run : (runs : List Run) (n : ℕ) (run : Run) (x : ℤ) → AreRuns runs → n < length runs → ((d : Run) → get_or runs n d ≡ run)
    → x ≤ℤ run.past → IsLeftOfRuns runs (n + 1) x
left_of_run runs n run x are at is upto m d from below =
    let gap : run.past <ℤ (get_or runs m d).first = rw is at (are.apart n m d (omega arith) below) in omega (arith, ints)

run_first : (runs : List Run) (n : ℕ) (run : Run) (x : ℤ) → n < length runs → ((d : Run) → get_or runs n d ≡ run)
    → IsLeftOfRuns runs n x → x <ℤ run.first
run_first runs n run x at is left = rw is at (left n run (omega arith) at)

run_wide : (runs : List Run) (n : ℕ) (run : Run) → AreRuns runs → n < length runs → ((d : Run) → get_or runs n d ≡ run)
    → run.first <ℤ run.past
run_wide runs n run are at is = rw is at (are.some n run at)

-- ---- one rectangle after another

grows_before : (r s : Rect) (bottom top : ℤ) (runs : List Run) (n : ℕ) (run : Run) → n < length runs → ((d : Run) → get_or runs n d ≡ run)
    → Precedes r s → IsSolid s → IsDoneInSlab bottom top runs n s → bottom <ℤ top → r.y1 ≡ bottom → r.x0 ≡ run.first
    → Precedes (record r { y1 = top }) s
grows_before r s bottom top runs n run at is before solid placed high ends columns = record {
  sorted = before.sorted;
  apart = λ under. elim placed.done [
    | inl below ↦ before.apart (omega (arith, ints))
    | inr here ↦ inr (let left : s.x1 <ℤ run.first = run_first runs n run s.x1 at is here.1 in omega (arith, ints))
  ];
  maximal = λ touch. absurd (let low = placed.low in omega (arith, ints));
}

appended_after : (r : Rect) (bottom top : ℤ) (runs : List Run) (n : ℕ) (run : Run) → n < length runs → ((d : Run) → get_or runs n d ≡ run)
    → IsSolid r → IsDoneInSlab bottom top runs n r → bottom <ℤ top
    → (r.y1 ≡ bottom → r.x0 ≡ run.first → r.x1 ≢ run.past)
    → Precedes r (record { x0 = run.first; y0 = bottom; x1 = run.past; y1 = top })
appended_after r bottom top runs n run at is solid placed high absent = record {
  sorted = by_lt_z r.y0 bottom (λ under. inl under) (λ level. elim placed.done [
    | inl below ↦ absurd (omega (arith, ints))
    | inr here ↦ inr (
      (let low = placed.low in omega (arith, ints)),
      (let left : r.x1 <ℤ run.first = run_first runs n run r.x1 at is here.1 in omega (arith, ints)),
    )
  ]);
  apart = λ under. elim placed.done [
    | inl below ↦ absurd (omega (arith, ints))
    | inr here ↦ inl (run_first runs n run r.x1 at is here.1)
  ];
  maximal = absent;
}

-- ---- lists

-- what is at a place of a list after a write
after_set : {X : Type 0} (P : X → Type 0) (xs : List X) (i : ℕ) (y : X) (k : ℕ) (d : X) → k < length (set xs i y)
    → (k ≡ i → P y) → (k ≢ i → k < length xs → P (get_or xs k d)) → P (get_or (set xs i y) k d)
after_set P xs i y k d below here there =
    let within : k < length xs = rw length-set at below in
    elim (eqb_tells k i) [
      | inl w ↦ (let same : k ≡ i = w.1 in
          subst P (sym (get_or-set_at xs i k y d same (omega arith))) (here same))
      | inr w ↦ (let apart : k ≢ i = w.1 in
          subst P (sym (get_or-set_other xs i k y d apart)) (there apart within))
    ]

AllPairs-set : {X : Type 0} (R : X → X → Type 0) (xs : List X) (i : ℕ) (y : X) → AllPairs R xs
    → ((k : ℕ) (d : X) → k < i → i < length xs → R (get_or xs k d) y) → ((k : ℕ) (d : X) → i < k → k < length xs → R y (get_or xs k d))
    → AllPairs R (set xs i y)
AllPairs-set R xs i y pairs before later j k d in_order below =
    let within : k < length xs = rw length-set at below in
    after_set (λ x. R x (get_or (set xs i y) k d)) xs i y j d (omega arith)
    (λ first. after_set (R y) xs i y k d below (λ second. absurd (omega arith)) (λ _ _. later k d (omega arith) within))
    (λ apart in_list. after_set (R (get_or xs j d)) xs i y k d below
    (λ second. before j d (omega arith) (omega arith)) (λ _ _. pairs j k d in_order within))

-- what is at a place of a list with one more
after_push : {X : Type 0} (P : X → Type 0) (xs : List X) (y : X) (k : ℕ) (d : X) → k < length (xs ++ y ∷ [])
    → (k ≡ length xs → P y) → (k < length xs → P (get_or xs k d)) → P (get_or (xs ++ y ∷ []) k d)
after_push P xs y k d below here there =
    let within : k < length xs + 1 = simp length-append at below in
    elim (eqb_tells k (length xs)) [
      | inl w ↦ (let same : k ≡ length xs = w.1 in
          rw same (subst P (sym (get_or-append_seam xs y [] d)) (here same)))
      | inr w ↦ (let inside : k < length xs = (let apart : k ≢ length xs = w.1 in omega arith) in
          subst P (sym (get_or_append_left xs (y ∷ []) d k inside)) (there inside))
    ]

HasPlace-push : (growing : List Growing) (g : Growing) (place : ℕ) → HasPlace growing place → HasPlace (growing ++ g ∷ []) place
HasPlace-push growing g place has =
    let below : has.0 < length growing = has.1 in
    (has.0, simp length-append (omega arith), λ d. rw (get_or_append_left growing (g ∷ []) d has.0 below) (has.2 d))

HasPlace-last : (growing : List Growing) (g : Growing) → HasPlace (growing ++ g ∷ []) g.place
HasPlace-last growing g = (length growing, simp length-append (omega arith), λ d. ap (λ (h : Growing). h.place) (get_or-append_seam growing g [] d))

later_placed : (bottom top : ℤ) (runs : List Run) (n : ℕ) (r : Rect) → IsDoneInSlab bottom top runs n r → IsDoneInSlab bottom top runs (n + 1) r
later_placed bottom top runs n r placed = record {
  low = placed.low;
  done = elim placed.done [ inl below ↦ inl below | inr here ↦ inr (here.0, left_of_later runs n r.x1 here.1) ];
}

-- the places that the search for the columns of a run has passed lie left of the runs after it
passed_later : (bottom top : ℤ) (runs : List Run) (growing : List Growing) (rects : List Rect) (grown : List Growing) (next n found : ℕ) (run : Run)
    → AreRuns runs → n < length runs → ((e : Run) → get_or runs n e ≡ run)
    → IsAddingSlab bottom top runs growing rects grown next n → IsFirstFrom growing next run.first found
    → (k : ℕ) (d : Growing) → k < found → IsLeftOfRuns runs (n + 1) (get_or growing k d).run.first
passed_later bottom top runs growing rects grown next n found run are at is adding first k d before =
    let wide : run.first <ℤ run.past = run_wide runs n run are at is in
    elim (cases_order k next) [
      | inl same ↦ left_of_run runs n run (get_or growing k d).run.first are at is (let left = first.passed k d (omega arith) before in omega (arith, ints))
      | inr other ↦ elim other [
        | inl earlier ↦ left_of_later runs n (get_or growing k d).run.first (adding.passed k d earlier)
        | inr later ↦ left_of_run runs n run (get_or growing k d).run.first are at is (let left = first.passed k d (omega arith) before in omega (arith, ints))
      ]
    ]

grown_runs_push : (runs : List Run) (grown : List Growing) (g : Growing) (n : ℕ) → length grown ≡ n
    → ((k : ℕ) (d : Growing) (e : Run) → k < n → (get_or grown k d).run ≡ get_or runs k e) → ((e : Run) → get_or runs n e ≡ g.run)
    → (k : ℕ) (d : Growing) (e : Run) → k < n + 1 → (get_or (grown ++ g ∷ []) k d).run ≡ get_or runs k e
grown_runs_push runs grown g n count grown_runs is k d e below =
    after_push (λ (h : Growing). h.run ≡ get_or runs k e) grown g k d (simp length-append (omega arith))
    (λ last. rw (last ∙ count) (sym (is e))) (λ inside. grown_runs k d e (omega arith))

-- ---- a rectangle grows

-- what is known of the rectangle that grows
record IsFound (rects : List Rect) (bottom : ℤ) (run : Run) (place : ℕ) : Type 0 where
  pub within : place < length rects
  pub first : (d : Rect) → (get_or rects place d).x0 ≡ run.first
  pub past : (d : Rect) → (get_or rects place d).x1 ≡ run.past
  pub ends : EndsAt rects bottom place

found_at : (bottom top : ℤ) (runs : List Run) (growing : List Growing) (rects : List Rect) (grown : List Growing) (next n found : ℕ) (run : Run) (place : ℕ)
    → n < length runs → ((e : Run) → get_or runs n e ≡ run) → IsAddingSlab bottom top runs growing rects grown next n
    → found < length growing → ((d : Growing) → (get_or growing found d).run ≡ run) → ((d : Growing) → (get_or growing found d).place ≡ place)
    → IsFound rects bottom run place
found_at bottom top runs growing rects grown next n found run place at is adding below same_run same_place =
    let g : Growing = record { run = run; place = place } in
    let columns : HasColumns rects (get_or growing found g) = adding.columns found g below in
    record {
      within = rw (same_place g) at columns.placed;
      first = λ d. rw (same_place g, same_run g) at (columns.first d);
      past = λ d. rw (same_place g, same_run g) at (columns.past d);
      ends = elim (adding.ends found g below) [
        | inl left ↦ absurd (let early : (get_or growing found g).run.first <ℤ run.first = run_first runs n run (get_or growing found g).run.first at is left in
            let same : (get_or growing found g).run.first ≡ run.first = ap (λ (r : Run). r.first) (same_run g) in omega (arith, ints))
        | inr ends ↦ rw (same_place g) at ends
      ];
    }

abbrev grow : List Rect → ℕ → ℤ → Rect → List Rect
grow rects place top d = set rects place (record (get_or rects place d) { y1 = top })

HasColumns-grow : (rects : List Rect) (place : ℕ) (top : ℤ) (d : Rect) (g : Growing) → HasColumns rects g → HasColumns (grow rects place top d) g
HasColumns-grow rects place top d g columns =
    let r : Rect = record (get_or rects place d) { y1 = top } in
    let within : g.place < length (set rects place r) = rw length-set columns.placed in
    record {
      placed = within;
      first = λ e. after_set (λ (s : Rect). s.x0 ≡ g.run.first) rects place r g.place e within
          (λ same. rw same at (columns.first d)) (λ _ _. columns.first e);
      past = λ e. after_set (λ (s : Rect). s.x1 ≡ g.run.past) rects place r g.place e within
          (λ same. rw same at (columns.past d)) (λ _ _. columns.past e);
    }

EndsAt-grow_other : (rects : List Rect) (place : ℕ) (top y : ℤ) (d : Rect) (i : ℕ) → i ≢ place → EndsAt (grow rects place top d) y i → EndsAt rects y i
EndsAt-grow_other rects place top y d i apart ends e =
    rw (get_or-set_other rects place i (record (get_or rects place d) { y1 = top }) e apart) at (ends e)

EndsAt-grow_kept : (rects : List Rect) (place : ℕ) (top y : ℤ) (d : Rect) (i : ℕ) → i ≢ place → EndsAt rects y i → EndsAt (grow rects place top d) y i
EndsAt-grow_kept rects place top y d i apart ends e =
    rw (get_or-set_other rects place i (record (get_or rects place d) { y1 = top }) e apart) (ends e)

EndsAt-grow_top : (rects : List Rect) (place : ℕ) (top : ℤ) (d : Rect) (i : ℕ) → place < length rects → (i ≢ place → EndsAt rects top i) → EndsAt (grow rects place top d) top i
EndsAt-grow_top rects place top d i within ends =
    elim (eqb_tells i place) [
      | inl w ↦ (λ e. let same : i ≡ place = w.1 in ap (λ (r : Rect). r.y1) (get_or-set_at rects place i (record (get_or rects place d) { y1 = top }) e same within))
      | inr w ↦ EndsAt-grow_kept rects place top top d i w.1 (ends w.1)
    ]

HasAllAt-grow_bottom : (rects : List Rect) (place : ℕ) (bottom top : ℤ) (d : Rect) (growing : List Growing) → place < length rects → bottom <ℤ top
    → HasAllAt rects growing bottom → HasAllAt (grow rects place top d) growing bottom
HasAllAt-grow_bottom rects place bottom top d growing inside high complete i below ends =
    elim (eqb_tells i place) [
      | inl w ↦ absurd (let same : i ≡ place = w.1 in
          let new_end : (get_or (grow rects place top d) i d).y1 ≡ top = EndsAt-grow_top rects place top d i inside (λ apart. absurd (apart same)) d in
          let old_end : (get_or (grow rects place top d) i d).y1 ≡ bottom = ends d in
          let same_end : top ≡ bottom = sym new_end ∙ old_end in omega (arith, ints))
      | inr w ↦ complete i (rw length-set at below) (EndsAt-grow_other rects place top bottom d i w.1 ends)
    ]

HasAllAt-grow_top : (rects : List Rect) (place : ℕ) (top : ℤ) (d : Rect) (grown : List Growing) (run : Run)
    → HasAllAt rects grown top → HasAllAt (grow rects place top d) (grown ++ record { run = run; place = place } ∷ []) top
HasAllAt-grow_top rects place top d grown run complete i below ends =
    elim (eqb_tells i place) [
      | inl w ↦ subst (HasPlace (grown ++ record { run = run; place = place } ∷ [])) (sym w.1) (HasPlace-last grown (record { run = run; place = place }))
      | inr w ↦ HasPlace-push grown (record { run = run; place = place }) i
          (complete i (rw length-set at below) (EndsAt-grow_other rects place top top d i w.1 ends))
    ]

AreCanonical-grow : (bottom top : ℤ) (runs : List Run) (rects : List Rect) (n : ℕ) (run : Run) (place : ℕ) (d : Rect)
    → bottom <ℤ top → n < length runs → ((e : Run) → get_or runs n e ≡ run)
    → IsFound rects bottom run place → All (IsDoneInSlab bottom top runs n) rects → AreCanonical rects → AreCanonical (grow rects place top d)
AreCanonical-grow bottom top runs rects n run place d high at is found placed canonical =
    let r : Rect = get_or rects place d in
    let ends : (get_or rects place d).y1 ≡ bottom = found.ends d in
    let inside : place < length rects = found.within in
    let solid : IsSolid (get_or rects place d) = canonical.solid place d inside in
    record {
      solid = λ k e below. after_set IsSolid rects place (record r { y1 = top }) k e below
          (λ _. record { wide = solid.wide; high = (let tall = solid.high in omega (arith, ints)) }) (λ _ within. canonical.solid k e within);
      pairs = AllPairs-set Precedes rects place (record r { y1 = top }) canonical.pairs
          (λ k e before below. let p : Precedes (get_or rects k e) (get_or rects place d) =
          subst (Precedes (get_or rects k e)) (get_or_default rects place e d inside) (canonical.pairs k place e before below) in
          record { sorted = p.sorted; apart = p.apart; maximal = p.maximal })
          (λ k e after below. let p : Precedes (get_or rects place d) (get_or rects k e) =
          subst (λ (s : Rect). Precedes s (get_or rects k e)) (get_or_default rects place e d inside) (canonical.pairs place k e after below) in
          grows_before (get_or rects place d) (get_or rects k e) bottom top runs n run at is p (canonical.solid k e below) (placed k e below) high ends (found.first d));
    }

pub adding_grows : (bottom top : ℤ) (runs : List Run) (growing : List Growing) (rects : List Rect) (grown : List Growing) (next n found : ℕ) (run : Run) (place : ℕ) (d : Rect)
    → bottom <ℤ top → AreRuns runs → n < length runs → ((e : Run) → get_or runs n e ≡ run)
    → IsAddingSlab bottom top runs growing rects grown next n → IsFirstFrom growing next run.first found
    → found < length growing → ((e : Growing) → (get_or growing found e).run ≡ run) → ((e : Growing) → (get_or growing found e).place ≡ place)
    → IsAddingSlab bottom top runs growing (grow rects place top d) (grown ++ record { run = run; place = place } ∷ []) found (n + 1)
adding_grows bottom top runs growing rects grown next n found run place d high are at is adding first below same_run same_place =
    let it : IsFound rects bottom run place = found_at bottom top runs growing rects grown next n found run place at is adding below same_run same_place in
    let inside : place < length rects = it.within in
    let g : Growing = record { run = run; place = place } in
    let r : Rect = record (get_or rects place d) { y1 = top } in
    let wide : run.first <ℤ run.past = run_wide runs n run are at is in
    record {
      canonical = AreCanonical-grow bottom top runs rects n run place d high at is it adding.placed adding.canonical;
      placed = λ k e in_list. after_set (IsDoneInSlab bottom top runs (n + 1)) rects place r k e in_list
          (λ _. record { low = (adding.placed place d inside).low; done = inr (refl, left_of_run runs n run (get_or rects place d).x1 are at is (let past = it.past d in omega (arith, ints))) })
          (λ _ within. later_placed bottom top runs n (get_or rects k e) (adding.placed k e within));
      sorted = adding.sorted;
      columns = λ k e in_list. HasColumns-grow rects place top d (get_or growing k e) (adding.columns k e in_list);
      complete = HasAllAt-grow_bottom rects place bottom top d growing inside high adding.complete;
      next_within = first.within;
      passed = passed_later bottom top runs growing rects grown next n found run are at is adding first;
      ends = λ k e in_list. elim (adding.ends k e in_list) [
        | inl left ↦ inl (left_of_later runs n (get_or growing k e).run.first left)
        | inr ends ↦ elim (eqb_tells (get_or growing k e).place place) [
          | inl w ↦ inl (left_of_run runs n run (get_or growing k e).run.first are at is
              (let here : (get_or rects place d).x0 ≡ (get_or growing k e).run.first = rw w.1 at ((adding.columns k e in_list).first d) in
              let there = it.first d in omega (arith, ints)))
          | inr w ↦ inr (EndsAt-grow_kept rects place top bottom d (get_or growing k e).place w.1 ends)
        ]
      ];
      grown_count = simp length-append (let count = adding.grown_count in omega arith);
      grown_runs = grown_runs_push runs grown g n adding.grown_count adding.grown_runs is;
      grown_columns = All-push (HasColumns (grow rects place top d)) grown g
          (λ k e in_list. HasColumns-grow rects place top d (get_or grown k e) (adding.grown_columns k e in_list))
          (HasColumns-grow rects place top d g (record { placed = inside; first = it.first; past = it.past }));
      grown_ends = All-push (λ (h : Growing). EndsAt (grow rects place top d) top h.place) grown g
          (λ k e in_list. EndsAt-grow_top rects place top d (get_or grown k e).place inside (λ _. adding.grown_ends k e in_list))
          (EndsAt-grow_top rects place top d place inside (λ apart. absurd (apart refl)));
      grown_complete = HasAllAt-grow_top rects place top d grown run adding.grown_complete;
    }

-- ---- a rectangle is added

-- no rectangle that ends at the bottom has the columns of a run that was not found
absent : (bottom top : ℤ) (runs : List Run) (growing : List Growing) (rects : List Rect) (grown : List Growing) (next n found : ℕ) (run : Run)
    → n < length runs → ((e : Run) → get_or runs n e ≡ run)
    → IsAddingSlab bottom top runs growing rects grown next n → IsFirstFrom growing next run.first found
    → ((d : Growing) → found < length growing → (get_or growing found d).run ≢ run)
    → (k : ℕ) (e : Rect) → k < length rects → (get_or rects k e).y1 ≡ bottom → (get_or rects k e).x0 ≡ run.first → (get_or rects k e).x1 ≢ run.past
absent bottom top runs growing rects grown next n found run at is adding first other k e within ends same_first same_past =
    let has : HasPlace growing k = adding.complete k within (λ d. rw (get_or_default rects k d e within) ends) in
    let g : Growing = record { run = run; place = k } in
    let j : ℕ = has.0 in
    let below : has.0 < length growing = has.1 in
    let columns : HasColumns rects (get_or growing has.0 g) = adding.columns has.0 g below in
    let its_first : (get_or growing has.0 g).run.first ≡ run.first = sym (rw (has.2 g) at (columns.first e)) ∙ same_first in
    let its_past : (get_or growing has.0 g).run.past ≡ run.past = sym (rw (has.2 g) at (columns.past e)) ∙ same_past in
    let make : ℤ → ℤ → Run = λ a b. record { first = a; past = b } in
    elim (cases_order has.0 found) [
      | inl same ↦ other g (omega arith) (rw same at (ap₂ make its_first its_past))
      | inr apart ↦ elim apart [
        | inl earlier ↦ elim (cases_order has.0 next) [
          | inl same ↦ (let left = first.passed has.0 g (omega arith) earlier in omega (arith, ints))
          | inr order ↦ elim order [
            | inl before ↦ (let left : (get_or growing has.0 g).run.first <ℤ run.first =
                run_first runs n run (get_or growing has.0 g).run.first at is (adding.passed has.0 g before) in omega (arith, ints))
            | inr after ↦ (let left = first.passed has.0 g (omega arith) earlier in omega (arith, ints))
          ]
        ]
        | inr later ↦ (let sorted = adding.sorted found has.0 g later below in let reached = first.reached g (omega arith) in omega (arith, ints))
      ]
    ]

abbrev append : List Rect → ℤ → ℤ → Run → List Rect
append rects bottom top run = rects ++ record { x0 = run.first; y0 = bottom; x1 = run.past; y1 = top } ∷ []

HasColumns-append : (rects : List Rect) (r : Rect) (g : Growing) → HasColumns rects g → HasColumns (rects ++ r ∷ []) g
HasColumns-append rects r g columns =
    let placed : g.place < length rects = columns.placed in
    record {
      placed = simp length-append (omega arith);
      first = λ e. rw (get_or_append_left rects (r ∷ []) e g.place placed) (columns.first e);
      past = λ e. rw (get_or_append_left rects (r ∷ []) e g.place placed) (columns.past e);
    }

EndsAt-append : (rects : List Rect) (r : Rect) (y : ℤ) (i : ℕ) → i < length rects → EndsAt rects y i → EndsAt (rects ++ r ∷ []) y i
EndsAt-append rects r y i within ends e = rw (get_or_append_left rects (r ∷ []) e i within) (ends e)

EndsAt-before_append : (rects : List Rect) (r : Rect) (y : ℤ) (i : ℕ) → i < length rects → EndsAt (rects ++ r ∷ []) y i → EndsAt rects y i
EndsAt-before_append rects r y i within ends e = rw (get_or_append_left rects (r ∷ []) e i within) at (ends e)

EndsAt-last : (rects : List Rect) (r : Rect) → EndsAt (rects ++ r ∷ []) r.y1 (length rects)
EndsAt-last rects r e = ap (λ (s : Rect). s.y1) (get_or-append_seam rects r [] e)

HasAllAt-append_bottom : (rects : List Rect) (bottom : ℤ) (r : Rect) (growing : List Growing) → bottom <ℤ r.y1
    → HasAllAt rects growing bottom → HasAllAt (rects ++ r ∷ []) growing bottom
HasAllAt-append_bottom rects bottom r growing high complete i below ends =
    let within : i < length rects + 1 = simp length-append at below in
    elim (eqb_tells i (length rects)) [
      | inl w ↦ absurd (let same : i ≡ length rects = w.1 in
          let new_end : (get_or (rects ++ r ∷ []) (length rects) r).y1 ≡ r.y1 = EndsAt-last rects r r in
          let old_end : (get_or (rects ++ r ∷ []) (length rects) r).y1 ≡ bottom = rw same at (ends r) in
          let same_end : r.y1 ≡ bottom = sym new_end ∙ old_end in omega (arith, ints))
      | inr w ↦ (let apart : i ≢ length rects = w.1 in complete i (omega arith) (EndsAt-before_append rects r bottom i (omega arith) ends))
    ]

HasAllAt-append_top : (rects : List Rect) (top : ℤ) (r : Rect) (grown : List Growing) (run : Run)
    → HasAllAt rects grown top → HasAllAt (rects ++ r ∷ []) (grown ++ record { run = run; place = length rects } ∷ []) top
HasAllAt-append_top rects top r grown run complete i below ends =
    let within : i < length rects + 1 = simp length-append at below in
    let g : Growing = record { run = run; place = length rects } in
    elim (eqb_tells i (length rects)) [
      | inl w ↦ subst (HasPlace (grown ++ g ∷ [])) (sym w.1) (HasPlace-last grown g)
      | inr w ↦ (let apart : i ≢ length rects = w.1 in
          HasPlace-push grown g i (complete i (omega arith) (EndsAt-before_append rects r top i (omega arith) ends)))
    ]

adding_appends : (bottom top : ℤ) (runs : List Run) (growing : List Growing) (rects : List Rect) (grown : List Growing) (next n found : ℕ) (run : Run)
    → bottom <ℤ top → AreRuns runs → n < length runs → ((e : Run) → get_or runs n e ≡ run)
    → IsAddingSlab bottom top runs growing rects grown next n → IsFirstFrom growing next run.first found
    → ((d : Growing) → found < length growing → (get_or growing found d).run ≢ run)
    → IsAddingSlab bottom top runs growing (append rects bottom top run) (grown ++ record { run = run; place = length rects } ∷ []) found (n + 1)
adding_appends bottom top runs growing rects grown next n found run high are at is adding first other =
    let g : Growing = record { run = run; place = length rects } in
    let r : Rect = record { x0 = run.first; y0 = bottom; x1 = run.past; y1 = top } in
    let wide : run.first <ℤ run.past = run_wide runs n run are at is in
    record {
      canonical = record {
        solid = All-push IsSolid rects r adding.canonical.solid (record { wide = wide; high = high });
        pairs = all_pairs_push Precedes rects r adding.canonical.pairs
            (λ k e within. appended_after (get_or rects k e) bottom top runs n run at is (adding.canonical.solid k e within) (adding.placed k e within) high
            (absent bottom top runs growing rects grown next n found run at is adding first other k e within));
      };
      placed = All-push (IsDoneInSlab bottom top runs (n + 1)) rects r
          (λ k e within. later_placed bottom top runs n (get_or rects k e) (adding.placed k e within))
          (record { low = omega (arith, ints); done = inr (refl, left_of_run runs n run run.past are at is (omega (arith, ints))) });
      sorted = adding.sorted;
      columns = λ k e in_list. HasColumns-append rects r (get_or growing k e) (adding.columns k e in_list);
      complete = HasAllAt-append_bottom rects bottom r growing high adding.complete;
      next_within = first.within;
      passed = passed_later bottom top runs growing rects grown next n found run are at is adding first;
      ends = λ k e in_list. elim (adding.ends k e in_list) [
        | inl left ↦ inl (left_of_later runs n (get_or growing k e).run.first left)
        | inr ends ↦ inr (EndsAt-append rects r bottom (get_or growing k e).place (adding.columns k e in_list).placed ends)
      ];
      grown_count = simp length-append (let count = adding.grown_count in omega arith);
      grown_runs = grown_runs_push runs grown g n adding.grown_count adding.grown_runs is;
      grown_columns = All-push (HasColumns (rects ++ r ∷ [])) grown g
          (λ k e in_list. HasColumns-append rects r (get_or grown k e) (adding.grown_columns k e in_list))
          (record {
            placed = simp length-append (omega arith);
            first = λ e. ap (λ (s : Rect). s.x0) (get_or-append_seam rects r [] e);
            past = λ e. ap (λ (s : Rect). s.x1) (get_or-append_seam rects r [] e);
          });
      grown_ends = All-push (λ (h : Growing). EndsAt (rects ++ r ∷ []) top h.place) grown g
          (λ k e in_list. EndsAt-append rects r top (get_or grown k e).place (adding.grown_columns k e in_list).placed (adding.grown_ends k e in_list))
          (EndsAt-last rects r);
      grown_complete = HasAllAt-append_top rects top r grown run adding.grown_complete;
    }

-- one more run of a slab
pub adding_step : (bottom top : ℤ) (runs : List Run) (growing : List Growing) (rects new : List Rect) (grown : List Growing) (next n found : ℕ) (run : Run) (place : ℕ) (d : Rect)
    → bottom <ℤ top → AreRuns runs → n < length runs → ((e : Run) → get_or runs n e ≡ run)
    → IsAddingSlab bottom top runs growing rects grown next n → IsFirstFrom growing next run.first found
    → PlacesRun rects new growing found bottom top run place
    → IsAddingSlab bottom top runs growing new (grown ++ record { run = run; place = place } ∷ []) found (n + 1)
adding_step bottom top runs growing rects new grown next n found run place d high are at is adding first placed =
    elim placed [
      | inl grows ↦ subst (λ (l : List Rect). IsAddingSlab bottom top runs growing l (grown ++ record { run = run; place = place } ∷ []) found (n + 1)) (sym (grows.changed d))
          (adding_grows bottom top runs growing rects grown next n found run place d high are at is adding first grows.within grows.same_run grows.same_place)
      | inr appends ↦ subst (λ (l : List Rect). IsAddingSlab bottom top runs growing l (grown ++ record { run = run; place = place } ∷ []) found (n + 1)) (sym appends.changed)
          (subst (λ (p : ℕ). IsAddingSlab bottom top runs growing (append rects bottom top run) (grown ++ record { run = run; place = p } ∷ []) found (n + 1)) (sym appends.last)
          (adding_appends bottom top runs growing rects grown next n found run high are at is adding first appends.other))
    ]

-- ---- the pixels

or_swap : (a b c : Bool) → ((a || b) || c) ≡ ((a || c) || b)
or_swap a b c = grind arith

or_assoc : (a b c : Bool) → (a || (b || c)) ≡ ((a || b) || c)
or_assoc a b c = grind arith

one_more : (covered columns from below : Bool) → (covered || ((columns && from && below) || false)) ≡ (covered || ((from && below) && columns))
one_more covered columns from below = grind arith

added : (covered initial rows before after run : Bool) → covered ≡ (initial || (rows && before)) → after ≡ (before || run)
    → (covered || (rows && run)) ≡ (initial || (rows && after))
added covered initial rows before after run so_far more = grind arith

-- the rows of a rectangle and of a slab on it
rows_split : (columns from under below on : Bool) → (below ≡ true → on ≡ false) → (below ≡ false → on ≡ true)
    → (below ≡ true → under ≡ true) → (on ≡ true → from ≡ true)
    → (columns && from && under) ≡ ((columns && from && below) || ((on && under) && columns))
rows_split columns from under below on a b c d = grind arith

pub list_any-set : {X : Type 0} (p : X → Bool) (xs : List X) (i : ℕ) (y d : X) (more : Bool) → i < length xs → p y ≡ (p (get_or xs i d) || more)
    → list_any p (set xs i y) ≡ (list_any p xs || more)
list_any-set p [] i y d more within is = absurd (omega arith)
list_any-set p (x ∷ xs) zero y d more within is = rw is (or_swap (p x) more (list_any p xs))
list_any-set p (x ∷ xs) (suc i) y d more within is =
    ap (λ b. p x || b) (list_any-set p xs i y d more (omega arith) is) ∙ or_assoc (p x) (list_any p xs) more

grown_cover : (x0 y0 x1 bottom top x y : ℤ) → y0 <ℤ bottom → bottom <ℤ top
    → rect_cover (record { x0 = x0; y0 = y0; x1 = x1; y1 = top }) x y
    ≡ (rect_cover (record { x0 = x0; y0 = y0; x1 = x1; y1 = bottom }) x y || ((int_le bottom y && int_lt y top) && (int_le x0 x && int_lt x x1)))
grown_cover x0 y0 x1 bottom top x y low high =
    rows_split (int_le x0 x && int_lt x x1) (int_le y0 y) (int_lt y top) (int_lt y bottom) (int_le bottom y)
    (λ h. grind (arith, ints)) (λ h. grind (arith, ints)) (λ h. grind (arith, ints)) (λ h. grind (arith, ints))

grown_rect_cover : (r : Rect) (run : Run) (bottom top x y : ℤ) → r.y0 <ℤ bottom → bottom <ℤ top → r.y1 ≡ bottom → r.x0 ≡ run.first → r.x1 ≡ run.past
    → rect_cover (record r { y1 = top }) x y ≡ (rect_cover r x y || ((int_le bottom y && int_lt y top) && run_has run x))
grown_rect_cover r run bottom top x y low high ends first past =
    rw (first, past, ends) (grown_cover run.first r.y0 run.past bottom top x y low high)

cover-append : (rects : List Rect) (run : Run) (bottom top x y : ℤ)
    → cover (append rects bottom top run) x y ≡ (cover rects x y || ((int_le bottom y && int_lt y top) && run_has run x))
cover-append rects run bottom top x y =
    list_any-append (λ r. rect_cover r x y) rects (record { x0 = run.first; y0 = bottom; x1 = run.past; y1 = top } ∷ [])
    ∙ one_more (cover rects x y) (run_has run x) (int_le bottom y) (int_lt y top)

-- the pixels that one more run adds
cover_step : (bottom top : ℤ) (runs : List Run) (growing : List Growing) (rects new : List Rect) (grown : List Growing) (next n found : ℕ) (run : Run) (place : ℕ) (d : Rect)
    → bottom <ℤ top → n < length runs → ((e : Run) → get_or runs n e ≡ run)
    → IsAddingSlab bottom top runs growing rects grown next n → PlacesRun rects new growing found bottom top run place
    → (x y : ℤ) → cover new x y ≡ (cover rects x y || ((int_le bottom y && int_lt y top) && run_has run x))
cover_step bottom top runs growing rects new grown next n found run place d high at is adding placed x y =
    elim placed [
      | inl grows ↦
          let it : IsFound rects bottom run place = found_at bottom top runs growing rects grown next n found run place at is adding grows.within grows.same_run grows.same_place in
          let inside : place < length rects = it.within in
          let solid : IsSolid (get_or rects place d) = adding.canonical.solid place d inside in
          let ends : (get_or rects place d).y1 ≡ bottom = it.ends d in
          ap (λ (l : List Rect). cover l x y) (grows.changed d)
          ∙ list_any-set (λ r. rect_cover r x y) rects place (record (get_or rects place d) { y1 = top }) d ((int_le bottom y && int_lt y top) && run_has run x) inside
          (grown_rect_cover (get_or rects place d) run bottom top x y (let tall = solid.high in omega (arith, ints)) high ends (it.first d) (it.past d))
      | inr appends ↦ ap (λ (l : List Rect). cover l x y) appends.changed ∙ cover-append rects run bottom top x y
    ]

pub pixels_step : (bottom top : ℤ) (runs : List Run) (growing : List Growing) (initial rects new : List Rect) (grown : List Growing) (next n found : ℕ) (run : Run) (place : ℕ) (d : Rect)
    → bottom <ℤ top → n < length runs → ((e : Run) → get_or runs n e ≡ run)
    → IsAddingSlab bottom top runs growing rects grown next n → PlacesRun rects new growing found bottom top run place
    → ((x y : ℤ) → cover rects x y ≡ (cover initial x y || slab_cover bottom top (take n runs) x y))
    → (x y : ℤ) → cover new x y ≡ (cover initial x y || slab_cover bottom top (take (n + 1) runs) x y)
pixels_step bottom top runs growing initial rects new grown next n found run place d high at is adding placed so_far x y =
    cover_step bottom top runs growing rects new grown next n found run place d high at is adding placed x y
    ∙ added (cover rects x y) (cover initial x y) (int_le bottom y && int_lt y top) (in_runs (take n runs) x) (in_runs (take (n + 1) runs) x) (run_has run x)
    (so_far x y)
    (list_any_more (λ r. run_has r x) runs n run at ∙ ap (λ (r : Run). in_runs (take n runs) x || run_has r x) (is run))

-- ---- the first and the last run of a slab

pub no_pixels : (covered rows : Bool) → covered ≡ (covered || (rows && false))
no_pixels covered rows = grind arith

differs : (a b c d : ℤ) → false ≡ (int_eq a b && int_eq c d) → a ≡ b → c ≡ d → ⊥
differs a b c d test first past = grind (arith, ints)

pub other_run : (growing : List Growing) (k : ℕ) (d e : Growing) (run : Run) → k < length growing
    → false ≡ (int_eq (get_or growing k d).run.first run.first && int_eq (get_or growing k d).run.past run.past) → (get_or growing k e).run ≢ run
other_run growing k d e run below test same =
    let here : (get_or growing k d).run ≡ run = rw (get_or_default growing k d e below) same in
    differs (get_or growing k d).run.first run.first (get_or growing k d).run.past run.past test
    (ap (λ (r : Run). r.first) here) (ap (λ (r : Run). r.past) here)

pub adding_starts : (bottom top : ℤ) (runs : List Run) (growing : List Growing) (rects : List Rect)
    → bottom <ℤ top → AreStacked rects growing bottom → IsAddingSlab bottom top runs growing rects [] 0 0
adding_starts bottom top runs growing rects high stacked = record {
  canonical = stacked.canonical;
  placed = λ k d below. record {
    low = (let under = stacked.below k d below in let tall = (stacked.canonical.solid k d below).high in omega (arith, ints));
    done = inl (stacked.below k d below);
  };
  sorted = stacked.grows.sorted;
  columns = stacked.grows.columns;
  complete = stacked.grows.complete;
  next_within = omega arith;
  passed = λ k d before. absurd (omega arith);
  ends = λ k d below. inr (stacked.grows.ends k d below);
  grown_count = refl;
  grown_runs = λ k d e below. absurd (omega arith);
  grown_columns = λ k d below. absurd (omega arith);
  grown_ends = λ k d below. absurd (omega arith);
  grown_complete = λ i below ends. absurd (
      let r : Rect = record { x0 = bottom; y0 = bottom; x1 = bottom; y1 = bottom } in
      let here : (get_or rects i r).y1 ≡ top = ends r in let under = stacked.below i r below in omega (arith, ints));
}

pub adding_ends : (bottom top : ℤ) (runs : List Run) (growing : List Growing) (rects : List Rect) (grown : List Growing) (next n : ℕ)
    → bottom <ℤ top → AreRuns runs → n ≡ length runs → IsAddingSlab bottom top runs growing rects grown next n → AreStacked rects grown top
adding_ends bottom top runs growing rects grown next n high are all adding = record {
  canonical = adding.canonical;
  below = λ k d below. elim (adding.placed k d below).done [
    | inl under ↦ omega (arith, ints)
    | inr here ↦ (let top_is = here.0 in omega (arith, ints))
  ];
  grows = record {
    sorted = λ i j d before below.
        let count : length grown ≡ n = adding.grown_count in
        let first_is : (get_or grown i d).run ≡ get_or runs i d.run = adding.grown_runs i d d.run (omega arith) in
        let second_is : (get_or grown j d).run ≡ get_or runs j d.run = adding.grown_runs j d d.run (omega arith) in
        let wide : (get_or grown i d).run.first <ℤ (get_or grown i d).run.past =
        subst (λ (r : Run). r.first <ℤ r.past) (sym first_is) (are.some i d.run (omega arith)) in
        let apart : (get_or grown i d).run.past <ℤ (get_or grown j d).run.first =
        subst (λ (r : Run). r.past <ℤ (get_or grown j d).run.first) (sym first_is)
        (subst (λ (r : Run). (get_or runs i d.run).past <ℤ r.first) (sym second_is) (are.apart i j d.run before (omega arith))) in
        omega (arith, ints);
    columns = adding.grown_columns;
    ends = adding.grown_ends;
    complete = adding.grown_complete;
  };
}
