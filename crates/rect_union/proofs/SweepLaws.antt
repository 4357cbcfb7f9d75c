-- Laws of the sweep.
use Rattle.std.proofs.Common.{◌≡◌, ◌≢◌, ◌⊎◌, inl, inr, ℕ, zero, suc, ◌+◌, ◌<◌, ◌≤◌, ℤ, pos, ◌+ℤ◌, ◌≤ℤ◌, ◌<ℤ◌, int_le, int_lt, unsigned_abs, Bool, true, false, ◌&&◌, ◌||◌, if◌then◌else◌, List, [], ◌∷◌, ◌++◌, length, get_or, take, take_all, refl, sym, ◌∙◌, ap, subst, arith}
use Rattle.std.proofs.lemmas.Int.{ints}
use Rattle.std.proofs.lemmas.Bool.Decides.{eqb_tells}
use Rattle.std.proofs.lemmas.List.{get_or_default}
use Rattle.std.proofs.lemmas.List.Elements.{All-push}
use Rattle.std.proofs.lemmas.List.Quantifiers.{all_pairs_push}
use Rattle.std.proofs.lemmas.List.Sums.{sum_by_more}
use Rattle.rect_union.specs.declared.columns.Column.{Column}
use Rattle.rect_union.specs.declared.quadrants.Quadrant.{Quadrant}
use Rattle.rect_union.specs.declared.sweep.Sweep.{Sweep}
use Rattle.opc_base.specs.Sums.{sum_each}
use Rattle.rect_union.specs.Columns.{owner_count, owner_total, row_cover}
use Rattle.opc_base.specs.Plane.{cover}
use Rattle.rect_union.specs.Quadrants.{AreInRows, HaveQuadrantOwnersBelow, column_part, column_total, is_wound, owner_part, row_total, winding}
use Rattle.rect_union.specs.Sweeps.{IsSweepAt, IsSweeping, Raises, owners_of}
use Rattle.rect_union.proofs.SumLaws.{any_set-same, any_set-zero, sum_each-more, sum_each-nil, sum_each-push}
use Rattle.rect_union.proofs.MergeLaws.{weight_push}

-- ---- the quadrants up to a row

taken : (a y e : ℤ) → a ≤ℤ y → (if int_le a y then e else pos 0) ≡ e
taken a y e below = grind (arith, ints)

left_out : (a y e : ℤ) → y <ℤ a → (if int_le a y then e else pos 0) ≡ pos 0
left_out a y e above = grind (arith, ints)

none_above : (f : Quadrant → ℤ) (quadrants : List Quadrant) (y : ℤ) → ((k : ℕ) (d : Quadrant) → k < length quadrants → y <ℤ (get_or quadrants k d).y)
    → sum_each (λ q. if int_le q.y y then f q else pos 0) quadrants ≡ pos 0
unfolding sum_each
none_above f [] y above = refl
none_above f (q ∷ quadrants) y above =
    let first : y <ℤ q.y = above 0 q (omega arith) in
    omega (arith, ints, left_out q.y y (f q) first, none_above f quadrants y (λ k d below. above (suc k) d (omega arith)))

-- where the first i quadrants are those up to the row y
sum_up_to : (f : Quadrant → ℤ) (quadrants : List Quadrant) (i : ℕ) (y : ℤ)
    → ((k : ℕ) (d : Quadrant) → k < i → k < length quadrants → (get_or quadrants k d).y ≤ℤ y)
    → ((k : ℕ) (d : Quadrant) → i ≤ k → k < length quadrants → y <ℤ (get_or quadrants k d).y)
    → sum_each (λ q. if int_le q.y y then f q else pos 0) quadrants ≡ sum_each f (take i quadrants)
unfolding sum_each
sum_up_to f quadrants zero y below above =
    none_above f quadrants y (λ k d in_list. above k d (omega arith) in_list) ∙ sym (sum_each-nil f)
sum_up_to f [] (suc i) y below above = refl
sum_up_to f (q ∷ quadrants) (suc i) y below above =
    let first : q.y ≤ℤ y = below 0 q (omega arith) (omega arith) in
    omega (
      arith,
      ints,
      taken q.y y (f q) first,
      sum_up_to f quadrants i y (λ k d before in_list. below (suc k) d (omega arith) (omega arith)) (λ k d from in_list. above (suc k) d (omega arith) (omega arith)),
    )

-- from the i-th quadrant on
rows_from : (quadrants : List Quadrant) (i : ℕ) (d : Quadrant) → AreInRows quadrants → i < length quadrants
    → (k : ℕ) (e : Quadrant) → i ≤ k → k < length quadrants → (get_or quadrants i d).y ≤ℤ (get_or quadrants k e).y
rows_from quadrants i d order at k e after below =
    elim (eqb_tells k i) [
      | inl w ↦ (let same : k ≡ i = w.1 in
          let is : get_or quadrants k e ≡ get_or quadrants i d = ap (λ j. get_or quadrants j e) same ∙ get_or_default quadrants i e d at in
          let level : (get_or quadrants k e).y ≡ (get_or quadrants i d).y = ap (λ (p : Quadrant). p.y) is in omega (arith, ints))
      | inr w ↦ (let apart : k ≢ i = w.1 in
          let is : (get_or quadrants i e).y ≡ (get_or quadrants i d).y = ap (λ (p : Quadrant). p.y) (get_or_default quadrants i e d at) in
          elim (order i k e (omega arith) below) [
            | inl less ↦ omega (arith, ints)
            | inr level ↦ (let same = level.0 in omega (arith, ints))
          ])
    ]

-- the quadrants of the rows to come
above_row : (quadrants : List Quadrant) (n : ℕ) (s : Sweep) (row : List Column) (bottom : ℤ) (i : ℕ) (d : Quadrant)
    → AreInRows quadrants → IsSweeping quadrants n s row bottom i → i < length quadrants → (get_or quadrants i d).y ≢ bottom
    → (k : ℕ) (e : Quadrant) → i ≤ k → k < length quadrants → bottom <ℤ (get_or quadrants k e).y
above_row quadrants n s row bottom i d order sweeping at next k e after below =
    let up : bottom ≤ℤ (get_or quadrants i d).y = sweeping.above i d (omega arith) at in
    let over : (get_or quadrants i d).y ≤ℤ (get_or quadrants k e).y = rows_from quadrants i d order at k e after below in
    omega (arith, ints)

-- ---- the rows of a slab

wound_in_slab : (quadrants : List Quadrant) (n i : ℕ) (columns : List Column) (x y : ℤ)
    → ((owner : ℕ) → owner_count columns owner x ≡ column_total (take i quadrants) owner x)
    → ((k : ℕ) (d : Quadrant) → k < i → k < length quadrants → (get_or quadrants k d).y ≤ℤ y)
    → ((k : ℕ) (d : Quadrant) → i ≤ k → k < length quadrants → y <ℤ (get_or quadrants k d).y)
    → row_cover n columns x ≡ is_wound n quadrants x y
wound_in_slab quadrants n i columns x y counts below above =
    any_set-same n (λ owner. owner_count columns owner x) (λ owner. winding quadrants owner x y)
    (λ owner _. counts owner ∙ sym (sum_up_to (λ q. column_part owner x q.column) quadrants i y below above))

slab_added : (covered new wound row below slab above : Bool) → covered ≡ (below && wound) → new ≡ (covered || (slab && row))
    → (slab ≡ true → row ≡ wound) → above ≡ (below || slab) → new ≡ (above && wound)
slab_added covered new wound row below slab above old is same rows = grind arith

rows_join : (bottom top y : ℤ) → bottom <ℤ top → int_lt y top ≡ (int_lt y bottom || (int_le bottom y && int_lt y top))
rows_join bottom top y high = grind (arith, ints)

in_slab : (bottom top y : ℤ) → (int_le bottom y && int_lt y top) ≡ true → (bottom ≤ℤ y) × (y <ℤ top)
in_slab bottom top y is = (grind (arith, ints), grind (arith, ints))

-- the total of a row's columns and those below it
pub sweeping_closed : (quadrants : List Quadrant) (n : ℕ) (s : Sweep) (row : List Column) (bottom : ℤ) (i : ℕ) (d : Quadrant)
    → AreInRows quadrants → ((owner : ℕ) (y : ℤ) → row_total quadrants owner y ≡ pos 0) → IsSweeping quadrants n s row bottom i
    → i < length quadrants → (get_or quadrants i d).y ≢ bottom
    → (owner : ℕ) → owner_total s.columns.items owner +ℤ owner_total row owner ≡ pos 0
sweeping_closed quadrants n s row bottom i d order closed sweeping at next owner =
    sweeping.totals owner
    ∙ sym (sum_up_to (λ q. owner_part owner q.column) quadrants i bottom sweeping.below (above_row quadrants n s row bottom i d order sweeping at next))
    ∙ closed owner bottom

-- the next row begins
pub sweeping_raises : (quadrants : List Quadrant) (n : ℕ) (old new : Sweep) (row : List Column) (bottom : ℤ) (i : ℕ) (d : Quadrant)
    → AreInRows quadrants → IsSweeping quadrants n old row bottom i → i < length quadrants → (get_or quadrants i d).y ≢ bottom
    → IsSweepAt new (get_or quadrants i d).y → Raises old new row bottom (get_or quadrants i d).y
    → IsSweeping quadrants n new [] (get_or quadrants i d).y i
sweeping_raises quadrants n old new row bottom i d order sweeping at next valid raises =
    let top : ℤ = (get_or quadrants i d).y in
    let up : bottom ≤ℤ (get_or quadrants i d).y = sweeping.above i d (omega arith) at in
    let higher : bottom <ℤ (get_or quadrants i d).y = omega (arith, ints) in
    let from : (k : ℕ) (e : Quadrant) → i ≤ k → k < length quadrants → (get_or quadrants i d).y ≤ℤ (get_or quadrants k e).y = rows_from quadrants i d order at in
    record {
      valid = valid;
      size = raises.size ∙ sweeping.size;
      counts = λ owner x.
          let none = sum_each-nil (λ (c : Column). column_part owner x c) in let sum = raises.counts owner x in let so_far = sweeping.counts owner x in omega (arith, ints);
      totals = λ owner.
          let none = sum_each-nil (λ (c : Column). owner_part owner c) in let sum = raises.totals owner in let so_far = sweeping.totals owner in omega (arith, ints);
      weight = let kept = raises.weight in let so_far = sweeping.weight in omega arith;
      row_order = λ j k e before below. absurd (omega arith);
      row_owners = λ k e below. absurd (omega arith);
      row_before = λ _ _ _ k e below. absurd (omega arith);
      below = λ k e before in_list. let low = sweeping.below k e before in_list in omega (arith, ints);
      above = from;
      pixels = λ x y.
          slab_added (cover old.rects.items x y) (cover new.rects.items x y) (is_wound n quadrants x y) (row_cover (owners_of old) new.columns.items x)
          (int_lt y bottom) (int_le bottom y && int_lt y top) (int_lt y top) (sweeping.pixels x y) (raises.pixels x y)
          (λ slab.
          let rows = in_slab bottom top y slab in let low = rows.0 in let high = rows.1 in
          ap (λ m. row_cover m new.columns.items x) sweeping.size
          ∙ wound_in_slab quadrants n i new.columns.items x y (λ owner. raises.counts owner x ∙ sweeping.counts owner x)
          (λ k e before in_list. let under = sweeping.below k e before in_list in omega (arith, ints))
          (λ k e after in_list. let over = from k e after in_list in omega (arith, ints)))
          (rows_join bottom top y higher);
    }

-- one more quadrant of the row
pub sweeping_pushes : (quadrants : List Quadrant) (n : ℕ) (s : Sweep) (row : List Column) (bottom : ℤ) (i : ℕ) (d : Quadrant)
    → AreInRows quadrants → HaveQuadrantOwnersBelow n quadrants → IsSweeping quadrants n s row bottom i → i < length quadrants → (get_or quadrants i d).y ≡ bottom
    → IsSweeping quadrants n s (row ++ (get_or quadrants i d).column ∷ []) bottom (i + 1)
sweeping_pushes quadrants n s row bottom i d order owners sweeping at here =
    let q : Quadrant = get_or quadrants i d in
    record {
      valid = sweeping.valid;
      size = sweeping.size;
      counts = λ owner x.
          let pushed = sum_each-push (λ (c : Column). column_part owner x c) row (get_or quadrants i d).column in
          let more = sum_each-more (λ (q : Quadrant). column_part owner x q.column) quadrants i d at in
          let so_far = sweeping.counts owner x in omega (arith, ints);
      totals = λ owner.
          let pushed = sum_each-push (λ (c : Column). owner_part owner c) row (get_or quadrants i d).column in
          let more = sum_each-more (λ (q : Quadrant). owner_part owner q.column) quadrants i d at in
          let so_far = sweeping.totals owner in omega (arith, ints);
      weight =
          let pushed = weight_push row (get_or quadrants i d).column in
          let more = sum_by_more (λ (q : Quadrant). unsigned_abs q.column.sign) quadrants i d at in
          let so_far = sweeping.weight in omega arith;
      row_order = all_pairs_push (λ a b. a.x ≤ℤ b.x) row (get_or quadrants i d).column sweeping.row_order (sweeping.row_before d at here);
      row_owners = All-push (λ (c : Column). c.owner < n) row (get_or quadrants i d).column sweeping.row_owners (owners i d at);
      row_before = λ e in_list same.
          let step : (get_or quadrants i d).column.x ≤ℤ (get_or quadrants (i + 1) e).column.x =
          elim (subst (λ (p : Quadrant). (p.y <ℤ (get_or quadrants (i + 1) e).y) ⊎ ((p.y ≡ (get_or quadrants (i + 1) e).y) × (p.column.x ≤ℤ (get_or quadrants (i + 1) e).column.x)))
          (get_or_default quadrants i e d at) (order i (i + 1) e (omega arith) in_list)) [
            | inl less ↦ absurd (omega (arith, ints))
            | inr level ↦ level.1
          ] in
          All-push (λ (c : Column). c.x ≤ℤ (get_or quadrants (i + 1) e).column.x) row (get_or quadrants i d).column
          (λ k f below. let low = sweeping.row_before d at here k f below in omega (arith, ints)) step;
      below = λ k e before in_list. elim (eqb_tells k i) [
        | inl w ↦ (let same : k ≡ i = w.1 in
            let is : get_or quadrants k e ≡ get_or quadrants i d = ap (λ j. get_or quadrants j e) same ∙ get_or_default quadrants i e d at in
            let level : (get_or quadrants k e).y ≡ bottom = ap (λ (p : Quadrant). p.y) is ∙ here in omega (arith, ints))
        | inr w ↦ (let apart : k ≢ i = w.1 in sweeping.below k e (omega arith) in_list)
      ];
      above = λ k e after in_list. sweeping.above k e (omega arith) in_list;
      pixels = sweeping.pixels;
    }

covered_below : (covered wound below : Bool) → covered ≡ (below && wound) → (below ≡ false → wound ≡ false) → covered ≡ wound
covered_below covered wound below is none = grind arith

not_below : (y bottom : ℤ) → int_lt y bottom ≡ false → bottom ≤ℤ y
not_below y bottom is = grind (arith, ints)

pub sweeping_ends : (quadrants : List Quadrant) (n : ℕ) (s : Sweep) (row : List Column) (bottom : ℤ) (i : ℕ) → length quadrants ≤ i
    → ((owner : ℕ) (x : ℤ) → column_total quadrants owner x ≡ pos 0) → IsSweeping quadrants n s row bottom i
    → (x y : ℤ) → cover s.rects.items x y ≡ is_wound n quadrants x y
sweeping_ends quadrants n s row bottom i all closed sweeping x y =
    covered_below (cover s.rects.items x y) (is_wound n quadrants x y) (int_lt y bottom) (sweeping.pixels x y)
    (λ no. let over : bottom ≤ℤ y = not_below y bottom no in
    any_set-zero n (λ owner. winding quadrants owner x y)
    (λ owner _.
    sum_up_to (λ q. column_part owner x q.column) quadrants i y
    (λ k d before in_list. let low = sweeping.below k d before in_list in omega (arith, ints)) (λ k d after in_list. absurd (omega arith))
    ∙ ap (sum_each (λ q. column_part owner x q.column)) (take_all i quadrants all) ∙ closed owner x))

none_below : (covered below wound : Bool) → covered ≡ false → (below ≡ true → wound ≡ false) → covered ≡ (below && wound)
none_below covered below wound is none = grind arith

is_below : (y bottom : ℤ) → int_lt y bottom ≡ true → y <ℤ bottom
is_below y bottom is = grind (arith, ints)

pub sweeping_starts : (quadrants : List Quadrant) (n : ℕ) (s : Sweep) (row : List Column) (bottom : ℤ) → AreInRows quadrants
    → ((d : Quadrant) → 0 < length quadrants → bottom ≡ (get_or quadrants 0 d).y)
    → IsSweepAt s bottom → owners_of s ≡ n → s.columns.items ≡ [] → s.rects.items ≡ [] → row ≡ []
    → IsSweeping quadrants n s row bottom 0
sweeping_starts quadrants n s row bottom order first valid size no_columns no_rects no_row =
    let from : (k : ℕ) (e : Quadrant) → 0 ≤ k → k < length quadrants → bottom ≤ℤ (get_or quadrants k e).y =
    λ k e after in_list. let start : bottom ≡ (get_or quadrants 0 e).y = first e (omega arith) in
    let up : (get_or quadrants 0 e).y ≤ℤ (get_or quadrants k e).y = rows_from quadrants 0 e order (omega arith) k e after in_list in omega (arith, ints) in
    record {
      valid = valid;
      size = size;
      counts = λ owner x. rw (no_columns, no_row) (let none = sum_each-nil (λ (c : Column). column_part owner x c) in
          let none_taken = sum_each-nil (λ (q : Quadrant). column_part owner x q.column) in omega (arith, ints));
      totals = λ owner. rw (no_columns, no_row) (let none = sum_each-nil (λ (c : Column). owner_part owner c) in
          let none_taken = sum_each-nil (λ (q : Quadrant). owner_part owner q.column) in omega (arith, ints));
      weight = rw (no_columns, no_row) (omega arith);
      row_order = rw no_row (λ j k e before below. absurd (omega arith));
      row_owners = rw no_row (λ k e below. absurd (omega arith));
      row_before = λ _ _ _. rw no_row (λ k e below. absurd (omega arith));
      below = λ k e before _. absurd (omega arith);
      above = from;
      pixels = λ x y. none_below (cover s.rects.items x y) (int_lt y bottom) (is_wound n quadrants x y) (ap (λ l. cover l x y) no_rects)
          (λ yes. let under : y <ℤ bottom = is_below y bottom yes in
          any_set-zero n (λ owner. winding quadrants owner x y)
          (λ owner _. none_above (λ q. column_part owner x q.column) quadrants y (λ k d in_list. let over = from k d (omega arith) in_list in omega (arith, ints))));
    }
