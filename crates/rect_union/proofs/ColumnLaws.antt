-- Laws of the columns of a row.
use Rattle.std.proofs.Common.{◌≡◌, ◌≢◌, inl, inr, ℕ, ◌+◌, ◌^◌, ◌<◌, ◌≤◌, ℤ, pos, ◌+ℤ◌, ◌≤ℤ◌, ◌<ℤ◌, int_le, unsigned_abs, Bool, true, false, ◌&&◌, ◌||◌, ◌==◌, if◌then◌else◌, List, [], length, get_or, set, length-set, get_or-set_other, take, take_all, length-take, Option, Some, None, is_some, SFits, refl, sym, ◌∙◌, ap, subst, arith}
use Rattle.std.specs.Int.{w128}
use Rattle.std.proofs.lemmas.Int.{ints, by_lt_z, fits_signed_from_abs}
use Rattle.std.proofs.lemmas.Bool.{cases_order}
use Rattle.std.proofs.lemmas.Bool.Decides.{eqb_tells}
use Rattle.std.proofs.lemmas.Grind.{get_or-set_at}
use Rattle.std.proofs.lemmas.List.{get_or_default, get_or-take}
use Rattle.std.proofs.lemmas.List.Sums.{sum_by_more, sum_by_more_le}
use Rattle.rect_union.specs.declared.columns.Column.{Column}
use Rattle.rect_union.specs.declared.runs.RunBuilder.{RunBuilder}
use Rattle.rect_union.specs.Sums.{any_set}
use Rattle.rect_union.specs.Windings.{count_at, AreZero}
use Rattle.rect_union.specs.RowRuns.{in_runs, is_on, is_open_at, IsRunBuilder, EndsBefore}
use Rattle.rect_union.specs.Columns.{AreClosed, AreInOrder, EndsColumn, IsBuiltTo, IsCountedTo, owner_count, owner_total, row_cover, weight_of}
use Rattle.rect_union.proofs.SumLaws.{sum_each-nil, sum_each-more, sum_each-same, any_set-same, any_set-zero}

-- ---- the counts

pub counting_starts : (columns : List Column) (counts : List ℤ) → AreZero counts → IsCountedTo columns 0 counts
counting_starts columns counts zeros = record {
  totals = λ owner below. zeros owner below ∙ sym (sum_each-nil (λ (c : Column). if c.owner == owner then c.sign else pos 0));
  small = λ owner below. rw (zeros owner below) (omega arith);
}

own_sign : (owner other : ℕ) (sign : ℤ) → owner ≡ other → (if other == owner then sign else pos 0) ≡ sign
own_sign owner other sign same = grind (arith, eqb_tells)

other_sign : (owner other : ℕ) (sign : ℤ) → owner ≢ other → (if other == owner then sign else pos 0) ≡ pos 0
other_sign owner other sign apart = grind (arith, eqb_tells)

pub counting_step : (columns : List Column) (counts : List ℤ) (i : ℕ) (d : Column) → i < length columns → (get_or columns i d).owner < length counts
    → IsCountedTo columns i counts
    → IsCountedTo columns (i + 1) (set counts (get_or columns i d).owner (count_at counts (get_or columns i d).owner +ℤ (get_or columns i d).sign))
counting_step columns counts i d at below counted =
    let c : Column = get_or columns i d in
    let weight : weight_of (take (i + 1) columns) ≡ weight_of (take i columns) + unsigned_abs (get_or columns i d).sign =
    sum_by_more (λ (c : Column). unsigned_abs c.sign) columns i d at in
    record {
      totals = λ owner in_list.
          let within : owner < length counts = rw length-set at in_list in
          let more : owner_total (take (i + 1) columns) owner ≡ owner_total (take i columns) owner +ℤ (if c.owner == owner then c.sign else pos 0) =
          sum_each-more (λ (c : Column). if c.owner == owner then c.sign else pos 0) columns i d at in
          elim (eqb_tells owner c.owner) [
            | inl w ↦ (let same : owner ≡ (get_or columns i d).owner = w.1 in
                get_or-set_at counts c.owner owner (count_at counts c.owner +ℤ c.sign) (pos 0) same below
                ∙ ap (λ (z : ℤ). z +ℤ c.sign) (ap (count_at counts) (sym same) ∙ counted.totals owner within)
                ∙ sym (more ∙ ap (λ (z : ℤ). owner_total (take i columns) owner +ℤ z) (own_sign owner c.owner c.sign same)))
            | inr w ↦ (let apart : owner ≢ (get_or columns i d).owner = w.1 in
                get_or-set_other counts c.owner owner (count_at counts c.owner +ℤ c.sign) (pos 0) apart
                ∙ counted.totals owner within
                ∙ (let none = other_sign owner c.owner c.sign apart in omega (arith, ints)))
          ];
      small = λ owner in_list.
          let within : owner < length counts = rw length-set at in_list in
          elim (eqb_tells owner c.owner) [
            | inl w ↦ (let same : owner ≡ (get_or columns i d).owner = w.1 in
                rw (get_or-set_at counts c.owner owner (count_at counts c.owner +ℤ c.sign) (pos 0) same below)
                (let so_far = counted.small c.owner below in omega (arith, ints)))
            | inr w ↦ (let apart : owner ≢ (get_or columns i d).owner = w.1 in
                rw (get_or-set_other counts c.owner owner (count_at counts c.owner +ℤ c.sign) (pos 0) apart)
                (let so_far = counted.small owner within in omega arith))
          ];
    }

pub next_count_fits : (columns : List Column) (counts : List ℤ) (i : ℕ) (d : Column) → i < length columns → (get_or columns i d).owner < length counts
    → weight_of columns < 2 ^ 126 → IsCountedTo columns i counts
    → SFits w128 (count_at counts (get_or columns i d).owner +ℤ (get_or columns i d).sign)
next_count_fits columns counts i d at below small counted =
    let so_far = counted.small (get_or columns i d).owner below in
    let within : weight_of (take i columns) + unsigned_abs (get_or columns i d).sign ≤ weight_of columns =
    sum_by_more_le (λ (c : Column). unsigned_abs c.sign) columns i d at in
    fits_signed_from_abs w128 (count_at counts (get_or columns i d).owner +ℤ (get_or columns i d).sign) (omega (arith, ints))

-- ---- the pixels

right_sign : (own : Bool) (at x : ℤ) (sign : ℤ) → x <ℤ at → (if own && int_le at x then sign else pos 0) ≡ pos 0
right_sign own at x sign right = grind (arith, ints)

left_sign : (own : Bool) (at x : ℤ) (sign : ℤ) → at ≤ℤ x → (if own && int_le at x then sign else pos 0) ≡ (if own then sign else pos 0)
left_sign own at x sign left = grind (arith, ints)

-- left of the next column nothing changes
row_cover-left : (n : ℕ) (columns : List Column) (i : ℕ) (d : Column) (x : ℤ) → i < length columns → x <ℤ (get_or columns i d).x
    → row_cover n (take (i + 1) columns) x ≡ row_cover n (take i columns) x
row_cover-left n columns i d x at left =
    any_set-same n (λ owner. owner_count (take (i + 1) columns) owner x) (λ owner. owner_count (take i columns) owner x)
    (λ owner _.
    let more : owner_count (take (i + 1) columns) owner x ≡ owner_count (take i columns) owner x
    +ℤ (if ((get_or columns i d).owner == owner) && int_le (get_or columns i d).x x then (get_or columns i d).sign else pos 0) =
    sum_each-more (λ (c : Column). if (c.owner == owner) && int_le c.x x then c.sign else pos 0) columns i d at in
    let none = right_sign ((get_or columns i d).owner == owner) (get_or columns i d).x x (get_or columns i d).sign left in
    omega (arith, ints))

-- right of the first i columns the counts tell
row_cover-right : (columns : List Column) (i : ℕ) (d : Column) (counts : List ℤ) (x : ℤ) → AreInOrder columns → i < length columns
    → IsCountedTo columns (i + 1) counts → (get_or columns i d).x ≤ℤ x → row_cover (length counts) (take (i + 1) columns) x ≡ any_set (length counts) (count_at counts)
row_cover-right columns i d counts x order at counted right =
    any_set-same (length counts) (λ owner. owner_count (take (i + 1) columns) owner x) (count_at counts)
    (λ owner below.
    sum_each-same (λ (c : Column). if (c.owner == owner) && int_le c.x x then c.sign else pos 0) (λ (c : Column). if c.owner == owner then c.sign else pos 0) (take (i + 1) columns)
    (λ k e in_list.
    let within = simp length-take at in_list in
    let upto : k < i + 1 = omega arith in
    let is : get_or (take (i + 1) columns) k e ≡ get_or columns k e = get_or-take (i + 1) columns k e upto in
    rw is
    (left_sign ((get_or columns k e).owner == owner) (get_or columns k e).x x (get_or columns k e).sign
    (elim (eqb_tells k i) [
      | inl w ↦ (let same : k ≡ i = w.1 in
          let here : get_or columns k e ≡ get_or columns i d = rw same (get_or_default columns i e d at) in
          subst (λ (c : Column). c.x ≤ℤ x) (sym here) right)
      | inr w ↦ (let apart : k ≢ i = w.1 in
          let before : (get_or columns k e).x ≤ℤ (get_or columns i e).x = order k i e (omega arith) at in
          let here : get_or columns i e ≡ get_or columns i d = get_or_default columns i e d at in
          let there : (get_or columns i e).x ≤ℤ x = subst (λ (c : Column). c.x ≤ℤ x) (sym here) right in
          omega (arith, ints))
    ])))
    ∙ sym (counted.totals owner below))

-- ---- the row that is built

nothing_yet : (n : ℕ) (x : ℤ) → row_cover n [] x ≡ false
nothing_yet n x = any_set-zero n (λ owner. owner_count [] owner x) (λ owner _. sum_each-nil (λ (c : Column). if (c.owner == owner) && int_le c.x x then c.sign else pos 0))

none_open : (started : Option ℤ) → started ≡ None → is_some started ≡ false
none_open started none = rw none

pub building_starts : (columns : List Column) (counts : List ℤ) (builder : RunBuilder) → AreZero counts → IsRunBuilder builder
    → ((at : ℤ) → EndsBefore builder at) → builder.started ≡ None → ((x : ℤ) → is_on builder x ≡ false) → IsBuiltTo columns 0 (length counts) counts builder
building_starts columns counts builder zeros valid fresh closed off = record {
  valid = valid;
  before = λ d _. fresh (get_or columns 0 d).x;
  pixels = λ x _. off x ∙ sym (nothing_yet (length counts) x);
  settled = λ _. none_open builder.started closed ∙ sym (any_set-zero (length counts) (count_at counts) zeros);
}

take_left : (test : Bool) (a b : Bool) → test ≡ true → (if test then a else b) ≡ a
take_left test a b is = rw is

take_right : (test : Bool) (a b : Bool) → test ≡ false → (if test then a else b) ≡ b
take_right test a b is = rw is

-- a column after which the row is switched
pub building_switches : (columns : List Column) (i : ℕ) (d : Column) (old counts : List ℤ) (builder next : RunBuilder) (on : Bool)
    → AreInOrder columns → i < length columns → length counts ≡ length old → IsCountedTo columns (i + 1) counts → IsBuiltTo columns i (length old) old builder
    → EndsColumn columns i → on ≡ any_set (length counts) (count_at counts)
    → IsRunBuilder next → ((at : ℤ) → (get_or columns i d).x <ℤ at → EndsBefore next at) → is_some next.started ≡ on
    → ((x : ℤ) → is_on next x ≡ (if int_le (get_or columns i d).x x then on else is_on builder x))
    → IsBuiltTo columns (i + 1) (length counts) counts next
building_switches columns i d old counts builder next on order at size counted built ends covered valid upto state set = record {
  valid = valid;
  before = λ e below.
      let step : (get_or columns i d).x ≤ℤ (get_or columns (i + 1) d).x = order i (i + 1) d (omega arith) below in
      let apart : (get_or columns (i + 1) d).x ≢ (get_or columns i d).x = ends d d below in
      subst (λ (c : Column). EndsBefore next c.x) (get_or_default columns (i + 1) d e below) (upto (get_or columns (i + 1) d).x (omega (arith, ints)));
  pixels = λ x _. by_lt_z x (get_or columns i d).x
      (λ left.
      set x ∙ take_right (int_le (get_or columns i d).x x) on (is_on builder x) (grind (arith, ints))
      ∙ built.pixels x (λ e _. subst (λ (c : Column). x <ℤ c.x) (get_or_default columns i d e at) left)
      ∙ ap (λ n. row_cover n (take i columns) x) (sym size)
      ∙ sym (row_cover-left (length counts) columns i d x at left))
      (λ right.
      set x ∙ take_left (int_le (get_or columns i d).x x) on (is_on builder x) (grind (arith, ints))
      ∙ covered ∙ sym (row_cover-right columns i d counts x order at counted right));
  settled = λ _. state ∙ covered;
}

-- a column before another at the same x
pub building_waits : (columns : List Column) (i : ℕ) (d : Column) (old counts : List ℤ) (builder : RunBuilder)
    → AreInOrder columns → i < length columns → length counts ≡ length old → IsBuiltTo columns i (length old) old builder → ¬ EndsColumn columns i
    → IsBuiltTo columns (i + 1) (length counts) counts builder
building_waits columns i d old counts builder order at size built waits =
    let below : i + 1 < length columns = elim (cases_order (i + 1) (length columns)) [
      | inl same ↦ absurd (waits (λ _ _ within. absurd (omega arith)))
      | inr other ↦ elim other [ inl less ↦ less | inr more ↦ absurd (waits (λ _ _ within. absurd (omega arith))) ]
    ] in
    let step : (get_or columns i d).x ≤ℤ (get_or columns (i + 1) d).x = order i (i + 1) d (omega arith) below in
    let level : (get_or columns (i + 1) d).x ≡ (get_or columns i d).x = by_lt_z (get_or columns i d).x (get_or columns (i + 1) d).x
    (λ less. absurd (waits (λ e f within same.
    let next_is : get_or columns (i + 1) d ≡ get_or columns (i + 1) e = get_or_default columns (i + 1) d e below in
    let this_is : get_or columns i d ≡ get_or columns i f = get_or_default columns i d f at in
    let next_x : (get_or columns (i + 1) d).x ≡ (get_or columns (i + 1) e).x = ap (λ (c : Column). c.x) next_is in
    let this_x : (get_or columns i d).x ≡ (get_or columns i f).x = ap (λ (c : Column). c.x) this_is in
    omega (arith, ints))))
    (λ most. omega (arith, ints)) in
    record {
      valid = built.valid;
      before = λ e _. subst (λ (c : Column). EndsBefore builder c.x) (get_or_default columns (i + 1) d e below)
          (subst (EndsBefore builder) (sym level) (built.before d at));
      pixels = λ x left.
          let left_of : x <ℤ (get_or columns i d).x = (let next = left d below in omega (arith, ints)) in
          built.pixels x (λ e _. subst (λ (c : Column). x <ℤ c.x) (get_or_default columns i d e at) left_of)
          ∙ ap (λ n. row_cover n (take i columns) x) (sym size)
          ∙ sym (row_cover-left (length counts) columns i d x at left_of);
      settled = λ premise. absurd (waits (premise below i refl));
    }

closed_row : (runs : Bool) (started : Option ℤ) (x : ℤ) → is_some started ≡ false → (runs || is_open_at started x) ≡ runs
closed_row runs None x is = grind arith
closed_row runs (Some first) x is = cc

-- the whole row
pub building_ends : (columns : List Column) (i n : ℕ) (counts : List ℤ) (builder : RunBuilder) → length columns ≤ i → AreZero counts → n ≡ length counts
    → IsBuiltTo columns i (length counts) counts builder → (x : ℤ) → in_runs builder.runs.items x ≡ row_cover n columns x
building_ends columns i n counts builder all zeros size built x =
    let shut : is_some builder.started ≡ false = built.settled (λ below. absurd (omega arith)) ∙ any_set-zero (length counts) (count_at counts) zeros in
    let whole : take i columns ≡ columns = take_all i columns all in
    sym (closed_row (in_runs builder.runs.items x) builder.started x shut)
    ∙ built.pixels x (λ _ below. absurd (omega arith))
    ∙ ap (λ (cs : List Column). row_cover (length counts) cs x) whole
    ∙ ap (λ m. row_cover m columns x) (sym size)

pub counts_end : (columns : List Column) (i : ℕ) (counts : List ℤ) → length columns ≤ i → AreClosed columns → IsCountedTo columns i counts → AreZero counts
counts_end columns i counts all closed counted owner below =
    let whole : take i columns ≡ columns = take_all i columns all in
    counted.totals owner below ∙ ap (λ (cs : List Column). owner_total cs owner) whole ∙ closed owner
