-- Short runs and corner touches of a set, by the stretches between its pixels and the others.
use Rattle.std.proofs.Common.{◌≡◌, ◌≢◌, inl, inr, ℕ, ◌<◌, ℤ, pos, ◌+ℤ◌, ◌-ℤ◌, ◌≤ℤ◌, ◌<ℤ◌, Bool, true, false, not, int_le, refl, sym, ◌∙◌, ap, arith}
use Rattle.std.proofs.lemmas.Int.{ints}
use Rattle.opc_base.specs.Runs.{LiesInShortRun, IsCornerTouch}
use Rattle.mask_rules.specs.Clashes.{of_colour}
use Rattle.mask_rules.specs.declared.stretch.Stretch.{Stretch}
use Rattle.outline_model.specs.Edges.{seen}
use Rattle.mask_rules.specs.Stretches.{Spans, IsDrawn}
use Rattle.mask_rules.proofs.Lines.{upward, apart_is_not, not_apart, not_not}

pub of_colour-true : (c b : Bool) → b ≡ c → of_colour c b ≡ true
of_colour-true true b e = e
of_colour-true false b e = ap not e

pub of_colour-false : (c b : Bool) → b ≡ not c → of_colour c b ≡ false
of_colour-false true b e = e
of_colour-false false b e = ap not e

pub colour-true : (c b : Bool) → of_colour c b ≡ true → b ≡ c
colour-true true b e = e
colour-true false true e = sym e
colour-true false false e = refl

pub colour-false : (c b : Bool) → of_colour c b ≡ false → b ≡ not c
colour-false true b e = e
colour-false false true e = refl
colour-false false false e = sym e

-- two stretches with fewer than `least` pixels of a colour between them
pub record IsPair (p q : Stretch) (c : Bool) (least t : ℤ) : Type 0 where
  pub opens : p.opens ≡ c
  pub closes : q.opens ≡ not c
  pub apart : p.at <ℤ q.at
  pub short : q.at <ℤ (p.at +ℤ least)
  pub first : Spans p t
  pub second : Spans q t

pub run_of_pair : (inside : ℤ → ℤ → Bool) (n : ℕ) (s : Bool → ℕ → Stretch) → IsDrawn inside n s
    → (v c : Bool) (j k : ℕ) (least t : ℤ) → j < n → k < n → IsPair (s v j) (s v k) c least t
    → LiesInShortRun (λ a. of_colour c (seen v inside a t)) least (s v j).at
run_of_pair inside n s drawn v c j k least t j_below k_below pair =
    elim (upward (λ a. seen v inside a t) (s v j).at (s v k).at (let less = pair.apart in omega (arith, ints))) [
      | inl same ↦ absurd (not_apart _ _ (past ∙ ap not (sym here)) (same (s v k).at (let less = pair.apart in omega (arith, ints)) (omega (arith, ints))))
      | inr change ↦
          let z = change.0 in
          let above : (s v j).at <ℤ z = change.1 in
          let upto : z ≤ℤ (s v k).at = change.2 in
          let short : (s v k).at <ℤ ((s v j).at +ℤ least) = pair.short in
          record {
            first = (s v j).at;
            past = z;
            run = record {
              some = above;
              all = λ a low high. of_colour-true c _ (change.4 a low high ∙ here);
              before = of_colour-false c _ before;
              after = of_colour-false c _ (apart_is_not _ _ change.3 ∙ ap not here);
            };
            from = omega (arith, ints);
            to = above;
            short = omega (arith, ints);
          }
    ]
  where
    here : seen v inside (s v j).at t ≡ c
    here = (drawn.faces v j t j_below pair.first).0 ∙ pair.opens

    before : seen v inside ((s v j).at -ℤ pos 1) t ≡ not c
    before = (drawn.faces v j t j_below pair.first).1 ∙ ap not pair.opens

    past : seen v inside (s v k).at t ≡ not c
    past = (drawn.faces v k t k_below pair.second).0 ∙ pair.closes

pub record PairAt (n : ℕ) (s : Bool → ℕ → Stretch) (v c : Bool) (least a t : ℤ) : Type 0 where
  pub j : ℕ
  pub k : ℕ
  pub j_below : j < n
  pub k_below : k < n
  pub pair : IsPair (s v j) (s v k) c least t
  pub from : (s v j).at ≤ℤ a

pub pair_of_run : (inside : ℤ → ℤ → Bool) (n : ℕ) (s : Bool → ℕ → Stretch) → IsDrawn inside n s
    → (v c : Bool) (least a t : ℤ) → LiesInShortRun (λ b. of_colour c (seen v inside b t)) least a → PairAt n s v c least a t
pair_of_run inside n s drawn v c least a t short =
    let start = drawn.all v short.first t (not_apart _ _ (here ∙ sym (not_not c) ∙ ap not (sym before))) in
    let stop = drawn.all v short.past t (not_apart _ _ (past ∙ ap not (sym last))) in
    let start_at : (s v start.0).at ≡ short.first = start.2 in
    let stop_at : (s v stop.0).at ≡ short.past = stop.2 in
    let some : short.first <ℤ short.past = short.run.some in
    let little : short.past <ℤ (short.first +ℤ least) = short.short in
    let from : short.first ≤ℤ a = short.from in
    record {
      j = start.0;
      k = stop.0;
      j_below = start.1;
      k_below = stop.1;
      pair = record {
        opens = sym (drawn.faces v start.0 t start.1 start.3).0 ∙ ap (λ b. seen v inside b t) start_at ∙ here;
        closes = sym (drawn.faces v stop.0 t stop.1 stop.3).0 ∙ ap (λ b. seen v inside b t) stop_at ∙ past;
        apart = omega (arith, ints);
        short = omega (arith, ints);
        first = start.3;
        second = stop.3;
      };
      from = omega (arith, ints);
    }
  where
    here : seen v inside short.first t ≡ c
    here = colour-true c _ (short.run.all short.first (omega (arith, ints)) short.run.some)

    before : seen v inside (short.first -ℤ pos 1) t ≡ not c
    before = colour-false c _ short.run.before

    past : seen v inside short.past t ≡ not c
    past = colour-false c _ short.run.after

    last : seen v inside (short.past -ℤ pos 1) t ≡ c
    last = colour-true c _ (short.run.all (short.past -ℤ pos 1) (let some = short.run.some in omega (arith, ints)) (omega (arith, ints)))

-- ---- corners

-- a horizontal stretch ends where another one begins that has the inside on the other side
pub record IsMeetingPoint (p q : Stretch) : Type 0 where
  pub opposite : p.opens ≡ not q.opens
  pub level : p.at ≡ q.at
  pub meets : p.high ≡ q.low
  pub some : p.low <ℤ p.high
  pub some_too : q.low <ℤ q.high

opposite_of : (a b c : Bool) → a ≡ not b → c ≡ b → not a ≡ c
opposite_of a b c e f = ap not e ∙ not_not b ∙ sym f

pub touch_of_point : (inside : ℤ → ℤ → Bool) (n : ℕ) (s : Bool → ℕ → Stretch) → IsDrawn inside n s
    → (j k : ℕ) → j < n → k < n → IsMeetingPoint (s false j) (s false k)
    → IsCornerTouch inside ((s false j).high -ℤ pos 1) ((s false j).at -ℤ pos 1)
touch_of_point inside n s drawn j k j_below k_below point =
    let p = s false j in
    let q = s false k in
    let x = p.high -ℤ pos 1 in
    let y = p.at -ℤ pos 1 in
    let some : p.low <ℤ p.high = point.some in
    let some_too : q.low <ℤ q.high = point.some_too in
    let meets : p.high ≡ q.low = point.meets in
    let same : p.at ≡ q.at = point.level in
    let p_spans : Spans p x = (omega (arith, ints), omega (arith, ints)) in
    let q_spans : Spans q (x +ℤ pos 1) = (omega (arith, ints), omega (arith, ints)) in
    let p_faces = drawn.faces false j x j_below p_spans in
    let q_faces = drawn.faces false k (x +ℤ pos 1) k_below q_spans in
    let up : y +ℤ pos 1 ≡ p.at = omega (arith, ints) in
    let level : q.at -ℤ pos 1 ≡ y = omega (arith, ints) in
    let q_is : q.opens ≡ not p.opens = sym (opposite_of p.opens q.opens q.opens point.opposite refl) in
    let under_left : inside x y ≡ not p.opens = p_faces.1 in
    let over_left : inside x (y +ℤ pos 1) ≡ p.opens = ap (inside x) up ∙ p_faces.0 in
    let under_right : inside (x +ℤ pos 1) y ≡ p.opens = ap (inside (x +ℤ pos 1)) (sym level) ∙ q_faces.1 ∙ ap not q_is ∙ not_not p.opens in
    let over_right : inside (x +ℤ pos 1) (y +ℤ pos 1) ≡ not p.opens = ap (inside (x +ℤ pos 1)) (up ∙ same) ∙ q_faces.0 ∙ q_is in
    record {
      rising = under_left ∙ sym over_right;
      falling = under_right ∙ sym over_left;
      apart = λ e. not_apart p.opens p.opens (sym under_right ∙ sym e ∙ under_left) refl;
    }

pub record PointAt (n : ℕ) (s : Bool → ℕ → Stretch) (x y : ℤ) : Type 0 where
  pub j : ℕ
  pub k : ℕ
  pub j_below : j < n
  pub k_below : k < n
  pub point : IsMeetingPoint (s false j) (s false k)
  pub high_is : (s false j).high ≡ x +ℤ pos 1
  pub at_is : (s false j).at ≡ y +ℤ pos 1

-- A stretch below t that does not span t ends there.
ends_here : (p : Stretch) (t : ℤ) → Spans p t → ¬ Spans p (t +ℤ pos 1) → p.high ≡ t +ℤ pos 1
ends_here p t here not_after = by (int_le p.high (t +ℤ pos 1)) refl
  where
    by : (b : Bool) → int_le p.high (t +ℤ pos 1) ≡ b → p.high ≡ t +ℤ pos 1
    by true e = let high = here.1 in omega (arith, ints)
    by false e = let low = here.0 in absurd (not_after (omega (arith, ints), omega (arith, ints)))

begins_here : (p : Stretch) (t : ℤ) → Spans p (t +ℤ pos 1) → ¬ Spans p t → p.low ≡ t +ℤ pos 1
begins_here p t here not_before = by (int_le (t +ℤ pos 1) p.low) refl
  where
    by : (b : Bool) → int_le (t +ℤ pos 1) p.low ≡ b → p.low ≡ t +ℤ pos 1
    by true e = let low = here.0 in omega (arith, ints)
    by false e = let high = here.1 in absurd (not_before (omega (arith, ints), omega (arith, ints)))

pub point_of_touch : (inside : ℤ → ℤ → Bool) (n : ℕ) (s : Bool → ℕ → Stretch) → IsDrawn inside n s
    → (x y : ℤ) → IsCornerTouch inside x y → PointAt n s x y
point_of_touch inside n s drawn x y touch =
    let down : (y +ℤ pos 1) -ℤ pos 1 ≡ y = omega (arith, ints) in
    let left_apart : inside x (y +ℤ pos 1) ≢ inside x ((y +ℤ pos 1) -ℤ pos 1) =
    λ e. touch.apart (sym (ap (inside x) down) ∙ sym e ∙ sym touch.falling) in
    let right_apart : inside (x +ℤ pos 1) (y +ℤ pos 1) ≢ inside (x +ℤ pos 1) ((y +ℤ pos 1) -ℤ pos 1) =
    λ e. touch.apart (touch.rising ∙ e ∙ ap (inside (x +ℤ pos 1)) down) in
    let first = drawn.all false (y +ℤ pos 1) x left_apart in
    let second = drawn.all false (y +ℤ pos 1) (x +ℤ pos 1) right_apart in
    let p = s false first.0 in
    let q = s false second.0 in
    let p_at : p.at ≡ y +ℤ pos 1 = first.2 in
    let q_at : q.at ≡ y +ℤ pos 1 = second.2 in
    let p_spans : Spans p x = first.3 in
    let q_spans : Spans q (x +ℤ pos 1) = second.3 in
    let p_is : inside x (y +ℤ pos 1) ≡ p.opens = ap (inside x) (sym p_at) ∙ (drawn.faces false first.0 x first.1 p_spans).0 in
    let q_is : inside (x +ℤ pos 1) (y +ℤ pos 1) ≡ q.opens = ap (inside (x +ℤ pos 1)) (sym q_at) ∙ (drawn.faces false second.0 (x +ℤ pos 1) second.1 q_spans).0 in
    let opposite : p.opens ≡ not q.opens = apart_is_not _ _ (λ e. touch.apart (touch.rising ∙ q_is ∙ sym e ∙ sym p_is ∙ sym touch.falling)) in
    let p_high : p.high ≡ x +ℤ pos 1 = ends_here p x p_spans (λ too.
    not_apart p.opens q.opens opposite
    (sym (drawn.faces false first.0 (x +ℤ pos 1) first.1 too).0 ∙ ap (inside (x +ℤ pos 1)) p_at ∙ q_is)) in
    let q_low : q.low ≡ x +ℤ pos 1 = begins_here q x q_spans (λ too.
    not_apart p.opens q.opens opposite
    (sym p_is ∙ ap (inside x) (sym q_at) ∙ (drawn.faces false second.0 x second.1 too).0)) in
    let p_low : p.low ≤ℤ x = p_spans.0 in
    let q_high : (x +ℤ pos 1) <ℤ q.high = q_spans.1 in
    record {
      j = first.0;
      k = second.0;
      j_below = first.1;
      k_below = second.1;
      point = record {
        opposite = opposite;
        level = p_at ∙ sym q_at;
        meets = p_high ∙ sym q_low;
        some = omega (arith, ints);
        some_too = omega (arith, ints);
      };
      high_is = p_high;
      at_is = p_at;
    }
