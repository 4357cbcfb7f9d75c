-- A canonical list has exactly the maximal stacks of the pixels that it covers.
use Rattle.std.proofs.Common.{◌≡◌, ◌⊎◌, inl, inr, ℕ, ◌<◌, ℤ, pos, ◌-ℤ◌, ◌≤ℤ◌, ◌<ℤ◌, Bool, true, false, List, length, get_or, refl, sym, ◌∙◌, ap, ap₂, subst, arith}
use Rattle.std.proofs.lemmas.Int.{ints, by_lt_z}
use Rattle.std.proofs.lemmas.Bool.{cases_order}
use Rattle.std.proofs.lemmas.List.{get_or_default}
use Rattle.std.proofs.lemmas.List.Folds.{list_any_at, list_any_none, Any-from_list_any}
use Rattle.opc_base.specs.declared.plane.Rect.{Rect}
use Rattle.opc_base.specs.Runs.{IsRun}
use Rattle.opc_base.specs.Plane.{cover, rect_cover}
use Rattle.opc_base.specs.Canonical.{AreCanonical, IsCanonical, IsSolid, IsStack, Precedes, RunsInRow}

-- the pixel lies in the rectangle
record IsIn (r : Rect) (x y : ℤ) : Type 0 where
  pub left : r.x0 ≤ℤ x
  pub right : x <ℤ r.x1
  pub low : r.y0 ≤ℤ y
  pub high : y <ℤ r.y1

IsIn-rect_cover : (r : Rect) (x y : ℤ) → rect_cover r x y ≡ true → IsIn r x y
IsIn-rect_cover r x y is = record { left = grind (arith, ints); right = grind (arith, ints); low = grind (arith, ints); high = grind (arith, ints) }

rect_cover-in : (r : Rect) (x y : ℤ) → r.x0 ≤ℤ x → x <ℤ r.x1 → r.y0 ≤ℤ y → y <ℤ r.y1 → rect_cover r x y ≡ true
rect_cover-in r x y left right low high = grind (arith, ints)

false_unless : (b : Bool) → (b ≡ true → ⊥) → b ≡ false
false_unless true never = absurd (never refl)
false_unless false never = refl

pub true_false : true ≡ false → ⊥
true_false same = cc

default_at : (rects : List Rect) (k : ℕ) (d e : Rect) → k < length rects → get_or rects k d ≡ get_or rects k e
default_at rects k d e below = get_or_default rects k d e below

-- beside a rectangle there is no other one in the same row
alone : (rects : List Rect) (k : ℕ) (d : Rect) (x y : ℤ) → AreCanonical rects → k < length rects
    → (get_or rects k d).y0 ≤ℤ y → y <ℤ (get_or rects k d).y1 → (x ≡ (get_or rects k d).x0 -ℤ pos 1) ⊎ (x ≡ (get_or rects k d).x1)
    → cover rects x y ≡ false
alone rects k d x y canonical at low high beside =
    let r : Rect = get_or rects k d in
    let wide : (get_or rects k d).x0 <ℤ (get_or rects k d).x1 = (canonical.solid k d at).wide in
    list_any_none (λ s. rect_cover s x y) rects (λ j e below. false_unless (rect_cover (get_or rects j e) x y) (λ is.
    let s : IsIn (get_or rects j e) x y = IsIn-rect_cover (get_or rects j e) x y is in
    let left = s.left in let right = s.right in let under = s.low in let over = s.high in
    elim (cases_order j k) [
      | inl same ↦ (let here : get_or rects j e ≡ get_or rects k d = ap (λ i. get_or rects i e) same ∙ default_at rects k e d at in
          let its_left : (get_or rects k d).x0 ≤ℤ x = subst (λ (t : Rect). t.x0 ≤ℤ x) here left in
          let its_right : x <ℤ (get_or rects k d).x1 = subst (λ (t : Rect). x <ℤ t.x1) here right in
          elim beside [ inl e ↦ omega (arith, ints) | inr e ↦ omega (arith, ints) ])
      | inr other ↦ elim other [
        | inl before ↦ (let p : Precedes (get_or rects j e) (get_or rects k d) =
            subst (λ (t : Rect). Precedes (get_or rects j e) t) (default_at rects k e d at) (canonical.pairs j k e before at) in
            elim (p.apart (omega (arith, ints))) [
              | inl gap ↦ elim beside [ inl e ↦ omega (arith, ints) | inr e ↦ omega (arith, ints) ]
              | inr gap ↦ elim beside [ inl e ↦ omega (arith, ints) | inr e ↦ omega (arith, ints) ]
            ])
        | inr after ↦ (let p : Precedes (get_or rects k d) (get_or rects j e) =
            subst (λ (t : Rect). Precedes t (get_or rects j e)) (default_at rects k e d at) (canonical.pairs k j e after below) in
            elim (p.apart (omega (arith, ints))) [
              | inl gap ↦ elim beside [ inl e ↦ omega (arith, ints) | inr e ↦ omega (arith, ints) ]
              | inr gap ↦ elim beside [ inl e ↦ omega (arith, ints) | inr e ↦ omega (arith, ints) ]
            ])
      ]
    ]))

-- each row of a rectangle has its columns as a maximal run
pub row_of : (rects : List Rect) (k : ℕ) (d : Rect) (y : ℤ) → AreCanonical rects → k < length rects
    → (get_or rects k d).y0 ≤ℤ y → y <ℤ (get_or rects k d).y1 → RunsInRow (cover rects) (get_or rects k d) y
row_of rects k d y canonical at low high = record {
  some = (canonical.solid k d at).wide;
  all = λ t from to. list_any_at (λ s. rect_cover s t y) rects k d at (rect_cover-in (get_or rects k d) t y from to low high);
  before = alone rects k d ((get_or rects k d).x0 -ℤ pos 1) y canonical at low high (inl refl);
  after = alone rects k d (get_or rects k d).x1 y canonical at low high (inr refl);
}

-- two maximal runs that share a number are one
pub same_run : (f : ℤ → Bool) (a b c d : ℤ) → IsRun f a b → IsRun f c d → c ≤ℤ a → a <ℤ d → (c ≡ a) × (d ≡ b)
same_run f a b c d first second from to =
    let starts : c ≡ a = by_lt_z c a
    (λ less. absurd (let on : f (a -ℤ pos 1) ≡ true = second.all (a -ℤ pos 1) (omega (arith, ints)) (omega (arith, ints)) in
    let off = first.before in true_false (sym on ∙ off)))
    (λ most. omega (arith, ints)) in
    let ends : d ≡ b = by_lt_z b d
    (λ less. absurd (let wide = first.some in let on : f b ≡ true = second.all b (omega (arith, ints)) less in let off = first.after in true_false (sym on ∙ off)))
    (λ most. by_lt_z d b
    (λ less. absurd (let on : f d ≡ true = first.all d (omega (arith, ints)) less in let off = second.after in true_false (sym on ∙ off)))
    (λ least. omega (arith, ints))) in
    (starts, ends)

-- the rectangle whose row a maximal run is
pub record HasRow (rects : List Rect) (first past y : ℤ) (k : ℕ) : Type 0 where
  pub below : k < length rects
  pub first_is : (d : Rect) → (get_or rects k d).x0 ≡ first
  pub past_is : (d : Rect) → (get_or rects k d).x1 ≡ past
  pub low : (d : Rect) → (get_or rects k d).y0 ≤ℤ y
  pub high : (d : Rect) → y <ℤ (get_or rects k d).y1

pub row_from : (rects : List Rect) (first past y : ℤ) → AreCanonical rects → IsRun (λ s. cover rects s y) first past → (k : ℕ) × HasRow rects first past y k
row_from rects first past y canonical run =
    let wide = run.some in
    let found = Any-from_list_any (λ s. rect_cover s first y) rects (run.all first (omega (arith, ints)) wide) in
    let k : ℕ = found.0 in
    let at : found.0 < length rects = found.2 in
    let here : rect_cover (get_or rects found.0 found.1) first y ≡ true = ap (λ (r : Rect). rect_cover r first y) found.3 ∙ found.4 in
    let s : IsIn (get_or rects found.0 found.1) first y = IsIn-rect_cover (get_or rects found.0 found.1) first y here in
    let same = same_run (λ x. cover rects x y) first past (get_or rects found.0 found.1).x0 (get_or rects found.0 found.1).x1 run
    (row_of rects found.0 found.1 y canonical at s.low s.high) s.left s.right in (
      found.0,
      record {
        below = at;
        first_is = λ d. ap (λ (r : Rect). r.x0) (default_at rects found.0 d found.1 at) ∙ same.0;
        past_is = λ d. ap (λ (r : Rect). r.x1) (default_at rects found.0 d found.1 at) ∙ same.1;
        low = λ d. subst (λ (r : Rect). r.y0 ≤ℤ y) (sym (default_at rects found.0 d found.1 at)) s.low;
        high = λ d. subst (λ (r : Rect). y <ℤ r.y1) (sym (default_at rects found.0 d found.1 at)) s.high;
      },
    )

stack_at : (rects : List Rect) (k : ℕ) (d : Rect) → AreCanonical rects → k < length rects → IsStack (cover rects) (get_or rects k d)
stack_at rects k d canonical at =
    let solid : IsSolid (get_or rects k d) = canonical.solid k d at in
    let wide : (get_or rects k d).x0 <ℤ (get_or rects k d).x1 = solid.wide in
    let tall : (get_or rects k d).y0 <ℤ (get_or rects k d).y1 = solid.high in
    record {
      some = solid.high;
      rows = λ y low high. row_of rects k d y canonical at low high;
      before = λ run.
          let found = row_from rects (get_or rects k d).x0 (get_or rects k d).x1 ((get_or rects k d).y0 -ℤ pos 1) canonical run in
          let row = found.1 in let below = row.below in let first = row.first_is d in let past = row.past_is d in let low = row.low d in let high = row.high d in
          elim (cases_order found.0 k) [
            | inl same ↦ (let low_at : (get_or rects k d).y0 ≤ℤ ((get_or rects k d).y0 -ℤ pos 1) = subst (λ i. (get_or rects i d).y0 ≤ℤ ((get_or rects k d).y0 -ℤ pos 1)) same low in omega (arith, ints))
            | inr other ↦ elim other [
              | inl earlier ↦ (let p : Precedes (get_or rects found.0 d) (get_or rects k d) = canonical.pairs found.0 k d earlier at in
                  by_lt_z (get_or rects k d).y0 (get_or rects found.0 d).y1
                  (λ under. elim (p.apart under) [ inl gap ↦ omega (arith, ints) | inr gap ↦ omega (arith, ints) ])
                  (λ over. p.maximal (omega (arith, ints)) first past))
              | inr later ↦ elim (canonical.pairs k found.0 d later below).sorted [
                | inl less ↦ omega (arith, ints)
                | inr level ↦ (let same = level.0 in omega (arith, ints))
              ]
            ]
          ];
      after = λ run.
          let found = row_from rects (get_or rects k d).x0 (get_or rects k d).x1 (get_or rects k d).y1 canonical run in
          let row = found.1 in let below = row.below in let first = row.first_is d in let past = row.past_is d in let low = row.low d in let high = row.high d in
          elim (cases_order found.0 k) [
            | inl same ↦ (let high_at : (get_or rects k d).y1 <ℤ (get_or rects k d).y1 = subst (λ i. (get_or rects k d).y1 <ℤ (get_or rects i d).y1) same high in omega (arith, ints))
            | inr other ↦ elim other [
              | inl earlier ↦ (let p : Precedes (get_or rects found.0 d) (get_or rects k d) = canonical.pairs found.0 k d earlier at in
                  elim (p.apart (omega (arith, ints))) [ inl gap ↦ omega (arith, ints) | inr gap ↦ omega (arith, ints) ])
              | inr later ↦ (let p : Precedes (get_or rects k d) (get_or rects found.0 d) = canonical.pairs k found.0 d later below in
                  by_lt_z (get_or rects found.0 d).y0 (get_or rects k d).y1
                  (λ under. elim (p.apart under) [ inl gap ↦ omega (arith, ints) | inr gap ↦ omega (arith, ints) ])
                  (λ over. p.maximal (omega (arith, ints)) (sym first) (sym past)))
            ]
          ];
    }

rect_is : (r s : Rect) → r.x0 ≡ s.x0 → r.y0 ≡ s.y0 → r.x1 ≡ s.x1 → r.y1 ≡ s.y1 → r ≡ s
rect_is r s a b c d =
    let make : ℤ → ℤ → ℤ → ℤ → Rect = λ x0 y0 x1 y1. record { x0 = x0; y0 = y0; x1 = x1; y1 = y1 } in
    ap₂ (λ p q. make p q r.x1 r.y1) a b ∙ ap₂ (λ p q. make s.x0 s.y0 p q) c d

pub canonical_for_cover : (rects : List Rect) → AreCanonical rects → IsCanonical (cover rects) rects
canonical_for_cover rects canonical = record {
  sorted = λ i j d before below. (canonical.pairs i j d before below).sorted;
  stacks = λ r at. subst (IsStack (cover rects)) at.2 (stack_at rects at.0 r canonical at.1);
  complete = λ r stack.
      let tall = stack.some in
      let found = row_from rects r.x0 r.x1 r.y0 canonical (stack.rows r.y0 (omega (arith, ints)) tall) in
      let row = found.1 in let at : found.0 < length rects = row.below in
      let first = row.first_is r in let past = row.past_is r in let low = row.low r in let high = row.high r in
      let its : IsStack (cover rects) (get_or rects found.0 r) = stack_at rects found.0 r canonical at in
      let as_run : (y : ℤ) → (get_or rects found.0 r).y0 ≤ℤ y → y <ℤ (get_or rects found.0 r).y1 → RunsInRow (cover rects) r y =
      λ y from to. subst (λ b. IsRun (λ s. cover rects s y) r.x0 b) past
      (subst (λ a. IsRun (λ s. cover rects s y) a (get_or rects found.0 r).x1) first (its.rows y from to)) in
      let from_run : (y : ℤ) → RunsInRow (cover rects) r y → RunsInRow (cover rects) (get_or rects found.0 r) y =
      λ y run. subst (λ b. IsRun (λ s. cover rects s y) (get_or rects found.0 r).x0 b) (sym past)
      (subst (λ a. IsRun (λ s. cover rects s y) a r.x1) (sym first) run) in
      let bottom : (get_or rects found.0 r).y0 ≡ r.y0 = by_lt_z (get_or rects found.0 r).y0 r.y0
      (λ less. absurd (stack.before (as_run (r.y0 -ℤ pos 1) (omega (arith, ints)) (omega (arith, ints)))))
      (λ most. omega (arith, ints)) in
      let top : (get_or rects found.0 r).y1 ≡ r.y1 = by_lt_z r.y1 (get_or rects found.0 r).y1
      (λ less. absurd (stack.after (as_run r.y1 (omega (arith, ints)) less)))
      (λ most. by_lt_z (get_or rects found.0 r).y1 r.y1
      (λ less. absurd (its.after (from_run (get_or rects found.0 r).y1 (stack.rows (get_or rects found.0 r).y1 (omega (arith, ints)) less))))
      (λ least. omega (arith, ints))) in
      (found.0, at, rect_is (get_or rects found.0 r) r first bottom past top);
}
