-- The rectangles before a place of the plane, in the order of canonical ones.
use Rattle.std.proofs.Common.{◌≡◌, ◌⊎◌, inl, inr, ℕ, ◌+◌, ◌<◌, ◌≤◌, ℤ, pos, ◌<ℤ◌, Bool, true, false, int_lt, List, [], length, get_or, replicate, Contains, refl, ap, sym, ◌∙◌, subst, arith}
use Rattle.std.proofs.lemmas.Int.{ints}
use Rattle.std.proofs.lemmas.Bool.{cases_order}
use Rattle.std.proofs.lemmas.Bool.Decides.{eqb_tells}
use Rattle.std.proofs.lemmas.List.{get_or_default, length-replicate}
use Rattle.opc_base.specs.declared.plane.Rect.{Rect}
use Rattle.opc_base.specs.Canonical.{AreCanonical, Precedes}
use Rattle.mask_polygons.specs.Links.{AreLinks, AreLinksTo, AreMutual, LiesBefore, IsOver, IsUpper, ShareEdge, linked, rect_at}
use Rattle.mask_polygons.specs.Scripts.{row_at}
use Rattle.mask_polygons.proofs.RowLaws.{length-linked, linked-back, linked-from, linked-keeps, linked-there, none-in-empty}

precedes-ahead : (r s : Rect) (height column : ℤ) → r.x0 <ℤ r.x1 → r.y0 <ℤ r.y1 → s.x0 <ℤ s.x1 → Precedes r s → LiesBefore s height column → LiesBefore r height column
precedes-ahead r s height column wide high other before ahead = by before.sorted ahead
  where
    by : (r.y0 <ℤ s.y0) ⊎ ((r.y0 ≡ s.y0) × (r.x0 <ℤ s.x0)) → LiesBefore s height column → LiesBefore r height column
    by (inl a) (inl b) = inl (omega (arith, ints))
    by (inl a) (inr b) = let c = b.0 in inl (omega (arith, ints))
    by (inr a) (inl b) = let c = a.0 in inl (omega (arith, ints))
    by (inr a) (inr b) =
        let c = a.0 in let less = a.1 in let d = b.1 in
        inr (c ∙ b.0, elim (before.apart (omega (arith, ints))) [ inl gap ↦ omega (arith, ints) | inr gap ↦ omega (arith, ints) ])

ahead-earlier : (rects : List Rect) (j k : ℕ) (d : Rect) (height column : ℤ) → AreCanonical rects → j < k → k < length rects → LiesBefore (get_or rects k d) height column
    → LiesBefore (get_or rects j d) height column
ahead-earlier rects j k d height column canonical less below ahead =
    let first = canonical.solid j d (omega (arith, less, below)) in
    let second = canonical.solid k d below in
    precedes-ahead (get_or rects j d) (get_or rects k d) height column first.wide first.high second.wide (canonical.pairs j k d less below) ahead

pub ahead-up : (rects : List Rect) (middle : ℕ) (e : Rect) (height column : ℤ) → AreCanonical rects → middle < length rects → LiesBefore (get_or rects middle e) height column
    → (k : ℕ) (d : Rect) → k < middle + 1 → LiesBefore (get_or rects k d) height column
ahead-up rects middle e height column canonical below ahead k d less = elim (cases_order k middle) [
  | inl same ↦ subst (λ i. LiesBefore (get_or rects i d) height column) (sym same) here
  | inr other ↦ elim other [
    | inl early ↦ ahead-earlier rects k middle d height column canonical early below here
    | inr late ↦ absurd (omega (arith, late, less))
  ]
]
  where
    here : LiesBefore (get_or rects middle d) height column
    here = subst (λ r. LiesBefore r height column) (get_or_default rects middle e d below) ahead

pub behind-down : (rects : List Rect) (middle : ℕ) (e : Rect) (height column : ℤ) → AreCanonical rects → middle < length rects → ¬ LiesBefore (get_or rects middle e) height column
    → (k : ℕ) (d : Rect) → middle ≤ k → k < length rects → ¬ LiesBefore (get_or rects k d) height column
behind-down rects middle e height column canonical below behind k d more inner ahead = elim (cases_order k middle) [
  | inl same ↦ behind (subst (λ r. LiesBefore r height column) (get_or_default rects middle d e below) (subst (λ i. LiesBefore (get_or rects i d) height column) same ahead))
  | inr other ↦ elim other [
    | inl early ↦ omega (arith, early, more)
    | inr late ↦ behind (subst (λ r. LiesBefore r height column) (get_or_default rects middle d e below)
        (ahead-earlier rects middle k d height column canonical late inner ahead))
  ]
]

-- ---- the links that are found

upper-solid : (r s : Rect) → r.y0 <ℤ r.y1 → r ≡ s → IsUpper r s → ⊥
upper-solid r s high same upper = let a = upper.0 in let b = ap (λ (t : Rect). t.y0) same in omega (arith, ints)

pub link-more : (rects : List Rect) (rows new : List (List ℕ)) (n a : ℕ) → AreLinksTo rects rows n a → n < length rects → a < length rects
    → IsUpper (rect_at rects n) (rect_at rects a) → new ≡ linked rows n a → AreLinksTo rects new n (a + 1)
link-more rects rows new n a far n_below a_below upper made = subst (λ l. AreLinksTo rects l n (a + 1)) (sym made) (record {
  size = length-linked rows n a ∙ far.size;
  sound = λ i j at. elim (linked-from rows n a i j e_below h_below at) [
    | inl was ↦ far.sound i j was
    | inr other ↦ elim other [
      | inl there ↦ (
        subst (λ k. k < length rects) (sym there.0) n_below,
        subst (λ k. k < length rects) (sym there.1) a_below,
        subst (λ k. ShareEdge rects k j) (sym there.0) (subst (ShareEdge rects n) (sym there.1) (inl upper)),
      )
      | inr back ↦ (
        subst (λ k. k < length rects) (sym back.0) a_below,
        subst (λ k. k < length rects) (sym back.1) n_below,
        subst (λ k. ShareEdge rects k j) (sym back.0) (subst (ShareEdge rects a) (sym back.1) (inr upper)),
      )
    ]
  ];
  before = λ i j less i_below j_below is. (
    linked-keeps rows n a i j e_below h_below (far.before i j less i_below j_below is).0,
    linked-keeps rows n a j i e_below h_below (far.before i j less i_below j_below is).1,
  );
  here = λ j less j_below is. elim (eqb_tells j a) [
    | inl w ↦ (
      subst (Contains (row_at (linked rows n a) n)) (sym w.1) (linked-there rows n a e_below h_below),
      subst (λ k. Contains (row_at (linked rows n a) k) n) (sym w.1) (linked-back rows n a e_below h_below),
    )
    | inr w ↦
        (let apart = w.1 in
        let was = far.here j (omega (arith, less, apart)) j_below is in
        (linked-keeps rows n a n j e_below h_below was.0, linked-keeps rows n a j n e_below h_below was.1))
  ];
})
  where
    e_below : n < length rows
    e_below = let a = far.size in omega (arith, a, n_below)

    h_below : a < length rows
    h_below = let b = far.size in omega (arith, b, a_below)

-- no rectangle before the first that is not ahead lies on the upper side
pub links-from : (rects : List Rect) (rows : List (List ℕ)) (n s : ℕ) → AreLinksTo rects rows n 0
    → ((k : ℕ) (d : Rect) → k < s → LiesBefore (get_or rects k d) (rect_at rects n).y1 (rect_at rects n).x0) → AreLinksTo rects rows n s
links-from rects rows n s far ahead = record {
  size = far.size;
  sound = far.sound;
  before = far.before;
  here = λ j less below upper. absurd (by (rect_at rects n) (rect_at rects j) (ahead j (record { x0 = pos 0; y0 = pos 0; x1 = pos 0; y1 = pos 0 }) less) upper);
}
  where
    by : (r s : Rect) → LiesBefore s r.y1 r.x0 → IsUpper r s → ⊥
    by r s (inl h) upper = let a = upper.0 in omega (arith, ints)
    by r s (inr h) upper = let a = upper.1 in let b = h.1 in omega (arith, ints)

-- no rectangle behind the first that is not over it lies on the upper side
after-over : (r s t : Rect) → t.y0 <ℤ t.y1 → ¬ LiesBefore s r.y1 r.x0 → ¬ IsOver r s → Precedes s t → IsUpper r t → ⊥
after-over r s t high behind over before upper = by before.sorted
  where
    by : (s.y0 <ℤ t.y0) ⊎ ((s.y0 ≡ t.y0) × (s.x0 <ℤ t.x0)) → ⊥
    by (inl h) = behind (inl (let a = upper.0 in omega (arith, ints)))
    by (inr h) = over (h.0 ∙ upper.0, (let a = upper.2 in let b = h.1 in omega (arith, ints)))

pub links-all : (rects : List Rect) (rows : List (List ℕ)) (n a : ℕ) → AreCanonical rects → AreLinksTo rects rows n a
    → ((j : ℕ) → a ≤ j → j < length rects → IsUpper (rect_at rects n) (rect_at rects j) → ⊥) → AreLinksTo rects rows (n + 1) 0
links-all rects rows n a canonical far none = record {
  size = far.size;
  sound = far.sound;
  before = λ i j less i_below j_below upper. elim (eqb_tells i n) [
    | inl w ↦
        (let both = at j j_below (subst (λ k. IsUpper (rect_at rects k) (rect_at rects j)) w.1 upper) (cases_order j a) in (
          subst (λ k. Contains (row_at rows k) j) (sym w.1) both.0,
          subst (Contains (row_at rows j)) (sym w.1) both.1,
        ))
    | inr w ↦ (let apart = w.1 in far.before i j (omega (arith, less, apart)) i_below j_below upper)
  ];
  here = λ j less below upper. absurd (omega (arith, less));
}
  where
    at : (j : ℕ) → j < length rects → IsUpper (rect_at rects n) (rect_at rects j) → (j ≡ a) ⊎ ((j < a) ⊎ (a < j)) → Contains (row_at rows n) j × Contains (row_at rows j) n
    at j below upper (inl same) = absurd (none j (omega (arith, same)) below upper)
    at j below upper (inr (inl less)) = far.here j less below upper
    at j below upper (inr (inr more)) = absurd (none j (omega (arith, more)) below upper)

pub none-behind : (rects : List Rect) (n a : ℕ) → AreCanonical rects → a < length rects → ¬ LiesBefore (rect_at rects a) (rect_at rects n).y1 (rect_at rects n).x0
    → ¬ IsOver (rect_at rects n) (rect_at rects a) → (j : ℕ) → a ≤ j → j < length rects → IsUpper (rect_at rects n) (rect_at rects j) → ⊥
none-behind rects n a canonical a_below behind over j from below upper = elim (cases_order a j) [
  | inl same ↦ (let is = subst (λ k. IsUpper (rect_at rects n) (rect_at rects k)) (sym same) upper in over (is.0, is.2))
  | inr other ↦ elim other [
    | inl less ↦ after-over (rect_at rects n) (rect_at rects a) (rect_at rects j) (canonical.solid j (record { x0 = pos 0; y0 = pos 0; x1 = pos 0; y1 = pos 0 }) below).high behind over
        (canonical.pairs a j (record { x0 = pos 0; y0 = pos 0; x1 = pos 0; y1 = pos 0 }) less below) upper
    | inr more ↦ omega (arith, more, from)
  ]
]

pub no-links : (rects : List Rect) (rows : List (List ℕ)) → rows ≡ replicate (length rects) [] → AreLinksTo rects rows 0 0
no-links rects rows is = subst (λ l. AreLinksTo rects l 0 0) (sym is) (record {
  size = length-replicate (length rects) [];
  sound = λ i j at. absurd (none-in-empty (length rects) i j at);
  before = λ i j less i_below j_below upper. absurd (omega (arith, less));
  here = λ j less below upper. absurd (omega (arith, less));
})

pub are-links : (rects : List Rect) (rows : List (List ℕ)) (n : ℕ) → length rects ≤ n → AreLinksTo rects rows n 0 → AreLinks rects rows
are-links rects rows n all far = record {
  size = far.size;
  sound = far.sound;
  complete = λ i j i_below j_below share. by i j i_below j_below share;
}
  where
    by : (i j : ℕ) → i < length rects → j < length rects → ShareEdge rects i j → Contains (row_at rows i) j
    by i j i_below j_below (inl upper) = (far.before i j (omega (arith, all, i_below)) i_below j_below upper).0
    by i j i_below j_below (inr upper) = (far.before j i (omega (arith, all, j_below)) j_below i_below upper).1

pub upper-from : (r s : Rect) → IsOver r s → ¬ LiesBefore s r.y1 r.x0 → IsUpper r s
upper-from r s over behind = (over.0, by (int_lt r.x0 s.x1) refl, over.1)
  where
    by : (t : Bool) → int_lt r.x0 s.x1 ≡ t → r.x0 <ℤ s.x1
    by true e = omega (arith, ints)
    by false e = absurd (behind (inr (over.0, omega (arith, ints))))

pub are-mutual : (rects : List Rect) (rows : List (List ℕ)) → AreLinks rects rows → AreMutual rows
are-mutual rects rows links = record {
  within = λ i j at. (let size = links.size in let a = (links.sound i j at).1 in omega (arith, size, a));
  back = λ i j at. (let h = links.sound i j at in links.complete j i h.1 h.0 (turned i j h.2));
}
  where
    turned : (i j : ℕ) → ShareEdge rects i j → ShareEdge rects j i
    turned i j (inl h) = inr h
    turned i j (inr h) = inl h
