-- One more end in a map of ends.
use Rattle.std.proofs.Common.{◌≡◌, ◌≢◌, ℕ, ◌+◌, ◌<◌, ◌==◌, ℤ, int_lt, Bool, true, false, cond, List, Some, IsSome, refl, sym, ◌∙◌, ap, subst, arith}
use Rattle.std.specs.Ordering.{int_cmp, ordering_then}
use Rattle.std.specs.declared.cmp.Ordering.{Ordering}
use Rattle.std.specs.declared.cmp.Ordering.TheVariants.{Less, Equal, Greater}
use Rattle.std.proofs.lemmas.Int.{ints}
use Rattle.std.proofs.lemmas.Bool.Decides.{Decides-eqb, not_from_Decides}
use Rattle.std.specs.BTreeMap as tree
use Rattle.std.specs.BTreeMap.{BTreeMap}
use Rattle.outline_model.specs.declared.piece.EdgePiece.{EdgePiece}
use Rattle.cutting.specs.Ends.{AreIndexed, end_of, pair_cmp, piece_at}

same_number : (x y : ℤ) → int_cmp x y ≡ Equal → x ≡ y
same_number x y h = by (int_lt x y) (int_lt y x) refl refl h
  where
    by : (p q : Bool) → int_lt x y ≡ p → int_lt y x ≡ q → cond p Less (cond q Greater Equal) ≡ Equal → x ≡ y
    by true q e f h = absurd (cc h)
    by false true e f h = absurd (cc h)
    by false false e f h = omega (arith, ints)

itself : (x : ℤ) → int_cmp x x ≡ Equal
itself x = by (int_lt x x) refl
  where
    by : (p : Bool) → int_lt x x ≡ p → cond p Less (cond p Greater Equal) ≡ Equal
    by true e = absurd (omega (arith, ints))
    by false e = refl

then_first : (r s : Ordering) → ordering_then r s ≡ Equal → r ≡ Equal
then_first Less s h = h
then_first Equal s h = refl
then_first Greater s h = h

then_second : (r s : Ordering) → ordering_then r s ≡ Equal → s ≡ Equal
then_second Less s h = absurd (cc h)
then_second Equal s h = h
then_second Greater s h = absurd (cc h)

equal_at : (r : Ordering) → tree.is_at {K = ℕ} (λ k. r) 0 ≡ true → r ≡ Equal
equal_at Less h = absurd (cc h)
equal_at Equal h = refl
equal_at Greater h = absurd (cc h)

same_point : (a b : ℤ × ℤ) → tree.is_at (pair_cmp a) b ≡ true → a ≡ b
same_point a b h =
    let e = equal_at (pair_cmp a b) h in
    let x = same_number a.0 b.0 (then_first (int_cmp a.0 b.0) (int_cmp a.1 b.1) e) in
    let y = same_number a.1 b.1 (then_second (int_cmp a.0 b.0) (int_cmp a.1 b.1) e) in
    ap (λ z. let p : ℤ × ℤ = (z, a.1) in p) x ∙ ap (λ z. let p : ℤ × ℤ = (b.0, z) in p) y

at_itself : (a : ℤ × ℤ) → tree.is_at (pair_cmp a) a ≡ true
at_itself a =
    let e : pair_cmp a a ≡ Equal = ap (λ r. ordering_then r (int_cmp a.1 a.1)) (itself a.0) ∙ itself a.1 in
    ap (λ r. tree.is_at {K = ℕ} (λ k. r) 0) e

pub indexed_more : (starting : Bool) (ps : List EdgePiece) (n : ℕ) (ends new : BTreeMap (ℤ × ℤ) ℕ) (k : ℤ × ℤ) → AreIndexed starting ps n ends
    → k ≡ end_of starting (piece_at ps n)
    → ((q : ℤ × ℤ) → tree.get pair_cmp new q ≡ cond (tree.is_at (pair_cmp k) q) (Some n) (tree.get pair_cmp ends q))
    → AreIndexed starting ps (n + 1) new
indexed_more starting ps n ends new k indexed key updates = record {
  named = λ q j e. named q j (tree.is_at (pair_cmp k) q) refl (sym (updates q) ∙ e);
  all = λ j below. all j below (tree.is_at (pair_cmp k) (end_of starting (piece_at ps j))) refl;
}
  where
    named : (q : ℤ × ℤ) (j : ℕ) (t : Bool) → tree.is_at (pair_cmp k) q ≡ t → cond (tree.is_at (pair_cmp k) q) (Some n) (tree.get pair_cmp ends q) ≡ Some j
        → (j < n + 1) × (end_of starting (piece_at ps j) ≡ q)
    named q j true e f =
        let here : n ≡ j = (let g : Some n ≡ Some j = ap (λ t. cond t (Some n) (tree.get pair_cmp ends q)) (sym e) ∙ f in cc g) in
        (omega arith, ap (λ i. end_of starting (piece_at ps i)) (sym here) ∙ sym key ∙ same_point k q e)
    named q j false e f =
        let old = indexed.named q j (ap (λ t. cond t (Some n) (tree.get pair_cmp ends q)) (sym e) ∙ f) in
        ((let h = old.0 in omega arith), old.1)

    all : (j : ℕ) → j < n + 1 → (t : Bool) → tree.is_at (pair_cmp k) (end_of starting (piece_at ps j)) ≡ t
        → IsSome (tree.get pair_cmp new (end_of starting (piece_at ps j)))
    all j below true e =
        subst IsSome (sym (updates (end_of starting (piece_at ps j)) ∙ ap (λ t. cond t (Some n) (tree.get pair_cmp ends (end_of starting (piece_at ps j)))) e)) refl
    all j below false e = by (j == n) refl
      where
        by : (t : Bool) → (j == n) ≡ t → IsSome (tree.get pair_cmp new (end_of starting (piece_at ps j)))
        by true f =
            let same : k ≡ end_of starting (piece_at ps j) = key ∙ ap (λ i. end_of starting (piece_at ps i)) (sym ((Decides-eqb j n).0 f)) in
            absurd (let g = subst (λ p. tree.is_at (pair_cmp k) p ≡ true) same (at_itself k) in cc (g, e))
        by false f =
            let apart : j ≢ n = not_from_Decides _ (Decides-eqb j n) f in
            subst IsSome (sym (updates (end_of starting (piece_at ps j)) ∙ ap (λ t. cond t (Some n) (tree.get pair_cmp ends (end_of starting (piece_at ps j)))) e)) (indexed.all j (omega arith))
