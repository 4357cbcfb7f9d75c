-- A piece with its joins.
use Rattle.std.proofs.Common.{◌≡◌, ◌≢◌, ℕ, ◌+◌, ◌<◌, ◌==◌, ℤ, Bool, true, false, if◌then◌else◌, List, [], ◌∷◌, ◌++◌, length, refl, sym, ◌∙◌, ap, subst, arith, length-append}
use Rattle.std.proofs.lemmas.List.{get_or_push, get_or_append_left}
use Rattle.std.proofs.lemmas.Bool.Decides.{Decides-eqb, not_from_Decides}
use Rattle.opc_base.specs.declared.plane.Side.{Side}
use Rattle.outline_model.specs.declared.fragment.Join.{Join}
use Rattle.outline_model.specs.declared.fragment.Fragment.{Fragment}
use Rattle.outline_model.specs.Outline.{fragment_at, is_rising}
use Rattle.outline_model.specs.declared.piece.EdgePiece.{EdgePiece}
use Rattle.cutting.specs.Ends.{AreJoinedPieces, IsJoinedPiece, JoinsAt, end_of, piece_at}

pub joined_piece : (ps : List EdgePiece) (p : EdgePiece) (side : Side) (edge lo hi : ℤ) (low high next previous : Join) (rising : Bool) → is_rising p.side ≡ rising
    → JoinsAt true ps p.side next (end_of false p) → JoinsAt false ps p.side previous (end_of true p)
    → side ≡ p.side → edge ≡ p.line → lo ≡ p.lo → hi ≡ p.hi → low ≡ (if rising then previous else next) → high ≡ (if rising then next else previous)
    → IsJoinedPiece ps p (record { side = side; edge = edge; lo = lo; hi = hi; low = low; high = high })
joined_piece ps p side edge lo hi low high next previous rising is after before a b c d e f = record {
  piece =
      ap (λ z. let q : EdgePiece = record { side = z; line = edge; lo = lo; hi = hi } in q) a
      ∙ ap (λ z. let q : EdgePiece = record { side = p.side; line = z; lo = lo; hi = hi } in q) b
      ∙ ap (λ z. let q : EdgePiece = record { side = p.side; line = p.line; lo = z; hi = hi } in q) c
      ∙ ap (λ z. let q : EdgePiece = record { side = p.side; line = p.line; lo = p.lo; hi = z } in q) d;
  finish = subst (λ j. JoinsAt true ps p.side j (end_of false p)) (sym (finish_is rising is e f)) after;
  start = subst (λ j. JoinsAt false ps p.side j (end_of true p)) (sym (start_is rising is e f)) before;
}
  where
    finish_is : (rising : Bool) → is_rising p.side ≡ rising → low ≡ (if rising then previous else next) → high ≡ (if rising then next else previous)
        → (if is_rising side then high else low) ≡ next
    finish_is true is e f = ap (λ (r : Bool). if r then high else low) (ap is_rising a ∙ is) ∙ f
    finish_is false is e f = ap (λ (r : Bool). if r then high else low) (ap is_rising a ∙ is) ∙ e

    start_is : (rising : Bool) → is_rising p.side ≡ rising → low ≡ (if rising then previous else next) → high ≡ (if rising then next else previous)
        → (if is_rising side then low else high) ≡ previous
    start_is true is e f = ap (λ (r : Bool). if r then low else high) (ap is_rising a ∙ is) ∙ e
    start_is false is e f = ap (λ (r : Bool). if r then low else high) (ap is_rising a ∙ is) ∙ f

pub joined_more : (ps : List EdgePiece) (n : ℕ) (fs new : List Fragment) (f : Fragment) → AreJoinedPieces ps n fs → new ≡ fs ++ f ∷ []
    → IsJoinedPiece ps (piece_at ps n) f → AreJoinedPieces ps (n + 1) new
joined_more ps n fs new f joined is last = record {
  count = (let a = joined.count in let b = ap length is in omega (arith, length-append fs (f ∷ [])));
  each = λ k below. subst (λ t. IsJoinedPiece ps (piece_at ps k) (fragment_at t k)) (sym is) (by k below (k == n) refl);
}
  where
    by : (k : ℕ) → k < n + 1 → (t : Bool) → (k == n) ≡ t → IsJoinedPiece ps (piece_at ps k) (fragment_at (fs ++ f ∷ []) k)
    by k below true e =
        let same = (Decides-eqb k n).0 e in
        subst (IsJoinedPiece ps (piece_at ps k)) (sym (get_or_push fs f _ k (joined.count ∙ sym same)))
        (subst (λ i. IsJoinedPiece ps (piece_at ps i) f) (sym same) last)
    by k below false e =
        let apart : k ≢ n = not_from_Decides _ (Decides-eqb k n) e in
        let c = joined.count in
        subst (IsJoinedPiece ps (piece_at ps k)) (sym (get_or_append_left fs (f ∷ []) _ k (omega arith))) (joined.each k (omega arith))
