-- The numbers of the corners at a point.
use Rattle.std.proofs.Common.{◌≡◌, ◌≢◌, inl, inr, ℕ, ◌+◌, ◌<◌, ◌≤◌, ◌==◌, nat_lt, ℤ, pos, int_lt, Bool, true, false, List, [], ◌∷◌, ◌++◌, length, w32, to_z, of_z, SFits, refl, sym, ◌∙◌, ap, subst, arith}
use Rattle.std.proofs.lemmas.Int.{ints, to_z-of_z}
use Rattle.std.proofs.lemmas.List.{get_or_push, get_or_append_left}
use Rattle.std.proofs.lemmas.Bool.Decides.{Decides-eqb, Decides-ltb, not_from_Decides}
use Rattle.opc_base.specs.declared.plane.Side.{Side}
use Rattle.signed_points.specs.declared.points.Point.{Point}
use Rattle.outline_model.specs.declared.edge.Edge.{Edge}
use Rattle.signed_points.specs.Points.{point_at, PointPrecedes, IsAscending}
use Rattle.outline_model.specs.Edges.{edge_at}
use Rattle.edges.specs.Pairs.{IsAt, HasPoint, IsAhead, convex_at, side_at, IsBetween}

-- of two corners, the one with the lower number is met first
not_after : (cs : List Point) (j k : ℕ) (line place : ℤ) → IsAscending cs → j < k → IsAt cs line place k → IsAhead (point_at cs j) line place
not_after cs j k line place ascending less at = by (ascending j k _ less at.0)
  where
    by : PointPrecedes (point_at cs j) (point_at cs k) → IsAhead (point_at cs j) line place
    by (inl p) = inl (let a = at.1 in omega (arith, ints))
    by (inr p) = inr (p.0 ∙ at.1, (let a = p.1 in let b = at.2 in omega (arith, ints)))

not_before : (cs : List Point) (j k : ℕ) (line place : ℤ) → IsAscending cs → j < k → k < length cs → IsAt cs line place j → ¬ IsAhead (point_at cs k) line place
not_before cs j k line place ascending less below at = by (ascending j k _ less below)
  where
    by : PointPrecedes (point_at cs j) (point_at cs k) → ¬ IsAhead (point_at cs k) line place
    by (inl p) (inl q) = let a = at.1 in omega (arith, ints)
    by (inl p) (inr q) = let a = at.1 in let b = q.0 in omega (arith, ints)
    by (inr p) (inl q) = let a = at.1 in let b = p.0 in omega (arith, ints)
    by (inr p) (inr q) = let a = at.2 in let b = p.1 in let e = q.1 in omega (arith, ints)

not_itself : (cs : List Point) (k : ℕ) (line place : ℤ) → IsAt cs line place k → ¬ IsAhead (point_at cs k) line place
not_itself cs k line place at (inl p) = let a = at.1 in omega (arith, ints)
not_itself cs k line place at (inr p) = let a = at.2 in let b = p.1 in omega (arith, ints)

pub past_middle : (cs : List Point) (m k : ℕ) (line place : ℤ) → IsAscending cs → m < length cs → IsAhead (point_at cs m) line place
    → IsAt cs line place k → m + 1 ≤ k
past_middle cs m k line place ascending below ahead at = by (nat_lt m k) (k == m) refl refl
  where
    by : (s t : Bool) → nat_lt m k ≡ s → (k == m) ≡ t → m + 1 ≤ k
    by true t e f = let less = (Decides-ltb m k).0 e in omega arith
    by false true e f = absurd (not_itself cs m line place (subst (IsAt cs line place) ((Decides-eqb k m).0 f) at) ahead)
    by false false e f =
        let not_less = not_from_Decides _ (Decides-ltb m k) e in
        let apart : k ≢ m = not_from_Decides _ (Decides-eqb k m) f in
        absurd (not_before cs k m line place ascending (omega arith) below at ahead)

pub upto_middle : (cs : List Point) (m k : ℕ) (line place : ℤ) → IsAscending cs → ¬ IsAhead (point_at cs m) line place
    → IsAt cs line place k → k ≤ m
upto_middle cs m k line place ascending behind at = by (nat_lt m k) refl
  where
    by : (s : Bool) → nat_lt m k ≡ s → k ≤ m
    by true e = absurd (behind (not_after cs m k line place ascending ((Decides-ltb m k).0 e) at))
    by false e = let not_less = not_from_Decides _ (Decides-ltb m k) e in omega arith

pub at_once : (cs : List Point) (j k : ℕ) (line place : ℤ) → IsAscending cs → IsAt cs line place j → IsAt cs line place k → j ≡ k
at_once cs j k line place ascending at too =
    let one = upto_middle cs k j line place ascending (not_itself cs k line place too) at in
    let two = upto_middle cs j k line place ascending (not_itself cs j line place at) too in
    omega arith

pub has_stored : (cs : List Point) (line place : ℤ) → SFits w32 line → SFits w32 place → HasPoint cs line place
    → HasPoint cs (to_z w32 (of_z w32 line)) (to_z w32 (of_z w32 place))
has_stored cs line place fits too has = rw (to_z-of_z w32 line fits, to_z-of_z w32 place too) has

-- the edge as it is stored
pub between_stored : (upright : Bool) (others : List Point) (first last : Point) (side : Side) (low high : ℕ) (low_convex high_convex : Bool)
    → IsAscending others → SFits w32 first.line → SFits w32 first.place → SFits w32 last.line → SFits w32 last.place
    → side ≡ side_at upright (int_lt (pos 0) first.sign)
    → IsAt others (to_z w32 (of_z w32 first.place)) (to_z w32 (of_z w32 first.line)) low
    → IsAt others (to_z w32 (of_z w32 last.place)) (to_z w32 (of_z w32 last.line)) high
    → low_convex ≡ convex_at (int_lt (pos 0) first.sign) low → high_convex ≡ convex_at (int_lt (pos 0) first.sign) high
    → IsBetween upright others first last (record {
      side = side;
      line = to_z w32 (of_z w32 first.line);
      lo = to_z w32 (of_z w32 first.place);
      hi = to_z w32 (of_z w32 last.place);
      low_convex = low_convex;
      high_convex = high_convex;
    })
between_stored upright others first last side low high low_convex high_convex ascending a b c d side_is low_at high_at low_is high_is = record {
  side = side_is;
  line = to_z-of_z w32 first.line a;
  lo = to_z-of_z w32 first.place b;
  hi = to_z-of_z w32 last.place d;
  low_convex = λ k at. low_is ∙ ap (convex_at (int_lt (pos 0) first.sign))
      (at_once others low k first.place first.line ascending (rw (to_z-of_z w32 first.place b, to_z-of_z w32 first.line a) at low_at) at);
  high_convex = λ k at. high_is ∙ ap (convex_at (int_lt (pos 0) first.sign))
      (at_once others high k last.place last.line ascending (rw (to_z-of_z w32 last.place d, to_z-of_z w32 last.line c) at high_at) at);
}

pub between_more : (upright : Bool) (others corners : List Point) (es new : List Edge) (e : Edge) (n : ℕ) → length es ≡ n → new ≡ es ++ e ∷ []
    → ((i : ℕ) → i < n → IsBetween upright others (point_at corners (i + i)) (point_at corners (i + i + 1)) (edge_at es i))
    → IsBetween upright others (point_at corners (n + n)) (point_at corners (n + n + 1)) e
    → (i : ℕ) → i < n + 1 → IsBetween upright others (point_at corners (i + i)) (point_at corners (i + i + 1)) (edge_at new i)
between_more upright others corners es new e n count is before last i below =
    subst (λ t. IsBetween upright others (point_at corners (i + i)) (point_at corners (i + i + 1)) (edge_at t i)) (sym is) (by (i == n) refl)
  where
    by : (t : Bool) → (i == n) ≡ t → IsBetween upright others (point_at corners (i + i)) (point_at corners (i + i + 1)) (edge_at (es ++ e ∷ []) i)
    by true f =
        let same = (Decides-eqb i n).0 f in
        subst (IsBetween upright others (point_at corners (i + i)) (point_at corners (i + i + 1))) (sym (get_or_push es e _ i (count ∙ sym same)))
        (subst (λ k. IsBetween upright others (point_at corners (k + k)) (point_at corners (k + k + 1)) e) (sym same) last)
    by false f =
        let apart : i ≢ n = not_from_Decides _ (Decides-eqb i n) f in
        subst (IsBetween upright others (point_at corners (i + i)) (point_at corners (i + i + 1))) (sym (get_or_append_left es (e ∷ []) _ i (omega arith)))
        (before i (omega arith))
