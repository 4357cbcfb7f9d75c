-- Laws of merged columns.
use Rattle.std.proofs.Common.{◌≡◌, ℕ, ◌+◌, ◌^◌, ◌<◌, ◌≤◌, SFits, ℤ, pos, ◌+ℤ◌, ◌≤ℤ◌, int_le, unsigned_abs, Bool, ◌&&◌, ◌==◌, if◌then◌else◌, List, [], ◌∷◌, ◌++◌, length, length-append, length-take, get_or, take, take_all, refl, sym, ◌∙◌, ap, subst, arith, All, AllPairs}
use Rattle.std.specs.Int.{w128}
use Rattle.std.proofs.lemmas.Int.{ints, fits_signed_from_abs}
use Rattle.std.proofs.lemmas.List.{get_or_append_left, get_or_default, get_or-take}
use Rattle.std.proofs.lemmas.List.Elements.{All-push}
use Rattle.std.proofs.lemmas.List.Quantifiers.{all_pairs_push}
use Rattle.std.proofs.lemmas.List.Sums.{sum_by-append, sum_by_more, sum_by_more_le, sum_by-take-le}
use Rattle.std.proofs.Math.Seq.{get_or-append_seam}
use Rattle.rect_union.specs.declared.columns.Column.{Column}
use Rattle.rect_union.specs.Columns.{AreInOrder, weight_of}
use Rattle.rect_union.specs.Merges.{Compacts, IsMergeOf, IsMerging, IsNext}
use Rattle.rect_union.proofs.SumLaws.{sum_each-push, sum_each-more, sum_each-nil}

-- ---- lists with one more item

pub front_of : {X : Type 0} (P : X → Type 0) (xs : List X) (y : X) → All P (xs ++ y ∷ []) → All P xs
front_of P xs y all k d below = subst P (get_or_append_left xs (y ∷ []) d k below) (all k d (simp length-append (omega arith)))

pub last_of : {X : Type 0} (P : X → Type 0) (xs : List X) (y : X) → All P (xs ++ y ∷ []) → P y
last_of P xs y all = subst P (get_or-append_seam xs y [] y) (all (length xs) y (simp length-append (omega arith)))

pub front_pairs : {X : Type 0} (R : X → X → Type 0) (xs : List X) (y : X) → AllPairs R (xs ++ y ∷ []) → AllPairs R xs
front_pairs R xs y pairs i j d before below =
    subst (λ a. R a (get_or xs j d)) (get_or_append_left xs (y ∷ []) d i (omega arith))
    (subst (R (get_or (xs ++ y ∷ []) i d)) (get_or_append_left xs (y ∷ []) d j below) (pairs i j d before (simp length-append (omega arith))))

pub last_pairs : {X : Type 0} (R : X → X → Type 0) (xs : List X) (y : X) → AllPairs R (xs ++ y ∷ []) → (k : ℕ) (d : X) → k < length xs → R (get_or xs k d) y
last_pairs R xs y pairs k d below =
    subst (λ a. R a y) (get_or_append_left xs (y ∷ []) d k below)
    (subst (R (get_or (xs ++ y ∷ []) k d)) (get_or-append_seam xs y [] d) (pairs k (length xs) d below (simp length-append (omega arith))))

pub all_of_take : {X : Type 0} (P : X → Type 0) (xs : List X) (i : ℕ) → All P (take (i + 1) xs) → All P (take i xs)
all_of_take P xs i all k d below =
    let bound = simp length-take at below in
    subst P (get_or-take (i + 1) xs k d (omega arith) ∙ sym (get_or-take i xs k d (omega arith))) (all k d (simp length-take (omega arith)))

pub at_of_take : {X : Type 0} (P : X → Type 0) (xs : List X) (i : ℕ) (d : X) → i < length xs → All P (take (i + 1) xs) → P (get_or xs i d)
at_of_take P xs i d below all = subst P (get_or-take (i + 1) xs i d (omega arith)) (all i d (simp length-take (omega arith)))

pub weight_push : (columns : List Column) (c : Column) → weight_of (columns ++ c ∷ []) ≡ weight_of columns + unsigned_abs c.sign
weight_push columns c =
    let split : weight_of (columns ++ c ∷ []) ≡ weight_of columns + (0 + unsigned_abs c.sign) = sum_by-append (λ (c : Column). unsigned_abs c.sign) columns (c ∷ []) in
    omega arith

-- ---- columns put together

pub compacts_itself : (columns : List Column) → Compacts columns columns
compacts_itself columns = record {
  counts = λ owner x. refl;
  totals = λ owner. refl;
  weight = omega arith;
  order = λ order. order;
  upto = λ x all. all;
  owners = λ n all. all;
}

two_signs : (test other : Bool) (a b : ℤ) → test ≡ other → (if test then a +ℤ b else pos 0) ≡ (if test then a else pos 0) +ℤ (if other then b else pos 0)
two_signs test other a b same = grind (arith, ints)

pub abs_sum : (a b : ℤ) → unsigned_abs (a +ℤ b) ≤ unsigned_abs a + unsigned_abs b
abs_sum a b = omega (arith, ints)

pub compacts_pair : (front : List Column) (a b : Column) → a.x ≡ b.x → a.owner ≡ b.owner
    → Compacts ((front ++ a ∷ []) ++ b ∷ []) (front ++ record { x = a.x; owner = a.owner; sign = a.sign +ℤ b.sign } ∷ [])
compacts_pair front a b same_x same_owner =
    let c : Column = record { x = a.x; owner = a.owner; sign = a.sign +ℤ b.sign } in
    record {
      counts = λ owner x.
          let f : Column → ℤ = λ c. if (c.owner == owner) && int_le c.x x then c.sign else pos 0 in
          let new = sum_each-push f front c in let old = sum_each-push f (front ++ a ∷ []) b in let first = sum_each-push f front a in
          let both = two_signs ((a.owner == owner) && int_le a.x x) ((b.owner == owner) && int_le b.x x) a.sign b.sign
          (rw (same_x, same_owner)) in
          omega (arith, ints);
      totals = λ owner.
          let f : Column → ℤ = λ c. if c.owner == owner then c.sign else pos 0 in
          let new = sum_each-push f front c in let old = sum_each-push f (front ++ a ∷ []) b in let first = sum_each-push f front a in
          let both = two_signs (a.owner == owner) (b.owner == owner) a.sign b.sign (rw same_owner) in
          omega (arith, ints);
      weight =
          let new = weight_push front c in let old = weight_push (front ++ a ∷ []) b in let first = weight_push front a in
          let sum = abs_sum a.sign b.sign in omega arith;
      order = λ order.
          let rest = front_pairs (λ c d. c.x ≤ℤ d.x) (front ++ a ∷ []) b order in
          all_pairs_push (λ c d. c.x ≤ℤ d.x) front c (front_pairs (λ c d. c.x ≤ℤ d.x) front a rest) (last_pairs (λ c d. c.x ≤ℤ d.x) front a rest);
      upto = λ x all.
          let rest = front_of (λ (c : Column). c.x ≤ℤ x) (front ++ a ∷ []) b all in
          All-push (λ (c : Column). c.x ≤ℤ x) front c (front_of (λ (c : Column). c.x ≤ℤ x) front a rest) (last_of (λ (c : Column). c.x ≤ℤ x) front a rest);
      owners = λ n all.
          let rest = front_of (λ (c : Column). c.owner < n) (front ++ a ∷ []) b all in
          All-push (λ (c : Column). c.owner < n) front c (front_of (λ (c : Column). c.owner < n) front a rest) (last_of (λ (c : Column). c.owner < n) front a rest);
    }

pub pair_fits : (columns front : List Column) (a b : Column) → columns ≡ front ++ a ∷ [] → weight_of columns + unsigned_abs b.sign < 2 ^ 126
    → SFits w128 (a.sign +ℤ b.sign)
pair_fits columns front a b is small =
    let split : weight_of columns ≡ weight_of front + unsigned_abs a.sign = ap weight_of is ∙ weight_push front a in
    let sum = abs_sum a.sign b.sign in
    fits_signed_from_abs w128 (a.sign +ℤ b.sign) (omega arith)

no_sign : (test other : Bool) (a b : ℤ) → test ≡ other → a +ℤ b ≡ pos 0 → (if test then a else pos 0) +ℤ (if other then b else pos 0) ≡ pos 0
no_sign test other a b same none = grind (arith, ints)

pub compacts_none : (front : List Column) (a b : Column) → a.x ≡ b.x → a.owner ≡ b.owner → a.sign +ℤ b.sign ≡ pos 0
    → Compacts ((front ++ a ∷ []) ++ b ∷ []) front
compacts_none front a b same_x same_owner none = record {
  counts = λ owner x.
      let f : Column → ℤ = λ c. if (c.owner == owner) && int_le c.x x then c.sign else pos 0 in
      let old = sum_each-push f (front ++ a ∷ []) b in let first = sum_each-push f front a in
      let both = no_sign ((a.owner == owner) && int_le a.x x) ((b.owner == owner) && int_le b.x x) a.sign b.sign (rw (same_x, same_owner)) none in
      omega (arith, ints);
  totals = λ owner.
      let f : Column → ℤ = λ c. if c.owner == owner then c.sign else pos 0 in
      let old = sum_each-push f (front ++ a ∷ []) b in let first = sum_each-push f front a in
      let both = no_sign (a.owner == owner) (b.owner == owner) a.sign b.sign (rw same_owner) none in
      omega (arith, ints);
  weight = let old = weight_push (front ++ a ∷ []) b in let first = weight_push front a in omega arith;
  order = λ order. front_pairs (λ c d. c.x ≤ℤ d.x) front a (front_pairs (λ c d. c.x ≤ℤ d.x) (front ++ a ∷ []) b order);
  upto = λ x all. front_of (λ (c : Column). c.x ≤ℤ x) front a (front_of (λ (c : Column). c.x ≤ℤ x) (front ++ a ∷ []) b all);
  owners = λ n all. front_of (λ (c : Column). c.owner < n) front a (front_of (λ (c : Column). c.owner < n) (front ++ a ∷ []) b all);
}

-- ---- the merge

pub merging_starts : (first second : List Column) → IsMerging first second [] 0 0
merging_starts first second = record {
  first_within = omega arith;
  second_within = omega arith;
  merge = record {
    counts = λ owner x. let none = sum_each-nil (λ (c : Column). if (c.owner == owner) && int_le c.x x then c.sign else pos 0) in omega (arith, ints);
    totals = λ owner. let none = sum_each-nil (λ (c : Column). if c.owner == owner then c.sign else pos 0) in omega (arith, ints);
    weight = omega arith;
    order = λ i j d before below. absurd (omega arith);
    owners = λ n _ _ k d below. absurd (omega arith);
  };
  before_first = λ d _ k e below. absurd (omega arith);
  before_second = λ d _ k e below. absurd (omega arith);
}

pub merging_swapped : (first second to : List Column) (i j : ℕ) → IsMerging first second to i j → IsMerging second first to j i
merging_swapped first second to i j merging = record {
  first_within = merging.second_within;
  second_within = merging.first_within;
  merge = record {
    counts = λ owner x. let sum = merging.merge.counts owner x in omega (arith, ints);
    totals = λ owner. let sum = merging.merge.totals owner in omega (arith, ints);
    weight = let sum = merging.merge.weight in omega arith;
    order = merging.merge.order;
    owners = λ n a b. merging.merge.owners n b a;
  };
  before_first = merging.before_second;
  before_second = merging.before_first;
}

pub merging_fits : (first second to : List Column) (i j bound : ℕ) (d : Column) → weight_of first + weight_of second < bound → IsMerging first second to i j
    → i < length first → weight_of to + unsigned_abs (get_or first i d).sign < bound
merging_fits first second to i j bound d small merging at =
    let so_far = merging.merge.weight in
    let here = sum_by_more_le (λ (c : Column). unsigned_abs c.sign) first i d at in
    let others = sum_by-take-le (λ (c : Column). unsigned_abs c.sign) second j in omega arith

pub merging_step : (first second to new : List Column) (i j : ℕ) (d : Column) → AreInOrder first → IsMerging first second to i j → IsNext first i second j
    → Compacts (to ++ get_or first i d ∷ []) new → IsMerging first second new (i + 1) j
merging_step first second to new i j d order merging next compacts =
    let at : i < length first = next.within in
    let c : Column = get_or first i d in
    record {
      first_within = omega arith;
      second_within = merging.second_within;
      merge = record {
        counts = λ owner x.
            let f : Column → ℤ = λ c. if (c.owner == owner) && int_le c.x x then c.sign else pos 0 in
            let kept = compacts.counts owner x in let pushed = sum_each-push f to (get_or first i d) in
            let so_far = merging.merge.counts owner x in let more = sum_each-more f first i d at in omega (arith, ints);
        totals = λ owner.
            let f : Column → ℤ = λ c. if c.owner == owner then c.sign else pos 0 in
            let kept = compacts.totals owner in let pushed = sum_each-push f to (get_or first i d) in
            let so_far = merging.merge.totals owner in let more = sum_each-more f first i d at in omega (arith, ints);
        weight =
            let kept = compacts.weight in let pushed = weight_push to (get_or first i d) in let so_far = merging.merge.weight in
            let more = sum_by_more (λ (c : Column). unsigned_abs c.sign) first i d at in omega arith;
        order = compacts.order (all_pairs_push (λ a b. a.x ≤ℤ b.x) to (get_or first i d) merging.merge.order (merging.before_first d at));
        owners = λ n in_first in_second. compacts.owners n
            (All-push (λ (c : Column). c.owner < n) to (get_or first i d)
            (merging.merge.owners n (all_of_take (λ (c : Column). c.owner < n) first i in_first) in_second)
            (at_of_take (λ (c : Column). c.owner < n) first i d at in_first));
      };
      before_first = λ e below. compacts.upto (get_or first (i + 1) e).x
          (let step : (get_or first i e).x ≤ℤ (get_or first (i + 1) e).x = order i (i + 1) e (omega arith) below in
          let here : (get_or first i d).x ≤ℤ (get_or first (i + 1) e).x = subst (λ (c : Column). c.x ≤ℤ (get_or first (i + 1) e).x) (get_or_default first i e d at) step in
          All-push (λ (c : Column). c.x ≤ℤ (get_or first (i + 1) e).x) to (get_or first i d)
          (λ k f in_list. let low = merging.before_first d at k f in_list in omega (arith, ints)) here);
      before_second = λ e below. compacts.upto (get_or second j e).x
          (All-push (λ (c : Column). c.x ≤ℤ (get_or second j e).x) to (get_or first i d) (merging.before_second e below) (next.least d e below));
    }

pub merging_ends : (first second to : List Column) (i j : ℕ) → length first ≤ i → length second ≤ j → IsMerging first second to i j → IsMergeOf first second to
merging_ends first second to i j all_first all_second merging =
    subst (λ (l : List Column). IsMergeOf l second to) (take_all i first all_first)
    (subst (λ (l : List Column). IsMergeOf (take i first) l to) (take_all j second all_second) merging.merge)
