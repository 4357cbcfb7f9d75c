-- Points that are merged.
use Rattle.std.proofs.Common.{◌≡◌, ◌≢◌, ◌⊎◌, inl, inr, ℕ, zero, suc, ◌+◌, ◌<◌, ◌≤◌, ◌==◌, ℤ, pos, negsuc, neg_ℤ, ◌+ℤ◌, ◌-ℤ◌, ◌≤ℤ◌, int_lt, Bool, true, false, if◌then◌else◌, List, [], ◌∷◌, ◌++◌, length, get_or, All, AllPairs, refl, sym, ◌∙◌, ap, subst, cond, is_lt, int_cmp, sum_by, IsPermutation, arith, length-append}
use Rattle.std.specs.Ordering.{ordering_then}
use Rattle.std.specs.declared.cmp.Ordering.{Ordering}
use Rattle.std.specs.declared.cmp.Ordering.TheVariants.{Less, Equal, Greater}
use Rattle.std.proofs.lemmas.List.Sums.{sum_by-cons}
use Rattle.std.proofs.lemmas.List.Sorted.{sum_by-IsPermutation}
use Rattle.std.proofs.lemmas.Int.{ints}
use Rattle.std.proofs.lemmas.List.{get_or_push, get_or_append_left}
use Rattle.std.proofs.lemmas.List.Quantifiers.{all_pairs_push}
use Rattle.std.proofs.lemmas.Bool.Decides.{Decides-eqb, not_from_Decides}
use Rattle.signed_points.specs.declared.points.Point.{Point}
use Rattle.opc_base.specs.Sums.{sum_each}
use Rattle.opc_base.proofs.SumLaws.{sum_each-push}
use Rattle.signed_points.specs.Points.{PointPrecedes, IsAscending, IsSigned, SignsWithin, IsUpTo, AllUpTo, sign_among, signs_among, IsTakenAt, AddsPoint, AreMergedUpTo, IsInOrder}

-- ---- a list with one more element

pub All-push : {X : Type 0} (P : X → Type 0) (xs : List X) (x : X) → All P xs → P x → All P (xs ++ x ∷ [])
All-push P xs x all here k d below = by (k == length xs) refl
  where
    by : (t : Bool) → (k == length xs) ≡ t → P (get_or (xs ++ x ∷ []) k d)
    by true e = subst P (sym (get_or_push xs x d k (sym ((Decides-eqb k (length xs)).0 e)))) here
    by false e =
        let apart : k ≢ length xs = not_from_Decides (k == length xs) (Decides-eqb k (length xs)) e in
        let inside : k < length xs = omega (arith, length-append xs (x ∷ [])) in
        subst P (sym (get_or_append_left xs (x ∷ []) d k inside)) (all k d inside)

All-front : {X : Type 0} (P : X → Type 0) (xs : List X) (x : X) → All P (xs ++ x ∷ []) → All P xs
All-front P xs x all k d below =
    subst P (get_or_append_left xs (x ∷ []) d k below) (all k d (omega (arith, length-append xs (x ∷ []))))

All-last : {X : Type 0} (P : X → Type 0) (xs : List X) (x : X) → All P (xs ++ x ∷ []) → P x
All-last P xs x all =
    subst P (get_or_push xs x x (length xs) refl) (all (length xs) x (omega (arith, length-append xs (x ∷ []))))

AllPairs-front : {X : Type 0} (R : X → X → Type 0) (xs : List X) (x : X) → AllPairs R (xs ++ x ∷ []) → AllPairs R xs
AllPairs-front R xs x all i j d less below =
    subst (λ a. R a (get_or xs j d)) (get_or_append_left xs (x ∷ []) d i (omega arith))
    (subst (R (get_or (xs ++ x ∷ []) i d)) (get_or_append_left xs (x ∷ []) d j below)
    (all i j d less (omega (arith, length-append xs (x ∷ [])))))

AllPairs-last : {X : Type 0} (R : X → X → Type 0) (xs : List X) (x : X) → AllPairs R (xs ++ x ∷ []) → All (λ y. R y x) xs
AllPairs-last R xs x all k d below =
    subst (λ a. R a x) (get_or_append_left xs (x ∷ []) d k below)
    (subst (R (get_or (xs ++ x ∷ []) k d)) (get_or_push xs x d (length xs) refl)
    (all k (length xs) d below (omega (arith, length-append xs (x ∷ [])))))

-- a list is empty, or has a last element
ends : {X : Type 0} (xs : List X) → (xs ≡ []) ⊎ ((rest : List X) × (x : X) × (xs ≡ rest ++ x ∷ []))
ends {X = X} [] = inl refl
ends {X = X} (x ∷ xs) = by (ends xs)
  where
    by : (xs ≡ []) ⊎ ((rest : List X) × (y : X) × (xs ≡ rest ++ y ∷ [])) → ((x ∷ xs) ≡ []) ⊎ ((rest : List X) × (y : X) × ((x ∷ xs) ≡ rest ++ y ∷ []))
    by (inl e) = inr ([], x, ap (λ ys. x ∷ ys) e)
    by (inr e) = inr (x ∷ e.0, e.1, ap (λ ys. x ∷ ys) e.2)

-- ---- taking the last point at a place

-- what is left precedes the point
record IsLeft (point : Point) (old mid : List Point) (sign : ℤ) : Type 0 where
  ascending : IsAscending mid
  signed : IsSigned mid
  behind : All (λ c. PointPrecedes c point) mid
  sums : (places : ℤ → ℤ → Bool) → signs_among places old ≡ signs_among places mid +ℤ (if places point.line point.place then sign else pos 0)
  signs : (most : ℕ) → SignsWithin most old → SignsWithin most mid × (neg_ℤ (pos most) ≤ℤ sign) × (sign ≤ℤ pos most)

precedes_through : (c d point : Point) → PointPrecedes c d → IsUpTo point d → PointPrecedes c point
precedes_through c d point (inl p) (inl q) = inl (omega (arith, ints))
precedes_through c d point (inl p) (inr q) = inl (let a = q.0 in omega (arith, ints))
precedes_through c d point (inr p) (inl q) = inl (let a = p.0 in omega (arith, ints))
precedes_through c d point (inr p) (inr q) = inr (p.0 ∙ q.0, (let a = p.1 in let b = q.1 in omega (arith, ints)))

precedes_apart : (c point : Point) → IsUpTo point c → (c.line ≡ point.line → c.place ≢ point.place) → PointPrecedes c point
precedes_apart c point (inl p) apart = inl p
precedes_apart c point (inr p) apart = inr (p.0, (let a = p.1 in let b = apart p.0 in omega (arith, ints, b)))

if_zero : (t : Bool) → (if t then pos 0 else pos 0) ≡ pos 0
if_zero true = refl
if_zero false = refl

all_precede : (point : Point) (old : List Point) → AreMergedUpTo point old
    → ((rest : List Point) (c : Point) → old ≡ rest ++ c ∷ [] → c.line ≡ point.line → c.place ≢ point.place)
    → All (λ c. PointPrecedes c point) old
all_precede point old merged apart = by (ends old)
  where
    by : (old ≡ []) ⊎ ((rest : List Point) × (c : Point) × (old ≡ rest ++ c ∷ [])) → All (λ c. PointPrecedes c point) old
    by (inl e) = λ k d below. absurd (omega (arith, ap length e))
    by (inr e) =
        let rest = e.0 in
        let c = e.1 in
        let pairs : AllPairs PointPrecedes (rest ++ c ∷ []) = subst IsAscending e.2 merged.ascending in
        let behind : All (IsUpTo point) (rest ++ c ∷ []) = subst (AllUpTo point) e.2 merged.behind in
        let last : IsUpTo point c = All-last (IsUpTo point) rest c behind in
        subst (All (λ d. PointPrecedes d point)) (sym e.2)
        (All-push (λ d. PointPrecedes d point) rest c
        (λ k d below. precedes_through (get_or rest k d) c point (AllPairs-last PointPrecedes rest c pairs k d below) last)
        (precedes_apart c point last (apart rest c e.2)))

is_left : (point : Point) (old mid : List Point) (sign : ℤ) → AreMergedUpTo point old → IsTakenAt point old mid sign → IsLeft point old mid sign
is_left point old mid sign merged (inl stays) = record {
  ascending = subst IsAscending (sym stays.0) merged.ascending;
  signed = subst IsSigned (sym stays.0) merged.signed;
  behind = subst (All (λ c. PointPrecedes c point)) (sym stays.0) (all_precede point old merged stays.2);
  sums = λ places.
      let same : signs_among places mid ≡ signs_among places old = ap (λ cs. signs_among places cs) stays.0 in
      let none : (if places point.line point.place then sign else pos 0) ≡ pos 0 =
      ap (λ z. if places point.line point.place then z else pos 0) stays.1 ∙ if_zero (places point.line point.place) in
      omega (arith, ints);
  signs = λ most within. let zero_is = stays.1 in
      (subst (SignsWithin most) (sym stays.0) within, omega (arith, ints), omega (arith, ints));
}
is_left point old mid sign merged (inr taken) = record {
  ascending = AllPairs-front PointPrecedes mid taken.0 pairs;
  signed = All-front (λ c. c.sign ≢ pos 0) mid taken.0 (subst IsSigned taken.1 merged.signed);
  behind = λ k d below. precedes_through (get_or mid k d) taken.0 point (AllPairs-last PointPrecedes mid taken.0 pairs k d below)
      (inr (taken.2, (let a = taken.3 in omega (arith, ints))));
  sums = λ places.
      let whole : signs_among places old ≡ signs_among places mid +ℤ sign_among places taken.0 =
      ap (λ cs. signs_among places cs) taken.1 ∙ sum_each-push (λ p. sign_among places p) mid taken.0 in
      whole ∙ ap (λ z. signs_among places mid +ℤ z) (at places);
  signs = λ most within.
      let all = subst (SignsWithin most) taken.1 within in
      let last = All-last (λ c. (neg_ℤ (pos most) ≤ℤ c.sign) × (c.sign ≤ℤ pos most)) mid taken.0 all in
      let same = taken.4 in
      (All-front (λ c. (neg_ℤ (pos most) ≤ℤ c.sign) × (c.sign ≤ℤ pos most)) mid taken.0 all, (let a = last.0 in omega (arith, ints)), (let a = last.1 in omega (arith, ints)));
}
  where
    pairs : AllPairs PointPrecedes (mid ++ taken.0 ∷ [])
    pairs = subst IsAscending taken.1 merged.ascending

    at : (places : ℤ → ℤ → Bool) → sign_among places taken.0 ≡ (if places point.line point.place then sign else pos 0)
    at places =
        ap (λ l. if places l taken.0.place then taken.0.sign else pos 0) taken.2
        ∙ ap (λ l. if places point.line l then taken.0.sign else pos 0) taken.3
        ∙ ap (λ z. if places point.line point.place then z else pos 0) taken.4

-- ---- adding a point

up_to : (c point : Point) → PointPrecedes c point → IsUpTo point c
up_to c point (inl p) = inl p
up_to c point (inr p) = inr (p.0, (let a = p.1 in omega (arith, ints)))

if_sum : (t : Bool) (a b : ℤ) → (if t then a +ℤ b else pos 0) ≡ (if t then a else pos 0) +ℤ (if t then b else pos 0)
if_sum true a b = refl
if_sum false a b = refl

abbrev summed : Point → ℤ → Point
summed point taken = record { line = point.line; place = point.place; sign = taken +ℤ point.sign }

adds_summed : (point : Point) (old mid : List Point) (taken : ℤ) → AreMergedUpTo point old
    → (neg_ℤ (pos 1) ≤ℤ point.sign) × (point.sign ≤ℤ pos 1) → IsTakenAt point old mid taken
    → taken +ℤ point.sign ≢ pos 0 → AddsPoint point old (mid ++ summed point taken ∷ [])
adds_summed point old mid taken merged sign is_taken some =
    let left = is_left point old mid taken merged is_taken in record {
      ascending = all_pairs_push PointPrecedes mid (summed point taken) left.ascending left.behind;
      signed = All-push (λ c. c.sign ≢ pos 0) mid (summed point taken) left.signed some;
      behind = All-push (IsUpTo point) mid (summed point taken) (λ k d below. up_to (get_or mid k d) point (left.behind k d below))
          (inr (refl, omega (arith, ints)));
      signs = λ most within.
          let all = left.signs most within in
          All-push (λ c. (neg_ℤ (pos (most + 1)) ≤ℤ c.sign) × (c.sign ≤ℤ pos (most + 1))) mid (summed point taken)
          (λ k d below. let one = all.0 k d below in ((let a = one.0 in omega (arith, ints)), (let a = one.1 in omega (arith, ints))))
          ((let a = all.1 in let b = sign.0 in omega (arith, ints)), (let a = all.2 in let b = sign.1 in omega (arith, ints)));
      sums = λ places.
          let a = sum_each-push (λ p. sign_among places p) mid (summed point taken) in
          let b = left.sums places in
          let c = if_sum (places point.line point.place) taken point.sign in
          omega (arith, ints);
    }

pub adds_pushed : (point c : Point) (old mid new : List Point) (taken : ℤ) → AreMergedUpTo point old
    → (neg_ℤ (pos 1) ≤ℤ point.sign) × (point.sign ≤ℤ pos 1) → IsTakenAt point old mid taken
    → c ≡ summed point taken → taken +ℤ point.sign ≢ pos 0 → new ≡ mid ++ c ∷ []
    → AddsPoint point old new
adds_pushed point c old mid new taken merged sign is_taken e some is =
    subst (AddsPoint point old) (sym (is ∙ ap (λ t. mid ++ t ∷ []) e)) (adds_summed point old mid taken merged sign is_taken some)

pub adds_dropped : (point : Point) (old mid : List Point) (taken : ℤ) → AreMergedUpTo point old
    → (neg_ℤ (pos 1) ≤ℤ point.sign) × (point.sign ≤ℤ pos 1) → IsTakenAt point old mid taken → taken +ℤ point.sign ≡ pos 0 → AddsPoint point old mid
adds_dropped point old mid taken merged sign is_taken none =
    let left = is_left point old mid taken merged is_taken in record {
      ascending = left.ascending;
      signed = left.signed;
      behind = λ k d below. up_to (get_or mid k d) point (left.behind k d below);
      signs = λ most within k d below.
          let one = (left.signs most within).0 k d below in ((let a = one.0 in omega (arith, ints)), (let a = one.1 in omega (arith, ints)));
      sums = λ places.
          let b = left.sums places in
          let c = if_sum (places point.line point.place) taken point.sign in
          let z : (if places point.line point.place then taken +ℤ point.sign else pos 0) ≡ pos 0 =
          ap (λ z. if places point.line point.place then z else pos 0) none ∙ if_zero (places point.line point.place) in
          omega (arith, ints);
    }

-- ---- the points so far

pub up_to_later : (c point later : Point) → IsUpTo point c → IsUpTo later point → IsUpTo later c
up_to_later c point later (inl p) (inl q) = inl (omega (arith, ints))
up_to_later c point later (inl p) (inr q) = inl (let a = q.0 in omega (arith, ints))
up_to_later c point later (inr p) (inl q) = inl (let a = p.0 in omega (arith, ints))
up_to_later c point later (inr p) (inr q) = inr (p.0 ∙ q.0, (let a = p.1 in let b = q.1 in omega (arith, ints)))

-- ---- adding, in the numbers that are stored

pub taken_within : (point : Point) (old mid : List Point) (taken : ℤ) (most : ℕ) → AreMergedUpTo point old → IsTakenAt point old mid taken → SignsWithin most old
    → (neg_ℤ (pos most) ≤ℤ taken) × (taken ≤ℤ pos most)
taken_within point old mid taken most merged is_taken within =
    let bounds = (is_left point old mid taken merged is_taken).signs most within in (bounds.1, bounds.2)

pub point_is : (line place sign line' place' sign' : ℤ) → line ≡ line' → place ≡ place' → sign ≡ sign'
    → (let c : Point = record { line = line; place = place; sign = sign } in c) ≡ record { line = line'; place = place'; sign = sign' }
point_is line place sign line' place' sign' e f g =
    ap (λ z. let c : Point = record { line = z; place = place; sign = sign } in c) e
    ∙ ap (λ z. let c : Point = record { line = line'; place = z; sign = sign } in c) f
    ∙ ap (λ z. let c : Point = record { line = line'; place = place'; sign = z } in c) g

-- ---- sorted points

gain : ℤ → ℕ
gain (pos n) = n
gain (negsuc n) = 0

loss : ℤ → ℕ
loss (pos n) = 0
loss (negsuc n) = suc n

gain-loss : (z : ℤ) → z ≡ pos (gain z) -ℤ pos (loss z)
unfolding gain loss
gain-loss (pos n) = omega (arith, ints)
gain-loss (negsuc n) = omega (arith, ints)

sums-parts : (places : ℤ → ℤ → Bool) (ps : List Point)
    → signs_among places ps ≡ pos (sum_by (λ p. gain (sign_among places p)) ps) -ℤ pos (sum_by (λ p. loss (sign_among places p)) ps)
unfolding sum_each
sums-parts places [] = refl
sums-parts places (p ∷ ps) =
    let rest = sums-parts places ps in
    let g = sum_by-cons (λ q. gain (sign_among places q)) p ps in
    let l = sum_by-cons (λ q. loss (sign_among places q)) p ps in
    let z = gain-loss (sign_among places p) in
    omega (arith, ints)

pub sums-permutation : (places : ℤ → ℤ → Bool) (ps qs : List Point) → IsPermutation ps qs → signs_among places qs ≡ signs_among places ps
sums-permutation places ps qs moved =
    let a = sums-parts places ps in
    let b = sums-parts places qs in
    let g = sum_by-IsPermutation (λ p. gain (sign_among places p)) ps qs moved in
    let l = sum_by-IsPermutation (λ p. loss (sign_among places p)) ps qs moved in
    omega (arith, ints)

not_less : (a b : Point) (o : Ordering) → is_lt (ordering_then (int_cmp b.line a.line) (ordering_then (int_cmp b.place a.place) o)) ≡ false → IsUpTo b a
not_less a b o h = by (int_lt b.line a.line) (int_lt a.line b.line) (int_lt b.place a.place) (int_lt a.place b.place) refl refl refl refl h
  where
    by : (p q r s : Bool) → int_lt b.line a.line ≡ p → int_lt a.line b.line ≡ q → int_lt b.place a.place ≡ r → int_lt a.place b.place ≡ s
        → is_lt (ordering_then (cond p Less (cond q Greater Equal)) (ordering_then (cond r Less (cond s Greater Equal)) o)) ≡ false → IsUpTo b a
    by true q r s e f g i h = absurd (cc h)
    by false true r s e f g i h = inl (omega (arith, ints))
    by false false true s e f g i h = absurd (cc h)
    by false false false s e f g i h = inr (omega (arith, ints), omega (arith, ints))

up_to_itself : (c : Point) → IsUpTo c c
up_to_itself c = inr (refl, omega (arith, ints))

pub in_order : (cs : List Point)
    → ((k : ℕ) (d : Point) → 0 ≤ k → k + 1 < length cs
    → is_lt (ordering_then (int_cmp (get_or cs (k + 1) d).line (get_or cs k d).line)
    (ordering_then (int_cmp (get_or cs (k + 1) d).place (get_or cs k d).place) (int_cmp (get_or cs (k + 1) d).sign (get_or cs k d).sign))) ≡ false)
    → IsInOrder cs
in_order cs adjacent j k d upto below = by k upto below
  where
    by : (k : ℕ) → j ≤ k → k < length cs → IsUpTo (get_or cs k d) (get_or cs j d)
    by zero upto below = subst (λ i. IsUpTo (get_or cs 0 d) (get_or cs i d)) (let z : 0 ≡ j = omega arith in z) (up_to_itself (get_or cs 0 d))
    by (suc k) upto below = step (j == suc k) refl (λ h. by k h (omega arith))
      where
        next : IsUpTo (get_or cs (suc k) d) (get_or cs k d)
        next = subst (λ i. IsUpTo (get_or cs i d) (get_or cs k d)) (let z : k + 1 ≡ suc k = omega arith in z)
            (not_less (get_or cs k d) (get_or cs (k + 1) d) (int_cmp (get_or cs (k + 1) d).sign (get_or cs k d).sign) (adjacent k d (omega arith) (omega arith)))

        step : (t : Bool) → (j == suc k) ≡ t → (j ≤ k → IsUpTo (get_or cs k d) (get_or cs j d)) → IsUpTo (get_or cs (suc k) d) (get_or cs j d)
        step true e before =
            subst (λ i. IsUpTo (get_or cs (suc k) d) (get_or cs i d)) (sym ((Decides-eqb j (suc k)).0 e)) (up_to_itself (get_or cs (suc k) d))
        step false e before =
            let apart : j ≢ suc k = not_from_Decides (j == suc k) (Decides-eqb j (suc k)) e in
            up_to_later (get_or cs j d) (get_or cs k d) (get_or cs (suc k) d) (before (omega arith)) next
