-- The lengths of the pieces of an edge sum to its length.
use Rattle.std.proofs.Common.{◌≡◌, ℕ, zero, suc, ◌+◌, ◌-◌, ◌*◌, ◌/◌, ◌%◌, ◌<◌, ◌≤◌, nat_lt, ℤ, pos, negsuc, ◌+ℤ◌, ◌-ℤ◌, ◌≤ℤ◌, Bool, true, false, ◌||◌, if◌then◌else◌, w32, to_z, of_z, SFits, List, [], ◌∷◌, ◌++◌, length, replicate, sum, take, get_or, refl, sym, ◌∙◌, ap, arith, length-append, append_assoc, add-one}
use Rattle.std.specs.Int.RustNames.{unsigned_abs}
use Rattle.std.proofs.lemmas.Int.{ints}
use Rattle.std.proofs.lemmas.List.Sums.{sum_by-cons, sum_by-append}
use Rattle.std.proofs.lemmas.List.Folds.{sum_by-replicate}
use Rattle.std.proofs.lemmas.Grind.{replicate_next}
use Rattle.std.proofs.Math.ListN.{length-replicate}
use Rattle.std.proofs.Math.Nat.{mul-le-mul_right}
use Rattle.std.proofs.lemmas.Bool.Decides.{Decides-ltb, not_from_Decides}
use Rattle.opc_base.specs.declared.plane.Side.{Side}
use Rattle.outline_model.specs.declared.edge.Edge.{Edge}
use Rattle.opc_base.specs.declared.rules.CutRules.{CutRules}
use Rattle.outline_model.specs.declared.piece.EdgePiece.{EdgePiece}
use Rattle.outline_model.specs.Lengths.{edge_length, end_length, is_whole, inner_length, inner_count, parts, lengths}
use Rattle.outline_model.specs.Lengths.{AreRules, IsLength}
use Rattle.cutting.specs.Limits.{IsCuttable}
use Rattle.outline_model.specs.Ranges.{IsInLayout}
use Rattle.outline_model.specs.Pieces.{laid, pieces_along}

-- ---- sizes

pub size_is : (z : ℤ) → pos 0 ≤ℤ z → pos (unsigned_abs z) ≡ z
size_is (pos n) h = refl
size_is (negsuc n) h = absurd (omega (arith, ints))

pub edge_length_is : (e : Edge) → IsCuttable e → pos (edge_length e) ≡ e.hi -ℤ e.lo
edge_length_is e cuttable = size_is (e.hi -ℤ e.lo) (let a = cuttable.some in omega (arith, ints))

length_some : (z : ℤ) → IsLength z → (0 < unsigned_abs z) × (unsigned_abs z ≤ 4096)
length_some z within =
    let low = within.0 in
    let high = within.1 in
    let is = size_is z (omega (arith, ints)) in
    (omega (arith, ints), omega (arith, ints))

pub piece_some : (rules : CutRules) → AreRules rules → (0 < unsigned_abs rules.piece) × (unsigned_abs rules.piece ≤ 4096)
piece_some rules are = length_some rules.piece are.piece

pub end_some : (rules : CutRules) (convex : Bool) → AreRules rules → (0 < end_length rules convex) × (end_length rules convex ≤ 4096)
end_some rules true are = length_some rules.corner_out are.corner_out
end_some rules false are = length_some rules.corner_in are.corner_in

or_false : (a b : Bool) → (a || b) ≡ false → a ≡ false
or_false true b h = h
or_false false b h = refl

-- an edge that is cut has room for a piece between its ends
pub room : (rules : CutRules) (e : Edge) → is_whole rules e ≡ false
    → end_length rules e.low_convex + end_length rules e.high_convex + unsigned_abs rules.piece ≤ edge_length e
room rules e cut =
    let short = or_false (nat_lt (edge_length e) (end_length rules e.low_convex + end_length rules e.high_convex + unsigned_abs rules.piece)) _ cut in
    let not_less = not_from_Decides _ (Decides-ltb (edge_length e) (end_length rules e.low_convex + end_length rules e.high_convex + unsigned_abs rules.piece)) short in
    omega arith

pub inner_room : (rules : CutRules) (e : Edge) → is_whole rules e ≡ false
    → (unsigned_abs rules.piece ≤ inner_length rules e)
    × (end_length rules e.low_convex + inner_length rules e + end_length rules e.high_convex ≡ edge_length e)
inner_room rules e cut = let r = room rules e cut in (omega arith, omega arith)

pub div_some : (m d : ℕ) → 0 < d → d ≤ m → 0 < m / d
div_some m d some enough = by (m / d) refl
  where
    by : (q : ℕ) → m / d ≡ q → 0 < m / d
    by zero e = absurd (let whole : d * (m / d) + m % d ≡ m = omega arith in let none : d * (m / d) ≡ 0 = ap (λ q. d * q) e ∙ mul_zero d in omega arith)
      where
        mul_zero : (d : ℕ) → d * 0 ≡ 0
        mul_zero d = omega arith
    by (suc q) e = omega arith

pub inner_count_some : (rules : CutRules) (e : Edge) → AreRules rules → is_whole rules e ≡ false → 0 < inner_count rules e
inner_count_some rules e are cut =
    div_some (inner_length rules e) (unsigned_abs rules.piece) (piece_some rules are).0 (inner_room rules e cut).0

-- ---- laid pieces

pub laid-append : (side : Side) (line from : ℤ) (ns ms : List ℕ)
    → laid side line from (ns ++ ms) ≡ laid side line from ns ++ laid side line (from +ℤ pos (sum ns)) ms
unfolding laid
laid-append side line from [] ms = ap (λ f. laid side line f ms) (let e : from ≡ from +ℤ pos 0 = omega (arith, ints) in e)
laid-append side line from (n ∷ ns) ms =
    ap (λ ps. (let p : EdgePiece = record { side = side; line = line; lo = from; hi = from +ℤ pos n } in p) ∷ ps) (laid-append side line (from +ℤ pos n) ns ms
    ∙ ap (λ f. laid side line (from +ℤ pos n) ns ++ laid side line f ms)
    (let s = sum_by-cons (λ x. x) n ns in let e : (from +ℤ pos n) +ℤ pos (sum ns) ≡ from +ℤ pos (sum (n ∷ ns)) = omega (arith, ints) in e))

pub sum-replicate : (k n : ℕ) → sum (replicate k n) ≡ k * n
sum-replicate k n = sum_by-replicate (λ x. x) k n

-- one more piece of the same length
pub laid-replicate_more : (side : Side) (line from : ℤ) (k n : ℕ)
    → laid side line from (replicate (k + 1) n)
    ≡ laid side line from (replicate k n) ++ (let p : EdgePiece = record { side = side; line = line; lo = from +ℤ pos (k * n); hi = (from +ℤ pos (k * n)) +ℤ pos n } in p) ∷ []
unfolding laid
laid-replicate_more side line from k n =
    ap (laid side line from) (replicate_next k n)
    ∙ laid-append side line from (replicate k n) (n ∷ [])
    ∙ ap (λ s. laid side line from (replicate k n) ++ laid side line (from +ℤ pos s) (n ∷ [])) (sum-replicate k n)

pub laid-one : (side : Side) (line from : ℤ) (n : ℕ) → laid side line from (replicate 1 n) ≡ laid side line from (n ∷ [])
laid-one side line from n = refl

-- ---- the lengths

pub sum-parts : (m k : ℕ) → 0 < k → sum (parts m k) ≡ m
sum-parts m k some =
    let a = sum_by-append (λ x. x) (replicate (m % k) (m / k + 1)) (replicate (k - m % k) (m / k)) in
    let b = sum-replicate (m % k) (m / k + 1) in
    let c = sum-replicate (k - m % k) (m / k) in
    let less : m % k < k = omega arith in
    let whole : k * (m / k) + m % k ≡ m = omega arith in
    let total : (m % k) * (m / k + 1) + (k - m % k) * (m / k) ≡ k * (m / k) + m % k = spread (m % k) (k - m % k) k (m / k) (omega arith) in
    omega arith
  where
    spread : (r s k q : ℕ) → r + s ≡ k → r * (q + 1) + s * q ≡ k * q + r
    spread r s k q e = rw (← e) (omega arith)

pub length-parts : (m k : ℕ) → 0 < k → length (parts m k) ≡ k
length-parts m k some =
    let less : m % k < k = omega arith in
    omega (arith, length-append (replicate (m % k) (m / k + 1)) (replicate (k - m % k) (m / k)), length-replicate (m % k) (m / k + 1), length-replicate (k - m % k) (m / k))

append-nil : {X : Type 0} (xs : List X) → xs ≡ xs ++ []
append-nil [] = refl
append-nil (x ∷ xs) = ap (λ ys. x ∷ ys) (append-nil xs)

pub laid-none : (ps : List EdgePiece) (side : Side) (line from : ℤ) (n : ℕ) → ps ≡ ps ++ laid side line from (replicate 0 n)
unfolding laid
laid-none ps side line from n = append-nil ps

pub steps_within : (i count n : ℕ) → i < count → i * n + n ≤ count * n
steps_within i count n h =
    let more : i * n + n ≡ (i + 1) * n = omega arith in
    omega (arith, mul-le-mul_right n (let e : i + 1 ≤ count = omega arith in e))

pub laid_more : (ps old new : List EdgePiece) (side : Side) (line from line' lo hi : ℤ) (i n : ℕ)
    → old ≡ ps ++ laid side line from (replicate i n)
    → new ≡ old ++ (let p : EdgePiece = record { side = side; line = line'; lo = lo; hi = hi } in p) ∷ []
    → line' ≡ line → lo ≡ from +ℤ pos (i * n) → hi ≡ (from +ℤ pos (i * n)) +ℤ pos n
    → new ≡ ps ++ laid side line from (replicate (i + 1) n)
laid_more ps old new side line from line' lo hi i n before is same_line same_lo same_hi =
    is
    ∙ ap (λ l. old ++ (let p : EdgePiece = record { side = side; line = l; lo = lo; hi = hi } in p) ∷ []) same_line
    ∙ ap (λ l. old ++ (let p : EdgePiece = record { side = side; line = line; lo = l; hi = hi } in p) ∷ []) same_lo
    ∙ ap (λ l. old ++ (let p : EdgePiece = record { side = side; line = line; lo = from +ℤ pos (i * n); hi = l } in p) ∷ []) same_hi
    ∙ ap (λ t. t ++ (let p : EdgePiece = record { side = side; line = line; lo = from +ℤ pos (i * n); hi = (from +ℤ pos (i * n)) +ℤ pos n } in p) ∷ []) before
    ∙ (rw append_assoc refl)
    ∙ ap (λ t. ps ++ t) (sym (laid-replicate_more side line from i n))

-- ---- all lengths

pub lengths_cut : (rules : CutRules) (e : Edge) → is_whole rules e ≡ false
    → (end_length rules e.low_convex ∷ []) ++ (parts (inner_length rules e) (inner_count rules e) ++ (end_length rules e.high_convex ∷ [])) ≡ lengths rules e
unfolding lengths
lengths_cut rules e cut =
    sym (ap (λ (t : Bool). if t then edge_length e ∷ [] else (end_length rules e.low_convex ∷ []) ++ (parts (inner_length rules e) (inner_count rules e) ++ (end_length rules e.high_convex ∷ []))) cut)

pub length-lengths_whole : (rules : CutRules) (e : Edge) → is_whole rules e ≡ true → length (lengths rules e) ≡ 1
unfolding lengths
length-lengths_whole rules e whole = ap (λ (t : Bool). length (if t then edge_length e ∷ [] else (end_length rules e.low_convex ∷ []) ++ (parts (inner_length rules e) (inner_count rules e) ++ (end_length rules e.high_convex ∷ [])))) whole

pub length-lengths_cut : (rules : CutRules) (e : Edge) → AreRules rules → is_whole rules e ≡ false → length (lengths rules e) ≡ inner_count rules e + 2
unfolding lengths
length-lengths_cut rules e are cut =
    ap (λ (t : Bool). length (if t then edge_length e ∷ [] else (end_length rules e.low_convex ∷ []) ++ (parts (inner_length rules e) (inner_count rules e) ++ (end_length rules e.high_convex ∷ [])))) cut
    ∙ (let p = length-parts (inner_length rules e) (inner_count rules e) (inner_count_some rules e are cut) in
    omega (arith, length-append (parts (inner_length rules e) (inner_count rules e)) (end_length rules e.high_convex ∷ [])))

-- the parts of a length, laid one after another
pub parts_total : (m k : ℕ) → 0 < k → (m % k) * (m / k + 1) + (k - m % k) * (m / k) ≡ m
parts_total m k some =
    let a = sum_by-append (λ x. x) (replicate (m % k) (m / k + 1)) (replicate (k - m % k) (m / k)) in
    let b = sum-replicate (m % k) (m / k + 1) in
    let c = sum-replicate (k - m % k) (m / k) in
    let d = sum-parts m k some in
    sym (ap (λ z. z + (k - m % k) * (m / k)) b) ∙ sym (ap (λ z. sum (replicate (m % k) (m / k + 1)) + z) c) ∙ sym a ∙ d

pub laid_parts : (side : Side) (line from from' middle : ℤ) (m k : ℕ) (ps one two : List EdgePiece)
    → one ≡ ps ++ laid side line from' (replicate (m % k) (m / k + 1))
    → two ≡ one ++ laid side line middle (replicate (k - m % k) (m / k))
    → from' ≡ from → middle ≡ from +ℤ pos ((m % k) * (m / k + 1)) → two ≡ ps ++ laid side line from (parts m k)
laid_parts side line from from' middle m k ps one two a b same mid =
    b ∙ ap (λ t. t ++ laid side line middle (replicate (k - m % k) (m / k))) a
    ∙ (rw append_assoc refl)
    ∙ ap (λ t. ps ++ (laid side line t (replicate (m % k) (m / k + 1)) ++ laid side line middle (replicate (k - m % k) (m / k)))) same
    ∙ ap (λ t. ps ++ (laid side line from (replicate (m % k) (m / k + 1)) ++ laid side line t (replicate (k - m % k) (m / k)))) mid
    ∙ ap (λ t. ps ++ (laid side line from (replicate (m % k) (m / k + 1)) ++ laid side line (from +ℤ pos t) (replicate (k - m % k) (m / k)))) (sym (sum-replicate (m % k) (m / k + 1)))
    ∙ ap (λ t. ps ++ t) (sym (laid-append side line from (replicate (m % k) (m / k + 1)) (replicate (k - m % k) (m / k))))

-- the pieces of an edge that is cut, as they are laid
pub laid_cut : (rules : CutRules) (e : Edge) (ps one two three : List EdgePiece) (from first last : ℤ) → AreRules rules → is_whole rules e ≡ false
    → one ≡ ps ++ laid e.side e.line from (end_length rules e.low_convex ∷ [])
    → two ≡ one ++ laid e.side e.line first (parts (inner_length rules e) (inner_count rules e))
    → three ≡ two ++ laid e.side e.line last (end_length rules e.high_convex ∷ [])
    → from ≡ e.lo → first ≡ e.lo +ℤ pos (end_length rules e.low_convex) → last ≡ first +ℤ pos (inner_length rules e)
    → three ≡ ps ++ laid e.side e.line e.lo (lengths rules e)
laid_cut rules e ps one two three from first last are cut a b c same f l =
    c ∙ ap (λ t. t ++ laid e.side e.line last (end_length rules e.high_convex ∷ [])) (b ∙ ap (λ t. t ++ laid e.side e.line first ns) a)
    ∙ (rw (append_assoc, append_assoc) refl)
    ∙ ap (λ t. ps ++ (laid e.side e.line t (end_length rules e.low_convex ∷ []) ++ (laid e.side e.line first ns ++ laid e.side e.line last (end_length rules e.high_convex ∷ [])))) same
    ∙ ap (λ t. ps ++ (laid e.side e.line e.lo (end_length rules e.low_convex ∷ []) ++ (laid e.side e.line first ns ++ laid e.side e.line t (end_length rules e.high_convex ∷ []))))
    (l ∙ ap (λ s. first +ℤ pos s) (sym (sum-parts (inner_length rules e) (inner_count rules e) (inner_count_some rules e are cut))))
    ∙ ap (λ t. ps ++ (laid e.side e.line e.lo (end_length rules e.low_convex ∷ []) ++ t)) (sym (laid-append e.side e.line first ns (end_length rules e.high_convex ∷ [])))
    ∙ ap (λ t. ps ++ (laid e.side e.line e.lo (end_length rules e.low_convex ∷ []) ++ laid e.side e.line t (ns ++ (end_length rules e.high_convex ∷ []))))
    (f ∙ ap (λ s. e.lo +ℤ pos s) (let one_sum : end_length rules e.low_convex ≡ sum (end_length rules e.low_convex ∷ []) = omega arith in one_sum))
    ∙ ap (λ t. ps ++ t) (sym (laid-append e.side e.line e.lo (end_length rules e.low_convex ∷ []) (ns ++ (end_length rules e.high_convex ∷ []))))
    ∙ ap (λ t. ps ++ laid e.side e.line e.lo t) (lengths_cut rules e cut)
  where
    ns : List ℕ
    ns = parts (inner_length rules e) (inner_count rules e)

pub laid_whole : (rules : CutRules) (e : Edge) (ps new : List EdgePiece) → is_whole rules e ≡ true
    → new ≡ ps ++ laid e.side e.line e.lo (replicate 1 (edge_length e)) → new ≡ ps ++ laid e.side e.line e.lo (lengths rules e)
unfolding lengths
laid_whole rules e ps new whole is =
    is ∙ ap (λ t. ps ++ laid e.side e.line e.lo t)
    (sym (ap (λ (t : Bool). if t then edge_length e ∷ [] else (end_length rules e.low_convex ∷ []) ++ (parts (inner_length rules e) (inner_count rules e) ++ (end_length rules e.high_convex ∷ []))) whole))

pub pieces_along-nil : (rules : CutRules) → pieces_along rules [] ≡ []
unfolding pieces_along
pieces_along-nil rules = refl

pub pieces_along-take_more : (rules : CutRules) (es : List Edge) (i : ℕ) (d : Edge) → i < length es
    → pieces_along rules (take (i + 1) es) ≡ pieces_along rules (take i es) ++ laid (get_or es i d).side (get_or es i d).line (get_or es i d).lo (lengths rules (get_or es i d))
unfolding pieces_along
pieces_along-take_more rules es i d h = rw add-one (by es i h)
  where
    by : (es : List Edge) (i : ℕ) → i < length es
        → pieces_along rules (take (suc i) es) ≡ pieces_along rules (take i es) ++ laid (get_or es i d).side (get_or es i d).line (get_or es i d).lo (lengths rules (get_or es i d))
    by [] i h = absurd (omega arith)
    by (e ∷ es) zero h = sym (append-nil (laid e.side e.line e.lo (lengths rules e)))
    by (e ∷ es) (suc i) h =
        ap (λ t. laid e.side e.line e.lo (lengths rules e) ++ t) (by es i (omega arith)) ∙ sym append_assoc_at
      where
        append_assoc_at : (laid e.side e.line e.lo (lengths rules e) ++ pieces_along rules (take i es)) ++ laid (get_or es i d).side (get_or es i d).line (get_or es i d).lo (lengths rules (get_or es i d))
            ≡ laid e.side e.line e.lo (lengths rules e) ++ (pieces_along rules (take i es) ++ laid (get_or es i d).side (get_or es i d).line (get_or es i d).lo (lengths rules (get_or es i d)))
        append_assoc_at = rw append_assoc refl

-- ---- places, as they are stored

pub lo_is : (z : ℤ) → IsInLayout z → to_z w32 (of_z w32 z) ≡ z
lo_is z within = let a = within.0 in let b = within.1 in omega (arith, ints)

stored_is : (z : ℤ) → (negsuc 1047999 ≤ℤ z) × (z ≤ℤ pos 1048000) → to_z w32 (of_z w32 z) ≡ z
stored_is z within = let a = within.0 in let b = within.1 in omega (arith, ints)

pub place_is : (from : ℤ) (i count n : ℕ) → IsInLayout from → IsInLayout (from +ℤ pos (count * n)) → i < count
    → to_z w32 (of_z w32 (to_z w32 (of_z w32 from) +ℤ to_z w32 (i * n))) ≡ to_z w32 (of_z w32 from) +ℤ pos (i * n)
place_is from i count n placed end less =
    let steps = steps_within i count n less in
    let a = placed.0 in let b = placed.1 in let c = end.0 in let d = end.1 in
    at (i * n) (count * n) (omega arith) c d
  where
    at : (p q : ℕ) → p ≤ q → negsuc 1047999 ≤ℤ (from +ℤ pos q) → (from +ℤ pos q) ≤ℤ pos 1048000
        → to_z w32 (of_z w32 (to_z w32 (of_z w32 from) +ℤ to_z w32 p)) ≡ to_z w32 (of_z w32 from) +ℤ pos p
    at p q upto c d = let a = placed.0 in let b = placed.1 in let e = stored_is from placed in omega (arith, ints)

pub hi_is : (from : ℤ) (i count n : ℕ) → IsInLayout from → IsInLayout (from +ℤ pos (count * n)) → i < count
    → to_z w32 (of_z w32 (to_z w32 (of_z w32 (to_z w32 (of_z w32 from) +ℤ to_z w32 (i * n))) +ℤ to_z w32 n)) ≡ (to_z w32 (of_z w32 from) +ℤ pos (i * n)) +ℤ pos n
hi_is from i count n placed end less =
    let steps = steps_within i count n less in
    let place = place_is from i count n placed end less in
    let e = stored_is from placed in
    rw place (at (i * n) (count * n) steps e end.0 end.1)
  where
    at : (p q : ℕ) → p + n ≤ q → to_z w32 (of_z w32 from) ≡ from → negsuc 1047999 ≤ℤ (from +ℤ pos q) → (from +ℤ pos q) ≤ℤ pos 1048000
        → to_z w32 (of_z w32 ((to_z w32 (of_z w32 from) +ℤ pos p) +ℤ to_z w32 n)) ≡ (to_z w32 (of_z w32 from) +ℤ pos p) +ℤ pos n
    at p q upto e c d = let a = placed.0 in let b = placed.1 in omega (arith, ints)

pub hi_fits : (from : ℤ) (i count n : ℕ) → IsInLayout from → IsInLayout (from +ℤ pos (count * n)) → i < count
    → SFits w32 (to_z w32 (of_z w32 (to_z w32 (of_z w32 from) +ℤ to_z w32 (i * n))) +ℤ to_z w32 n)
hi_fits from i count n placed end less =
    let steps = steps_within i count n less in
    let place = place_is from i count n placed end less in
    let e = stored_is from placed in
    rw place (at (i * n) (count * n) steps e end.0 end.1)
  where
    at : (p q : ℕ) → p + n ≤ q → to_z w32 (of_z w32 from) ≡ from → negsuc 1047999 ≤ℤ (from +ℤ pos q) → (from +ℤ pos q) ≤ℤ pos 1048000
        → SFits w32 ((to_z w32 (of_z w32 from) +ℤ pos p) +ℤ to_z w32 n)
    at p q upto e c d = let a = placed.0 in let b = placed.1 in omega (arith, ints)

pub middle_facts : (from middle : ℤ) (a b total : ℕ) → IsInLayout from → IsInLayout (from +ℤ pos total) → a + b ≡ total → middle ≡ to_z w32 (of_z w32 from) +ℤ pos a
    → (to_z w32 (of_z w32 middle) ≡ from +ℤ pos a) × IsInLayout (to_z w32 (of_z w32 middle) +ℤ pos b) × (to_z w32 (of_z w32 middle) +ℤ pos b ≡ from +ℤ pos total)
middle_facts from middle a b total placed end sum is =
    let from_is = stored_is from placed in
    let low = placed.0 in
    let high = placed.1 in
    let end_low = end.0 in
    let end_high = end.1 in
    let middle_at : middle ≡ from +ℤ pos a = omega (arith, ints) in
    let middle_low : negsuc 1047999 ≤ℤ middle = omega (arith, ints) in
    let middle_high : middle ≤ℤ pos 1048000 = omega (arith, ints) in
    let middle_is = stored_is middle (middle_low, middle_high) in
    let stored_at : to_z w32 (of_z w32 middle) ≡ from +ℤ pos a = middle_is ∙ middle_at in
    (stored_at, (omega (arith, ints), omega (arith, ints)), omega (arith, ints))

pub end_is : (from end' end : ℤ) (total : ℕ) → IsInLayout (from +ℤ pos total) → end' ≡ from +ℤ pos total → end ≡ end' → to_z w32 (of_z w32 end) ≡ from +ℤ pos total
end_is from end' end total placed a b =
    ap (λ z. to_z w32 (of_z w32 z)) (b ∙ a) ∙ stored_is (from +ℤ pos total) placed

-- the places at which the pieces at the ends of an edge and the inner ones meet
pub record AreMeetings (rules : CutRules) (e : Edge) (first last : ℤ) (low inner high : ℕ) : Type 0 where
  pub from : to_z w32 (of_z w32 e.lo) ≡ e.lo
  pub first_is : to_z w32 (of_z w32 first) ≡ e.lo +ℤ pos (end_length rules e.low_convex)
  pub last_is : last ≡ to_z w32 (of_z w32 first) +ℤ pos inner → to_z w32 (of_z w32 last) ≡ to_z w32 (of_z w32 first) +ℤ pos (inner_length rules e)
  pub first_placed : IsInLayout (to_z w32 (of_z w32 first))
  pub inner_placed : IsInLayout (to_z w32 (of_z w32 first) +ℤ pos inner)
  pub last_placed : last ≡ to_z w32 (of_z w32 first) +ℤ pos inner → IsInLayout (to_z w32 (of_z w32 last))
  pub end_placed : last ≡ to_z w32 (of_z w32 first) +ℤ pos inner → IsInLayout (to_z w32 (of_z w32 last) +ℤ pos high)

pub meetings : (rules : CutRules) (e : Edge) (first last : ℤ) (low inner high : ℕ) → IsCuttable e → is_whole rules e ≡ false
    → low ≡ end_length rules e.low_convex → inner ≡ inner_length rules e → high ≡ end_length rules e.high_convex
    → first ≡ to_z w32 (of_z w32 e.lo) +ℤ pos low → AreMeetings rules e first last low inner high
meetings rules e first last low inner high cuttable cut low_is inner_is high_is at =
    of (stored_is e.lo cuttable.low) first_is (stored_is first (first_low, first_high))
  where
    whole : low + inner + high ≡ edge_length e
    whole = let r = (inner_room rules e cut).1 in omega arith

    hi_at : e.hi ≡ e.lo +ℤ pos (low + inner + high)
    hi_at = let l = edge_length_is e cuttable in let w = whole in omega (arith, ints)

    first_is : first ≡ e.lo +ℤ pos low
    first_is = let f = stored_is e.lo cuttable.low in omega (arith, ints)

    first_low : negsuc 1047999 ≤ℤ first
    first_low = let f = first_is in let a = cuttable.low.0 in omega (arith, ints)

    first_high : first ≤ℤ pos 1048000
    first_high = let f = first_is in let a = cuttable.high.1 in let h = hi_at in omega (arith, ints)

    of : to_z w32 (of_z w32 e.lo) ≡ e.lo → first ≡ e.lo +ℤ pos low → to_z w32 (of_z w32 first) ≡ first → AreMeetings rules e first last low inner high
    of lo_is is stored = record {
      from = lo_is;
      first_is = omega (arith, ints);
      last_is = λ l. last_stored l ∙ l ∙ ap (λ n. to_z w32 (of_z w32 first) +ℤ pos n) inner_is;
      first_placed = (let a = first_low in omega (arith, ints), let a = first_high in omega (arith, ints));
      inner_placed = (let a = first_low in omega (arith, ints), let a = cuttable.high.1 in let h = hi_at in omega (arith, ints));
      last_placed = λ l. let s = last_stored l in
          ((let a = first_low in omega (arith, ints)), (let a = cuttable.high.1 in let h = hi_at in omega (arith, ints)));
      end_placed = λ l. let s = last_stored l in
          ((let a = first_low in omega (arith, ints)), (let a = cuttable.high.1 in let h = hi_at in omega (arith, ints)));
    }
      where
        last_stored : last ≡ to_z w32 (of_z w32 first) +ℤ pos inner → to_z w32 (of_z w32 last) ≡ last
        last_stored l = stored_is last ((let a = first_low in omega (arith, ints)), (let a = cuttable.high.1 in let h = hi_at in omega (arith, ints)))

pub inner_count_bound : (rules : CutRules) (e : Edge) → AreRules rules → is_whole rules e ≡ false → inner_count rules e + 2 ≤ edge_length e
inner_count_bound rules e are cut =
    let whole = (inner_room rules e cut).1 in
    let low = (end_some rules e.low_convex are).0 in
    let high = (end_some rules e.high_convex are).0 in
    let few : inner_count rules e ≤ inner_length rules e = fewer (inner_length rules e) (unsigned_abs rules.piece) (piece_some rules are).0 in
    omega arith
  where
    fewer : (m d : ℕ) → 0 < d → m / d ≤ m
    fewer m d some =
        let whole : d * (m / d) + m % d ≡ m = omega arith in
        let once : 1 * (m / d) ≤ d * (m / d) = mul-le-mul_right (m / d) (let e : 1 ≤ d = omega arith in e) in
        omega arith

pub lengths_whole : (rules : CutRules) (e : Edge) → is_whole rules e ≡ true → edge_length e ∷ [] ≡ lengths rules e
unfolding lengths
lengths_whole rules e whole =
    sym (ap (λ (t : Bool). if t then edge_length e ∷ [] else (end_length rules e.low_convex ∷ []) ++ (parts (inner_length rules e) (inner_count rules e) ++ (end_length rules e.high_convex ∷ []))) whole)

pub inner_fewer : (rules : CutRules) (e : Edge) → AreRules rules → inner_count rules e ≤ inner_length rules e
inner_fewer rules e are = fewer (inner_length rules e) (unsigned_abs rules.piece) (piece_some rules are).0
  where
    fewer : (m d : ℕ) → 0 < d → m / d ≤ m
    fewer m d some =
        let whole : d * (m / d) + m % d ≡ m = omega arith in
        let once : 1 * (m / d) ≤ d * (m / d) = mul-le-mul_right (m / d) (let e : 1 ≤ d = omega arith in e) in
        omega arith
