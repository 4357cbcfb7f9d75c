-- The first fault of a list that is cut in two.
use Rattle.std.proofs.Common.{◌≡◌, ℕ, suc, ◌+◌, ◌-◌, ◌*◌, ◌<◌, ◌≤◌, Bool, true, false, Option, Some, None, List, [], ◌∷◌, ◌++◌, map, refl, sym, ap, ◌∙◌, subst, arith, add-zero, inl, inr}
use Rattle.std.specs.Prelude.{find, unsigned_abs}
use Rattle.std.specs.Option.{option_or, option_map}
use Rattle.std.specs.List.{range_with_len}
use Rattle.std.proofs.lemmas.Bool.{lt-ltb, le-ltb, ltb-false}
use Rattle.std.proofs.lemmas.List.Folds.{find-append}
use Rattle.std.proofs.lemmas.List.FromFn.{map-range_with_len_more}
use Rattle.kernel_file.specs.declared.fault.KernelFault.{KernelFault}
use Rattle.kernel_file.specs.declared.fault.KernelFault.TheVariants.{BadEntry}
use Rattle.kernel_file.specs.Numbers.{signed_at}
use Rattle.kernel_file.specs.Faults.{first_some, is_beyond, bad_part, kernel_fault_at, kernels_fault, IsFound}
use Rattle.kernel_file.proofs.Places.{map-range_with_len-add, map-range_with_len-later}

-- ---- of two answers

option_or_assoc : {X : Type 0} (a b c : Option X) → option_or (option_or a b) c ≡ option_or a (option_or b c)
option_or_assoc None b c = refl
option_or_assoc (Some x) b c = refl

pub option_or-none : {X : Type 0} (a : Option X) → option_or a None ≡ a
option_or-none None = refl
option_or-none (Some x) = refl

-- neither is there
pub neither : {X : Type 0} (a b : Option X) → option_or a b ≡ None → (a ≡ None) × (b ≡ None)
neither None b e = (refl, e)
neither (Some x) b e = cc

-- ---- of many answers

first_some-append : {X : Type 0} (xs ys : List (Option X)) → first_some (xs ++ ys) ≡ option_or (first_some xs) (first_some ys)
unfolding first_some
first_some-append [] ys = refl
first_some-append (x ∷ xs) ys = ap (option_or x) (first_some-append xs ys) ∙ sym (option_or_assoc x (first_some xs) (first_some ys))

first_some-single : {X : Type 0} (x : Option X) → first_some (x ∷ []) ≡ x
unfolding first_some
first_some-single x = option_or-none x

-- of the answers at m + n numbers: those at the first m, and then n
first_some-add : {X : Type 0} (f : ℕ → Option X) (m n : ℕ) →
    first_some (map f (range_with_len 0 (m + n))) ≡ option_or (first_some (map f (range_with_len 0 m))) (first_some (map f (range_with_len (0 + m) n)))
first_some-add f m n =
    ap first_some (map-range_with_len-add f 0 m n)
    ∙ first_some-append (map f (range_with_len 0 m)) (map f (range_with_len (0 + m) n))

first_some-more : {X : Type 0} (f : ℕ → Option X) (n : ℕ) →
    first_some (map f (range_with_len 0 (n + 1))) ≡ option_or (first_some (map f (range_with_len 0 n))) (f n)
first_some-more f n =
    ap first_some (map-range_with_len_more f 0 n n (omega arith))
    ∙ first_some-append (map f (range_with_len 0 n)) (f n ∷ [])
    ∙ ap (option_or (first_some (map f (range_with_len 0 n)))) (first_some-single (f n))

first_some-found : {X : Type 0} (f : ℕ → Option X) (m n : ℕ) (x : X) → m ≤ n →
    first_some (map f (range_with_len 0 m)) ≡ Some x → first_some (map f (range_with_len 0 n)) ≡ Some x
first_some-found f m n x within found =
    let split : m + (n - m) ≡ n = omega arith in
    subst (λ k. first_some (map f (range_with_len 0 k)) ≡ Some x) split
    (first_some-add f m (n - m) ∙ ap (λ a. option_or a (first_some (map f (range_with_len (0 + m) (n - m))))) found)

first_some-none_at : {X : Type 0} (f : ℕ → Option X) (n k : ℕ) → k < n →
    first_some (map f (range_with_len 0 n)) ≡ None → f k ≡ None
first_some-none_at f n k within none =
    let split : k + 1 + (n - (k + 1)) ≡ n = omega arith in
    let up_to = (neither (first_some (map f (range_with_len 0 (k + 1)))) (first_some (map f (range_with_len (0 + (k + 1)) (n - (k + 1)))))
    (sym (first_some-add f (k + 1) (n - (k + 1))) ∙ ap (λ j. first_some (map f (range_with_len 0 j))) split ∙ none)).0 in
    (neither (first_some (map f (range_with_len 0 k))) (f k) (sym (first_some-more f k) ∙ up_to)).1

-- ---- kernels

pub kernels_fault-none : (bytes : List ℕ) → kernels_fault bytes 0 ≡ None
unfolding kernels_fault first_some
kernels_fault-none bytes = refl

-- one kernel more
pub kernels_fault-more : (bytes : List ℕ) (n : ℕ) → kernels_fault bytes (n + 1) ≡ option_or (kernels_fault bytes n) (kernel_fault_at bytes n)
unfolding kernels_fault
kernels_fault-more bytes n = first_some-more (kernel_fault_at bytes) n

-- a fault among the first m kernels is the first one of all
pub kernels_fault-found : (bytes : List ℕ) (m n : ℕ) (fault : KernelFault) → m ≤ n → kernels_fault bytes m ≡ Some fault → kernels_fault bytes n ≡ Some fault
unfolding kernels_fault
kernels_fault-found bytes m n fault within found = first_some-found (kernel_fault_at bytes) m n fault within found

-- no kernel has a fault
pub kernels_fault-none_at : (bytes : List ℕ) (n k : ℕ) → k < n → kernels_fault bytes n ≡ None → kernel_fault_at bytes k ≡ None
unfolding kernels_fault
kernels_fault-none_at bytes n k within none = first_some-none_at (kernel_fault_at bytes) n k within none

-- ---- signed numbers

is_beyond_over : (limit : ℕ) (bytes : List ℕ) (place : ℕ) → limit < unsigned_abs (signed_at bytes place) → is_beyond limit bytes place ≡ true
unfolding is_beyond
is_beyond_over limit bytes place over = lt-ltb limit (unsigned_abs (signed_at bytes place)) over

is_beyond_within : (limit : ℕ) (bytes : List ℕ) (place : ℕ) → unsigned_abs (signed_at bytes place) ≤ limit → is_beyond limit bytes place ≡ false
unfolding is_beyond
is_beyond_within limit bytes place within = le-ltb limit (unsigned_abs (signed_at bytes place)) within

within_from_is_beyond : (limit : ℕ) (bytes : List ℕ) (place : ℕ) → is_beyond limit bytes place ≡ false → unsigned_abs (signed_at bytes place) ≤ limit
unfolding is_beyond
within_from_is_beyond limit bytes place within = ltb-false limit (unsigned_abs (signed_at bytes place)) within

pub bad_part-none : (limit : ℕ) (bytes : List ℕ) (place : ℕ) → bad_part limit bytes place 0 ≡ None
unfolding bad_part
bad_part-none limit bytes place = refl

-- of two, the first is out of range
pub bad_part-first : (limit : ℕ) (bytes : List ℕ) (place : ℕ) → limit < unsigned_abs (signed_at bytes place) → bad_part limit bytes place 2 ≡ Some place
unfolding bad_part
bad_part-first limit bytes place over =
    let first = is_beyond_over limit bytes place over in
    simp (add-zero, first) refl

-- of two, the second is out of range
pub bad_part-second : (limit : ℕ) (bytes : List ℕ) (place : ℕ) → unsigned_abs (signed_at bytes place) ≤ limit →
    limit < unsigned_abs (signed_at bytes (place + 2)) → bad_part limit bytes place 2 ≡ Some (place + 2)
unfolding bad_part
bad_part-second limit bytes place within over =
    let first = is_beyond_within limit bytes place within in
    let second = is_beyond_over limit bytes (place + 2) over in
    simp (add-zero, first, second) refl

-- of two, neither is
pub bad_part-neither : (limit : ℕ) (bytes : List ℕ) (place : ℕ) → unsigned_abs (signed_at bytes place) ≤ limit →
    unsigned_abs (signed_at bytes (place + 2)) ≤ limit → bad_part limit bytes place 2 ≡ None
unfolding bad_part
bad_part-neither limit bytes place within also =
    let first = is_beyond_within limit bytes place within in
    let second = is_beyond_within limit bytes (place + 2) also in
    simp (add-zero, first, second) refl

-- of m + n signed numbers: the first m, and then n
pub bad_part-add : (limit : ℕ) (bytes : List ℕ) (place m n : ℕ) →
    bad_part limit bytes place (m + n) ≡ option_or (bad_part limit bytes place m) (bad_part limit bytes (place + 2 * m) n)
unfolding bad_part
bad_part-add limit bytes place m n =
    let twos = λ (i : ℕ). place + 2 * i in
    let test = is_beyond limit bytes in
    let later : 0 + m ≡ m + 0 = omega arith in
    ap (find test) (map-range_with_len-add twos 0 m n)
    ∙ find-append test (map twos (range_with_len 0 m)) (map twos (range_with_len (0 + m) n))
    ∙ ap (λ xs. option_or (find test (map twos (range_with_len 0 m))) (find test xs))
    (ap (λ k. map twos (range_with_len k n)) later ∙ map-range_with_len-later place 0 m n)

-- a number out of range among the first m is the first one of all
pub bad_part-found : (limit : ℕ) (bytes : List ℕ) (place m n wrong : ℕ) → m ≤ n → bad_part limit bytes place m ≡ Some wrong → bad_part limit bytes place n ≡ Some wrong
bad_part-found limit bytes place m n wrong within found =
    let split : m + (n - m) ≡ n = omega arith in
    subst (λ k. bad_part limit bytes place k ≡ Some wrong) split
    (bad_part-add limit bytes place m (n - m) ∙ ap (λ a. option_or a (bad_part limit bytes (place + 2 * m) (n - m))) found)

find_none-head : (p : ℕ → Bool) (x : ℕ) (xs : List ℕ) → find p (x ∷ xs) ≡ None → p x ≡ false
find_none-head p x xs none = grind arith

-- no number is out of range
pub bad_part-none_at : (limit : ℕ) (bytes : List ℕ) (place n i : ℕ) → i < n → bad_part limit bytes place n ≡ None → unsigned_abs (signed_at bytes (place + 2 * i)) ≤ limit
unfolding bad_part
bad_part-none_at limit bytes place n i below none =
    let split : i + suc (n - suc i) ≡ n = omega arith in
    let from = (neither (bad_part limit bytes place i) (bad_part limit bytes (place + 2 * i) (suc (n - suc i)))
    (sym (bad_part-add limit bytes place i (suc (n - suc i))) ∙ ap (bad_part limit bytes place) split ∙ none)).1 in
    let twos = λ (j : ℕ). place + 2 * i + 2 * j in
    let head = find_none-head (is_beyond limit bytes) (twos 0) (map twos (range_with_len 1 (n - suc i))) from in
    within_from_is_beyond limit bytes (place + 2 * i) (ap (is_beyond limit bytes) (sym (add-zero (place + 2 * i))) ∙ head)

-- the two parts of an entry, after entries in range
bad_part_entry : (limit : ℕ) (bytes : List ℕ) (place k : ℕ) → bad_part limit bytes place (2 * k) ≡ None →
    bad_part limit bytes place (2 * k + 2) ≡ bad_part limit bytes (place + 4 * k) 2
bad_part_entry limit bytes place k none =
    let here : place + 2 * (2 * k) ≡ place + 4 * k = omega arith in
    bad_part-add limit bytes place (2 * k) 2
    ∙ ap (λ a. option_or a (bad_part limit bytes (place + 2 * (2 * k)) 2)) none
    ∙ ap (λ p. bad_part limit bytes p 2) here

-- what the first of two parts gives
pub map_first : {X Y : Type 0} (g : X → Y) (a b : Option X) (y : Y) → option_map g a ≡ Some y → option_map g (option_or a b) ≡ Some y
map_first g None b y e = cc
map_first g (Some x) b y e = e

-- an entry out of range, after entries that are not, is the first one of all
pub entry_found : (limit : ℕ) (bytes : List ℕ) (place count k : ℕ) (fault : KernelFault) → k < count → bad_part limit bytes place (2 * k) ≡ None →
    option_map BadEntry (bad_part limit bytes (place + 4 * k) 2) ≡ Some fault → option_map BadEntry (bad_part limit bytes place (2 * count)) ≡ Some fault
entry_found limit bytes place count k fault below none found =
    let more = bad_part_entry limit bytes place k none in
    let rest = 2 * count - (2 * k + 2) in
    let split : 2 * k + 2 + rest ≡ 2 * count = omega arith in
    ap (λ n. option_map BadEntry (bad_part limit bytes place n)) (sym split)
    ∙ ap (option_map BadEntry) (bad_part-add limit bytes place (2 * k + 2) rest)
    ∙ map_first BadEntry (bad_part limit bytes place (2 * k + 2)) (bad_part limit bytes (place + 2 * (2 * k + 2)) rest) fault (ap (option_map BadEntry) more ∙ found)

-- one entry more, all in range
pub bad_part-more : (limit : ℕ) (bytes : List ℕ) (place k : ℕ) → bad_part limit bytes place (2 * k) ≡ None →
    bad_part limit bytes (place + 4 * k) 2 ≡ None → bad_part limit bytes place (2 * (k + 1)) ≡ None
bad_part-more limit bytes place k none also =
    let split : 2 * (k + 1) ≡ 2 * k + 2 = omega arith in
    ap (bad_part limit bytes place) split ∙ bad_part_entry limit bytes place k none ∙ also

-- a kernel's fault, after kernels that have none, is the first one of all
pub kernel_found : (bytes : List ℕ) (n k : ℕ) (fault : KernelFault) → k < n → kernels_fault bytes k ≡ None →
    IsFound (kernel_fault_at bytes k) fault → IsFound (kernels_fault bytes n) fault
kernel_found bytes n k fault below none (inl e) = inl e
kernel_found bytes n k fault below none (inr e) =
    inr (kernels_fault-found bytes (k + 1) n fault (omega arith)
    (kernels_fault-more bytes k ∙ ap (λ a. option_or a (kernel_fault_at bytes k)) none ∙ e))

-- one kernel more, none with a fault
pub kernels_fault-none_more : (bytes : List ℕ) (k : ℕ) → kernels_fault bytes k ≡ None → kernel_fault_at bytes k ≡ None → kernels_fault bytes (k + 1) ≡ None
kernels_fault-none_more bytes k none also = kernels_fault-more bytes k ∙ ap (λ a. option_or a (kernel_fault_at bytes k)) none ∙ also
