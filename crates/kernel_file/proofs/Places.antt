-- Numbers at places of a file, and lists of numbers in steps.
use Rattle.std.proofs.Common.{◌≡◌, ℕ, zero, suc, ◌+◌, ◌-◌, ◌*◌, List, [], ◌∷◌, ◌++◌, length, take, drop, map, refl, ap, ◌∙◌, arith, zero-add, add-zero}
use Rattle.std.proofs.lemmas.List.{get_or-drop, take_rest}
use Rattle.std.specs.List.{range_with_len}
use Rattle.byteorder.specs.Endian.{big_number}
use Rattle.std.proofs.lemmas.List.FromFn.{map-range_with_len_more}
use Rattle.kernel_file.specs.Numbers.{number_at, complex_at}
use Rattle.kernel_file.specs.KernelFile.{entries_at}

big_number-drop : (bytes : List ℕ) (place : ℕ) → big_number 2 (drop place bytes) ≡ number_at bytes place
unfolding number_at
big_number-drop bytes place =
    let high = get_or-drop place bytes 0 0 in
    let low = get_or-drop place bytes 1 0 in
    simp (high, low, add-zero) (omega arith)

-- what is read at the front of the bytes from a place is the number at the place
pub big_number-rest : (bytes : List ℕ) (place : ℕ) → big_number 2 (take (length bytes - place) (drop place bytes)) ≡ number_at bytes place
big_number-rest bytes place = ap (big_number 2) (take_rest bytes place) ∙ big_number-drop bytes place

-- m + n numbers are the first m, and then n
pub map-range_with_len-add : {X : Type 0} (f : ℕ → X) (a m n : ℕ) →
    map f (range_with_len a (m + n)) ≡ map f (range_with_len a m) ++ map f (range_with_len (a + m) n)
map-range_with_len-add f a zero n = rw (zero-add, add-zero) refl
map-range_with_len-add f a (suc m) n =
    let longer : suc m + n ≡ suc (m + n) = omega arith in
    let later : a + suc m ≡ a + 1 + m = omega arith in
    rw (longer, later) (ap (λ xs. f a ∷ xs) (map-range_with_len-add f (a + 1) m n))

-- numbers from `base` in twos, begun a places later
pub map-range_with_len-later : (base s a n : ℕ) →
    map (λ i. base + 2 * i) (range_with_len (a + s) n) ≡ map (λ i. base + 2 * a + 2 * i) (range_with_len s n)
map-range_with_len-later base s a zero = refl
map-range_with_len-later base s a (suc n) =
    let rest = map-range_with_len-later base (s + 1) a n in
    let first : base + 2 * (a + s) ≡ base + 2 * a + 2 * s = omega arith in
    let same : a + s + 1 ≡ a + (s + 1) = omega arith in
    cc

pub entries_at-none : (bytes : List ℕ) (place : ℕ) → entries_at bytes place 0 ≡ []
unfolding entries_at
entries_at-none bytes place = refl

-- one entry more
pub entries_at-more : (bytes : List ℕ) (place k : ℕ) → entries_at bytes place (k + 1) ≡ entries_at bytes place k ++ complex_at bytes (place + 4 * k) ∷ []
unfolding entries_at
entries_at-more bytes place k = map-range_with_len_more (λ i. complex_at bytes (place + 4 * i)) 0 k k (omega arith)
