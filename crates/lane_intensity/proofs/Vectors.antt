-- Vectors of eight signed numbers.
use Rattle.std.proofs.Common.{◌≡◌, ℕ, suc, ◌+◌, ◌^◌, ◌<◌, ◌≤◌, ℤ, pos, ◌+ℤ◌, ◌-ℤ◌, unsigned_abs, List, [], ◌∷◌, length, get_or, take, drop, map, ap, ap₂, ◌∙◌, sym, arith, zero-add, ◌-◌, SFits, to_z, of_z, to_z-of_z, w64, ◌*◌, ◌*ℤ◌, mul-le-mul, replicate}
use Rattle.std.proofs.lemmas.Int.{ints, unsigned_abs-mul}
use Rattle.std.proofs.lemmas.List.{length-map, get_or-map, length-replicate, get_or-replicate}
use Rattle.std.proofs.lemmas.Simd.{length-zip2, get_or-zip2, length-chunk, get_or-chunk, get_or-put_chunk_at, get_or-put_chunk_below, get_or-put_chunk_above, length-put_chunk}
use lib.Lanes.{Each2, zip2, put_chunk}
use borrow.Rule.Simd.Lanes.{Asks2, act2}
use borrow.Table.Row.{s_int}
use mir.Syntax.{Op2, add, mul, sub, signed}
use Rattle.lane_intensity.specs.Differences.{AreLanes, AreSquares, four_lanes, times_lane}
use Rattle.opc_base.specs.Changes.{RisesBetween}

-- what an operator gives at each two lanes, and what it asks
abbrev pub both : Op2 → List ℕ → List ℕ → List ℕ
both o = zip2 (act2 o (s_int w64) (s_int w64) (s_int w64))

abbrev pub asks : Op2 → List ℕ → List ℕ → Type 0
asks o = Each2 (Asks2 o (s_int w64) (s_int w64))

-- the vector's lane k has the bits of f k, which is at most n
pub record Holds (n : ℕ) (f : ℕ → ℤ) (v : List ℕ) : Type 0 where
  pub count : length v ≡ 8
  pub small : (k : ℕ) → k < 8 → unsigned_abs (f k) ≤ n
  pub each : (k : ℕ) → k < 8 → get_or v k 0 ≡ of_z w64 (f k)

fits_by : (n : ℕ) (z : ℤ) → unsigned_abs z ≤ n → n < 2 ^ 63 → SFits w64 z
fits_by n z small below = omega (arith, ints)

pub Holds-load : (n : ℕ) (xs : List ℤ) (lane : ℕ) → lane + 8 ≤ length xs → ((k : ℕ) → k < 8 → unsigned_abs (get_or xs (lane + k) (pos 0)) ≤ n) →
    Holds n (λ k. get_or xs (lane + k) (pos 0)) (map (of_z w64) (take 8 (drop lane xs)))
Holds-load n xs lane within small =
    let long : length (take 8 (drop lane xs)) ≡ 8 = length-chunk lane 8 xs within in
    record {
      count = length-map (take 8 (drop lane xs)) (of_z w64) ∙ long;
      small = small;
      each = λ k below. get_or-map (of_z w64) (take 8 (drop lane xs)) k (pos 0) 0 (omega arith) ∙ ap (of_z w64) (get_or-chunk lane 8 xs k (pos 0) below);
    }

-- what holds of each two lanes
each2_from : {A B : Type 0} (R : A → B → Type 0) (xs : List A) (ys : List B) (c : A) (d : B) → length xs ≡ length ys →
    ((k : ℕ) → k < length xs → R (get_or xs k c) (get_or ys k d)) → Each2 R xs ys
each2_from R [] ys c d same each = tt
each2_from R (x ∷ xs) [] c d same each = tt
each2_from R (x ∷ xs) (y ∷ ys) c d same each =
    (each 0 (omega arith), each2_from R xs ys c d (omega arith) (λ k below. each (suc k) (omega arith)))

module _ (m n : ℕ) (f g : ℕ → ℤ) (v w : List ℕ) (room : m + n < 2 ^ 63) (left : Holds m f v) (right : Holds n g w) where
  fits_left : (k : ℕ) → k < 8 → SFits w64 (f k)
  fits_left k below = fits_by m (f k) (left.small k below) (omega arith)

  fits_right : (k : ℕ) → k < 8 → SFits w64 (g k)
  fits_right k below = fits_by n (g k) (right.small k below) (omega arith)

  pub asks_add : asks (add signed) v w
  asks_add = each2_from _ v w 0 0 (left.count ∙ sym right.count) (λ k below. at_lane k (omega (arith, left.count)))
    where
      at_lane : (k : ℕ) → k < 8 → SFits w64 (to_z w64 (get_or v k 0) +ℤ to_z w64 (get_or w k 0))
      at_lane k below =
          rw (left.each k below, right.each k below, to_z-of_z (fits_left k below), to_z-of_z (fits_right k below))
          (fits_by (m + n) (f k +ℤ g k) (omega (arith, ints, left.small k below, right.small k below)) room)

  pub asks_sub : asks (sub signed) v w
  asks_sub = each2_from _ v w 0 0 (left.count ∙ sym right.count) (λ k below. at_lane k (omega (arith, left.count)))
    where
      at_lane : (k : ℕ) → k < 8 → SFits w64 (to_z w64 (get_or v k 0) -ℤ to_z w64 (get_or w k 0))
      at_lane k below =
          rw (left.each k below, right.each k below, to_z-of_z (fits_left k below), to_z-of_z (fits_right k below))
          (fits_by (m + n) (f k -ℤ g k) (omega (arith, ints, left.small k below, right.small k below)) room)

  pub Holds-add : Holds (m + n) (λ k. f k +ℤ g k) (both (add signed) v w)
  Holds-add = record {
    count = length-zip2 _ v w (left.count ∙ sym right.count) ∙ left.count;
    small = λ k below. omega (arith, ints, left.small k below, right.small k below);
    each = λ k below. get_or-zip2 (act2 (add signed) (s_int w64) (s_int w64) (s_int w64)) v w k 0 0 0 (omega (arith, left.count)) (omega (arith, right.count))
        ∙ ap₂ (λ a b. of_z w64 (to_z w64 a +ℤ to_z w64 b)) (left.each k below) (right.each k below)
        ∙ ap₂ (λ a b. of_z w64 (a +ℤ b)) (to_z-of_z (fits_left k below)) (to_z-of_z (fits_right k below));
  }

  pub Holds-sub : Holds (m + n) (λ k. f k -ℤ g k) (both (sub signed) v w)
  Holds-sub = record {
    count = length-zip2 _ v w (left.count ∙ sym right.count) ∙ left.count;
    small = λ k below. omega (arith, ints, left.small k below, right.small k below);
    each = λ k below. get_or-zip2 (act2 (sub signed) (s_int w64) (s_int w64) (s_int w64)) v w k 0 0 0 (omega (arith, left.count)) (omega (arith, right.count))
        ∙ ap₂ (λ a b. of_z w64 (to_z w64 a -ℤ to_z w64 b)) (left.each k below) (right.each k below)
        ∙ ap₂ (λ a b. of_z w64 (a -ℤ b)) (to_z-of_z (fits_left k below)) (to_z-of_z (fits_right k below));
  }

module _ (m n : ℕ) (f g : ℕ → ℤ) (v w : List ℕ) (room_left : m < 2 ^ 63) (room_right : n < 2 ^ 63) (room : m * n < 2 ^ 63)
    (left : Holds m f v) (right : Holds n g w) where
  mul_fits_left : (k : ℕ) → k < 8 → SFits w64 (f k)
  mul_fits_left k below = fits_by m (f k) (left.small k below) room_left

  mul_fits_right : (k : ℕ) → k < 8 → SFits w64 (g k)
  mul_fits_right k below = fits_by n (g k) (right.small k below) room_right

  mul_small : (k : ℕ) → k < 8 → unsigned_abs (f k *ℤ g k) ≤ m * n
  mul_small k below = rw (unsigned_abs-mul (f k) (g k)) (mul-le-mul (left.small k below) (right.small k below))

  pub asks_mul : asks (mul signed) v w
  asks_mul = each2_from _ v w 0 0 (left.count ∙ sym right.count) (λ k below. at_lane k (omega (arith, left.count)))
    where
      at_lane : (k : ℕ) → k < 8 → SFits w64 (to_z w64 (get_or v k 0) *ℤ to_z w64 (get_or w k 0))
      at_lane k below =
          rw (left.each k below, right.each k below, to_z-of_z (mul_fits_left k below), to_z-of_z (mul_fits_right k below))
          (fits_by (m * n) (f k *ℤ g k) (mul_small k below) room)

  pub Holds-mul : Holds (m * n) (λ k. f k *ℤ g k) (both (mul signed) v w)
  Holds-mul = record {
    count = length-zip2 _ v w (left.count ∙ sym right.count) ∙ left.count;
    small = mul_small;
    each = λ k below. get_or-zip2 (act2 (mul signed) (s_int w64) (s_int w64) (s_int w64)) v w k 0 0 0 (omega (arith, left.count)) (omega (arith, right.count))
        ∙ ap₂ (λ a b. of_z w64 (to_z w64 a *ℤ to_z w64 b)) (left.each k below) (right.each k below)
        ∙ ap₂ (λ a b. of_z w64 (a *ℤ b)) (to_z-of_z (mul_fits_left k below)) (to_z-of_z (mul_fits_right k below));
  }

-- one number in all lanes
pub Holds-splat : (n : ℕ) (z : ℤ) → unsigned_abs z ≤ n → Holds n (λ k. z) (replicate 8 (of_z w64 z))
Holds-splat n z small = record {
  count = length-replicate 8 (of_z w64 z);
  small = λ k below. small;
  each = λ k below. get_or-replicate 8 k (of_z w64 z) 0 below;
}

-- ---- a store
module _ (n : ℕ) (f : ℕ → ℤ) (v : List ℕ) (xs : List ℤ) (lane : ℕ) (holds : Holds n f v) where
  stored_length : length (map (to_z w64) v) ≡ 8
  stored_length = length-map v (to_z w64) ∙ holds.count

  pub stored_here : lane + 8 ≤ length xs → n < 2 ^ 63 → (k : ℕ) → k < 8 → get_or (put_chunk lane xs (map (to_z w64) v)) (lane + k) (pos 0) ≡ f k
  stored_here within room k below =
      get_or-put_chunk_at lane xs (map (to_z w64) v) k (pos 0) (omega (arith, stored_length)) (omega (arith, stored_length))
      ∙ get_or-map (to_z w64) v k 0 (pos 0) (omega (arith, holds.count)) ∙ ap (to_z w64) (holds.each k below)
      ∙ to_z-of_z (fits_by n (f k) (holds.small k below) room)

  pub stored_after : (k : ℕ) → lane + 8 ≤ k → get_or (put_chunk lane xs (map (to_z w64) v)) k (pos 0) ≡ get_or xs k (pos 0)
  stored_after k after = get_or-put_chunk_above lane xs (map (to_z w64) v) k (pos 0) (omega (arith, stored_length))

pub stored_before : (v : List ℕ) (xs : List ℤ) (lane k : ℕ) → k < lane →
    get_or (put_chunk lane xs (map (to_z w64) v)) k (pos 0) ≡ get_or xs k (pos 0)
stored_before v xs lane k before = get_or-put_chunk_below lane xs (map (to_z w64) v) k (pos 0) before

-- ---- the sum of a list and a difference of four, in eight lanes
abbrev pub loaded : ℕ → List ℤ → List ℕ
loaded lane xs = map (of_z w64) (take 8 (drop lane xs))

module _ (lane : ℕ) (sums a b c d : List ℤ)
    (room : lane + 8 ≤ length sums) (small : (k : ℕ) → k < 8 → unsigned_abs (get_or sums (lane + k) (pos 0)) ≤ 2 ^ 62)
    (lanes_a : AreLanes (length sums) (2 ^ 27) a) (lanes_b : AreLanes (length sums) (2 ^ 27) b)
    (lanes_c : AreLanes (length sums) (2 ^ 27) c) (lanes_d : AreLanes (length sums) (2 ^ 27) d) where
  load : (xs : List ℤ) → AreLanes (length sums) (2 ^ 27) xs → Holds (2 ^ 27) (λ k. get_or xs (lane + k) (pos 0)) (loaded lane xs)
  load xs lanes = Holds-load (2 ^ 27) xs lane (omega (arith, lanes.count)) (λ k below. lanes.small (lane + k) (omega arith))

  holds_ab : Holds (2 ^ 27 + 2 ^ 27) (λ k. get_or a (lane + k) (pos 0) -ℤ get_or b (lane + k) (pos 0)) (both (sub signed) (loaded lane a) (loaded lane b))
  holds_ab = Holds-sub _ _ _ _ _ _ (omega arith) (load a lanes_a) (load b lanes_b)

  holds_abc : Holds (2 ^ 27 + 2 ^ 27 + 2 ^ 27) (λ k. get_or a (lane + k) (pos 0) -ℤ get_or b (lane + k) (pos 0) -ℤ get_or c (lane + k) (pos 0))
      (both (sub signed) (both (sub signed) (loaded lane a) (loaded lane b)) (loaded lane c))
  holds_abc = Holds-sub _ _ _ _ _ _ (omega arith) holds_ab (load c lanes_c)

  holds_abcd : Holds (2 ^ 27 + 2 ^ 27 + 2 ^ 27 + 2 ^ 27) (λ k. four_lanes a b c d (lane + k))
      (both (add signed) (both (sub signed) (both (sub signed) (loaded lane a) (loaded lane b)) (loaded lane c)) (loaded lane d))
  holds_abcd = Holds-add _ _ _ _ _ _ (omega arith) holds_abc (load d lanes_d)

  pub asks_ab : asks (sub signed) (loaded lane a) (loaded lane b)
  asks_ab = asks_sub _ _ _ _ _ _ (omega arith) (load a lanes_a) (load b lanes_b)

  pub asks_abc : asks (sub signed) (both (sub signed) (loaded lane a) (loaded lane b)) (loaded lane c)
  asks_abc = asks_sub _ _ _ _ _ _ (omega arith) holds_ab (load c lanes_c)

  pub asks_abcd : asks (add signed) (both (sub signed) (both (sub signed) (loaded lane a) (loaded lane b)) (loaded lane c)) (loaded lane d)
  asks_abcd = asks_add _ _ _ _ _ _ (omega arith) holds_abc (load d lanes_d)

  pub asks_total : asks (add signed) (loaded lane sums)
      (both (add signed) (both (sub signed) (both (sub signed) (loaded lane a) (loaded lane b)) (loaded lane c)) (loaded lane d))
  asks_total = asks_add _ _ _ _ _ _ (omega arith) (Holds-load (2 ^ 62) sums lane room small) holds_abcd

  pub holds_total : Holds (2 ^ 62 + (2 ^ 27 + 2 ^ 27 + 2 ^ 27 + 2 ^ 27)) (λ k. get_or sums (lane + k) (pos 0) +ℤ four_lanes a b c d (lane + k))
      (both (add signed) (loaded lane sums)
      (both (add signed) (both (sub signed) (both (sub signed) (loaded lane a) (loaded lane b)) (loaded lane c)) (loaded lane d)))
  holds_total = Holds-add _ _ _ _ _ _ (omega arith) (Holds-load (2 ^ 62) sums lane room small) holds_abcd

-- the eight numbers at a place are written
pub stored : (n : ℕ) (change : ℕ → ℤ) (v : List ℕ) (sums : List ℤ) (lane : ℕ) → Holds n (λ k. get_or sums (lane + k) (pos 0) +ℤ change (lane + k)) v →
    lane + 8 ≤ length sums → n < 2 ^ 63 → RisesBetween change 0 lane (lane + 8) sums (put_chunk lane sums (map (to_z w64) v))
stored n change v sums lane holds within room = record {
  same_length = length-put_chunk lane sums (map (to_z w64) v);
  inside = λ i from below in_sums.
      let place : lane + (i - lane) ≡ i = omega arith in
      rw place at (stored_here n _ v sums lane holds within room (i - lane) (omega arith)) ∙ rw (zero-add i);
  before = λ i below. stored_before v sums lane i below;
  after = λ i from. stored_after n _ v sums lane holds i from;
}

-- ---- the sum of a list and a number times another, in eight lanes
module _ (lane : ℕ) (acc block : List ℤ) (times : ℤ)
    (room : lane + 8 ≤ length acc) (small : (k : ℕ) → k < 8 → unsigned_abs (get_or acc (lane + k) (pos 0)) ≤ 2 ^ 62 + 2 ^ 48)
    (few : unsigned_abs times ≤ 2) (lanes : AreLanes (length acc) (2 ^ 27) block) where
  load_block : Holds (2 ^ 27) (λ k. get_or block (lane + k) (pos 0)) (loaded lane block)
  load_block = Holds-load (2 ^ 27) block lane (omega (arith, lanes.count)) (λ k below. lanes.small (lane + k) (omega arith))

  holds_times : Holds (2 * 2 ^ 27) (λ k. times_lane times block (lane + k)) (both (mul signed) (replicate 8 (of_z w64 times)) (loaded lane block))
  holds_times = Holds-mul _ _ _ _ _ _ (omega arith) (omega arith) (omega arith) (Holds-splat 2 times few) load_block

  pub asks_times : asks (mul signed) (replicate 8 (of_z w64 times)) (loaded lane block)
  asks_times = asks_mul _ _ _ _ _ _ (omega arith) (omega arith) (omega arith) (Holds-splat 2 times few) load_block

  pub asks_times_total : asks (add signed) (loaded lane acc) (both (mul signed) (replicate 8 (of_z w64 times)) (loaded lane block))
  asks_times_total = asks_add _ _ _ _ _ _ (omega arith) (Holds-load (2 ^ 62 + 2 ^ 48) acc lane room small) holds_times

  pub holds_times_total : Holds (2 ^ 62 + 2 ^ 48 + 2 * 2 ^ 27) (λ k. get_or acc (lane + k) (pos 0) +ℤ times_lane times block (lane + k))
      (both (add signed) (loaded lane acc) (both (mul signed) (replicate 8 (of_z w64 times)) (loaded lane block)))
  holds_times_total = Holds-add _ _ _ _ _ _ (omega arith) (Holds-load (2 ^ 62 + 2 ^ 48) acc lane room small) holds_times

-- ---- the squares of eight lanes
module _ (lane : ℕ) (acc : List ℤ) (room : lane + 8 ≤ length acc) (lanes : AreLanes (length acc) 34080768 acc) where
  load_lanes : Holds 34080768 (λ k. get_or acc (lane + k) (pos 0)) (loaded lane acc)
  load_lanes = Holds-load 34080768 acc lane room (λ k below. lanes.small (lane + k) (omega arith))

  pub asks_squares : asks (mul signed) (loaded lane acc) (loaded lane acc)
  asks_squares = asks_mul _ _ _ _ _ _ (omega arith) (omega arith) (omega arith) load_lanes load_lanes

  holds_squares : Holds (34080768 * 34080768) (λ k. get_or acc (lane + k) (pos 0) *ℤ get_or acc (lane + k) (pos 0)) (both (mul signed) (loaded lane acc) (loaded lane acc))
  holds_squares = Holds-mul _ _ _ _ _ _ (omega arith) (omega arith) (omega arith) load_lanes load_lanes

  square_at : (k : ℕ) → k < 8 → get_or (map (to_z w64) (both (mul signed) (loaded lane acc) (loaded lane acc))) k (pos 0)
      ≡ get_or acc (lane + k) (pos 0) *ℤ get_or acc (lane + k) (pos 0)
  square_at k below =
      get_or-map (to_z w64) _ k 0 (pos 0) (omega (arith, holds_squares.count)) ∙ ap (to_z w64) (holds_squares.each k below)
      ∙ to_z-of_z (fits_by (34080768 * 34080768) _ (holds_squares.small k below) (omega arith))

  pub squares_are : AreSquares lane acc (map (to_z w64) (both (mul signed) (loaded lane acc) (loaded lane acc)))
  squares_are = record {
    count = length-map _ (to_z w64) ∙ holds_squares.count;
    each = square_at;
    small = λ k below. rw (square_at k below) (holds_squares.small k below);
  }
