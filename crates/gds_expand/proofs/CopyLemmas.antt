-- Parts of displacements.
use Rattle.gds_records.specs.Real.{IsRightAngles, quarter_of}
use Rattle.std.proofs.Common.{Option, Some, None, IfSome, List, ◌<ℤ◌, ◌≡◌, ℕ, ◌*◌, ◌/◌, ◌<◌, ◌≤◌, ℤ, pos, negsuc, ◌*ℤ◌, ◌≤ℤ◌, ◌^◌, unsigned_abs, FitsSigned, to_z, of_z, w64, refl, ap, ap₂, sym, ◌∙◌, subst, arith}
use Rattle.std.specs.Int.RustNames.{int_div}
use Rattle.std.proofs.Math.Nat.{mul-le-mul, mul-div-le}
use Rattle.std.proofs.lemmas.Int.{fits_signed_from_abs, ints, quot_fits, quot_is, to_z-of_z, unsigned_abs-mul}

abs_quot : (d : ℤ) (m : ℕ) → unsigned_abs (int_div d (pos m)) ≡ unsigned_abs d / m
abs_quot (pos a) m = refl
abs_quot (negsuc a) m = omega (arith, ints)

-- a part of a number is no greater than the number
pub part_within : (n : ℕ) (d all : ℤ) → pos 1 ≤ℤ all → n ≤ unsigned_abs all → unsigned_abs (pos n *ℤ int_div d all) ≤ unsigned_abs d
part_within n d (pos m) positive few =
    let size : unsigned_abs (pos n *ℤ int_div d (pos m)) ≡ n * (unsigned_abs d / m) =
    unsigned_abs-mul (pos n) (int_div d (pos m)) ∙ ap (λ (k : ℕ). n * k) (abs_quot d m) in
    let same : unsigned_abs d / m ≤ unsigned_abs d / m = omega arith in
    let more : n * (unsigned_abs d / m) ≤ m * (unsigned_abs d / m) = mul-le-mul few same in
    let bound : m * (unsigned_abs d / m) ≤ unsigned_abs d = mul-div-le (unsigned_abs d) m in
    omega (arith, size, more, bound)
part_within n d (negsuc m) positive few = absurd (omega (arith, ints))

-- the product in code
pub part_read : (n : ℕ) (f d all : ℤ) → f ≡ pos n → n < 2 ^ 16 → FitsSigned w64 all → pos 1 ≤ℤ all → unsigned_abs d ≤ 2 ^ 32 →
    to_z w64 (of_z w64 f) *ℤ to_z w64 (of_z w64 (int_div (to_z w64 (of_z w64 d)) (to_z w64 (of_z w64 all)))) ≡ pos n *ℤ int_div d all
part_read n f d all is small fits positive near =
    let above : pos 0 <ℤ all = omega (arith, ints) in
    let size : unsigned_abs f ≡ n = ap unsigned_abs is in
    let fits_f : FitsSigned w64 f = fits_signed_from_abs w64 f (omega arith) in
    let fits_d : FitsSigned w64 d = fits_signed_from_abs w64 d (omega arith) in
    ap₂ (λ (a b : ℤ). a *ℤ b) (to_z-of_z w64 f fits_f ∙ is) (quot_is w64 d all fits_d fits (quot_fits w64 d all fits_d above))

part_fits : (n : ℕ) (d all : ℤ) → pos 1 ≤ℤ all → n ≤ unsigned_abs all → unsigned_abs d ≤ 2 ^ 32 → FitsSigned w64 (pos n *ℤ int_div d all)
part_fits n d all positive few near =
    let bound : unsigned_abs (pos n *ℤ int_div d all) ≤ unsigned_abs d = part_within n d all positive few in
    fits_signed_from_abs w64 (pos n *ℤ int_div d all) (omega arith)

pub read_fits : (n : ℕ) (f d all : ℤ) → f ≡ pos n → n < 2 ^ 16 → FitsSigned w64 all → pos 1 ≤ℤ all → n ≤ unsigned_abs all → unsigned_abs d ≤ 2 ^ 32 →
    FitsSigned w64 (to_z w64 (of_z w64 f) *ℤ to_z w64 (of_z w64 (int_div (to_z w64 (of_z w64 d)) (to_z w64 (of_z w64 all)))))
read_fits n f d all is small fits positive few near = subst (FitsSigned w64) (sym (part_read n f d all is small fits positive near)) (part_fits n d all positive few near)

pub read_part : (n : ℕ) (f d all : ℤ) → f ≡ pos n → n < 2 ^ 16 → FitsSigned w64 all → pos 1 ≤ℤ all → n ≤ unsigned_abs all → unsigned_abs d ≤ 2 ^ 32 →
    to_z w64 (of_z w64 (to_z w64 (of_z w64 f) *ℤ to_z w64 (of_z w64 (int_div (to_z w64 (of_z w64 d)) (to_z w64 (of_z w64 all)))))) ≡ pos n *ℤ int_div d all
read_part n f d all is small fits positive few near =
    ap (λ (z : ℤ). to_z w64 (of_z w64 z)) (part_read n f d all is small fits positive near) ∙ to_z-of_z w64 (pos n *ℤ int_div d all) (part_fits n d all positive few near)

pub read_within : (n : ℕ) (f d all : ℤ) → f ≡ pos n → n < 2 ^ 16 → FitsSigned w64 all → pos 1 ≤ℤ all → n ≤ unsigned_abs all → unsigned_abs d ≤ 2 ^ 32 →
    unsigned_abs (to_z w64 (of_z w64 (to_z w64 (of_z w64 f) *ℤ to_z w64 (of_z w64 (int_div (to_z w64 (of_z w64 d)) (to_z w64 (of_z w64 all))))))) ≤ 2 ^ 32
read_within n f d all is small fits positive few near =
    let bound : unsigned_abs (pos n *ℤ int_div d all) ≤ unsigned_abs d = part_within n d all positive few in
    let size = ap unsigned_abs (read_part n f d all is small fits positive few near) in
    omega (arith, bound, size)

-- fewer than four turns
pub quarter_few : (n : ℤ) → quarter_of n < 4
quarter_few (pos a) = omega arith
quarter_few (negsuc a) = omega arith

pub some_few : (o : Option ℕ) (real : List ℕ) → IfSome o (λ turns. (n : ℤ) × IsRightAngles real n × (turns ≡ quarter_of n)) → IfSome o (λ turns. turns < 4)
some_few None real h = h
some_few (Some t) real (n, right, is) = let few : quarter_of n < 4 = quarter_few n in omega (arith, is)
