-- Lanes: amplitudes from the ground and the parts of sets, what a move adds to them, and bounds.
use Rattle.std.proofs.Common.{◌≡◌, ℕ, ◌+◌, ◌*◌, ◌/◌, ◌%◌, ◌^◌, ◌≤◌, ℤ, pos, ◌+ℤ◌, ◌-ℤ◌, ◌*ℤ◌, unsigned_abs, negsuc, nat_eq, Bool, true, false, not, ◌&&◌, ◌||◌, if◌then◌else◌, List, Option, Some, None, slice_get, neg_ℤ, refl, ap, ap₂, ◌∙◌, sym, arith, ⊎_elim, mul-le-mul, mul_assoc}
use Rattle.std.proofs.lemmas.Bool.Decides.{Decides-int_eq}
use Rattle.std.proofs.lemmas.Int.{ints}
use Rattle.std.proofs.lemmas.Option.{get_or_from_slice_get, slice_get_within}
use Rattle.std.specs.Ordering.{int_eq}
use Rattle.opc_base.specs.Changes.{RisesBy}
use Rattle.opc_base.specs.Lanes.{AddUpNear, LanesAre, amplitude_of_lane, block_of_lane, contrast, corners_change, entries_of_lane, entries_or_none, ground_of_lane, lane_entry, part_of_lane, passed_in_lane, product_of_lane, rect_change}
use Rattle.opc_base.specs.Optics.{AreKernelsWithin, IsEntryWithin, KeepsBounds, KeepsOneTransmission, KeepsTwoTransmissions, amplitude_im, amplitude_re, entry_at, passes, product_im, product_re}
use Rattle.opc_base.specs.Plane.{IsSweep, PixelSet, rect_cover}
use Rattle.opc_base.specs.declared.kernels.Entry.{Entry}
use Rattle.opc_base.specs.declared.kernels.Kernel.{Kernel}
use Rattle.opc_base.specs.declared.kernels.KernelSet.{KernelSet}
use Rattle.opc_base.specs.declared.moves.Swept.{Swept}
use Rattle.opc_base.specs.declared.plane.Corner.{Corner}
use Rattle.opc_base.proofs.SumLaws.{mul-add, sum_window-add, sum_window-same, sum_window-scale, sum_range-bound}
use Rattle.opc_base.proofs.ClampLaws.{block-bound}
use Rattle.opc_base.proofs.CornerLaws.{seen_sum-corners}
use Rattle.opc_base.proofs.OpticsLaws.{IsProductWithin, entry_of_kernel-within, product-one, product-within, product_within, reach_within}

-- ---- products with a difference
pub mul-sub : (a b c : ℤ) → a *ℤ (b -ℤ c) ≡ a *ℤ b -ℤ a *ℤ c
mul-sub a b c =
    let whole : b -ℤ c +ℤ c ≡ b = omega (arith, ints) in
    let all : a *ℤ (b -ℤ c) +ℤ a *ℤ c ≡ a *ℤ b = sym (mul-add a (b -ℤ c) c) ∙ ap (λ n. a *ℤ n) whole in
    omega (arith, ints)

abbrev minus : Entry → Entry → Entry
minus s t = record { re = s.re -ℤ t.re; im = s.im -ℤ t.im }

product_re-minus : (a s t : Entry) → product_re a (minus s t) ≡ product_re a s -ℤ product_re a t
product_re-minus a s t = omega (arith, ints, mul-sub a.re s.re t.re, mul-sub a.im s.im t.im)

product_im-minus : (a s t : Entry) → product_im a (minus s t) ≡ product_im a s -ℤ product_im a t
product_im-minus a s t = omega (arith, ints, mul-sub a.re s.im t.im, mul-sub a.im s.re t.re)

product_of_lane-minus : (lane : ℕ) (a s t : Entry) → product_of_lane lane a (minus s t) ≡ product_of_lane lane a s -ℤ product_of_lane lane a t
product_of_lane-minus lane a s t = either (nat_eq (lane % 2) 0)
  where
    either : (b : Bool) → (if b then product_re a (minus s t) else product_im a (minus s t))
        ≡ (if b then product_re a s else product_im a s) -ℤ (if b then product_re a t else product_im a t)
    either true = product_re-minus a s t
    either false = product_im-minus a s t

-- what a pixel lets through is what any pixel does, and the contrast where it is covered
product_of_lane-passed : (lane : ℕ) (a s t : Entry) (covered : Bool) →
    product_of_lane lane a (if covered then s else t) ≡ product_of_lane lane a t +ℤ (if covered then product_of_lane lane a (minus s t) else pos 0)
product_of_lane-passed lane a s t true = split (product_of_lane lane a s) (product_of_lane lane a t) (product_of_lane lane a (minus s t)) (product_of_lane-minus lane a s t)
  where
    split : (x y z : ℤ) → z ≡ x -ℤ y → x ≡ y +ℤ z
    split x y z is = omega (arith, ints)
product_of_lane-passed lane a s t false = none (product_of_lane lane a t)
  where
    none : (x : ℤ) → x ≡ x +ℤ pos 0
    none x = omega (arith, ints)

-- an amplitude is the ground and what the covered pixels add
pub amplitude_of_lane-part : (set : KernelSet) (pixels : PixelSet) (x y : ℤ) (lane : ℕ) →
    amplitude_of_lane set pixels x y lane ≡ ground_of_lane set lane +ℤ part_of_lane set pixels x y lane
amplitude_of_lane-part set pixels x y lane =
    sum_window-same set.reach _ (λ u v. passed_in_lane set lane set.uncovered u v +ℤ (if pixels (x -ℤ u) (y -ℤ v) then lane_entry set lane u v else pos 0)) (λ u v.
    product_of_lane-passed lane (entry_at set.reach (entries_of_lane set lane) u v) set.covered set.uncovered (pixels (x -ℤ u) (y -ℤ v)))
    ∙ sum_window-add set.reach (passed_in_lane set lane set.uncovered) (λ u v. if pixels (x -ℤ u) (y -ℤ v) then lane_entry set lane u v else pos 0)

-- ---- a move
-- what a place of the kernel adds before and after a move
swept_share : (s : Swept) (old new : PixelSet) (x y e : ℤ) → unsigned_abs s.sign ≡ 1 → IsSweep s old new →
    (if new x y then e else pos 0) ≡ (if old x y then e else pos 0) +ℤ s.sign *ℤ (if rect_cover s.rect x y then e else pos 0)
swept_share s old new x y e one move = either (int_eq s.sign (pos 1)) refl
  where
    grown : (covered was : Bool) → (covered ≡ true → was ≡ false) →
        (if was || covered then e else pos 0) ≡ (if was then e else pos 0) +ℤ pos 1 *ℤ (if covered then e else pos 0)
    grown covered was free = grind (arith, ints)

    shrunk : (covered was : Bool) → (covered ≡ true → was ≡ true) →
        (if was && not covered then e else pos 0) ≡ (if was then e else pos 0) +ℤ negsuc 0 *ℤ (if covered then e else pos 0)
    shrunk covered was full = grind (arith, ints)

    either : (b : Bool) → int_eq s.sign (pos 1) ≡ b →
        (if new x y then e else pos 0) ≡ (if old x y then e else pos 0) +ℤ s.sign *ℤ (if rect_cover s.rect x y then e else pos 0)
    either true is =
        let plus : s.sign ≡ pos 1 = (Decides-int_eq s.sign (pos 1)).0 is in
        rw (plus, move.adds plus x y) (grown (rect_cover s.rect x y) (old x y) (move.free plus x y))
    either false is =
        let minus : s.sign ≡ negsuc 0 = grind (arith, ints) in
        rw (minus, move.takes minus x y) (shrunk (rect_cover s.rect x y) (old x y) (move.covered minus x y))

-- the amplitude of the new set is that of the old one, and the sign times what the pixels of the rectangle add
pub amplitude_of_lane-sweep : (set : KernelSet) (s : Swept) (old new : PixelSet) (x y : ℤ) (lane : ℕ) → unsigned_abs s.sign ≡ 1 → IsSweep s old new →
    amplitude_of_lane set new x y lane ≡ amplitude_of_lane set old x y lane +ℤ rect_change set s.rect s.sign x y lane
amplitude_of_lane-sweep set s old new x y lane one move =
    let seen : PixelSet → ℤ → ℤ → ℤ = λ pixels u v. if pixels (x -ℤ u) (y -ℤ v) then lane_entry set lane u v else pos 0 in
    let parts : part_of_lane set new x y lane ≡ part_of_lane set old x y lane +ℤ rect_change set s.rect s.sign x y lane =
    sum_window-same set.reach (seen new) (λ u v. seen old u v +ℤ s.sign *ℤ seen (rect_cover s.rect) u v) (λ u v.
    swept_share s old new (x -ℤ u) (y -ℤ v) (lane_entry set lane u v) one move)
    ∙ sum_window-add set.reach (seen old) (λ u v. s.sign *ℤ seen (rect_cover s.rect) u v)
    ∙ ap (λ t. part_of_lane set old x y lane +ℤ t) (sum_window-scale set.reach s.sign (seen (rect_cover s.rect))) in
    omega (arith, ints, amplitude_of_lane-part set new x y lane, amplitude_of_lane-part set old x y lane, parts)

-- the signed sum of the blocks at the corners of a set is what its pixels add
pub part_of_lane-corners : (set : KernelSet) (pixels : PixelSet) (corners : List Corner) (x y : ℤ) (lane : ℕ) → AddUpNear set.reach corners pixels x y →
    corners_change set corners x y lane ≡ part_of_lane set pixels x y lane
part_of_lane-corners set pixels corners x y lane near = sym (seen_sum-corners set.reach (lane_entry set lane) pixels corners x y near)

-- ---- lists of lanes
-- numbers that rise to the sum at each lane
pub LanesAre-rise : (set : KernelSet) (f change g : ℕ → ℤ) (xs ys : List ℤ) → ((lane : ℕ) → g lane ≡ f lane +ℤ change lane) →
    LanesAre set f xs → RisesBy change 0 xs ys → LanesAre set g ys
LanesAre-rise set f change g xs ys sum are rises = record {
  count = rises.same_length ∙ are.count;
  each = λ lane below.
      let place : 0 + lane ≡ lane = omega arith in
      rw place at (rises.each lane (omega (arith, are.count))) ∙ ap (λ a. a +ℤ change lane) (are.each lane below) ∙ sym (sum lane);
}

-- ---- the two lanes of a kernel
even_lane : (j : ℕ) → ((2 * j) % 2 ≡ 0) × ((2 * j) / 2 ≡ j)
even_lane j = (omega arith, omega arith)

odd_lane : (j : ℕ) → ((2 * j + 1) % 2 ≡ 1) × ((2 * j + 1) / 2 ≡ j)
odd_lane j = (omega arith, omega arith)

pub amplitude_of_lane-re : (set : KernelSet) (pixels : PixelSet) (x y : ℤ) (j : ℕ) (kernel : Kernel) → slice_get set.kernels j ≡ Some kernel →
    amplitude_of_lane set pixels x y (2 * j) ≡ amplitude_re set kernel pixels x y
amplitude_of_lane-re set pixels x y j kernel is = rw ((even_lane j).0, (even_lane j).1, is)

pub amplitude_of_lane-im : (set : KernelSet) (pixels : PixelSet) (x y : ℤ) (j : ℕ) (kernel : Kernel) → slice_get set.kernels j ≡ Some kernel →
    amplitude_of_lane set pixels x y (2 * j + 1) ≡ amplitude_im set kernel pixels x y
amplitude_of_lane-im set pixels x y j kernel is = rw ((odd_lane j).0, (odd_lane j).1, is)

-- ---- bounds
-- each entry of a lane is small
entry_of_lane-within : (set : KernelSet) (most lane : ℕ) (u v : ℤ) → AreKernelsWithin most set →
    IsEntryWithin most (entry_at set.reach (entries_of_lane set lane) u v)
entry_of_lane-within set most lane u v all = of_read (slice_get set.kernels (lane / 2)) (λ kernel is. entry_of_kernel-within set most kernel u v all
    (lane / 2, slice_get_within set.kernels (lane / 2) kernel is, get_or_from_slice_get set.kernels (lane / 2) kernel kernel is))
  where
    of_read : (o : Option Kernel) → ((kernel : Kernel) → o ≡ Some kernel → IsEntryWithin most (entry_at set.reach kernel.entries u v)) →
        IsEntryWithin most (entry_at set.reach (entries_or_none o) u v)
    of_read None each = (omega arith, omega arith)
    of_read (Some kernel) each = each kernel refl

product_of_lane-within : (lane : ℕ) (a b : Entry) (n : ℕ) → IsProductWithin n a b → unsigned_abs (product_of_lane lane a b) ≤ n
product_of_lane-within lane a b n small = either (nat_eq (lane % 2) 0) (product_re a b) (product_im a b) small.0 small.1
  where
    either : (b : Bool) (x y : ℤ) → unsigned_abs x ≤ n → unsigned_abs y ≤ n → unsigned_abs (if b then x else y) ≤ n
    either true x y fits_x fits_y = fits_x
    either false x y fits_x fits_y = fits_y

-- what a pixel gives
passed-within : (set : KernelSet) (lane : ℕ) (pixels : PixelSet) (px py u v : ℤ) → KeepsBounds set →
    unsigned_abs (passed_in_lane set lane (passes set pixels px py) u v) ≤ 2048
passed-within set lane pixels px py u v bounds =
    product_of_lane-within lane (entry_at set.reach (entries_of_lane set lane) u v) (passes set pixels px py) 2048
    (of_read (slice_get set.kernels (lane / 2)) (λ kernel is. product_within set kernel pixels u v px py bounds
    (lane / 2, slice_get_within set.kernels (lane / 2) kernel is, get_or_from_slice_get set.kernels (lane / 2) kernel kernel is)))
  where
    of_read : (o : Option Kernel) → ((kernel : Kernel) → o ≡ Some kernel → IsProductWithin 2048 (entry_at set.reach kernel.entries u v) (passes set pixels px py)) →
        IsProductWithin 2048 (entry_at set.reach (entries_or_none o) u v) (passes set pixels px py)
    of_read None each = (omega (arith, ints), omega (arith, ints))
    of_read (Some kernel) each = each kernel refl

-- no pixel is covered
abbrev bare : PixelSet
bare x y = false

-- what an uncovered pixel gives
pub uncovered-within : (set : KernelSet) (lane : ℕ) (u v : ℤ) → KeepsBounds set → unsigned_abs (passed_in_lane set lane set.uncovered u v) ≤ 2048
uncovered-within set lane u v bounds = passed-within set lane bare (pos 0) (pos 0) u v bounds

-- what a covered pixel gives beyond that
pub lane_entry-within : (set : KernelSet) (lane : ℕ) (u v : ℤ) → KeepsBounds set → unsigned_abs (lane_entry set lane u v) ≤ 4096
lane_entry-within set lane u v bounds = ⊎_elim one two bounds
  where
    one : KeepsOneTransmission set → unsigned_abs (lane_entry set lane u v) ≤ 4096
    one keeps =
        let all : contrast set ≡ record { re = pos 1; im = pos 0 } = ap₂ minus keeps.covered keeps.uncovered in
        let small = product_of_lane-within lane (entry_at set.reach (entries_of_lane set lane) u v) (contrast set) 2048
        (product-one (entry_at set.reach (entries_of_lane set lane) u v) (contrast set) (entry_of_lane-within set 2048 lane u v keeps.kernels) all) in
        wider (lane_entry set lane u v) small
      where
        wider : (z : ℤ) → unsigned_abs z ≤ 2048 → unsigned_abs z ≤ 4096
        wider z small = omega arith

    two : KeepsTwoTransmissions set → unsigned_abs (lane_entry set lane u v) ≤ 4096
    two keeps = product_of_lane-within lane (entry_at set.reach (entries_of_lane set lane) u v) (contrast set) 4096
        (product-within (entry_at set.reach (entries_of_lane set lane) u v) (contrast set) 128 16 (entry_of_lane-within set 128 lane u v keeps.kernels)
        (difference set.covered.re set.uncovered.re keeps.covered.0 keeps.uncovered.0, difference set.covered.im set.uncovered.im keeps.covered.1 keeps.uncovered.1))
      where
        difference : (a b : ℤ) → unsigned_abs a ≤ 8 → unsigned_abs b ≤ 8 → unsigned_abs (a -ℤ b) ≤ 16
        difference a b small_a small_b = omega (arith, ints)

-- m times the places of the widest kernel
widest : (r m n : ℕ) → r ≤ 64 → n ≤ m * (2 * r + 1) * (2 * r + 1) → n ≤ m * 16641
widest r m n near small =
    let width : 2 * r + 1 ≤ 129 = omega arith in
    let places : (2 * r + 1) * (2 * r + 1) ≤ 16641 = mul-le-mul width width in
    let same : m ≤ m = omega arith in
    let all : m * ((2 * r + 1) * (2 * r + 1)) ≤ m * 16641 = mul-le-mul same places in
    omega (arith, mul_assoc m (2 * r + 1) (2 * r + 1))

pub block_of_lane-bound : (set : KernelSet) (lane : ℕ) (dx dy : ℤ) → KeepsBounds set → unsigned_abs (block_of_lane set lane dx dy) ≤ 2 ^ 27
block_of_lane-bound set lane dx dy bounds =
    let small = widest set.reach 4096 _ (reach_within set bounds)
    (block-bound set.reach (lane_entry set lane) dx dy 4096 (λ u v. lane_entry-within set lane u v bounds)) in
    omega arith

-- one part of an amplitude is at most 129 x 129 x 2048
pub amplitude_of_lane-bound : (set : KernelSet) (pixels : PixelSet) (x y : ℤ) (lane : ℕ) → KeepsBounds set →
    unsigned_abs (amplitude_of_lane set pixels x y lane) ≤ 34080768
amplitude_of_lane-bound set pixels x y lane bounds =
    widest set.reach 2048 _ (reach_within set bounds)
    (sum_range-bound _ (neg_ℤ (pos set.reach)) (2 * set.reach + 1) (2048 * (2 * set.reach + 1)) (λ v.
    sum_range-bound _ (neg_ℤ (pos set.reach)) (2 * set.reach + 1) 2048 (λ u. passed-within set lane pixels (x -ℤ u) (y -ℤ v) u v bounds)))

pub ground_of_lane-bound : (set : KernelSet) (lane : ℕ) → KeepsBounds set → unsigned_abs (ground_of_lane set lane) ≤ 34080768
ground_of_lane-bound set lane bounds = amplitude_of_lane-bound set bare (pos 0) (pos 0) lane bounds
