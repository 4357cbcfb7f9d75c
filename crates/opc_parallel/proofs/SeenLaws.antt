-- What a kernel sees from a pixel.
use Rattle.std.proofs.Common.{◌≡◌, ℕ, ◌+◌, ◌≤◌, ℤ, pos, negsuc, ◌+ℤ◌, ◌-ℤ◌, ◌*ℤ◌, ◌≤ℤ◌, ◌<ℤ◌, unsigned_abs, false, to_z, of_z, w32, ap, ◌∙◌, arith}
use Rattle.std.proofs.lemmas.Int.{ints}
use Rattle.std.proofs.Math.IntN.{*ℤ-zero}
use Rattle.opc_base.specs.Lanes.{rect_change}
use Rattle.opc_base.specs.declared.kernels.KernelSet.{KernelSet}
use Rattle.opc_base.specs.declared.moves.Swept.{Swept}
use Rattle.opc_base.specs.declared.plane.Pix.{Pix}
use Rattle.opc_base.specs.declared.plane.Rect.{Rect}
use Rattle.outline_model.specs.declared.fragment.Fragment.{Fragment}
use Rattle.outline_model.specs.Outline.{site_of}
use Rattle.tiles.specs.Meets.{AddsNothing, meet}
use Rattle.tiles.proofs.MeetLaws.{IsNearBy, SeesWithin, site_near, unmet}
use Rattle.opc_parallel.specs.Conditions.{IsUnseen, window_of}
use Rattle.opc_parallel.specs.Stored.{Setting, sample_at, sample_change}

-- one coordinate of what is seen from a place lies in the window of a place near by
in_window : (p q : ℤ) (reach n : ℕ) → unsigned_abs (p -ℤ q) ≤ n →
    ((q -ℤ pos (reach + n)) ≤ℤ (p -ℤ pos reach)) × ((p +ℤ pos reach) <ℤ (q +ℤ pos (reach + n) +ℤ pos 1))
in_window p q reach n near = (omega (arith, ints), omega (arith, ints))

sees_within : (reach n : ℕ) (p q : Pix) → IsNearBy n p q → SeesWithin reach p (window_of (pos (reach + n)) q)
sees_within reach n p q near =
    let across = in_window p.x q.x reach n near.0 in
    let along = in_window p.y q.y reach n near.1 in
    record { left = across.0; right = across.1; below = along.0; above = along.1 }

-- a rectangle that no kernel sees from a pixel adds nothing there
pub unseen : (set : KernelSet) (at : Pix) (rect : Rect) (sign : ℤ) (lane : ℕ) → meet (window_of (pos set.reach) at) rect ≡ false → rect_change set rect sign at.x at.y lane ≡ pos 0
unseen set at rect sign lane away =
    ap (λ z. sign *ℤ z) (unmet set at (window_of (pos set.reach) at) rect lane window away) ∙ *ℤ-zero sign
  where
    low : (p : ℤ) (reach : ℕ) → (p -ℤ pos reach) ≤ℤ (p -ℤ pos reach)
    low p reach = omega (arith, ints)

    high : (p : ℤ) (reach : ℕ) → (p +ℤ pos reach) <ℤ (p +ℤ pos reach +ℤ pos 1)
    high p reach = omega (arith, ints)

    window : SeesWithin set.reach at (window_of (pos set.reach) at)
    window = record { left = low at.x set.reach; right = high at.x set.reach; below = low at.y set.reach; above = high at.y set.reach }

-- nor does one that none of them sees from a sample of a fragment
pub unseen_sample : (s : Setting) (swept : Swept) (i k lane : ℕ) → IsUnseen s i k swept.rect → sample_change s swept i k lane ≡ pos 0
unfolding sample_change
unseen_sample s swept i k lane away = unseen s.set (sample_at s i k) swept.rect swept.sign lane away

-- and one that none of them sees from any sample of a fragment adds nothing there
pub unseen_fragment : (set : KernelSet) (n : ℕ) (f : Fragment) (rect : Rect) → meet (window_of (pos (set.reach + n)) (site_of f (negsuc 0))) rect ≡ false → AddsNothing set n f rect
unseen_fragment set n f rect away k lane below =
    unmet set here (window_of (pos (set.reach + n)) (site_of f (negsuc 0))) rect lane (sees_within set.reach n here (site_of f (negsuc 0)) (site_near f k n below)) away
  where
    here : Pix
    here = site_of f (pos k -ℤ pos n)

-- the sides of the window as the code computes them
pub low_is : (p reach : ℤ) → unsigned_abs p ≤ 1048100 → pos 0 ≤ℤ reach → reach ≤ℤ pos 80 →
    to_z w32 (of_z w32 (to_z w32 (of_z w32 p) -ℤ to_z w32 (of_z w32 reach))) ≡ p -ℤ reach
low_is p reach small least most = omega (arith, ints)

pub high_is : (p reach : ℤ) → unsigned_abs p ≤ 1048100 → pos 0 ≤ℤ reach → reach ≤ℤ pos 80 →
    to_z w32 (of_z w32 (to_z w32 (of_z w32 (to_z w32 (of_z w32 p) +ℤ to_z w32 (of_z w32 reach))) +ℤ pos 1)) ≡ p +ℤ reach +ℤ pos 1
high_is p reach small least most =
    let inner : to_z w32 (of_z w32 (to_z w32 (of_z w32 p) +ℤ to_z w32 (of_z w32 reach))) ≡ p +ℤ reach = omega (arith, ints) in
    rw inner (omega (arith, ints))
