-- The rectangle that a move sweeps, as it is found.
use Rattle.std.proofs.Common.{◌≡◌, ℕ, ◌<◌, ◌≤◌, ℤ, pos, ◌+ℤ◌, ◌≤ℤ◌, unsigned_abs, Bool, true, false, if◌then◌else◌, List, length, set, get_or-set_same, sym, ◌∙◌, ap, subst, arith}
use Rattle.std.proofs.lemmas.Int.{clamps, ints}
use Rattle.std.specs.Int.{int_max, int_min}
use Rattle.opc_base.specs.Plane.{IsOrdered, IsRectWithin}
use Rattle.opc_base.specs.declared.plane.Rect.{Rect}
use Rattle.opc_base.specs.declared.plane.Side.{Side}
use Rattle.outline_model.specs.declared.fragment.Fragment.{Fragment}
use Rattle.outline_model.specs.Ranges.{IsWithin}
use Rattle.outline_model.specs.Outline.{fragment_at, is_vertical, side_of, outward, lines, low_end, high_end, rect_between, swept}

-- the moved fragment's line
pub lines_moved : (fs : List Fragment) (offsets : List ℤ) (i : ℕ) (to : ℤ) → i < length fs → length offsets ≡ length fs
    → lines fs (set offsets i to) i ≡ (fragment_at fs i).edge +ℤ outward (side_of fs i) to
lines_moved fs offsets i to below one_each =
    ap (λ t. (fragment_at fs i).edge +ℤ outward (side_of fs i) t)
    (get_or-set_same {A = ℤ} offsets i to (pos 0) (subst (λ n. i < n) (sym one_each) below))

pub swept_is : (fs : List Fragment) (offsets : List ℤ) (i : ℕ) (to new old low high : ℤ) (side : Side) (rect : Rect)
    → i < length fs → length offsets ≡ length fs
    → new ≡ (fragment_at fs i).edge +ℤ outward (side_of fs i) to
    → old ≡ lines fs offsets i → low ≡ low_end fs (lines fs offsets) i → high ≡ high_end fs (lines fs offsets) i
    → side ≡ side_of fs i → rect ≡ rect_between side old new low high
    → rect ≡ swept fs (lines fs offsets) i (lines fs (set offsets i to) i)
swept_is fs offsets i to new old low high side rect below one_each new_is old_is low_is high_is side_is rect_is =
    rect_is
    ∙ ap (λ s. rect_between s old new low high) side_is
    ∙ ap (λ l. rect_between (side_of fs i) l new low high) old_is
    ∙ ap (λ l. rect_between (side_of fs i) (lines fs offsets i) new l high) low_is
    ∙ ap (λ l. rect_between (side_of fs i) (lines fs offsets i) new (low_end fs (lines fs offsets) i) l) high_is
    ∙ ap (λ l. rect_between (side_of fs i) (lines fs offsets i) l (low_end fs (lines fs offsets) i) (high_end fs (lines fs offsets) i))
    (new_is ∙ sym (lines_moved fs offsets i to below one_each))

-- ---- its sides
least-within : (n : ℕ) (a b : ℤ) → IsWithin n a → IsWithin n b → unsigned_abs (int_min a b) ≤ n
least-within n a b in_a in_b = grind (arith, ints, clamps)

greatest-within : (n : ℕ) (a b : ℤ) → IsWithin n a → IsWithin n b → unsigned_abs (int_max a b) ≤ n
greatest-within n a b in_a in_b = grind (arith, ints, clamps)

itself-within : (n : ℕ) (a : ℤ) → IsWithin n a → unsigned_abs a ≤ n
itself-within n a within = grind (arith, ints)

least-first : (a b : ℤ) → int_min a b ≤ℤ int_max a b
least-first a b = grind (arith, ints, clamps)

pub rect_between-ordered : (side : Side) (a b low high : ℤ) → low ≤ℤ high → IsOrdered (rect_between side a b low high)
rect_between-ordered side a b low high order = by (is_vertical side)
  where
    by : (t : Bool) → IsOrdered (if t then record { x0 = int_min a b; y0 = low; x1 = int_max a b; y1 = high } else record { x0 = low; y0 = int_min a b; x1 = high; y1 = int_max a b })
    by true = (least-first a b, order)
    by false = (order, least-first a b)

pub rect_between-within : (side : Side) (n : ℕ) (a b low high : ℤ) → IsWithin n a → IsWithin n b → IsWithin n low → IsWithin n high → IsRectWithin n (rect_between side a b low high)
rect_between-within side n a b low high in_a in_b in_low in_high = by (is_vertical side)
  where
    by : (t : Bool) → IsRectWithin n (if t then record { x0 = int_min a b; y0 = low; x1 = int_max a b; y1 = high } else record { x0 = low; y0 = int_min a b; x1 = high; y1 = int_max a b })
    by true = (least-within n a b in_a in_b, itself-within n low in_low, greatest-within n a b in_a in_b, itself-within n high in_high)
    by false = (itself-within n low in_low, least-within n a b in_a in_b, itself-within n high in_high, greatest-within n a b in_a in_b)
