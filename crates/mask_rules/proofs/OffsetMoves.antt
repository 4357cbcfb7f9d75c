-- The move of one fragment from an offset to another.
use Rattle.std.proofs.Common.{◌≡◌, ◌≢◌, ℕ, ◌<◌, ℤ, pos, ◌+ℤ◌, ◌<ℤ◌, inr, Option, Bool, List, length, set, get_or-set_same, int_lt, sym, ◌∙◌, ap, subst, arith}
use Rattle.std.proofs.lemmas.Int.{ints, clamps}
use Rattle.opc_base.specs.declared.plane.Side.{Side}
use Rattle.opc_base.specs.declared.plane.Side.TheVariants.{Left, Right, Down, Up}
use Rattle.outline_model.specs.declared.fragment.Fragment.{Fragment}
use Rattle.opc_base.specs.declared.plane.Rect.{Rect}
use Rattle.opc_base.specs.declared.plane.Pix.{Pix}
use Rattle.outline_model.specs.Ranges.{IsWithin}
use Rattle.outline_model.specs.Outline.{IsOutline, fragment_at, side_of, outward, lines, is_outward, rect_between, swept, low_end, high_end, mask}
use Rattle.outline_model.specs.Rules.{CrossesAt, NoneCrosses}
use Rattle.outline_model.proofs.MoveLaw.{differs_at-set, is_outward-moved}
use Rattle.outline_model.proofs.Walk.{stands}
use Rattle.mask_rules.specs.declared.clash.Clash.TheVariants.{Meet}
use Rattle.mask_rules.specs.Clashes.{ClashesNow}
use Rattle.mask_rules.specs.First.{IsFirst, earlier}
use Rattle.mask_rules.specs.Limits.{IsMaskRect}
use Rattle.mask_rules.specs.Spots.{lowest}
use Rattle.mask_rules.specs.Sweeps.{IsBeside, MiscountAt}
use Rattle.mask_rules.proofs.CrossingLemmas.{crossing_first, beside_of, swept_some}
use Rattle.mask_rules.proofs.Judged.{IsStep, meet_first}

pub step_of : (fs : List Fragment) (offsets : List ℤ) (i : ℕ) (from to : ℤ) → IsOutline fs → i < length fs
    → IsStep fs (lines fs (set offsets i from)) (lines fs (set offsets i to)) i
step_of fs offsets i from to outline below = record {
  outline = outline;
  below = below;
  others = λ k apart. differs_at-set fs offsets i to k apart ∙ sym (differs_at-set fs offsets i from k apart);
}

pub line_at_moved : (fs : List Fragment) (offsets : List ℤ) (i : ℕ) (to : ℤ) → i < length offsets
    → lines fs (set offsets i to) i ≡ (fragment_at fs i).edge +ℤ outward (side_of fs i) to
line_at_moved fs offsets i to inside =
    ap (λ t. (fragment_at fs i).edge +ℤ outward (side_of fs i) t) (get_or-set_same {A = ℤ} offsets i to (pos 0) inside)

outward_apart : (side : Side) (edge from to : ℤ) → to ≢ from → (edge +ℤ outward side to) ≢ (edge +ℤ outward side from)
outward_apart Left edge from to apart e = apart (omega (arith, ints))
outward_apart Right edge from to apart e = apart (omega (arith, ints))
outward_apart Down edge from to apart e = apart (omega (arith, ints))
outward_apart Up edge from to apart e = apart (omega (arith, ints))

pub line_apart : (fs : List Fragment) (offsets : List ℤ) (i : ℕ) (from to : ℤ) → i < length offsets → to ≢ from
    → lines fs (set offsets i to) i ≢ lines fs (set offsets i from) i
line_apart fs offsets i from to inside apart e =
    outward_apart (side_of fs i) (fragment_at fs i).edge from to apart
    (sym (line_at_moved fs offsets i to inside) ∙ e ∙ line_at_moved fs offsets i from inside)

pub outward_is : (fs : List Fragment) (offsets : List ℤ) (i : ℕ) (from to : ℤ) → i < length offsets
    → int_lt from to ≡ is_outward (side_of fs i) (lines fs (set offsets i from) i) (lines fs (set offsets i to) i)
outward_is fs offsets i from to inside =
    sym (is_outward-moved (side_of fs i) (fragment_at fs i).edge from to)
    ∙ ap (λ l. is_outward (side_of fs i) l ((fragment_at fs i).edge +ℤ outward (side_of fs i) to)) (sym (line_at_moved fs offsets i from inside))
    ∙ ap (is_outward (side_of fs i) (lines fs (set offsets i from) i)) (sym (line_at_moved fs offsets i to inside))

pub rect_within : (side : Side) (a b low high : ℤ) → IsWithin 1048128 a → IsWithin 1048128 b → IsWithin 1048128 low → IsMaskRect (rect_between side a b low high)
rect_within Left a b low high a_in b_in low_in = let p = a_in.0 in let q = a_in.1 in let r = b_in.0 in let s = b_in.1 in record { x0 = (omega (arith, ints, clamps), omega (arith, ints, clamps)); y0 = low_in }
rect_within Right a b low high a_in b_in low_in = let p = a_in.0 in let q = a_in.1 in let r = b_in.0 in let s = b_in.1 in record { x0 = (omega (arith, ints, clamps), omega (arith, ints, clamps)); y0 = low_in }
rect_within Down a b low high a_in b_in low_in = let p = a_in.0 in let q = a_in.1 in let r = b_in.0 in let s = b_in.1 in record { x0 = low_in; y0 = (omega (arith, ints, clamps), omega (arith, ints, clamps)) }
rect_within Up a b low high a_in b_in low_in = let p = a_in.0 in let q = a_in.1 in let r = b_in.0 in let s = b_in.1 in record { x0 = low_in; y0 = (omega (arith, ints, clamps), omega (arith, ints, clamps)) }

-- what is needed of the rectangle that is swept
pub sweep_facts : (fs : List Fragment) (offsets : List ℤ) (i : ℕ) (from to : ℤ) (r : Rect) (outward : Bool) → IsOutline fs → i < length fs → length offsets ≡ length fs
    → NoneCrosses fs (lines fs (set offsets i from))
    → low_end fs (lines fs (set offsets i from)) i <ℤ high_end fs (lines fs (set offsets i from)) i → to ≢ from
    → r ≡ swept fs (lines fs (set offsets i from)) i (lines fs (set offsets i to) i) → outward ≡ int_lt from to
    → (r.x0 <ℤ r.x1) × (r.y0 <ℤ r.y1)
    × IsBeside (mask fs (lines fs (set offsets i from))) (stands fs i) (lowest (stands fs i) r) outward
sweep_facts fs offsets i from to r outward outline below one_each kept ordered apart r_is outward_eq =
    let inside : i < length offsets = subst (λ n. i < n) (sym one_each) below in
    let line = lines fs (set offsets i from) in
    let line' = lines fs (set offsets i to) in
    let moves = line_apart fs offsets i from to inside apart in
    let some = swept_some (side_of fs i) (line i) (line' i) (low_end fs line i) (high_end fs line i) ordered moves in
    let beside = beside_of fs line line' i (step_of fs offsets i from to outline below) kept ordered moves in (
      subst (λ (s : Rect). s.x0 <ℤ s.x1) (sym r_is) some.0,
      subst (λ (s : Rect). s.y0 <ℤ s.y1) (sym r_is) some.1,
      subst (λ (s : Rect). IsBeside (mask fs line) (stands fs i) (lowest (stands fs i) s) outward) (sym r_is)
          (subst (IsBeside (mask fs line) (stands fs i) (lowest (stands fs i) (swept fs line i (line' i)))) (sym (outward_eq ∙ outward_is fs offsets i from to inside)) beside),
    )

pub crossing_is : (fs : List Fragment) (offsets : List ℤ) (i : ℕ) (from to : ℤ) (r : Rect) (outward : Bool) (m w : Option Pix) → IsOutline fs → i < length fs → length offsets ≡ length fs
    → NoneCrosses fs (lines fs (set offsets i from))
    → low_end fs (lines fs (set offsets i from)) i <ℤ high_end fs (lines fs (set offsets i from)) i
    → r ≡ swept fs (lines fs (set offsets i from)) i (lines fs (set offsets i to) i) → outward ≡ int_lt from to
    → IsFirst (ClashesNow fs (lines fs (set offsets i to)) Meet i) m → IsFirst (MiscountAt (mask fs (lines fs (set offsets i from))) r outward) w
    → IsFirst (λ p. CrossesAt fs (lines fs (set offsets i to)) p.x p.y) (earlier m w)
crossing_is fs offsets i from to r outward m w outline below one_each kept ordered r_is outward_eq m_first w_first =
    let inside : i < length offsets = subst (λ n. i < n) (sym one_each) below in
    let line = lines fs (set offsets i from) in
    let line' = lines fs (set offsets i to) in
    let step = step_of fs offsets i from to outline below in
    crossing_first fs line line' i outward m w step kept ordered (outward_eq ∙ outward_is fs offsets i from to inside)
    (meet_first fs line line' i m step (λ p meets. kept p.x p.y (inr meets)) m_first)
    (subst (λ (s : Rect). IsFirst (MiscountAt (mask fs line) s outward) w) r_is w_first)
