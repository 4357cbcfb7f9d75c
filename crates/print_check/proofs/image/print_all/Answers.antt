use Rattle.std.proofs.Common.{◌≡◌, ℕ, ◌+◌, ◌*◌, ℤ, Bool, false, ◌&&◌, List, [], SFits, w64, to_z-of_z, sym, ap, ◌∙◌, subst, arith, true}
use Rattle.opc_base.specs.Canonical.{AreCanonical, IsCanonical}
use Rattle.std.specs.Prelude.{All}
use Rattle.std.proofs.lemmas.Bool.{and_parts}
use Rattle.std.proofs.lemmas.Int.{ints}
use Rattle.opc_base.specs.Plane.{IsRectWithin, cover, rect_cover}
use Rattle.rect_union.proofs.WithinLaws.{rects_in_limit}
use Rattle.rect_union.specs.Strips.{IsInLimit}
use Rattle.print_check.proofs.FlagLaws.{inside}
use Rattle.opc_base.specs.declared.plane.Rect.{Rect}
use Rattle.rect_union.proofs.SetLaws.{canonical_for}
use Rattle.print_check.specs.Printed.{printed_in, prints}
use Rattle.print_check.specs.Rises.{AreEntries}
use Rattle.print_check.proofs.image.print_all.Goals as goal

-- the pixels of a window are within its limit
in_limit : (window : Rect) (x y : ℤ) → IsRectWithin 1048128 window → rect_cover window x y ≡ true → IsInLimit 1048128 x y
in_limit window x y near is =
    let i = inside window x y is in
    let a = i.left in let b = i.right in let c = i.low in let d = i.high in
    let e = near.0 in let f = near.1 in let g = near.2 in let h = near.3 in
    record { left = omega (arith, ints); right = omega (arith, ints); low = omega (arith, ints); high = omega (arith, ints) }

empty_canonical : AreCanonical []
empty_canonical = record { solid = λ k d below. absurd (omega arith); pairs = λ i j d before below. absurd (omega arith) }

off : (a b : Bool) → a ≡ false → false ≡ (a && b)
off a b is = grind arith

pub returns-then-is_empty-clause-canonical : goal.returns-then-is_empty-clause-canonical
returns-then-is_empty-clause-canonical g c =
    let is = c.from_rects.ensures.list ∙ c.new.ensures.items in
    subst (IsCanonical (printed_in c.args.tables.now (cover c.args.region.now) c.args.threshold c.args.window)) (sym is)
    (canonical_for (printed_in c.args.tables.now (cover c.args.region.now) c.args.threshold c.args.window) [] empty_canonical
    (λ x y. off _ (prints c.args.tables.now (cover c.args.region.now) c.args.threshold x y) (c.is_empty.ensures.none c.if-is_empty.true x y)))

pub returns-then-is_empty-clause-pixels : goal.returns-then-is_empty-clause-pixels
returns-then-is_empty-clause-pixels g c x y =
    ap (λ (rects : List Rect). cover rects x y) (c.from_rects.ensures.list ∙ c.new.ensures.items)
    ∙ off _ (prints c.args.tables.now (cover c.args.region.now) c.args.threshold x y) (c.is_empty.ensures.none c.if-is_empty.true x y)

pub returns-clause-canonical : goal.returns-clause-canonical
returns-clause-canonical g c =
    let threshold_fits : SFits w64 c.args.threshold = c.ranges.threshold in
    let seen = simp to_z-of_z at c.in_ok-printed.ensures.pixels in
    canonical_for (printed_in c.args.tables.now (cover c.args.region.now) c.args.threshold c.args.window) c.in_ok-printed.printed c.in_ok-printed.ensures.canonical
    seen

pub returns-clause-pixels : goal.returns-clause-pixels
returns-clause-pixels g c =
    let threshold_fits : SFits w64 c.args.threshold = c.ranges.threshold in
    simp to_z-of_z at c.in_ok-printed.ensures.pixels

pub returns-then-is_empty-clause-within : goal.returns-then-is_empty-clause-within
returns-then-is_empty-clause-within g c =
    subst (All (IsRectWithin 1048128)) (sym (c.from_rects.ensures.list ∙ c.new.ensures.items)) (λ k d below. absurd (omega arith))

pub returns-clause-within : goal.returns-clause-within
returns-clause-within g c =
    rects_in_limit 1048128 c.in_ok-printed.printed c.in_ok-printed.ensures.canonical.solid
    (λ x y is. in_limit c.args.window x y c.requires.window
    (and_parts (rect_cover c.args.window x y) _ (sym (c.in_ok-printed.ensures.pixels x y) ∙ is)).0)

pub print_cut-requires-clause-ready : goal.print_cut-requires-clause-ready
print_cut-requires-clause-ready g c κs within = record {
  near = c.requires.region;
  few = c.requires.few;
  weights = c.requires.weights;
  pixels = subst (AreEntries c.args.tables.now 1) (sym c.deref.ensures.value) c.in_ok-pixels.ensures;
  columns = subst (AreEntries c.args.tables.now (2 * c.args.tables.now.reach + 1)) (sym c.deref-2.ensures.value)
      (subst (λ (h : ℕ). AreEntries c.args.tables.now h c.in_ok-columns.columns.items) c.side_of-all.ensures.is c.in_ok-columns.ensures);
}
