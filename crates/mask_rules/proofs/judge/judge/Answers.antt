-- The rules of fragments come first.
use Rattle.std.proofs.Common.{◌≡◌, ◌<◌, ◌≤ℤ◌, inl, inr, neg_ℤ, true, false, Some, length, set, w32, SFits, sym, ◌∙◌, ap, subst, arith}
use Rattle.std.specs.Prelude.{IsTrue, ◌↔◌}
use Rattle.std.proofs.lemmas.Int.{ints, to_z-of_z}
use Rattle.outline_model.specs.declared.fragment.Fragment.{Fragment}
use Rattle.opc_base.specs.declared.broken.RuleName.TheVariants.{M5}
use Rattle.outline_model.specs.Outline.{joined, start_join, finish_join, next, previous, lines}
use Rattle.opc_base.specs.declared.broken.Broken.{Broken}
use Rattle.mask_rules.specs.Verdicts.{IsJudged, IsOrdered, NoneBreaks}
use Rattle.mask_rules.proofs.VerdictLemmas.{none_m5, judged_offset, none_m4, judged_ends}
use Rattle.mask_rules.proofs.judge.judge.Goals as goal

pub returns-then-not-is_in_range-clause-judged : goal.returns-then-not-is_in_range-clause-judged
returns-then-not-is_in_range-clause-judged c =
    let p = c.args.present.now in
    let r = c.args.rules.now in
    let to_fits : SFits w32 c.args.to = c.ranges.to in
    let range_is : IsTrue c.is_in_range.result ↔ ((neg_ℤ r.max_in ≤ℤ c.args.to) × (c.args.to ≤ℤ r.max_out)) = simp to_z-of_z at c.is_in_range.ensures in
    let inside : p.moved < length p.offsets.now = subst (λ n. p.moved < n) (sym c.requires.placement.offsets_within.one_each) c.requires.placement.moved_below in
    let not_in : c.is_in_range.result ≡ false = c.if-not-is_in_range.true in
    subst (λ (b : Broken). IsJudged r p.fragments.now (set p.offsets.now p.moved c.args.to) (Some b)) (sym c.at_fragment.ensures)
    (judged_offset r p.fragments.now p.offsets.now p.moved c.args.to c.requires.placement.moved_below inside c.requires.kept
    (λ in_range. (let yes : c.is_in_range.result ≡ true = range_is.1 in_range in cc)))

pub judge_pixels-requires-clause-offset : goal.judge_pixels-requires-clause-offset
judge_pixels-requires-clause-offset c =
    let p = c.args.present.now in
    let r = c.args.rules.now in
    let to_fits : SFits w32 c.args.to = c.ranges.to in
    let range_is : IsTrue c.is_in_range.result ↔ ((neg_ℤ r.max_in ≤ℤ c.args.to) × (c.args.to ≤ℤ r.max_out)) = simp to_z-of_z at c.is_in_range.ensures in
    let inside : p.moved < length p.offsets.now = subst (λ n. p.moved < n) (sym c.requires.placement.offsets_within.one_each) c.requires.placement.moved_below in
    let yes : c.is_in_range.result ≡ true = c.if-not-is_in_range.false in
    rw (to_z-of_z w32 c.args.to to_fits) (none_m5 r p.fragments.now p.offsets.now p.moved c.args.to inside c.requires.kept (range_is.0 yes))

pub judge_pixels-requires-clause-ends : goal.judge_pixels-requires-clause-ends
judge_pixels-requires-clause-ends c =
    let p = c.args.present.now in
    let fs = p.fragments.now in
    let to_fits : SFits w32 c.args.to = c.ranges.to in
    let line = lines fs (set p.offsets.now p.moved c.args.to) in
    let before_is : c.previous.result ≡ previous fs p.moved = c.previous.ensures ∙ ap (λ (f : Fragment). joined (start_join f)) c.get-fragment.ensures.fragment in
    let after_is : c.next.result ≡ next fs p.moved = c.next.ensures ∙ ap (λ (f : Fragment). joined (finish_join f)) c.get-fragment.ensures.fragment in
    let both : IsOrdered fs line c.previous.result × IsOrdered fs line c.next.result = simp to_z-of_z at c.in-None.ensures.none in
    rw (to_z-of_z w32 c.args.to to_fits) (none_m4 c.args.rules.now fs p.offsets.now p.moved c.args.to c.get-fragment.ensures.list.outline c.requires.kept
    (subst (IsOrdered fs line) before_is both.0) (subst (IsOrdered fs line) after_is both.1))

pub returns-in-Some-clause-judged : goal.returns-in-Some-clause-judged
returns-in-Some-clause-judged c =
    let p = c.args.present.now in
    let fs = p.fragments.now in
    let r = c.args.rules.now in
    let to_fits : SFits w32 c.args.to = c.ranges.to in
    let line = lines fs (set p.offsets.now p.moved c.args.to) in
    let list = c.get-fragment.ensures.list in
    let range_is : IsTrue c.is_in_range.result ↔ ((neg_ℤ r.max_in ≤ℤ c.args.to) × (c.args.to ≤ℤ r.max_out)) = simp to_z-of_z at c.is_in_range.ensures in
    let inside : p.moved < length p.offsets.now = subst (λ n. p.moved < n) (sym c.requires.placement.offsets_within.one_each) c.requires.placement.moved_below in
    let yes : c.is_in_range.result ≡ true = c.if-not-is_in_range.false in
    let m5 : NoneBreaks r fs (set p.offsets.now p.moved c.args.to) M5 =
    none_m5 r fs p.offsets.now p.moved c.args.to inside c.requires.kept (range_is.0 yes) in
    let before_is : c.previous.result ≡ previous fs p.moved = c.previous.ensures ∙ ap (λ (f : Fragment). joined (start_join f)) c.get-fragment.ensures.fragment in
    let after_is : c.next.result ≡ next fs p.moved = c.next.ensures ∙ ap (λ (f : Fragment). joined (finish_join f)) c.get-fragment.ensures.fragment in
    let before_in : previous fs p.moved < length fs = list.outline.previous_in p.moved c.requires.placement.moved_below in
    let after_in : next fs p.moved < length fs = list.outline.next_in p.moved c.requires.placement.moved_below in
    let k = c.in-Some.k in
    let below : k < length fs = elim c.in-Some.ensures.which [
      | inl e ↦ (let here : k ≡ c.previous.result = e in omega arith)
      | inr e ↦ (let here : k ≡ c.next.result = e in omega arith)
    ] in
    let out : ¬ IsOrdered fs line k = simp to_z-of_z at c.in-Some.ensures.broken in
    let before : c.previous.result < k → IsOrdered fs line c.previous.result = simp to_z-of_z at c.in-Some.ensures.before_a in
    let after : c.next.result < k → IsOrdered fs line c.next.result = simp to_z-of_z at c.in-Some.ensures.before_b in
    subst (λ (b : Broken). IsJudged r fs (set p.offsets.now p.moved c.args.to) (Some b)) (sym c.at_fragment-in-Some.ensures)
    (judged_ends r fs p.offsets.now p.moved c.args.to k list.outline c.requires.kept m5 below out
    (subst (λ m. m < k → IsOrdered fs line m) before_is before) (subst (λ m. m < k → IsOrdered fs line m) after_is after))

pub first_disorder-requires-clause-placement : goal.first_disorder-requires-clause-placement
first_disorder-requires-clause-placement c =
    let r = c.args.rules.now in
    let to_fits : SFits w32 c.args.to = c.ranges.to in
    let range_is : IsTrue c.is_in_range.result ↔ ((neg_ℤ r.max_in ≤ℤ c.args.to) × (c.args.to ≤ℤ r.max_out)) = simp to_z-of_z at c.is_in_range.ensures in
    let yes : c.is_in_range.result ≡ true = c.if-not-is_in_range.false in
    let in_range = range_is.0 yes in
    let low = in_range.0 in let high = in_range.1 in
    let least = c.requires.placement.reach_least in let most = c.requires.placement.reach_most in
    record {
      offsets_within = c.requires.placement.offsets_within;
      moved_below = c.requires.placement.moved_below;
      to_within = (omega (arith, ints), omega (arith, ints));
      reach_least = omega (arith, ints);
      reach_most = omega (arith, ints);
      offsets_near = λ k below. (
          let h = c.requires.placement.offsets_near k below in
          let l = h.0 in let m = h.1 in
          (omega (arith, ints), omega (arith, ints))
          );
      to_near = (omega (arith, ints), omega (arith, ints));
    }

pub judge_pixels-requires-clause-to : goal.judge_pixels-requires-clause-to
judge_pixels-requires-clause-to c =
    let r = c.args.rules.now in
    let to_fits : SFits w32 c.args.to = c.ranges.to in
    let range_is : IsTrue c.is_in_range.result ↔ ((neg_ℤ r.max_in ≤ℤ c.args.to) × (c.args.to ≤ℤ r.max_out)) = simp to_z-of_z at c.is_in_range.ensures in
    let yes : c.is_in_range.result ≡ true = c.if-not-is_in_range.false in
    let in_range = range_is.0 yes in
    let low = in_range.0 in let high = in_range.1 in
    (omega (arith, ints), omega (arith, ints))

pub judge_pixels-requires-clause-to_near : goal.judge_pixels-requires-clause-to_near
judge_pixels-requires-clause-to_near c =
    let r = c.args.rules.now in
    let to_fits : SFits w32 c.args.to = c.ranges.to in
    let range_is : IsTrue c.is_in_range.result ↔ ((neg_ℤ r.max_in ≤ℤ c.args.to) × (c.args.to ≤ℤ r.max_out)) = simp to_z-of_z at c.is_in_range.ensures in
    let yes : c.is_in_range.result ≡ true = c.if-not-is_in_range.false in
    let in_range = range_is.0 yes in
    let low = in_range.0 in let high = in_range.1 in
    (omega (arith, ints), omega (arith, ints))
