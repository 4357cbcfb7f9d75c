-- A fragment that stays breaks no rule; else the verdict on the move decides.
use Rattle.std.proofs.Common.{◌≡◌, ◌≤ℤ◌, ℤ, pos, List, get_or, set, w32, to_z, of_z, SFits, refl, sym, ◌∙◌, ap, subst, arith}
use Rattle.std.proofs.lemmas.Int.{ints, clamps, to_z-of_z}
use Rattle.std.proofs.lemmas.List.{set-get_or}
use Rattle.outline_model.specs.Rules.{KeepsRules}
use Rattle.mask_rules.specs.Verdicts.{IsJudged}
use Rattle.mask_rules.proofs.VerdictLemmas.{judged_if_some, judged_is_none, judged_near}
use Rattle.mask_rules.proofs.RuleOffsets.{near_of_rules, offsets_of_rules}
use Rattle.mask_rules.proofs.judge.first_broken.Goals as goal

pub returns-then-to-from-clause-kept : goal.returns-then-to-from-clause-kept
returns-then-to-from-clause-kept c =
    let o = c.args.offsets.now in
    let within = (offsets_of_rules c.args.rules.now c.args.fragments.now c.args.offsets.now c.requires.offsets c.requires.keeps).within c.args.i c.requires.fragment in
    let low = within.0 in let high = within.1 in
    let to_is : c.args.to ≡ get_or o c.args.i (pos 0) = (let is = c.if-to-from.true in omega (arith, ints)) in
    let same : set o c.args.i c.args.to ≡ o = ap (set o c.args.i) to_is ∙ set-get_or o c.args.i (pos 0) in
    (λ e. subst (λ (l : List ℤ). KeepsRules c.args.rules.now c.args.fragments.now l) (sym same) c.requires.keeps, λ keeps. refl)

pub judge-requires-clause-keeps : goal.judge-requires-clause-keeps
judge-requires-clause-keeps c =
    let o = c.args.offsets.now in
    let within = (offsets_of_rules c.args.rules.now c.args.fragments.now c.args.offsets.now c.requires.offsets c.requires.keeps).within c.args.i c.requires.fragment in
    let low = within.0 in let high = within.1 in
    let from = get_or o c.args.i (pos 0) in
    let from_is : to_z w32 (of_z w32 from) ≡ from = omega (arith, ints) in
    let same : set o c.args.i (to_z w32 (of_z w32 from)) ≡ o = ap (set o c.args.i) from_is ∙ set-get_or o c.args.i (pos 0) in
    subst (λ (l : List ℤ). KeepsRules c.args.rules.now c.args.fragments.now l) (sym same) c.requires.keeps

pub returns-clause-broken : goal.returns-clause-broken
returns-clause-broken c =
    let to_fits : SFits w32 c.args.to = c.ranges.to in
    let judged : IsJudged c.args.rules.now c.args.fragments.now (set c.args.offsets.now c.args.i c.args.to) c.judge.result = simp to_z-of_z at c.judge.ensures.judged in
    judged_if_some c.args.rules.now c.args.fragments.now (set c.args.offsets.now c.args.i c.args.to) c.judge.result judged

pub returns-clause-kept : goal.returns-clause-kept
returns-clause-kept c =
    let to_fits : SFits w32 c.args.to = c.ranges.to in
    let judged : IsJudged c.args.rules.now c.args.fragments.now (set c.args.offsets.now c.args.i c.args.to) c.judge.result = simp to_z-of_z at c.judge.ensures.judged in
    judged_is_none c.args.rules.now c.args.fragments.now (set c.args.offsets.now c.args.i c.args.to) c.judge.result judged

pub judge-requires-clause-placement : goal.judge-requires-clause-placement
judge-requires-clause-placement c =
    let r = c.args.rules.now in
    let in_0 = r.max_in_in_range.0 in let in_1 = r.max_in_in_range.1 in
    let out_0 = r.max_out_in_range.0 in let out_1 = r.max_out_in_range.1 in
    let in_below : r.max_in ≤ℤ c.max.result = omega (arith, ints, clamps) in
    let out_below : r.max_out ≤ℤ c.max.result = omega (arith, ints, clamps) in
    let most : c.max.result ≤ℤ pos 128 = omega (arith, ints, clamps) in
    let near = near_of_rules r c.args.fragments.now c.args.offsets.now c.max.result c.requires.keeps in_below out_below in
    let mine = near c.args.i c.requires.fragment in
    let mine_0 = mine.0 in let mine_1 = mine.1 in
    let within = (offsets_of_rules c.args.rules.now c.args.fragments.now c.args.offsets.now c.requires.offsets c.requires.keeps).within c.args.i c.requires.fragment in
    let within_0 = within.0 in let within_1 = within.1 in
    record {
      offsets_within = offsets_of_rules c.args.rules.now c.args.fragments.now c.args.offsets.now c.requires.offsets c.requires.keeps;
      moved_below = c.requires.fragment;
      to_within = (omega (arith, ints), omega (arith, ints));
      reach_least = omega (arith, ints);
      reach_most = omega (arith, ints);
      offsets_near = λ k below. (
          let h = near k below in
          let l = h.0 in let m = h.1 in
          (omega (arith, ints), omega (arith, ints))
          );
      to_near = (omega (arith, ints), omega (arith, ints));
    }

pub returns-clause-near : goal.returns-clause-near
returns-clause-near c =
    let to_fits : SFits w32 c.args.to = c.ranges.to in
    let judged : IsJudged c.args.rules.now c.args.fragments.now (set c.args.offsets.now c.args.i c.args.to) c.judge.result = simp to_z-of_z at c.judge.ensures.judged in
    judged_near c.args.rules.now c.args.fragments.now c.args.offsets.now c.args.i c.args.to c.judge.result
    c.judge.ensures.list.outline c.requires.fragment c.requires.keeps judged
