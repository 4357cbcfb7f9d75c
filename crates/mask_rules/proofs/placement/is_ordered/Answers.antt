-- The high end's place is within the limits.
use Rattle.std.proofs.Common.{◌≡◌, ap, arith}
use Rattle.std.proofs.lemmas.Int.{ints}
use Rattle.outline_model.specs.declared.fragment.Fragment.{Fragment}
use Rattle.outline_model.specs.Outline.{fragment_at}
use Rattle.mask_rules.proofs.placement.is_ordered.Goals as goal

pub end-high-requires-clause-place : goal.end-high-requires-clause-place
end-high-requires-clause-place c =
    let within = c.get-fragment.ensures.list.hi_within c.args.k c.requires.k in
    let low = within.0 in let high = within.1 in
    let is : c.get-fragment.result.now.hi ≡ (fragment_at c.args.outline.now.fragments.now c.args.k).hi = ap (λ (f : Fragment). f.hi) c.get-fragment.ensures.fragment in
    (omega (arith, ints), omega (arith, ints))
