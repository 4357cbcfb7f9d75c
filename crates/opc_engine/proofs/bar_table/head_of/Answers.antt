use Rattle.std.proofs.Common.{SFits, w32, w64, length, rules, ap, sym, ◌∙◌}
use Rattle.std.proofs.lemmas.Int.{to_z-of_z}
use Rattle.opc_base.specs.declared.kernels.KernelSet.{KernelSet}
use Rattle.opc_base.specs.declared.rules.Rules.{Rules}
use Rattle.opc_engine.proofs.BarTableLaws.{bar_head_is}
use Rattle.opc_engine.proofs.bar_table.head_of.Goals as goal

pub returns : goal.returns
returns c =
    let over = c.requires.over in
    let site = c.args.whole.now.rules.site in
    let samples : SFits w32 site.samples = search rules in
    let threshold : SFits w64 site.threshold = search rules in
    bar_head_is c.args.session.now c.in_ok-head.head c.put_counts.new.out c.count.result _ c.from-reach.result _ _
    c.in_ok-head.ensures
    c.count.ensures.count
    (ap length c.as_slice.ensures.list ∙ ap (λ (k : KernelSet). length k.kernels) (sym over.set))
    (c.from-reach.ensures ∙ ap (λ (k : KernelSet). k.reach) (sym over.set))
    (to_z-of_z w32 site.samples samples ∙ ap (λ (r : Rules). r.site.samples) (sym over.rules))
    (to_z-of_z w64 site.threshold threshold ∙ ap (λ (r : Rules). r.site.threshold) (sym over.rules))
    c.in_ok-put_counts.ensures.ok
