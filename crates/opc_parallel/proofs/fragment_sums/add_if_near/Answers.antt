use Rattle.std.proofs.Common.{◌≡◌, ◌+◌, ◌≤◌, ℕ, pos, ◌+ℤ◌, false, to_z, of_z, w32, sym, subst, ap, ◌∙◌, arith}
use Rattle.std.proofs.lemmas.Int.{ints}
use Rattle.opc_base.proofs.ChangeLaws.{RisesBy-zero}
use Rattle.opc_base.proofs.OpticsLaws.{reach_within}
use Rattle.outline_model.specs.Outline.{fragment_at}
use Rattle.tiles.specs.Meets.{meet}
use Rattle.opc_parallel.specs.Conditions.{setting_of, window_of}
use Rattle.opc_parallel.proofs.SeenLaws.{unseen_fragment}
use Rattle.opc_parallel.proofs.StoredLaws.{fragment_untouched}
use Rattle.opc_parallel.proofs.fragment_sums.add_if_near.Goals as goal

stored : (reach n : ℕ) → reach ≤ 64 → n ≤ 16 → to_z w32 (of_z w32 (to_z w32 (of_z w32 (pos reach)) +ℤ to_z w32 n)) ≡ pos (reach + n)
stored reach n near few = omega (arith, ints)

pub returns-else-sees-clause-rises : goal.returns-else-sees-clause-rises
returns-else-sees-clause-rises g c =
    let s = setting_of c.args.work.now in
    let far = ap (λ z. to_z w32 (of_z w32 (to_z w32 (of_z w32 z) +ℤ to_z w32 s.samples))) c.reach.ensures.reach
    ∙ stored s.set.reach s.samples (reach_within s.set c.reach.ensures.bounds) c.requires.ready.samples_few in
    let away = subst (λ at. meet (window_of (pos (s.set.reach + s.samples)) at) c.args.swept.rect ≡ false) c.site-at.ensures.site
    (subst (λ r. meet (window_of r c.site-at.result) c.args.swept.rect ≡ false) far (sym c.sees.ensures ∙ c.if-sees.false)) in
    RisesBy-zero _ _ _ (λ n below. fragment_untouched s c.args.swept c.args.number (0 + n) c.requires.ready (omega (arith, below, c.requires.sums.count))
    (unseen_fragment s.set s.samples (fragment_at s.fragments c.args.number) c.args.swept.rect away))
