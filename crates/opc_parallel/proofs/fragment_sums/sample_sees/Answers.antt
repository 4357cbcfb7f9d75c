use Rattle.std.proofs.Common.{◌≡◌, ◌≤◌, ℕ, pos, false, to_z, of_z, w32, sym, subst, ap, ◌∙◌, arith}
use Rattle.std.proofs.lemmas.Int.{ints}
use Rattle.opc_base.proofs.OpticsLaws.{reach_within}
use Rattle.tiles.specs.Meets.{meet}
use Rattle.opc_parallel.specs.Conditions.{IsUnseen, setting_of, window_of}
use Rattle.opc_parallel.proofs.fragment_sums.sample_sees.Goals as goal

stored : (n : ℕ) → n ≤ 64 → to_z w32 (of_z w32 (pos n)) ≡ pos n
stored n few = omega (arith, ints)

pub returns : goal.returns
returns c = record { unseen = λ missed. away missed }
  where
    away : c.sees.result ≡ false → IsUnseen (setting_of c.args.work.now) c.args.number c.args.sample c.args.rect.now
    away missed =
        let set = c.args.work.now.tables.now in
        let reach_is = ap (λ z. to_z w32 (of_z w32 z)) c.reach.ensures.reach ∙ stored set.reach (reach_within set c.reach.ensures.bounds) in
        subst (λ at. meet (window_of (pos set.reach) at) c.args.rect.now ≡ false) c.sample_site.ensures.site
        (subst (λ r. meet (window_of r c.sample_site.result) c.args.rect.now ≡ false) reach_is (sym c.sees.ensures ∙ missed))
