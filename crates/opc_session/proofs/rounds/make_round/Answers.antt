use Rattle.std.proofs.Common.{◌≡◌, ℕ, ◌<◌, pos, SFits, w32, w64, length, get_or, ap, ◌∙◌, rules, arith}
use Rattle.std.proofs.lemmas.Int.{to_z-of_z}
use Rattle.outline_model.specs.Outline.{fragment_at, lines, mask}
use Rattle.opc_session.specs.Errors.{error_under, greatest_size, sum_of_sizes}
use Rattle.opc_session.proofs.SweepLaws.{TakeSteps-same, greatest_size-same, sum_of_sizes-same}
use Rattle.opc_session.proofs.rounds.make_round.Goals as goal

pub find_errors-requires-clause-holds : goal.find_errors-requires-clause-holds
find_errors-requires-clause-holds g c κs within = record { pixels = mask c.args.scene.now.fragments (lines c.args.scene.now.fragments c.args.offsets.now); holds = c.requires.stands.holds }

pub totals_of-totals-requires-clause-few : goal.totals_of-totals-requires-clause-few
totals_of-totals-requires-clause-few g c = omega (arith, c.find_errors.auto.errors, c.requires.room, c.know_tiles.ensures.few)

pub totals_of-totals-requires-clause-small : goal.totals_of-totals-requires-clause-small
totals_of-totals-requires-clause-small g c i below = c.find_errors.ensures.small i (omega (arith, below, c.find_errors.auto.errors, c.requires.room))

pub make_steps-moved-requires-clause-errors : goal.make_steps-moved-requires-clause-errors
make_steps-moved-requires-clause-errors g c κs within = c.find_errors.auto.errors ∙ c.requires.room

pub make_steps-moved-requires-clause-small : goal.make_steps-moved-requires-clause-small
make_steps-moved-requires-clause-small g c κs within i below = c.find_errors.ensures.small i (omega (arith, below, c.find_errors.auto.errors, c.requires.room))

pub returns-clause-made : goal.returns-clause-made
returns-clause-made g c =
    let p = c.args.scene.now in
    let pixels = mask p.fragments (lines p.fragments c.args.offsets.now) in
    let same : (i : ℕ) → i < length p.fragments → get_or c.find_errors.new.errors i (pos 0) ≡ error_under p.set p.rules.site (fragment_at p.fragments i) (mask p.fragments (lines p.fragments c.args.offsets.now)) =
    λ i below. c.find_errors.ensures.errors (mask p.fragments (lines p.fragments c.args.offsets.now)) i c.requires.stands.holds below in
    let count : length c.find_errors.new.errors ≡ length p.fragments = c.find_errors.auto.errors ∙ c.requires.room in
    let fits_worst : SFits w32 c.totals_of-totals.result.worst = search rules in
    let fits_total : SFits w64 c.totals_of-totals.result.total = search rules in
    let worst = to_z-of_z w32 c.totals_of-totals.result.worst fits_worst in
    let total = to_z-of_z w64 c.totals_of-totals.result.total fits_total in
    let made = c.make_steps-moved.ensures.made in
    record {
      sweeps = made.sweeps;
      taken = TakeSteps-same p.rules.mask p.rules.mover p.fragments _ _ c.args.offsets.now (length p.fragments) c.make_steps-moved.new.offsets made.sweeps same made.taken;
      summary_is = record {
        worst = worst ∙ c.totals_of-totals.ensures.worst ∙ ap (λ n. pos (greatest_size (λ i. get_or c.find_errors.new.errors i (pos 0)) n)) count ∙ ap pos (greatest_size-same _ _ (length p.fragments) same);
        total = total ∙ c.totals_of-totals.ensures.total ∙ ap (λ n. pos (sum_of_sizes (λ i. get_or c.find_errors.new.errors i (pos 0)) n)) count ∙ ap pos (sum_of_sizes-same _ _ (length p.fragments) same);
        moved = made.count;
      };
      cost = made.cost;
    }
