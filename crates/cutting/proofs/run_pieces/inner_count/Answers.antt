-- The inner length has room for a piece.
use Rattle.std.proofs.Common.{◌/◌, ◌<◌, ◌≤◌, ◌+◌, w32, SFits, sym, ◌∙◌, ap, subst, rules}
use Rattle.std.specs.Int.RustNames.{unsigned_abs}
use Rattle.std.proofs.lemmas.Int.{to_z-of_z}
use Rattle.outline_model.specs.Lengths.{edge_length, inner_length}
use Rattle.cutting.proofs.LengthLaws.{inner_count_bound, inner_count_some}
use Rattle.cutting.proofs.run_pieces.inner_count.Goals as goal

pub returns-clause-count : goal.returns-clause-count
returns-clause-count c =
    let piece_fits : SFits w32 c.args.rules.now.piece = search rules in
    ap (λ n. n / c.unsigned_abs.result) c.inner_length.ensures
    ∙ ap (λ d. inner_length c.args.rules.now c.args.edge.now / d) (c.unsigned_abs.ensures.value ∙ ap unsigned_abs (to_z-of_z w32 c.args.rules.now.piece piece_fits))

pub returns-clause-some : goal.returns-clause-some
returns-clause-some c =
    let piece_fits : SFits w32 c.args.rules.now.piece = search rules in
    subst (λ n. 0 < n) (sym (ap (λ n. n / c.unsigned_abs.result) c.inner_length.ensures
    ∙ ap (λ d. inner_length c.args.rules.now c.args.edge.now / d) (c.unsigned_abs.ensures.value ∙ ap unsigned_abs (to_z-of_z w32 c.args.rules.now.piece piece_fits))))
    (inner_count_some c.args.rules.now c.args.edge.now c.requires.rules c.requires.cut)

pub returns-clause-bound : goal.returns-clause-bound
returns-clause-bound c =
    let piece_fits : SFits w32 c.args.rules.now.piece = search rules in
    subst (λ n. n + 2 ≤ edge_length c.args.edge.now) (sym (ap (λ n. n / c.unsigned_abs.result) c.inner_length.ensures
    ∙ ap (λ d. inner_length c.args.rules.now c.args.edge.now / d) (c.unsigned_abs.ensures.value ∙ ap unsigned_abs (to_z-of_z w32 c.args.rules.now.piece piece_fits))))
    (inner_count_bound c.args.rules.now c.args.edge.now c.requires.rules c.requires.cut)
