use Rattle.std.proofs.Common.{◌≡◌, List, ℕ, length, ◌+◌, ◌*◌, ◌++◌, ap, sym, ◌∙◌, subst, arith}
use Rattle.std.proofs.lemmas.Grind.{common_steps}
use Rattle.std.proofs.lemmas.Result.{on_ok_weaker}
use Rattle.gds_records.specs.Records.{StandsAt}
use Rattle.gds_records.specs.Written.{record_bytes}
use Rattle.gds_records.proofs.writing.put_record.Goals as goal
use Rattle.gds_records.proofs.WrittenLemmas.{written_last}

pub returns-clause-read_back : goal.returns-clause-read_back
returns-clause-read_back c =
    let written : c.write_u16.new.buf ++ c.args.body.now ≡ record_bytes c.args.kind c.args.data_type c.args.body.now = grind (arith, common_steps) in
    let P : List ℕ → Type 0 = λ l. StandsAt l (length c.args.out.now)
    (record { offset = length c.args.out.now; code = 256 * c.args.kind + c.args.data_type; body = c.args.body.now }) in
    on_ok_weaker c.append_both.result
    (λ e. subst P (sym (e ∙ ap (λ l. c.args.out.now ++ l) written))
    (written_last c.args.out.now c.args.kind c.args.data_type c.args.body.now c.requires.even)) c.append_both.ensures.appended
