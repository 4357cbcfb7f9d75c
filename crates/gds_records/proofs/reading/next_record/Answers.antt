use Rattle.std.proofs.Common.{arith}
use Rattle.std.proofs.lemmas.Grind.{common_steps}
use Rattle.gds_records.proofs.reading.next_record.Goals as goal

pub returns-else-rest-length : goal.returns-else-rest-length
returns-else-rest-length c = record {
  header = grind (arith, common_steps);
  even_length = grind (arith, common_steps);
  long = grind (arith, common_steps);
  fits = grind (arith, common_steps);
  offset = grind (arith, common_steps);
  code = grind (arith, common_steps);
  body = grind (arith, common_steps);
}
