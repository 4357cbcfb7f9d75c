use Rattle.toml.specs.View.{table_view}
use Rattle.rule_file.proofs.KeyLaws.{first_fault_here, first_fault_past}
use Rattle.rule_file.proofs.check.first_fault.Goals as goal

pub returns-in-Some-clause-fault : goal.returns-in-Some-clause-fault
returns-in-Some-clause-fault c =
    first_fault_here (table_view c.args.table.now) c.loop-key.key-index _ c.in-Some.fault c.loop-key-test.true c.in-Some.ensures c.loop-key.invariant

pub loop-key-preserved : goal.loop-key-preserved
loop-key-preserved c =
    first_fault_past (table_view c.args.table.now) c.loop-key.key-index _ c.loop-key-test.true c.in-None.ensures c.loop-key.invariant
