use Rattle.prefix_tables.proofs.tests.real_block.Given as goal

abbrev pub ghosts-counted_block : goal.ghosts-counted_block
ghosts-counted_block a = record { name = a.blank.name; parts = a.blank.parts }
