use Rattle.opc_parallel.proofs.parts.run_part.Given as goal

abbrev pub ghosts-apply_tiles : goal.ghosts-apply_tiles
ghosts-apply_tiles a = record { name = a.blank.name; parts = a.blank.parts }
