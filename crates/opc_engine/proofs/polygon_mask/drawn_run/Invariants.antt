use Rattle.opc_engine.proofs.polygon_mask.drawn_run.Given as goal

abbrev pub ghosts-run : goal.ghosts-run
ghosts-run g a = record { name = a.blank.name; parts = a.blank.parts }
