use Rattle.opc_engine.proofs.assistance.assisted.Given as goal

abbrev pub ghosts-run_bars : goal.ghosts-run_bars
ghosts-run_bars g a = record { name = a.blank.name; parts = a.blank.parts }
