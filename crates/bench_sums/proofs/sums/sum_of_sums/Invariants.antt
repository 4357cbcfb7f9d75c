use Rattle.bench_sums.proofs.sums.sum_of_sums.Given as goal

abbrev pub ghosts-add_all : goal.ghosts-add_all
ghosts-add_all a = record { name = a.blank.name; parts = a.blank.parts }
