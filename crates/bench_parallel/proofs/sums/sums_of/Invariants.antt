use Rattle.bench_parallel.proofs.sums.sums_of.Given as goal

abbrev pub ghosts-counted_sums : goal.ghosts-counted_sums
ghosts-counted_sums g a = record { name = a.blank.name; parts = a.blank.parts }
