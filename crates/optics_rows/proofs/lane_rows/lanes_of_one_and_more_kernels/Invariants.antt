use Rattle.optics_rows.proofs.lane_rows.lanes_of_one_and_more_kernels.Given as goal

abbrev pub ghosts-square_lanes : goal.ghosts-square_lanes
ghosts-square_lanes g a = record { name = a.blank.name; parts = a.blank.parts }
