use Rattle.optics_rows.proofs.images.image_from_tables.Given as goal

abbrev pub ghosts-lanes_at : goal.ghosts-lanes_at
ghosts-lanes_at a = record { name = a.blank.name; parts = a.blank.parts }
