use Rattle.geometry_rows.proofs.CrossCorners.{are_corners}
use Rattle.geometry_rows.proofs.region_rows.the_corners_of_two_bars.Goals as goal

pub region_of-requires : goal.region_of-requires
region_of-requires g c = record { corners = are_corners }
