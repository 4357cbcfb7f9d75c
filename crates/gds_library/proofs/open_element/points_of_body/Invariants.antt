use Rattle.std.proofs.Common.{◌≡◌, map}
use Rattle.std.specs.List.{range_with_len}
use Rattle.gds_records.specs.Points.{point_in}
use Rattle.gds_library.proofs.open_element.points_of_body.Given as goal

abbrev pub invariant-loop-i : goal.invariant-loop-i
invariant-loop-i l = l.points.items ≡ map (λ i. point_in l.body i) (range_with_len 0 l.i)
