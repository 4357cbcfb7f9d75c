-- The rectangles of a path (Stream Format Manual 6.0, PATH), in doubled coordinates, so that half a width is whole.
use Rattle.std.specs.Prelude.{ℤ, pos, ◌+ℤ◌, ◌-ℤ◌, ◌*ℤ◌, unsigned_abs, int_lt, Bool, true, false, ◌&&◌, List, [], ◌∷◌, filter, if◌then◌else◌}
use Rattle.std.specs.Ordering.{int_eq}
use Rattle.gds_model.specs.declared.position.Position.{Position}
use Rattle.gds_model.specs.declared.position.Direction.{Direction}
use Rattle.gds_model.specs.declared.position.Direction.TheVariants.{Right, Left, Up, Down}
use Rattle.gds_model.specs.declared.position.PathForm.{PathForm}
use Rattle.gds_model.specs.declared.position.DoubledRect.{DoubledRect}

abbrev pub is_same_point : Position → Position → Bool
is_same_point p q = int_eq p.x q.x && int_eq p.y q.y

-- the next point equals p
abbrev pub is_repeated : Position → List Position → Bool
is_repeated p [] = false
is_repeated p (q ∷ rest) = is_same_point p q

-- consecutive equal points made one
abbrev pub merged : List Position → List Position
merged [] = []
merged (p ∷ rest) = if is_repeated p rest then merged rest else p ∷ merged rest

-- the direction of a segment along an axis
abbrev pub direction_of : Position → Position → Direction
direction_of p q =
    if int_lt p.x q.x then Right else if int_lt q.x p.x then Left else if int_lt p.y q.y then Up else Down

abbrev pub is_same_direction : Direction → Direction → Bool
is_same_direction Right Right = true
is_same_direction Left Left = true
is_same_direction Up Up = true
is_same_direction Down Down = true
is_same_direction _ _ = false

-- q, after p, stands before a segment of the same direction
abbrev pub is_straight : Position → Position → List Position → Bool
is_straight p q [] = false
is_straight p q (r ∷ rest) = is_same_direction (direction_of p q) (direction_of q r)

-- what is left of the points that follow p
abbrev pub turns_after : Position → List Position → List Position
turns_after p [] = []
turns_after p (q ∷ rest) = if is_straight p q rest then turns_after q rest else q ∷ turns_after q rest

-- each point between two segments of the same direction taken away
abbrev pub straightened : List Position → List Position
straightened [] = []
straightened (p ∷ rest) = p ∷ turns_after p rest

-- ---- doubled extensions

-- twice half the width
abbrev pub full_width : PathForm → ℤ
full_width form = pos (unsigned_abs form.width)

-- beyond an end of the path, whose own extension is given
abbrev pub end_extension : PathForm → ℤ → ℤ
end_extension form own =
    if int_eq form.ends (pos 2) then full_width form
    else if int_eq form.ends (pos 4) then pos 2 *ℤ own
    else pos 0

-- beyond a point that these points follow
abbrev pub extension_before : PathForm → List Position → ℤ
extension_before form [] = end_extension form form.end
extension_before form (q ∷ rest) = full_width form

-- ---- rectangles

-- the segment from p to q in this direction, half the width to each side, extended at both ends
abbrev pub rect_along : Direction → ℤ → Position → ℤ → Position → ℤ → DoubledRect
rect_along Right width p before q after = record {
  x0 = pos 2 *ℤ p.x -ℤ before;
  y0 = pos 2 *ℤ p.y -ℤ width;
  x1 = pos 2 *ℤ q.x +ℤ after;
  y1 = pos 2 *ℤ p.y +ℤ width;
}
rect_along Left width p before q after = record {
  x0 = pos 2 *ℤ q.x -ℤ after;
  y0 = pos 2 *ℤ p.y -ℤ width;
  x1 = pos 2 *ℤ p.x +ℤ before;
  y1 = pos 2 *ℤ p.y +ℤ width;
}
rect_along Up width p before q after = record {
  x0 = pos 2 *ℤ p.x -ℤ width;
  y0 = pos 2 *ℤ p.y -ℤ before;
  x1 = pos 2 *ℤ p.x +ℤ width;
  y1 = pos 2 *ℤ q.y +ℤ after;
}
rect_along Down width p before q after = record {
  x0 = pos 2 *ℤ p.x -ℤ width;
  y0 = pos 2 *ℤ q.y -ℤ after;
  x1 = pos 2 *ℤ p.x +ℤ width;
  y1 = pos 2 *ℤ p.y +ℤ before;
}

abbrev pub segment_rect : ℤ → Position → ℤ → Position → ℤ → DoubledRect
segment_rect width p before q after = rect_along (direction_of p q) width p before q after

-- the rectangles of the segments from p on, p being extended by before
abbrev pub rects_from : PathForm → ℤ → Position → List Position → List DoubledRect
rects_from form before p [] = []
rects_from form before p (q ∷ rest) =
    segment_rect (full_width form) p before q (extension_before form rest)
    ∷ rects_from form (full_width form) q rest

abbrev pub has_area : DoubledRect → Bool
has_area r = int_lt r.x0 r.x1 && int_lt r.y0 r.y1

-- the rectangles of a path through points that are no more repeated or straight
abbrev pub rects_through : PathForm → List Position → List DoubledRect
rects_through form [] = []
rects_through form (p ∷ rest) = filter has_area (rects_from form (end_extension form form.begin) p rest)

-- the rectangles of a path
abbrev pub path_rects : PathForm → List Position → List DoubledRect
path_rects form points = rects_through form (straightened (merged points))
