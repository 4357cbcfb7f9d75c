-- The lengths of the pieces of an edge.
use Rattle.std.specs.Prelude.{ℕ, ◌+◌, ◌-◌, ◌/◌, ◌%◌, nat_lt, nat_le, ℤ, pos, ◌-ℤ◌, ◌≤ℤ◌, Bool, ◌&&◌, ◌||◌, if◌then◌else◌, List, [], ◌∷◌, ◌++◌, replicate}
use Rattle.std.specs.Int.RustNames.{unsigned_abs}
use Rattle.outline_model.specs.declared.edge.Edge.{Edge}
use Rattle.opc_base.specs.declared.rules.CutRules.{CutRules}

-- a length that a rule file may give
abbrev pub IsLength : ℤ → Type 0
IsLength z = (pos 1 ≤ℤ z) × (z ≤ℤ pos 4096)

pub record AreRules (rules : CutRules) : Type 0 where
  pub piece : IsLength rules.piece
  pub corner_out : IsLength rules.corner_out
  pub corner_in : IsLength rules.corner_in
  pub line_end : (pos 0 ≤ℤ rules.line_end) × (rules.line_end ≤ℤ pos 4096)

abbrev pub edge_length : Edge → ℕ
edge_length e = unsigned_abs (e.hi -ℤ e.lo)

-- the length of a piece at the end of an edge
abbrev pub end_length : CutRules → Bool → ℕ
end_length rules convex = unsigned_abs (if convex then rules.corner_out else rules.corner_in)

-- the edge is too short to be cut, or is the end of a line
abbrev pub is_whole : CutRules → Edge → Bool
is_whole rules e =
    nat_lt (edge_length e) (end_length rules e.low_convex + end_length rules e.high_convex + unsigned_abs rules.piece)
    || (nat_le (edge_length e) (unsigned_abs rules.line_end) && (e.low_convex && e.high_convex))

-- what is left between the pieces at the ends, and into how many pieces it is cut
abbrev pub inner_length : CutRules → Edge → ℕ
inner_length rules e = edge_length e - (end_length rules e.low_convex + end_length rules e.high_convex)

abbrev pub inner_count : CutRules → Edge → ℕ
inner_count rules e = inner_length rules e / unsigned_abs rules.piece

-- a length in so many parts, the first ones longer by one
abbrev pub parts : ℕ → ℕ → List ℕ
parts total count = replicate (total % count) (total / count + 1) ++ replicate (count - total % count) (total / count)

-- the lengths of the pieces from the low end on
unfoldable pub lengths : CutRules → Edge → List ℕ
lengths rules e =
    if is_whole rules e
    then edge_length e ∷ []
    else (end_length rules e.low_convex ∷ []) ++ (parts (inner_length rules e) (inner_count rules e) ++ (end_length rules e.high_convex ∷ []))
