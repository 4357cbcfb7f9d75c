-- The signed corners of vertical pieces: where a piece is walked downward it opens the mask to its right.
use Rattle.std.specs.Prelude.{ℕ, zero, suc, ℤ, pos, negsuc, List, [], ◌∷◌, ◌++◌}
use Rattle.opc_base.specs.declared.plane.Corner.{Corner}
use Rattle.outline_model.specs.declared.fragment.Fragment.{Fragment}
use Rattle.outline_model.specs.Outline.{Piece, vertical_piece}

-- 1 at the end of the piece, and -1 at its start
abbrev pub piece_corners : Piece → List Corner
piece_corners piece =
    record { x = piece.from.x; y = piece.to.y; sign = pos 1 } ∷ record { x = piece.from.x; y = piece.from.y; sign = negsuc 0 } ∷ []

-- those of the first n fragments
abbrev pub outline_corners : List Fragment → (ℕ → ℤ) → ℕ → List Corner
outline_corners fs line zero = []
outline_corners fs line (suc n) = outline_corners fs line n ++ piece_corners (vertical_piece fs line n)
