-- The lines of an error table. Each ends with a line feed; numbers are decimal, negative ones with a minus.
use Rattle.std.specs.Prelude.{ℕ, ℤ, Bool, if◌then◌else◌, List, [], ◌∷◌, ◌++◌, codes}
use Rattle.std.specs.Fmt.{decimal, signed_decimal}
use Rattle.opc_base.specs.declared.plane.Side.{Side}
use Rattle.opc_base.specs.declared.plane.Side.TheVariants.{Left, Right, Down, Up}
use Rattle.opc_base.specs.declared.broken.RuleName.{RuleName}
use Rattle.opc_base.specs.declared.broken.RuleName.TheVariants.{M0, M1, M2, M3, M4, M5}
use Rattle.opc_base.specs.declared.broken.Place.{Place}
use Rattle.opc_base.specs.declared.broken.Place.TheVariants.{Pixel, Fragment}
use Rattle.opc_base.specs.declared.moves.Move.{Move}
use Rattle.opc_base.specs.declared.moves.Moved.{Moved}
use Rattle.opc_base.specs.declared.moves.Moved.TheVariants.{Done, Refused}
use Rattle.opc_base.specs.declared.moves.RoundSummary.{RoundSummary}
use Rattle.opc_base.specs.declared.moves.Totals.{Totals}
use Rattle.error_table.specs.declared.fragment_line.FragmentLine.{FragmentLine}

-- a text, and a line, by its pieces
abbrev pub text_of : List (List ℕ) → List ℕ
text_of [] = []
text_of (piece ∷ pieces) = piece ++ text_of pieces

abbrev pub line_of : List (List ℕ) → List ℕ
line_of [] = 10 ∷ []
line_of (piece ∷ pieces) = piece ++ line_of pieces

-- the version of the table
abbrev pub version_line : List ℕ
version_line = line_of (codes "opc table 2" ∷ [])

-- what the table is of: fragments, kernels and their reach, samples on each side of an edge, threshold
abbrev pub counts_line : ℕ → ℕ → ℕ → ℤ → ℤ → List ℕ
counts_line fragments kernels reach samples threshold =
    line_of
    (codes "fragments " ∷ decimal fragments ∷ codes " kernels " ∷ decimal kernels ∷ codes " reach " ∷ decimal reach
    ∷ codes " samples " ∷ signed_decimal samples ∷ codes " threshold " ∷ signed_decimal threshold ∷ [])

-- a round, with the errors at its start in sixteenths of a pixel
abbrev pub round_line : ℕ → RoundSummary → List ℕ
round_line number summary =
    line_of
    (codes "round " ∷ decimal number ∷ codes " worst " ∷ signed_decimal summary.worst ∷ codes " total "
    ∷ signed_decimal summary.total ∷ codes " moved " ∷ decimal summary.moved ∷ [])

abbrev pub rule_name : RuleName → List ℕ
rule_name M0 = codes "M0"
rule_name M1 = codes "M1"
rule_name M2 = codes "M2"
rule_name M3 = codes "M3"
rule_name M4 = codes "M4"
rule_name M5 = codes "M5"

-- where a rule is broken
abbrev pub place_pieces : Place → List (List ℕ)
place_pieces (Pixel p) = codes " at " ∷ signed_decimal p.x ∷ codes " " ∷ signed_decimal p.y ∷ []
place_pieces (Fragment number) = codes " fragment " ∷ decimal number ∷ []

-- the answer to a move
abbrev pub moved_pieces : Moved → List (List ℕ)
moved_pieces Done = codes " done" ∷ []
moved_pieces (Refused broken) = codes " refused " ∷ rule_name broken.rule ∷ place_pieces broken.at

-- a move and its answer
abbrev pub move_line : Move → Moved → List ℕ
move_line move moved =
    line_of (codes "move " ∷ decimal move.fragment ∷ codes " " ∷ signed_decimal move.delta ∷ moved_pieces moved)

abbrev pub side_name : Side → List ℕ
side_name Left = codes "left"
side_name Right = codes "right"
side_name Down = codes "down"
side_name Up = codes "up"

-- which fragment it is, and its line and ends
abbrev pub lies_text : FragmentLine → List ℕ
lies_text f =
    text_of
    (codes "fragment " ∷ decimal f.number ∷ codes " " ∷ side_name f.side ∷ codes " line " ∷ signed_decimal f.line
    ∷ codes " from " ∷ signed_decimal f.from ∷ codes " to " ∷ signed_decimal f.to ∷ codes " " ∷ [])

-- a fragment: where it lies, its offset, the intensities beside the edge, and the error in sixteenths of a pixel
abbrev pub fragment_line : FragmentLine → List ℕ
fragment_line f =
    line_of
    (lies_text f ∷ codes "offset " ∷ signed_decimal f.offset ∷ codes " inside " ∷ signed_decimal f.inside
    ∷ codes " outside " ∷ signed_decimal f.outside ∷ codes " error " ∷ signed_decimal f.error ∷ [])

abbrev pub settled_text : Bool → List ℕ
settled_text settled = if settled then codes "yes" else codes "no"

-- the end: the errors of the final mask in sixteenths of a pixel, whether they are settled, and the mask's rectangles
abbrev pub end_line : Totals → Bool → ℕ → List ℕ
end_line totals settled rectangles =
    line_of
    (codes "end worst " ∷ signed_decimal totals.worst ∷ codes " total " ∷ signed_decimal totals.total ∷ codes " settled "
    ∷ settled_text settled ∷ codes " rectangles " ∷ decimal rectangles ∷ [])
