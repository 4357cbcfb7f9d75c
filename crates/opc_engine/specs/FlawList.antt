-- The list of a check: a head line, a line for each flaw, and an end line. Each ends with a line feed; numbers are decimal,
-- negative ones with a minus.
use Rattle.std.specs.Prelude.{ℕ, Bool, true, false, List, [], ◌∷◌, ◌++◌, codes, count_by, flat_map}
use Rattle.std.specs.Fmt.{decimal, signed_decimal}
use Rattle.error_table.specs.Table.{line_of}
use Rattle.print_check.specs.declared.flaw.Flaw.{Flaw}
use Rattle.print_check.specs.declared.flaw.FlawKind.{FlawKind}
use Rattle.print_check.specs.declared.flaw.FlawKind.TheVariants.{Pinch, Bridge}
use Rattle.print_check.specs.declared.flaw.Line.{Line}
use Rattle.print_check.specs.declared.flaw.Line.TheVariants.{Row, Column}

abbrev pub kind_name : FlawKind → List ℕ
kind_name Pinch = codes "pinch"
kind_name Bridge = codes "bridge"

abbrev pub line_name : Line → List ℕ
line_name Row = codes "row"
line_name Column = codes "column"

-- the version of the list
abbrev pub print_line : List ℕ
print_line = line_of (codes "opc print 1" ∷ [])

-- a flaw: its row or column, the first place of its run, and one past the last
abbrev pub flaw_line : Flaw → List ℕ
flaw_line f =
    line_of
    (kind_name f.kind ∷ codes " " ∷ line_name f.line ∷ codes " " ∷ signed_decimal f.place ∷ codes " from "
    ∷ signed_decimal f.from ∷ codes " to " ∷ signed_decimal f.to ∷ [])

abbrev pub is_kind : FlawKind → FlawKind → Bool
is_kind Pinch Pinch = true
is_kind Pinch Bridge = false
is_kind Bridge Pinch = false
is_kind Bridge Bridge = true

-- how many of the flaws are of a kind
abbrev pub count_of : FlawKind → List Flaw → ℕ
count_of kind flaws = count_by (λ (f : Flaw). is_kind kind f.kind) flaws

abbrev pub counts_line : ℕ → ℕ → ℕ → List ℕ
counts_line rectangles pinches bridges =
    line_of
    (codes "end rectangles " ∷ decimal rectangles ∷ codes " pinches " ∷ decimal pinches ∷ codes " bridges " ∷ decimal bridges ∷ [])

-- the end: how many rectangles are printed, and how many flaws of each kind there are
abbrev pub counts_of_print : ℕ → List Flaw → List ℕ
counts_of_print rectangles flaws = counts_line rectangles (count_of Pinch flaws) (count_of Bridge flaws)

-- the whole list
abbrev pub flaw_list : ℕ → List Flaw → List ℕ
flaw_list rectangles flaws = (print_line ++ flat_map flaw_line flaws) ++ counts_of_print rectangles flaws
