-- The table of a correction with scatter bars. Each line ends with a line feed; numbers are decimal, negative ones with a
-- minus.
use Rattle.std.specs.Prelude.{ℕ, pos, Bool, false, List, [], ◌∷◌, ◌++◌, codes, length, get_or}
use Rattle.std.specs.Fmt.{decimal, signed_decimal}
use Rattle.error_table.specs.Table.{counts_line, end_line, line_of, settled_text, text_of}
use Rattle.opc_base.specs.Plane.{PixelSet}
use Rattle.opc_base.specs.declared.moves.Totals.{Totals}
use Rattle.opc_base.specs.declared.plane.Rect.{Rect}
use Rattle.opc_session.specs.Errors.{greatest_size, sum_of_sizes}
use Rattle.opc_session.specs.Sessions.{SessionValue}
use Rattle.opc_engine.specs.BarRuns.{bar_at, own_error}
use Rattle.opc_engine.specs.ErrorTable.{texts_of}
use Rattle.opc_engine.specs.Runs.{Counted, is_settled_by}

abbrev pub assist_line : List ℕ
assist_line = line_of (codes "opc assist 1" ∷ [])

-- the left, low, right and high side of a rectangle
abbrev pub rect_text : Rect → List ℕ
rect_text r =
    text_of
    (signed_decimal r.x0 ∷ codes " " ∷ signed_decimal r.y0 ∷ codes " " ∷ signed_decimal r.x1 ∷ codes " " ∷ signed_decimal r.y1 ∷ [])

-- a bar: its number, from 0, its rectangle, and whether it prints
abbrev pub bar_line : ℕ → Rect → Bool → List ℕ
bar_line number r printed =
    line_of (codes "bar " ∷ decimal number ∷ codes " " ∷ rect_text r ∷ codes " printed " ∷ settled_text printed ∷ [])

abbrev pub bar_lines : List Rect → List Bool → List ℕ
bar_lines bars flags = texts_of (λ k. bar_line k (bar_at bars k) (get_or flags k false)) (length bars)

-- the version, and the counts of all fragments and of the kernels
unfoldable pub bar_head : SessionValue → List ℕ
bar_head s = assist_line ++ counts_line (length s.fragments) (length s.set.kernels) s.set.reach s.rules.site.samples s.rules.site.threshold

-- the greatest size and the sum of sizes of errors
abbrev pub totals_by : Counted → SessionValue → Totals
totals_by error s = record {
  worst = pos (greatest_size (error s) (length s.fragments));
  total = pos (sum_of_sizes (error s) (length s.fragments));
}

-- the last line, with the errors of the target's fragments and the number of the mask's rectangles
unfoldable pub bar_end : PixelSet → SessionValue → ℕ → List ℕ
bar_end target s rectangles = end_line (totals_by (own_error target) s) (is_settled_by (own_error target) s) rectangles

-- the whole table; `rounds` are the lines of the rounds
unfoldable pub bar_table : PixelSet → SessionValue → List ℕ → List Rect → List Bool → ℕ → List ℕ
bar_table target s rounds bars flags rectangles = ((bar_head s ++ rounds) ++ bar_lines bars flags) ++ bar_end target s rectangles
