-- How long edges and their pieces are.
use Rattle.std.specs.Prelude.{◌≡◌, ◌⊎◌, ℕ, ◌+◌, ◌*◌, ◌<◌, pos, ◌+ℤ◌, ◌<ℤ◌, true, false, if◌then◌else◌, List, length}
use Rattle.std.specs.Int.RustNames.{unsigned_abs}
use Rattle.outline_model.specs.Outline.{is_vertical}
use Rattle.outline_model.specs.Edges.{EdgePrecedes, edge_at}
use Rattle.outline_model.specs.declared.edge.Edge.{Edge}
use Rattle.outline_model.specs.Ranges.{IsInLayout}

-- an edge of some length within the limit of a layout
pub record IsCuttable (e : Edge) : Type 0 where
  pub some : e.lo <ℤ e.hi
  pub line : IsInLayout e.line
  pub low : IsInLayout e.lo
  pub high : IsInLayout e.hi

-- vertical edges before horizontal ones, by their lines, and on a line from the low end
abbrev pub Leads : Edge → Edge → Type 0
Leads e f =
    ((is_vertical e.side ≡ true) × (is_vertical f.side ≡ false))
    ⊎ ((is_vertical e.side ≡ is_vertical f.side) × EdgePrecedes e f)

abbrev pub AreSorted : List Edge → Type 0
AreSorted es = (k : ℕ) → k + 1 < length es → Leads (edge_at es k) (edge_at es (k + 1))

-- how far along all lines an edge reaches
unfoldable pub reach : Edge → ℕ
reach e =
    (if is_vertical e.side then 0 else 8796093022208)
    + 2096001 * unsigned_abs (e.line +ℤ pos 1048000) + unsigned_abs (e.hi +ℤ pos 1048000)
