-- The scatter bars of a target, and the rules that they keep.
use Rattle.std.specs.Prelude.{◌≡◌, ◌⊎◌, ℤ, pos, negsuc, ◌+ℤ◌, ◌-ℤ◌, ◌≤ℤ◌, Bool, true, false, List, [], ◌∷◌, ◌++◌}
use Rattle.opc_base.specs.declared.plane.Rect.{Rect}
use Rattle.opc_base.specs.declared.plane.Side.{Side}
use Rattle.opc_base.specs.declared.plane.Side.TheVariants.{Left, Right, Down, Up}
use Rattle.opc_base.specs.declared.rules.CutRules.{CutRules}
use Rattle.opc_base.specs.declared.rules.MaskRules.{MaskRules}
use Rattle.opc_base.specs.Plane.{IsRectWithin, PixelSet, cover, rect_cover}
use Rattle.opc_base.specs.Ranges.{IsBetween}
use Rattle.outline_model.specs.declared.edge.Edge.{Edge}
use Rattle.outline_model.specs.declared.fragment.Fragment.{Fragment}
use Rattle.outline_model.specs.Edges.{AreEdges}
use Rattle.outline_model.specs.Fragmentation.{AreFragments}
use Rattle.outline_model.specs.Outline.{site_of}
use Rattle.assist_bars.specs.declared.bar_rules.BarRules.{BarRules}

-- the numbers of the bars are in their ranges
pub record AreBarRules (bars : BarRules) : Type 0 where
  pub gap : IsBetween (pos 1) (pos 1024) bars.gap
  pub width : IsBetween (pos 1) (pos 1024) bars.width
  pub end : IsBetween (pos 0) (pos 1024) bars.end
  pub min : IsBetween (pos 1) (pos 4096) bars.min

-- bars are as far from their edges, as wide and as long as the mask rules want
pub record SuitMask (rules : MaskRules) (bars : BarRules) : Type 0 where
  pub gap : rules.space ≤ℤ bars.gap
  pub width : rules.width ≤ℤ bars.width
  pub min : rules.width ≤ℤ (bars.min -ℤ bars.end -ℤ bars.end)

-- these are the fragments of the region, cut by some rules
abbrev pub IsCutOf : List Rect → List Fragment → Type 0
IsCutOf region fragments = (rules : CutRules) × AreFragments (cover region) rules fragments

-- from the gap outward of an edge on its side, as wide as bars are, between these places along it
abbrev pub beside : Side → ℤ → ℤ → ℤ → ℤ → ℤ → Rect
beside Left line near far lo hi = record { x0 = line -ℤ far; y0 = lo; x1 = line -ℤ near; y1 = hi }
beside Right line near far lo hi = record { x0 = line +ℤ near; y0 = lo; x1 = line +ℤ far; y1 = hi }
beside Down line near far lo hi = record { x0 = lo; y0 = line -ℤ far; x1 = hi; y1 = line -ℤ near }
beside Up line near far lo hi = record { x0 = lo; y0 = line +ℤ near; x1 = hi; y1 = line +ℤ far }

-- the rectangle that an edge proposes: along it, without some pixels at both ends
abbrev pub proposed : BarRules → Edge → Rect
proposed bars e = beside e.side e.line bars.gap (bars.gap +ℤ bars.width) (e.lo +ℤ bars.end) (e.hi -ℤ bars.end)

-- greater by a margin on each side
abbrev pub grown : ℤ → Rect → Rect
grown margin r = record { x0 = r.x0 -ℤ margin; y0 = r.y0 -ℤ margin; x1 = r.x1 +ℤ margin; y1 = r.y1 +ℤ margin }

-- no pixel of the rectangle is in the set
abbrev pub IsClearOf : PixelSet → Rect → Type 0
IsClearOf pixels r = (x y : ℤ) → rect_cover r x y ≡ true → pixels x y ≡ false

-- the edge's proposal is kept: the edge is long, and the proposal within the limit and with the space of the rules from
-- the target and from the bars before it
pub record IsBar (rules : MaskRules) (bars : BarRules) (pixels : PixelSet) (earlier : List Rect) (e : Edge) : Type 0 where
  pub long : bars.min ≤ℤ (e.hi -ℤ e.lo)
  pub within : IsRectWithin 1048000 (proposed bars e)
  pub clear : IsClearOf pixels (grown rules.space (proposed bars e))
  pub free : IsClearOf (cover earlier) (grown rules.space (proposed bars e))

-- after the earlier bars, the edges one after another add theirs
abbrev pub AddBars : MaskRules → BarRules → PixelSet → List Rect → List Edge → List Rect → Type 0
AddBars rules bars pixels earlier [] all = all ≡ earlier
AddBars rules bars pixels earlier (e ∷ edges) all =
    (IsBar rules bars pixels earlier e × AddBars rules bars pixels (earlier ++ proposed bars e ∷ []) edges all)
    ⊎ ((¬ IsBar rules bars pixels earlier e) × AddBars rules bars pixels earlier edges all)

-- the bars of a target: what its edges add in their order
abbrev pub AreBars : MaskRules → BarRules → PixelSet → List Rect → Type 0
AreBars rules bars pixels all = (edges : List Edge) × AreEdges pixels edges × AddBars rules bars pixels [] edges all

-- a fragment of a target with its bars is the target's own: its sample -1 is a pixel of the target
abbrev pub is_own : PixelSet → Fragment → Bool
is_own target f = target (site_of f (negsuc 0)).x (site_of f (negsuc 0)).y

-- its bars by some rules
pub record AreSomeBars (pixels : PixelSet) (all : List Rect) : Type 0 where
  pub rules : MaskRules
  pub bars : BarRules
  pub numbers : AreBarRules bars
  pub suited : SuitMask rules bars
  pub are : AreBars rules bars pixels all
