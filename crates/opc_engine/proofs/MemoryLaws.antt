-- A wrapped fault is never the lower want of memory.
use Rattle.kernel_file.specs.declared.fault.KernelFault.{KernelFault}
use Rattle.kernel_file.specs.declared.fault.KernelFault.TheVariants as kernel
use Rattle.gds_model.specs.declared.layout_fault.LayoutFault.{LayoutFault}
use Rattle.gds_model.specs.declared.layout_fault.LayoutFault.TheVariants as layout
use Rattle.gds_model.specs.declared.place_fault.PlaceFault.{PlaceFault}
use Rattle.gds_model.specs.declared.place_fault.PlaceFault.TheVariants as place
use Rattle.rect_union.specs.declared.target.UnionFault.{UnionFault}
use Rattle.rect_union.specs.declared.target.UnionFault.TheVariants as union
use Rattle.rule_file.specs.declared.fault.RuleFault.{RuleFault}
use Rattle.rule_file.specs.declared.fault.RuleFault.TheVariants as rules
use Rattle.rule_file.specs.declared.fault.MoveFault.{MoveFault}
use Rattle.rule_file.specs.declared.fault.MoveFault.TheVariants as moves
use Rattle.cutting.specs.declared.region_pieces.CutFault.{CutFault}
use Rattle.cutting.specs.declared.region_pieces.CutFault.TheVariants as cut
use Rattle.opc_engine.specs.Wrapped.{HidesNoMemory, wrapped_cut, wrapped_kernels, wrapped_layout, wrapped_moves, wrapped_place, wrapped_rules, wrapped_union}

pub kernels_hide_nothing : (fault : KernelFault) → ¬ HidesNoMemory (wrapped_kernels fault)
kernels_hide_nothing kernel.NoMemory hides = hides
kernels_hide_nothing kernel.BadMagic hides = cc
kernels_hide_nothing kernel.WrongLength hides = cc
kernels_hide_nothing kernel.BadCount hides = cc
kernels_hide_nothing kernel.BadReach hides = cc
kernels_hide_nothing (kernel.BadTransmission offset) hides = cc
kernels_hide_nothing (kernel.BadWeight number) hides = cc
kernels_hide_nothing (kernel.BadEntry offset) hides = cc
kernels_hide_nothing kernel.WeightSum hides = cc

pub layout_hides_nothing : (fault : LayoutFault) → ¬ HidesNoMemory (wrapped_layout fault)
layout_hides_nothing layout.NoMemory hides = hides
layout_hides_nothing (layout.Cut offset) hides = cc
layout_hides_nothing (layout.BadLength offset) hides = cc
layout_hides_nothing (layout.Unexpected offset kind) hides = cc
layout_hides_nothing (layout.TooManyStructures offset) hides = cc
layout_hides_nothing (layout.BadBody offset) hides = cc
layout_hides_nothing (layout.Duplicate offset) hides = cc
layout_hides_nothing (layout.Trailing offset) hides = cc

pub place_hides_nothing : (fault : PlaceFault) → ¬ HidesNoMemory (wrapped_place fault)
place_hides_nothing place.NoMemory hides = hides
place_hides_nothing place.NoTop hides = cc
place_hides_nothing (place.Missing offset) hides = cc
place_hides_nothing (place.BadMag offset) hides = cc
place_hides_nothing (place.BadAngle offset) hides = cc
place_hides_nothing (place.BadArray offset) hides = cc
place_hides_nothing (place.Cycle number) hides = cc
place_hides_nothing (place.TooManyPoints count) hides = cc
place_hides_nothing (place.NotClosed offset) hides = cc
place_hides_nothing (place.NotRectilinear offset) hides = cc
place_hides_nothing (place.RoundPath offset) hides = cc
place_hides_nothing (place.OffGrid offset) hides = cc
place_hides_nothing (place.OutOfRange offset) hides = cc

pub union_hides_nothing : (fault : UnionFault) → ¬ HidesNoMemory (wrapped_union fault)
union_hides_nothing union.NoMemory hides = hides
union_hides_nothing union.TooManyCorners hides = hides

pub rules_hide_nothing : (fault : RuleFault) → ¬ HidesNoMemory (wrapped_rules fault)
rules_hide_nothing rules.NoMemory hides = hides
rules_hide_nothing rules.NotToml hides = cc
rules_hide_nothing rules.Unknown hides = cc
rules_hide_nothing (rules.MissingKey key) hides = cc
rules_hide_nothing (rules.WrongType key) hides = cc
rules_hide_nothing (rules.OutOfRange key) hides = cc

pub cut_hides_nothing : (fault : CutFault) → ¬ HidesNoMemory (wrapped_cut fault)
cut_hides_nothing cut.NoMemory hides = hides
cut_hides_nothing (cut.TooManyFragments count) hides = hides

pub moves_hide_nothing : (fault : MoveFault) → ¬ HidesNoMemory (wrapped_moves fault)
moves_hide_nothing moves.NoMemory hides = hides
moves_hide_nothing (moves.BadLine line) hides = cc
