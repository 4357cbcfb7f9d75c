-- Lower faults as faults of a command: want of memory is one value from bottom to top.
use Rattle.std.specs.Prelude.{◌≡◌}
use Rattle.kernel_file.specs.declared.fault.KernelFault.{KernelFault}
use Rattle.kernel_file.specs.declared.fault.KernelFault.TheVariants as kernel
use Rattle.gds_model.specs.declared.layout_fault.LayoutFault.{LayoutFault}
use Rattle.gds_model.specs.declared.layout_fault.LayoutFault.TheVariants as layout
use Rattle.gds_model.specs.declared.place_fault.PlaceFault.{PlaceFault}
use Rattle.gds_model.specs.declared.place_fault.PlaceFault.TheVariants as place
use Rattle.rect_union.specs.declared.target.UnionFault.{UnionFault}
use Rattle.rect_union.specs.declared.target.UnionFault.TheVariants as union
use Rattle.rule_file.specs.declared.fault.RuleFault.{RuleFault}
use Rattle.rule_file.specs.declared.fault.RuleFault.TheVariants as rules
use Rattle.rule_file.specs.declared.fault.MoveFault.{MoveFault}
use Rattle.rule_file.specs.declared.fault.MoveFault.TheVariants as moves
use Rattle.cutting.specs.declared.region_pieces.CutFault.{CutFault}
use Rattle.cutting.specs.declared.region_pieces.CutFault.TheVariants as cut
use Rattle.opc_engine.specs.declared.fault.EngineFault.{EngineFault}
use Rattle.opc_engine.specs.declared.fault.EngineFault.TheVariants.{Rules, Kernels, Layout, Place, TooManyCorners, TooManyFragments, Moves, NoMemory}

abbrev pub wrapped_kernels : KernelFault → EngineFault
wrapped_kernels kernel.NoMemory = NoMemory
wrapped_kernels kernel.BadMagic = Kernels kernel.BadMagic
wrapped_kernels kernel.WrongLength = Kernels kernel.WrongLength
wrapped_kernels kernel.BadCount = Kernels kernel.BadCount
wrapped_kernels kernel.BadReach = Kernels kernel.BadReach
wrapped_kernels (kernel.BadTransmission offset) = Kernels (kernel.BadTransmission offset)
wrapped_kernels (kernel.BadWeight number) = Kernels (kernel.BadWeight number)
wrapped_kernels (kernel.BadEntry offset) = Kernels (kernel.BadEntry offset)
wrapped_kernels kernel.WeightSum = Kernels kernel.WeightSum

abbrev pub wrapped_layout : LayoutFault → EngineFault
wrapped_layout layout.NoMemory = NoMemory
wrapped_layout (layout.Cut offset) = Layout (layout.Cut offset)
wrapped_layout (layout.BadLength offset) = Layout (layout.BadLength offset)
wrapped_layout (layout.Unexpected offset kind) = Layout (layout.Unexpected offset kind)
wrapped_layout (layout.TooManyStructures offset) = Layout (layout.TooManyStructures offset)
wrapped_layout (layout.BadBody offset) = Layout (layout.BadBody offset)
wrapped_layout (layout.Duplicate offset) = Layout (layout.Duplicate offset)
wrapped_layout (layout.Trailing offset) = Layout (layout.Trailing offset)

abbrev pub wrapped_place : PlaceFault → EngineFault
wrapped_place place.NoMemory = NoMemory
wrapped_place place.NoTop = Place place.NoTop
wrapped_place (place.Missing offset) = Place (place.Missing offset)
wrapped_place (place.BadMag offset) = Place (place.BadMag offset)
wrapped_place (place.BadAngle offset) = Place (place.BadAngle offset)
wrapped_place (place.BadArray offset) = Place (place.BadArray offset)
wrapped_place (place.Cycle number) = Place (place.Cycle number)
wrapped_place (place.TooManyPoints count) = Place (place.TooManyPoints count)
wrapped_place (place.NotClosed offset) = Place (place.NotClosed offset)
wrapped_place (place.NotRectilinear offset) = Place (place.NotRectilinear offset)
wrapped_place (place.RoundPath offset) = Place (place.RoundPath offset)
wrapped_place (place.OffGrid offset) = Place (place.OffGrid offset)
wrapped_place (place.OutOfRange offset) = Place (place.OutOfRange offset)

abbrev pub wrapped_union : UnionFault → EngineFault
wrapped_union union.TooManyCorners = TooManyCorners
wrapped_union union.NoMemory = NoMemory

abbrev pub wrapped_rules : RuleFault → EngineFault
wrapped_rules rules.NoMemory = NoMemory
wrapped_rules rules.NotToml = Rules rules.NotToml
wrapped_rules rules.Unknown = Rules rules.Unknown
wrapped_rules (rules.MissingKey key) = Rules (rules.MissingKey key)
wrapped_rules (rules.WrongType key) = Rules (rules.WrongType key)
wrapped_rules (rules.OutOfRange key) = Rules (rules.OutOfRange key)

abbrev pub wrapped_cut : CutFault → EngineFault
wrapped_cut cut.NoMemory = NoMemory
wrapped_cut (cut.TooManyFragments count) = TooManyFragments count

abbrev pub wrapped_moves : MoveFault → EngineFault
wrapped_moves moves.NoMemory = NoMemory
wrapped_moves (moves.BadLine line) = Moves (moves.BadLine line)

-- a cause in whose place stands a lower want of memory
abbrev pub HidesNoMemory : EngineFault → Type 0
HidesNoMemory (Rules fault) = fault ≡ rules.NoMemory
HidesNoMemory (Kernels fault) = fault ≡ kernel.NoMemory
HidesNoMemory (Layout fault) = fault ≡ layout.NoMemory
HidesNoMemory (Place fault) = fault ≡ place.NoMemory
HidesNoMemory (Moves fault) = fault ≡ moves.NoMemory
HidesNoMemory fault = ⊥
