-- The status and the line of each fault of the engine.
use Rattle.std.specs.Prelude.{ℕ, List, [], ◌∷◌, ◌++◌, codes}
use Rattle.std.specs.Fmt.{decimal}
use Rattle.kernel_file.specs.declared.fault.KernelFault.{KernelFault}
use Rattle.kernel_file.specs.declared.fault.KernelFault.TheVariants as kernel
use Rattle.gds_model.specs.declared.layout_fault.LayoutFault.{LayoutFault}
use Rattle.gds_model.specs.declared.layout_fault.LayoutFault.TheVariants as layout
use Rattle.gds_model.specs.declared.place_fault.PlaceFault.{PlaceFault}
use Rattle.gds_model.specs.declared.place_fault.PlaceFault.TheVariants as place
use Rattle.rule_file.specs.Keys.{name_of}
use Rattle.rule_file.specs.declared.fault.RuleFault.{RuleFault}
use Rattle.rule_file.specs.declared.fault.RuleFault.TheVariants as rules
use Rattle.rule_file.specs.declared.fault.MoveFault.{MoveFault}
use Rattle.rule_file.specs.declared.fault.MoveFault.TheVariants as moves
use Rattle.error_table.specs.Table.{line_of, place_pieces, rule_name}
use Rattle.opc_engine.specs.declared.bar_key.BarKey.{BarKey}
use Rattle.opc_engine.specs.declared.bar_key.BarKey.TheVariants as bar
use Rattle.opc_engine.specs.declared.ask.Which.{Which}
use Rattle.opc_engine.specs.declared.ask.Which.TheVariants as which
use Rattle.opc_engine.specs.declared.fault.EngineFault.{EngineFault}
use Rattle.opc_engine.specs.declared.fault.EngineFault.TheVariants as engine

-- the status of a fault of this file
abbrev pub status_of_which : Which → ℕ
status_of_which which.Layout = 5
status_of_which which.Kernels = 6
status_of_which which.Rules = 7
status_of_which which.Moves = 8

abbrev pub status_of_fault : EngineFault → ℕ
status_of_fault (engine.TooLong file) = status_of_which file
status_of_fault (engine.Rules fault) = 7
status_of_fault (engine.BadBars key) = 7
status_of_fault (engine.Kernels fault) = 6
status_of_fault (engine.Layout fault) = 5
status_of_fault (engine.Place fault) = 5
status_of_fault engine.TooManyCorners = 5
status_of_fault (engine.Target broken) = 9
status_of_fault (engine.TooManyFragments count) = 5
status_of_fault (engine.TooWide pixels) = 5
status_of_fault (engine.Moves fault) = 8
status_of_fault (engine.NoFragment line) = 8
status_of_fault engine.NoMemory = 10

-- said of want of memory
abbrev pub memory_line : List ℕ
memory_line = codes "opc: out of memory" ++ 10 ∷ []

-- the file that a line speaks of
abbrev pub which_text : Which → List ℕ
which_text which.Layout = codes "layout"
which_text which.Kernels = codes "kernels"
which_text which.Rules = codes "rules"
which_text which.Moves = codes "moves"

-- what a line says of a kernel file; a wrapped fault is never want of memory, so that has no text
abbrev pub kernels_text : KernelFault → List ℕ
kernels_text kernel.BadMagic = codes "bad magic"
kernels_text kernel.WrongLength = codes "wrong length"
kernels_text kernel.BadCount = codes "bad count"
kernels_text kernel.BadReach = codes "bad reach"
kernels_text (kernel.BadTransmission offset) = codes "bad transmission at " ++ decimal offset
kernels_text (kernel.BadWeight number) = codes "bad weight of kernel " ++ decimal number
kernels_text (kernel.BadEntry offset) = codes "bad entry at " ++ decimal offset
kernels_text kernel.WeightSum = codes "weights sum"
kernels_text kernel.NoMemory = []

-- what a line says of a layout
abbrev pub layout_text : LayoutFault → List ℕ
layout_text (layout.Cut offset) = codes "cut at " ++ decimal offset
layout_text (layout.BadLength offset) = codes "bad length at " ++ decimal offset
layout_text (layout.Unexpected offset kind) = codes "unexpected record " ++ (decimal kind ++ (codes " at " ++ decimal offset))
layout_text (layout.TooManyStructures offset) = codes "too many structures at " ++ decimal offset
layout_text (layout.BadBody offset) = codes "bad body at " ++ decimal offset
layout_text (layout.Duplicate offset) = codes "duplicate name at " ++ decimal offset
layout_text (layout.Trailing offset) = codes "trailing byte at " ++ decimal offset
layout_text layout.NoMemory = []

-- what a line says of what a layout places
abbrev pub place_text : PlaceFault → List ℕ
place_text place.NoTop = codes "no top structure"
place_text (place.Missing offset) = codes "missing structure at " ++ decimal offset
place_text (place.BadMag offset) = codes "bad magnification at " ++ decimal offset
place_text (place.BadAngle offset) = codes "bad angle at " ++ decimal offset
place_text (place.BadArray offset) = codes "bad array at " ++ decimal offset
place_text (place.Cycle number) = codes "cycle through structure " ++ decimal number
place_text (place.TooManyPoints count) = codes "too many points " ++ decimal count
place_text (place.NotClosed offset) = codes "not closed at " ++ decimal offset
place_text (place.NotRectilinear offset) = codes "not rectilinear at " ++ decimal offset
place_text (place.RoundPath offset) = codes "path ends at " ++ decimal offset
place_text (place.OffGrid offset) = codes "off grid at " ++ decimal offset
place_text (place.OutOfRange offset) = codes "out of range at " ++ decimal offset
place_text place.NoMemory = []

-- what a line says of a rule file
abbrev pub rules_text : RuleFault → List ℕ
rules_text rules.NotToml = codes "not toml"
rules_text rules.Unknown = codes "unknown key"
rules_text (rules.MissingKey key) = codes "missing " ++ name_of key
rules_text (rules.WrongType key) = codes "wrong type " ++ name_of key
rules_text (rules.OutOfRange key) = codes "out of range " ++ name_of key
rules_text rules.NoMemory = []

-- which number of scatter bars doesn't suit the rules
abbrev pub bar_text : BarKey → List ℕ
bar_text bar.Gap = codes "gap"
bar_text bar.Width = codes "width"
bar_text bar.Min = codes "min"

-- what a line says of a moves file
abbrev pub moves_text : MoveFault → List ℕ
moves_text (moves.BadLine line) = codes "bad line " ++ decimal line
moves_text moves.NoMemory = []

abbrev pub fault_line : EngineFault → List ℕ
fault_line (engine.TooLong file) = codes "opc: " ++ which_text file ++ codes ": too long" ++ 10 ∷ []
fault_line (engine.Rules fault) = codes "opc: rules: " ++ rules_text fault ++ 10 ∷ []
fault_line (engine.BadBars key) = codes "opc: rules: bars " ++ bar_text key ++ 10 ∷ []
fault_line (engine.Kernels fault) = codes "opc: kernels: " ++ kernels_text fault ++ 10 ∷ []
fault_line (engine.Layout fault) = codes "opc: layout: " ++ layout_text fault ++ 10 ∷ []
fault_line (engine.Place fault) = codes "opc: layout: " ++ place_text fault ++ 10 ∷ []
fault_line engine.TooManyCorners = codes "opc: layout: too many corners" ++ 10 ∷ []
fault_line (engine.Target broken) = line_of (codes "opc: target: " ∷ rule_name broken.rule ∷ place_pieces broken.at)
fault_line (engine.TooManyFragments count) = codes "opc: layout: too many fragments " ++ decimal count ++ 10 ∷ []
fault_line (engine.TooWide pixels) = codes "opc: layout: too wide " ++ decimal pixels ++ 10 ∷ []
fault_line (engine.Moves fault) = codes "opc: moves: " ++ moves_text fault ++ 10 ∷ []
fault_line (engine.NoFragment line) = codes "opc: moves: no fragment at line " ++ decimal line ++ 10 ∷ []
fault_line engine.NoMemory = memory_line
