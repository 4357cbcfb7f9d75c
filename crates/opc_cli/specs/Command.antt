-- The words of a command line.
use Rattle.std.specs.Prelude.{ℕ, ◌≤◌, Bool, true, not, ◌&&◌, nat_le, if◌then◌else◌, List, [], ◌∷◌, map, length, drop, All, codes, string_bytes, pos, negsuc, int_le, unsigned_abs, ℤ, Option, Some, None}
use Rattle.std.specs.Str.{bytes_eq}
use Rattle.std.specs.List.{list_all}
use Rattle.std.specs.Char.{is_ascii_digit}
use Rattle.std.specs.Str.Parse.{starts_with_minus, signed_digits_value}
use Rattle.std.specs.Option.{option_and_then, option_map}
use Rattle.std.specs.declared.string.String.{String}
use Rattle.std.specs.declared.alloc.Global.{Global}
use Rattle.opc_base.specs.declared.plane.Pix.{Pix}
use Rattle.opc_base.specs.Ranges.{IsBetween}
use Rattle.assist_bars.specs.Bars.{AreBarRules}
use Rattle.assist_bars.specs.declared.bar_rules.BarRules.{BarRules}
use Rattle.opc_engine.specs.AskRanges.{IsAsk}
use Rattle.opc_engine.specs.declared.ask.Ask.{Ask}
use Rattle.opc_engine.specs.declared.ask.Which.{Which}
use Rattle.opc_engine.specs.declared.ask.Which.TheVariants as which
use Rattle.opc_cli.specs.declared.conditions.ConditionWords.{ConditionWords}
use Rattle.opc_cli.specs.declared.command.Command.{Command}
use Rattle.opc_cli.specs.declared.command.Command.TheVariants.{Probe, Simulate, Correct, Moves, Check, Polygons, Trial, Assist, Window}

-- the bytes of each word
abbrev pub texts : List (String Global) → List (List ℕ)
texts words = map string_bytes words

-- ---- numbers

-- a number without its minus
abbrev pub digits_of : List ℕ → List ℕ
digits_of text = if starts_with_minus text then drop 1 text else text

-- an optional minus, and 1 to 12 digits
abbrev pub is_number : List ℕ → Bool
is_number text = nat_le 1 (length (digits_of text)) && nat_le (length (digits_of text)) 12 && list_all is_ascii_digit (digits_of text)

abbrev pub number_of : List ℕ → Option ℤ
number_of text = if is_number text then Some (signed_digits_value 10 text) else None

abbrev pub in_range : ℤ → ℤ → ℤ → Option ℤ
in_range low high n = if int_le low n && int_le n high then Some n else None

-- where the word is a number from low to high
abbrev pub number_from : ℤ → ℤ → List ℕ → Option ℤ
number_from low high text = option_and_then (in_range low high) (number_of text)

-- a layer or a datatype
abbrev pub layer_from : List ℕ → Option ℕ
layer_from text = option_map unsigned_abs (number_from (pos 0) (pos 65535) text)

-- the number of a trial
abbrev pub count_from : List ℕ → Option ℕ
count_from text = option_map unsigned_abs (number_from (pos 1) (pos 64) text)

-- the threshold of a condition
abbrev pub threshold_from : List ℕ → Option ℤ
threshold_from text = number_from (pos 1) (pos 999999999999) text

-- the weight of a condition
abbrev pub weight_from : List ℕ → Option ℕ
weight_from text = option_map unsigned_abs (number_from (pos 1) (pos 16) text)

-- a coordinate, in pixels
abbrev pub coordinate_from : List ℕ → Option ℤ
coordinate_from text = number_from (negsuc 1048575) (pos 1048576) text

abbrev pub pixel_from : List ℕ → List ℕ → Option Pix
pixel_from x y = option_and_then (λ x. option_map (λ y. record { x = x; y = y }) (coordinate_from y)) (coordinate_from x)

-- ---- commands

-- the name of a structure
abbrev pub is_top : List ℕ → Bool
is_top text = nat_le 1 (length text) && nat_le (length text) 255

abbrev pub ask_from : List ℕ → List ℕ → List ℕ → List ℕ → List ℕ → Option Ask
ask_from top layer datatype x y =
    if is_top top
    then option_and_then (λ layer. option_and_then (λ datatype. option_map (λ at. record { top = top; layer = layer; datatype = datatype; at = at })
    (pixel_from x y)) (layer_from datatype)) (layer_from layer)
    else None

-- what is asked of a layout: TOP LAYER DATATYPE X Y
abbrev pub ask_of : List (List ℕ) → Option Ask
ask_of (top ∷ layer ∷ datatype ∷ x ∷ y ∷ []) = ask_from top layer datatype x y
ask_of _ = None

abbrev pub probe_with : List ℕ → List ℕ → List (List ℕ) → Option Command
probe_with layout kernels words = option_map (λ ask. Probe layout kernels ask) (ask_of words)

-- `probe` LAYOUT KERNELS TOP LAYER DATATYPE X Y
abbrev pub probe_of : List (List ℕ) → Option Command
probe_of (layout ∷ kernels ∷ words) = probe_with layout kernels words
probe_of _ = None

-- `simulate` LAYOUT KERNELS RULES TABLE
abbrev pub simulate_of : List (List ℕ) → Option Command
simulate_of (layout ∷ kernels ∷ rules ∷ table ∷ []) = Some (Simulate layout kernels rules table)
simulate_of _ = None

-- `correct` LAYOUT KERNELS RULES MASK TABLE
abbrev pub correct_of : List (List ℕ) → Option Command
correct_of (layout ∷ kernels ∷ rules ∷ mask ∷ table ∷ []) = Some (Correct layout kernels rules mask table)
correct_of _ = None

-- `polygons` LAYOUT KERNELS RULES MASK TABLE
abbrev pub polygons_of : List (List ℕ) → Option Command
polygons_of (layout ∷ kernels ∷ rules ∷ mask ∷ table ∷ []) = Some (Polygons layout kernels rules mask table)
polygons_of _ = None

-- `moves` LAYOUT KERNELS RULES MOVES MASK TABLE
abbrev pub moves_of : List (List ℕ) → Option Command
moves_of (layout ∷ kernels ∷ rules ∷ moves ∷ mask ∷ table ∷ []) = Some (Moves layout kernels rules moves mask table)
moves_of _ = None

-- `check` LAYOUT KERNELS RULES PRINTED LIST
abbrev pub check_of : List (List ℕ) → Option Command
check_of (layout ∷ kernels ∷ rules ∷ printed ∷ list ∷ []) = Some (Check layout kernels rules printed list)
check_of _ = None

-- `trial` N
abbrev pub trial_of : List (List ℕ) → Option Command
trial_of (number ∷ []) = option_map (λ n. Trial n) (count_from number)
trial_of _ = None

abbrev pub bar_rules : ℤ → ℤ → ℤ → ℤ → BarRules
bar_rules gap width end min = record { gap = gap; width = width; end = end; min = min }

abbrev pub bars_from : List ℕ → List ℕ → List ℕ → List ℕ → Option BarRules
bars_from gap width end min =
    option_and_then (λ gap. option_and_then (λ width. option_and_then (λ end. option_map (λ min. bar_rules gap width end min)
    (number_from (pos 1) (pos 4096) min)) (number_from (pos 0) (pos 1024) end)) (number_from (pos 1) (pos 1024) width)) (number_from (pos 1) (pos 1024) gap)

-- the numbers of scatter bars: GAP WIDTH END MIN
abbrev pub bars_of : List (List ℕ) → Option BarRules
bars_of (gap ∷ width ∷ end ∷ min ∷ []) = bars_from gap width end min
bars_of _ = None

abbrev pub assist_with : List ℕ → List ℕ → List ℕ → List ℕ → List ℕ → List (List ℕ) → Option Command
assist_with layout kernels rules mask table words =
    option_map (λ bars. Assist layout kernels rules mask table bars.gap bars.width bars.end bars.min) (bars_of words)

-- `assist` LAYOUT KERNELS RULES MASK TABLE GAP WIDTH END MIN
abbrev pub assist_of : List (List ℕ) → Option Command
assist_of (layout ∷ kernels ∷ rules ∷ mask ∷ table ∷ words) = assist_with layout kernels rules mask table words
assist_of _ = None

abbrev pub condition_from : List ℕ → List ℕ → List ℕ → Option ConditionWords
condition_from kernels threshold weight =
    option_and_then (λ threshold. option_map (λ weight. record { kernels = kernels; threshold = threshold; weight = weight })
    (weight_from weight)) (threshold_from threshold)

-- any number of conditions: KERNELS THRESHOLD WEIGHT each
abbrev pub conditions_from : List (List ℕ) → Option (List ConditionWords)
conditions_from [] = Some []
conditions_from (kernels ∷ threshold ∷ weight ∷ words) =
    option_and_then (λ first. option_map (λ rest. first ∷ rest) (conditions_from words)) (condition_from kernels threshold weight)
conditions_from _ = None

-- two to four of them
abbrev pub few_enough : List ConditionWords → Option (List ConditionWords)
few_enough conditions = if nat_le 2 (length conditions) && nat_le (length conditions) 4 then Some conditions else None

abbrev pub conditions_of : List (List ℕ) → Option (List ConditionWords)
conditions_of words = option_and_then few_enough (conditions_from words)

abbrev pub window_with : List ℕ → List ℕ → List ℕ → List ℕ → List (List ℕ) → Option Command
window_with layout rules mask table words = option_map (λ conditions. Window layout rules mask table conditions) (conditions_of words)

-- `window` LAYOUT RULES MASK TABLE, and then two to four times KERNELS THRESHOLD WEIGHT
abbrev pub window_of : List (List ℕ) → Option Command
window_of (layout ∷ rules ∷ mask ∷ table ∷ words) = window_with layout rules mask table words
window_of _ = None

-- what the words after a command's name ask for
abbrev pub command_with : List ℕ → List (List ℕ) → Option Command
command_with name words =
    if bytes_eq name (codes "probe") then probe_of words
    else (if bytes_eq name (codes "simulate") then simulate_of words
    else (if bytes_eq name (codes "correct") then correct_of words
    else (if bytes_eq name (codes "moves") then moves_of words
    else (if bytes_eq name (codes "check") then check_of words
    else (if bytes_eq name (codes "polygons") then polygons_of words
    else (if bytes_eq name (codes "trial") then trial_of words
    else (if bytes_eq name (codes "assist") then assist_of words
    else (if bytes_eq name (codes "window") then window_of words else None))))))))

-- ---- the files of a command

-- the kernel files of conditions, in their order
abbrev pub kernel_files : List ConditionWords → List (Which × List ℕ)
kernel_files conditions = map (λ condition. (which.Kernels, condition.kernels)) conditions

-- the files that a command reads, of which kind and under which name, in the order of its loads
abbrev pub files_of : Command → List (Which × List ℕ)
files_of (Probe layout kernels ask) = (which.Layout, layout) ∷ (which.Kernels, kernels) ∷ []
files_of (Simulate layout kernels rules table) = (which.Layout, layout) ∷ (which.Kernels, kernels) ∷ (which.Rules, rules) ∷ []
files_of (Correct layout kernels rules mask table) = (which.Layout, layout) ∷ (which.Kernels, kernels) ∷ (which.Rules, rules) ∷ []
files_of (Polygons layout kernels rules mask table) = (which.Layout, layout) ∷ (which.Kernels, kernels) ∷ (which.Rules, rules) ∷ []
files_of (Moves layout kernels rules moves mask table) =
    (which.Layout, layout) ∷ (which.Kernels, kernels) ∷ (which.Rules, rules) ∷ (which.Moves, moves) ∷ []
files_of (Check layout kernels rules printed list) = (which.Layout, layout) ∷ (which.Kernels, kernels) ∷ (which.Rules, rules) ∷ []
files_of (Trial n) = []
files_of (Assist layout kernels rules mask table gap width end min) = (which.Layout, layout) ∷ (which.Kernels, kernels) ∷ (which.Rules, rules) ∷ []
files_of (Window layout rules mask table conditions) = (which.Layout, layout) ∷ (which.Rules, rules) ∷ kernel_files conditions

-- the names of files
abbrev pub names_of : List (Which × List ℕ) → List (List ℕ)
names_of files = map (λ file. file.1) files

-- the names that a command reads, in the order of its loads
abbrev pub reads : Command → List (List ℕ)
reads command = names_of (files_of command)

-- the names that a command stores, in the order of its stores
abbrev pub writes : Command → List (List ℕ)
writes (Probe layout kernels ask) = []
writes (Simulate layout kernels rules table) = table ∷ []
writes (Correct layout kernels rules mask table) = mask ∷ table ∷ []
writes (Polygons layout kernels rules mask table) = mask ∷ table ∷ []
writes (Moves layout kernels rules moves mask table) = mask ∷ table ∷ []
writes (Check layout kernels rules printed list) = printed ∷ list ∷ []
writes (Trial n) = []
writes (Assist layout kernels rules mask table gap width end min) = mask ∷ table ∷ []
writes (Window layout rules mask table conditions) = mask ∷ table ∷ []

-- ---- what the words ask for

-- a name is none of these
abbrev pub is_new : List ℕ → List (List ℕ) → Bool
is_new name [] = true
is_new name (other ∷ others) = not (bytes_eq other name) && is_new name others

-- each of the names that are stored is none of those that are read, and none of the stored ones before it
abbrev pub are_new : List (List ℕ) → List (List ℕ) → Bool
are_new names [] = true
are_new names (output ∷ outputs) = is_new output names && are_new (output ∷ names) outputs

-- names of stored files that equal another name of the same words are refused
abbrev pub with_new_names : Option Command → Option Command
with_new_names (Some command) = if are_new (reads command) (writes command) then Some command else None
with_new_names None = None

-- what the words ask for
abbrev pub command_of : List (List ℕ) → Option Command
command_of (name ∷ words) = with_new_names (command_with name words)
command_of [] = None

-- a condition has a threshold and a weight within their ranges
pub record IsConditionOfWords (condition : ConditionWords) : Type 0 where
  pub threshold : IsBetween (pos 1) (pos 999999999999) condition.threshold
  pub weighs : 1 ≤ condition.weight
  pub light : condition.weight ≤ 16

-- two to four of them
pub record AreConditionsOfWords (conditions : List ConditionWords) : Type 0 where
  pub some : 2 ≤ length conditions
  pub few : length conditions ≤ 4
  pub each : All IsConditionOfWords conditions

-- the command keeps the conditions of the call that it makes of the engine
abbrev pub MeetsConditions : Command → Type 0
MeetsConditions (Probe layout kernels ask) = IsAsk ask
MeetsConditions (Simulate layout kernels rules table) = Unit {0}
MeetsConditions (Correct layout kernels rules mask table) = Unit {0}
MeetsConditions (Polygons layout kernels rules mask table) = Unit {0}
MeetsConditions (Moves layout kernels rules moves mask table) = Unit {0}
MeetsConditions (Check layout kernels rules printed list) = Unit {0}
MeetsConditions (Trial n) = (1 ≤ n) × (n ≤ 64)
MeetsConditions (Assist layout kernels rules mask table gap width end min) = AreBarRules (bar_rules gap width end min)
MeetsConditions (Window layout rules mask table conditions) = AreConditionsOfWords conditions
