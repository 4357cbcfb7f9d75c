-- What a moves file says.
use Rattle.std.specs.Prelude.{ℕ, ◌+◌, ℤ, pos, neg_ℤ, nat_le, ◌==◌, List, [], ◌∷◌, length, take, drop, Bool, ◌&&◌, if◌then◌else◌, Option, Some, None, is_none, option_map}
use Rattle.std.specs.List.{filter_map, list_all, position, position_from}
use Rattle.std.specs.Option.{option_and_then}
use Rattle.std.specs.Char.{is_ascii_digit}
use Rattle.std.specs.Str.Parse.{digits_value, starts_with_minus}
use Rattle.opc_base.specs.declared.moves.Move.{Move}
use Rattle.rule_file.specs.declared.fault.MoveFault.{MoveFault}
use Rattle.rule_file.specs.declared.fault.MoveFault.TheVariants.{BadLine}

-- a byte before the first line
abbrev pub onto_first : ℕ → List (List ℕ) → List (List ℕ)
onto_first byte [] = (byte ∷ []) ∷ []
onto_first byte (line ∷ lines) = (byte ∷ line) ∷ lines

-- the lines of a text without their line feeds; the last line feed may be missing
abbrev pub lines_of : List ℕ → List (List ℕ)
lines_of [] = []
lines_of (byte ∷ bytes) = if byte == 10 then [] ∷ lines_of bytes else onto_first byte (lines_of bytes)

-- 1 to 9 digits
abbrev pub is_number : List ℕ → Bool
is_number digits = nat_le 1 (length digits) && nat_le (length digits) 9 && list_all is_ascii_digit digits

abbrev pub number_of : List ℕ → Option ℕ
number_of digits = if is_number digits then Some (digits_value 10 digits) else None

-- a number, or a minus and a number
abbrev pub delta_of : List ℕ → Option ℤ
delta_of text =
    if starts_with_minus text then option_map (λ n. neg_ℤ (pos n)) (number_of (drop 1 text)) else option_map pos (number_of text)

-- a move by its parts
abbrev pub with_parts : Option ℕ → Option ℤ → Option Move
with_parts fragment delta =
    option_and_then (λ number. option_map (λ by. record { fragment = number; delta = by }) delta) fragment

-- a fragment's number, a blank at this place, and a delta
abbrev pub move_at : List ℕ → ℕ → Option Move
move_at line blank = with_parts (number_of (take blank line)) (delta_of (drop (blank + 1) line))

abbrev pub move_of : List ℕ → Option Move
move_of line = option_and_then (move_at line) (position (λ byte. byte == 32) line)

abbrev pub is_bad : List ℕ → Bool
is_bad line = is_none (move_of line)

-- the number of the first line that is no move, counted from 1
abbrev pub bad_line : List ℕ → Option ℕ
bad_line bytes = position_from is_bad 1 (lines_of bytes)

-- what is wrong with a moves file
abbrev pub move_fault : List ℕ → Option MoveFault
move_fault bytes = option_map BadLine (bad_line bytes)

-- the moves of the lines
abbrev pub moves_of : List ℕ → List Move
moves_of bytes = filter_map move_of (lines_of bytes)
