-- What is left of a grammar after a first record (Brzozowski's derivative).
use Rattle.std.specs.Prelude.{ℕ, List, [], ◌∷◌, ◌==◌, ◌&&◌, ◌||◌, Bool, true, false, if◌then◌else◌}
use Rattle.gds_records.specs.Records.{StreamRecord}
use Rattle.gds_model.specs.RecordKind.{code_of}
use Rattle.gds_model.specs.Grammar.{Grammar, never, empty, one, ◌⨾◌, ◌∣◌, optional, many}

abbrev pub can_be_empty : Grammar → Bool
can_be_empty never = false
can_be_empty empty = true
can_be_empty (one k) = false
can_be_empty (g ⨾ h) = can_be_empty g && can_be_empty h
can_be_empty (g ∣ h) = can_be_empty g || can_be_empty h
can_be_empty (optional g) = true
can_be_empty (many g) = true

-- every part of the grammar describes something
abbrev pub is_possible : Grammar → Bool
is_possible never = false
is_possible empty = true
is_possible (one k) = true
is_possible (g ⨾ h) = is_possible g && is_possible h
is_possible (g ∣ h) = is_possible g && is_possible h
is_possible (optional g) = is_possible g
is_possible (many g) = is_possible g

abbrev pub sequence : Grammar → Grammar → Grammar
sequence never h = never
sequence empty h = h
sequence g h = g ⨾ h

abbrev pub either : Grammar → Grammar → Grammar
either never h = h
either g never = g
either g h = g ∣ h

abbrev pub after : ℕ → Grammar → Grammar
after c never = never
after c empty = never
after c (one k) = if c == code_of k then empty else never
after c (g ⨾ h) = either (sequence (after c g) h) (if can_be_empty g then after c h else never)
after c (g ∣ h) = either (after c g) (after c h)
after c (optional g) = after c g
after c (many g) = sequence (after c g) (many g)

-- what is left of a grammar after these records
abbrev pub left : Grammar → List StreamRecord → Grammar
left g [] = g
left g (r ∷ rs) = left (after r.code g) rs
