-- The first line of a text, and what a line adds to the answer.
use Rattle.std.proofs.Common.{◌≡◌, ◌≢◌, ℕ, zero, suc, ◌+◌, ◌-◌, ◌<◌, ◌≤◌, ◌^◌, true, false, cond, List, [], ◌∷◌, ◌++◌, length, get_or, take, drop, Some, None, is_none, append_assoc, refl, sym, ap, ◌∙◌, arith, rules, eqb, eq-eqb}
use Rattle.std.proofs.lemmas.Bool.{and_parts}
use Rattle.std.proofs.lemmas.Bool.Decides.{nat_tests}
use Rattle.std.proofs.lemmas.List.{length-drop, take_all}
use Rattle.std.proofs.lemmas.Str.Parse.{IsNumeralModel, numerals_by_value, digits_value_short, digits_value-take-le}
use Rattle.std.specs.Char.{digit_value, is_ascii_digit}
use Rattle.std.specs.List.{cons_option, list_all, filter_map, position_from}
use Rattle.std.specs.Str.Parse.{digits_value}
use Rattle.opc_base.specs.declared.moves.Move.{Move}
use Rattle.rule_file.specs.MoveText.{onto_first, lines_of, move_of, is_bad}

unequal : (a b : ℕ) → a ≢ b → eqb a b ≡ false
unequal a b h = grind (arith, nat_tests)

-- up to the first line feed
pub line_at : (text : List ℕ) (end : ℕ) → end < length text → ((k : ℕ) → k < end → get_or text k 0 ≢ 10) → get_or text end 0 ≡ 10
    → lines_of text ≡ take end text ∷ lines_of (drop (suc end) text)
line_at [] end l before found = absurd (omega arith)
line_at (b ∷ bs) zero l before found = rw (eq-eqb b 10 found) refl
line_at (b ∷ bs) (suc end) l before found =
    let here : eqb b 10 ≡ false = unequal b 10 (before 0 (omega arith)) in
    rw (here, line_at bs end (omega arith) (λ k h. before (suc k) (omega arith)) found) refl

-- the last line, where no line feed is left
pub last_line : (text : List ℕ) → 0 < length text → ((k : ℕ) → k < length text → get_or text k 0 ≢ 10) → lines_of text ≡ text ∷ []
last_line [] l none = absurd (omega arith)
last_line (b ∷ []) l none = let here : eqb b 10 ≡ false = unequal b 10 (none 0 (omega arith)) in rw here refl
last_line (b ∷ c ∷ bs) l none =
    let here : eqb b 10 ≡ false = unequal b 10 (none 0 (omega arith)) in
    let rest : lines_of (c ∷ bs) ≡ (c ∷ bs) ∷ [] = last_line (c ∷ bs) (omega arith) (λ k h. none (suc k) (omega arith)) in
    ap (λ test. cond test ([] ∷ lines_of (c ∷ bs)) (onto_first b (lines_of (c ∷ bs)))) here ∙ ap (onto_first b) rest

-- the same by the slices that a program takes
pub line_before : (text : List ℕ) (end : ℕ) → end < length text → ((k : ℕ) → k < end → get_or text k 0 ≢ 10) → get_or text end 0 ≡ 10
    → lines_of text ≡ take end text ∷ lines_of (take (length text - (end + 1)) (drop (end + 1) text))
line_before text end l before found =
    let next : suc end ≡ end + 1 = omega arith in
    line_at text end l before found
    ∙ ap (λ n. take end text ∷ lines_of (drop n text)) next
    ∙ ap (λ rest. take end text ∷ lines_of rest) (sym (take_all (length text - (end + 1)) (drop (end + 1) text) (omega (arith, length-drop (end + 1) text))))

pub line_alone : (text : List ℕ) (end : ℕ) → 0 < length text → length text ≤ end → ((k : ℕ) → k < end → get_or text k 0 ≢ 10)
    → lines_of text ≡ text ∷ lines_of (take (length text - end) (drop end text))
line_alone text end some past before =
    let none : length text - end ≡ 0 = omega arith in
    last_line text some (λ k h. before k (omega arith)) ∙ ap (λ n. text ∷ lines_of (take n (drop end text))) (sym none)

-- a digit's value
digit_here : (c : ℕ) → is_ascii_digit c ≡ true → digit_value c ≡ c - 48
digit_here c h = grind (arith, nat_tests)

pub digit_of : (digits : List ℕ) (i : ℕ) → i < length digits → list_all is_ascii_digit digits ≡ true → digit_value (get_or digits i 0) ≡ get_or digits i 0 - 48
digit_of [] i l all = absurd (omega arith)
digit_of (c ∷ cs) zero l all = digit_here c (and_parts (is_ascii_digit c) (list_all is_ascii_digit cs) all).0
digit_of (c ∷ cs) (suc i) l all = digit_of cs i (omega arith) (and_parts (is_ascii_digit c) (list_all is_ascii_digit cs) all).1

-- digits that are few write a small number
own : IsNumeralModel (λ ds. list_all is_ascii_digit ds ≡ true) (digits_value 10)
own = numerals_by_value _ (search rules)

pub few_digits : (digits : List ℕ) → length digits ≤ 9 → list_all is_ascii_digit digits ≡ true → digits_value 10 digits < 10 ^ 9
few_digits digits few all = digits_value_short own digits 9 all few

pub fewer_digits : (digits : List ℕ) (i : ℕ) → length digits ≤ 9 → list_all is_ascii_digit digits ≡ true → digits_value 10 (take i digits) < 10 ^ 9
fewer_digits digits i few all = omega (arith, few_digits digits few all, digits_value-take-le 10 digits i (omega arith))

-- a line that is a move, before the rest
pub bad_line_past : (line : List ℕ) (lines : List (List ℕ)) (n : ℕ) (one : Move) → Some one ≡ move_of line
    → position_from is_bad n (line ∷ lines) ≡ position_from is_bad (n + 1) lines
bad_line_past line lines n one e = ap (λ o. cond (is_none o) (Some n) (position_from is_bad (n + 1) lines)) (sym e)

pub bad_line_here : (line : List ℕ) (lines : List (List ℕ)) (n : ℕ) → None ≡ move_of line → position_from is_bad n (line ∷ lines) ≡ Some n
bad_line_here line lines n e = ap (λ o. cond (is_none o) (Some n) (position_from is_bad (n + 1) lines)) (sym e)

pub moves_past : (done : List Move) (line : List ℕ) (lines : List (List ℕ)) (one : Move) → Some one ≡ move_of line
    → done ++ filter_map move_of (line ∷ lines) ≡ (done ++ one ∷ []) ++ filter_map move_of lines
moves_past done line lines one e =
    ap (λ o. done ++ cons_option o (filter_map move_of lines)) (sym e) ∙ sym (append_assoc done (one ∷ []) (filter_map move_of lines))
