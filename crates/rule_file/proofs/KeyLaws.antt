-- What a key that passes holds, and what the first fault of a table says.
use Rattle.std.proofs.Common.{◌≡◌, ℕ, zero, suc, ◌+◌, ◌<◌, ◌≤ℤ◌, ℤ, pos, Bool, true, false, cond, not, ◌&&◌, ◌||◌, List, [], ◌∷◌, length, get_or, drop, Option, Some, None, IsSomeAnd, IsUtf8, String, Global, string_bytes, refl, sym, ap, ◌∙◌, subst, arith, lit<, nat_le}
use Rattle.std.proofs.lemmas.Bool.{and_parts}
use Rattle.std.proofs.lemmas.Bool.Decides.{nat_tests}
use Rattle.std.proofs.lemmas.Int.{ints}
use Rattle.std.proofs.lemmas.List.{at_drop_more}
use Rattle.std.proofs.lemmas.List.Sums.{AllPass-from_list_all}
use Rattle.std.proofs.lemmas.Str.{IsUtf8-from_is_utf8, is_utf8-from_IsUtf8}
use Rattle.std.specs.List.{list_all, list_any}
use Rattle.std.specs.Map.{keys_of}
use Rattle.std.specs.Option.{option_and_then, option_or}
use Rattle.std.specs.Prelude.{int_le}
use Rattle.std.specs.Str.{is_utf8}
use Rattle.toml.specs.Data.{Data, Members, as_integer, as_str}
use Rattle.toml.specs.Parse.{parse_document}
use Rattle.toml.specs.View.{members_view}
use Rattle.toml.specs.declared.value.Value.{Value}
use Rattle.opc_base.specs.Ranges.{IsBetween, is_name_byte}
use Rattle.opc_base.specs.declared.rules.Rules.{Rules}
use Rattle.rule_file.specs.declared.key.Key.{Key}
use Rattle.rule_file.specs.declared.key.Key.TheVariants.{Top, Layer, Datatype, Grid, Threshold, Samples, Piece, CornerOut, CornerIn, LineEnd, GainNum, GainDen, MaxStep, MaxIn, MaxOut, Settle, Rounds, Width, Space, Tile, Workers, OutLayer, OutDatatype, OutName}
use Rattle.rule_file.specs.declared.key.Kind.{Kind}
use Rattle.rule_file.specs.declared.key.Kind.TheVariants.{Whole, TopName, MaskName}
use Rattle.rule_file.specs.declared.fault.RuleFault.{RuleFault}
use Rattle.rule_file.specs.declared.fault.RuleFault.TheVariants.{NotToml}
use Rattle.rule_file.specs.Keys.{keys, kind_of, is_top, is_mask_name, is_key, IsWholeKind, IsSmall, IsName, HoldsNumber, HoldsText}
use Rattle.rule_file.specs.RuleText.{value_at, whole_at, text_at, whole_fault, text_fault, value_fault, key_fault, first_fault, has_unknown, table_fault, document_fault, rule_fault, HasRules, SaysRules}

some_none : {A : Type 0} (x : A) → Some x ≡ None → ⊥
some_none x h = cc

-- a test that gave no fault
both : {A : Type 0} (b c : Bool) (x : A) → cond (b && c) None (Some x) ≡ None → (b ≡ true) × (c ≡ true)
both true true x h = (refl, refl)
both true false x h = absurd (some_none x h)
both false c x h = absurd (some_none x h)

passed : {A : Type 0} (b : Bool) (x : A) → cond b None (Some x) ≡ None → b ≡ true
passed true x h = refl
passed false x h = absurd (some_none x h)

between : (low high n : ℤ) → int_le low n ≡ true → int_le n high ≡ true → IsBetween low high n
between low high n a b = (grind (arith, ints), grind (arith, ints))

within : (key : Key) (low high : ℤ) (o : Option ℤ) → whole_fault key low high o ≡ None → IsSomeAnd o (IsBetween low high)
within key low high None h = absurd (some_none _ h)
within key low high (Some n) h = let t = both (int_le low n) (int_le n high) _ h in between low high n t.0 t.1

tested : (key : Key) (test : List ℕ → Bool) (o : Option (List ℕ)) → text_fault key test o ≡ None → IsSomeAnd o (λ text. test text ≡ true)
tested key test None h = absurd (some_none _ h)
tested key test (Some text) h = passed (test text) _ h

top_holds : (text : List ℕ) → is_top text ≡ true → HoldsText TopName text
top_holds text h =
    let t = and_parts (nat_le 1 (length text)) (nat_le (length text) 255) h in
    (grind (arith, nat_tests, t.0), grind (arith, nat_tests, t.1))

mask_holds : (text : List ℕ) → is_mask_name text ≡ true → HoldsText MaskName text
mask_holds text h =
    let t = and_parts (nat_le 1 (length text) && nat_le (length text) 32) (list_all is_name_byte text) h in
    let s = and_parts (nat_le 1 (length text)) (nat_le (length text) 32) t.0 in
    (grind (arith, nat_tests, s.0), grind (arith, nat_tests, s.1), AllPass-from_list_all is_name_byte text t.1)

along : {A : Type 0} (P Q : A → Type 0) (o : Option A) → ((x : A) → P x → Q x) → IsSomeAnd o P → IsSomeAnd o Q
along P Q None f h = absurd h
along P Q (Some x) f h = f x h

number_passes : (key : Key) (kind : Kind) (o : Option Data) → value_fault key kind o ≡ None → IsWholeKind kind → IsSomeAnd (option_and_then as_integer o) (HoldsNumber kind)
number_passes key kind None h w = absurd (some_none _ h)
number_passes key (Whole low high) (Some d) h w = within key low high (as_integer d) h
number_passes key TopName (Some d) h w = absurd w
number_passes key MaskName (Some d) h w = absurd w

name_passes : (key : Key) (kind : Kind) (o : Option Data) → value_fault key kind o ≡ None → IsName kind → IsSomeAnd (option_and_then as_str o) (HoldsText kind)
name_passes key kind None h w = absurd (some_none _ h)
name_passes key (Whole low high) (Some d) h w = absurd w
name_passes key TopName (Some d) h w = along (λ text. is_top text ≡ true) (HoldsText TopName) (as_str d) top_holds (tested key is_top (as_str d) h)
name_passes key MaskName (Some d) h w = along (λ text. is_mask_name text ≡ true) (HoldsText MaskName) (as_str d) mask_holds (tested key is_mask_name (as_str d) h)

-- a key that passes holds a number, or a text, of its kind
pub whole_passes : (table : Members) (key : Key) → key_fault table key ≡ None → IsWholeKind (kind_of key) → IsSomeAnd (whole_at table key) (HoldsNumber (kind_of key))
unfolding key_fault
whole_passes table key h w = number_passes key (kind_of key) (value_at table key) h w

pub text_passes : (table : Members) (key : Key) → key_fault table key ≡ None → IsName (kind_of key) → IsSomeAnd (text_at table key) (HoldsText (kind_of key))
unfolding key_fault
text_passes table key h w = name_passes key (kind_of key) (value_at table key) h w

-- so a value that isn't there can't be, and one that is there holds
pub never_None : {A : Type 0} (P : A → Type 0) (o : Option A) → None ≡ o → IsSomeAnd o P → ⊥
never_None P o e h = subst (λ o. IsSomeAnd o P) (sym e) h

pub holds_of_Some : {A : Type 0} (P : A → Type 0) (o : Option A) (x : A) → Some x ≡ o → IsSomeAnd o P → P x
holds_of_Some P o x e h = subst (λ o. IsSomeAnd o P) (sym e) h

-- what a small kind is
pub small_is_whole : (kind : Kind) → IsSmall kind → IsWholeKind kind
small_is_whole (Whole low high) s = tt
small_is_whole TopName s = absurd s
small_is_whole MaskName s = absurd s

pub small_low : (kind : Kind) (n : ℤ) → IsSmall kind → HoldsNumber kind n → pos 0 ≤ℤ n
small_low (Whole low high) n s h = omega (arith, ints, s.0, h.0)
small_low TopName n s h = absurd s
small_low MaskName n s h = absurd s

pub small_high : (kind : Kind) (n : ℤ) → IsSmall kind → HoldsNumber kind n → n ≤ℤ pos 65535
small_high (Whole low high) n s h = omega (arith, ints, s.1, h.1)
small_high TopName n s h = absurd s
small_high MaskName n s h = absurd s

-- where there is no first fault, each key passes
none_left : {A : Type 0} (o p : Option A) → option_or o p ≡ None → o ≡ None
none_left None p h = refl
none_left (Some x) p h = absurd (some_none x h)

none_right : {A : Type 0} (o p : Option A) → option_or o p ≡ None → p ≡ None
none_right None p h = h
none_right (Some x) p h = absurd (some_none x h)

passes_at : (table : Members) (ks : List Key) (i : ℕ) (d : Key) → first_fault table ks ≡ None → i < length ks → key_fault table (get_or ks i d) ≡ None
passes_at table [] i d h l = absurd (omega arith)
passes_at table (k ∷ ks) zero d h l = none_left (key_fault table k) (first_fault table ks) h
passes_at table (k ∷ ks) (suc i) d h l = passes_at table ks i d (none_right (key_fault table k) (first_fault table ks) h) (omega arith)

pub all_pass : (table : Members) → first_fault table keys ≡ None → (key : Key) → key_fault table key ≡ None
all_pass table h Top = passes_at table keys 0 Top h (lit< tt)
all_pass table h Layer = passes_at table keys 1 Top h (lit< tt)
all_pass table h Datatype = passes_at table keys 2 Top h (lit< tt)
all_pass table h Grid = passes_at table keys 3 Top h (lit< tt)
all_pass table h Threshold = passes_at table keys 4 Top h (lit< tt)
all_pass table h Samples = passes_at table keys 5 Top h (lit< tt)
all_pass table h Piece = passes_at table keys 6 Top h (lit< tt)
all_pass table h CornerOut = passes_at table keys 7 Top h (lit< tt)
all_pass table h CornerIn = passes_at table keys 8 Top h (lit< tt)
all_pass table h LineEnd = passes_at table keys 9 Top h (lit< tt)
all_pass table h GainNum = passes_at table keys 10 Top h (lit< tt)
all_pass table h GainDen = passes_at table keys 11 Top h (lit< tt)
all_pass table h MaxStep = passes_at table keys 12 Top h (lit< tt)
all_pass table h MaxIn = passes_at table keys 13 Top h (lit< tt)
all_pass table h MaxOut = passes_at table keys 14 Top h (lit< tt)
all_pass table h Settle = passes_at table keys 15 Top h (lit< tt)
all_pass table h Rounds = passes_at table keys 16 Top h (lit< tt)
all_pass table h Width = passes_at table keys 17 Top h (lit< tt)
all_pass table h Space = passes_at table keys 18 Top h (lit< tt)
all_pass table h Tile = passes_at table keys 19 Top h (lit< tt)
all_pass table h Workers = passes_at table keys 20 Top h (lit< tt)
all_pass table h OutLayer = passes_at table keys 21 Top h (lit< tt)
all_pass table h OutDatatype = passes_at table keys 22 Top h (lit< tt)
all_pass table h OutName = passes_at table keys 23 Top h (lit< tt)

-- the first fault is at the first key that doesn't pass
pub first_fault_here : (table : Members) (i : ℕ) (d : Key) (fault : RuleFault) → i < length keys → Some fault ≡ key_fault table (get_or keys i d)
    → first_fault table keys ≡ first_fault table (drop i keys) → Some fault ≡ first_fault table keys
first_fault_here table i d fault l e before =
    sym (before ∙ at_drop_more (first_fault table) keys i d l ∙ ap (λ o. option_or o (first_fault table (drop (i + 1) keys))) (sym e))

pub first_fault_past : (table : Members) (i : ℕ) (d : Key) → i < length keys → None ≡ key_fault table (get_or keys i d)
    → first_fault table keys ≡ first_fault table (drop i keys) → first_fault table keys ≡ first_fault table (drop (i + 1) keys)
first_fault_past table i d l e before =
    before ∙ at_drop_more (first_fault table) keys i d l ∙ ap (λ o. option_or o (first_fault table (drop (i + 1) keys))) (sym e)

-- an unknown key by the names of a map
pub unknown_name : (es : List (String Global × Value)) → has_unknown (members_view es) ≡ list_any (λ name. not (is_key (string_bytes name))) (keys_of es)
unknown_name [] = refl
unknown_name (e ∷ es) = ap (λ b. not (is_key (string_bytes e.0)) || b) (unknown_name es)

-- the fault of a text that is no document, and of one that is
refused_by : (bytes : List ℕ) (text : Bool) → is_utf8 bytes ≡ text → (IsUtf8 bytes → parse_document bytes ≡ None) → cond text (document_fault (parse_document bytes)) (Some NotToml) ≡ Some NotToml
refused_by bytes true e h = ap document_fault (h (IsUtf8-from_is_utf8 bytes e))
refused_by bytes false e h = refl

pub not_toml : (bytes : List ℕ) → (IsUtf8 bytes → parse_document bytes ≡ None) → rule_fault bytes ≡ Some NotToml
not_toml bytes h = refused_by bytes (is_utf8 bytes) refl h

pub fault_of_table : (bytes : List ℕ) (table : Members) → IsUtf8 bytes → parse_document bytes ≡ Some table → rule_fault bytes ≡ table_fault table
fault_of_table bytes table u e =
    ap (λ b. cond b (document_fault (parse_document bytes)) (Some NotToml)) (is_utf8-from_IsUtf8 bytes u) ∙ ap document_fault e

pub says_rules : (bytes : List ℕ) (table : Members) (rules : Rules) → parse_document bytes ≡ Some table → HasRules table rules → SaysRules bytes rules
says_rules bytes table rules e h = subst (λ o. IsSomeAnd o (λ t. HasRules t rules)) (sym e) h
