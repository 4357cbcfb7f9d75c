-- Conditions among the words.
use Rattle.std.proofs.Common.{◌≡◌, ◌∙◌, ◌<◌, ◌≤◌, ◌-◌, ◌*◌, ℕ, suc, List, [], ◌∷◌, ◌++◌, drop, get_or, length, take, Bool, true, false, ◌&&◌, cond, nat_le, Option, Some, None, refl, ap, ap₂, sym, subst, inl, inr, arith}
use Rattle.std.proofs.lemmas.Bool.{le-leb}
use Rattle.std.proofs.lemmas.Bool.Decides.{leb_tells}
use Rattle.std.proofs.lemmas.Grind.{common_steps}
use Rattle.std.proofs.lemmas.List.{append_assoc}
use Rattle.std.proofs.lemmas.List.Elements.{All-push, All-same}
use Rattle.std.specs.Prelude.{All, IfSome, IsSomeAnd, OnOk, Result, Ok, Err, string_bytes}
use Rattle.std.specs.declared.string.String.{String}
use Rattle.std.specs.declared.alloc.Global.{Global}
use Rattle.std.specs.Option.{option_and_then, option_map}
use Rattle.opc_cli.specs.Command.{IsConditionOfWords, condition_from, conditions_from, conditions_of, few_enough, texts, window_of}
use Rattle.opc_cli.proofs.WordLemmas.{rest_is}
use Rattle.opc_cli.specs.declared.conditions.ConditionWords.{ConditionWords}

-- no condition has one word or two
pub not_three : (words : List (List ℕ)) → 0 < length words → length words < 3 → conditions_from words ≡ None
not_three [] some few = absurd (omega (arith, some))
not_three (a ∷ []) some few = refl
not_three (a ∷ b ∷ []) some few = refl
not_three (a ∷ b ∷ c ∷ more) some few = absurd (grind (arith, common_steps))

-- `window` has four words before its conditions
pub window_of_short : (words : List (List ℕ)) → length words < 4 → window_of words ≡ None
window_of_short [] h = refl
window_of_short (a ∷ []) h = refl
window_of_short (a ∷ b ∷ []) h = refl
window_of_short (a ∷ b ∷ c ∷ []) h = refl
window_of_short (a ∷ b ∷ c ∷ d ∷ more) h = absurd (grind (arith, common_steps))

-- ---- a condition before others

abbrev before : Option ConditionWords → Option (List ConditionWords) → Option (List ConditionWords)
before one found = option_and_then (λ first. option_map (λ rest. first ∷ rest) found) one

pub no_first : (one : Option ConditionWords) (found : Option (List ConditionWords)) → one ≡ None → before one found ≡ None
no_first one found none = ap (λ (o : Option ConditionWords). before o found) none

pub no_rest : (one : Option ConditionWords) (found : Option (List ConditionWords)) → found ≡ None → before one found ≡ None
no_rest None found none = refl
no_rest (Some c) found none = ap (λ (f : Option (List ConditionWords)). before (Some c) f) none

pub added : (one : Option ConditionWords) (found : Option (List ConditionWords)) (c : ConditionWords) (old middle new : List ConditionWords) → one ≡ Some c
    → middle ≡ old ++ c ∷ [] → IsSomeAnd found (λ named. new ≡ middle ++ named) → IsSomeAnd (before one found) (λ named. new ≡ old ++ named)
added None found c old middle new is push h = cc
added (Some d) None c old middle new is push h = h
added (Some d) (Some named) c old middle new is push h =
    let same : d ≡ c = cc in
    h ∙ ap (λ (m : List ConditionWords). m ++ named) push ∙ append_assoc old (c ∷ []) named ∙ ap (λ (e : ConditionWords). old ++ e ∷ named) (sym same)

-- three words before others
pub added_words : {A E : Type 0} (words : List (String Global)) (a b d : String Global) (x y z : List ℕ) (c : ConditionWords) (old middle new : List ConditionWords) (result : Result A E)
    → 3 ≤ length words → a ≡ get_or words 0 a → b ≡ get_or words 1 b → d ≡ get_or words 2 d → x ≡ string_bytes a → y ≡ string_bytes b → z ≡ string_bytes d
    → condition_from x y z ≡ Some c → middle ≡ old ++ c ∷ []
    → OnOk result (IsSomeAnd (conditions_from (texts (take (length words - 3) (drop 3 words)))) (λ named. new ≡ middle ++ named)) → OnOk result (IsSomeAnd (conditions_from (texts words)) (λ named. new ≡ old ++ named))
added_words [] a b d x y z c old middle new result many p q r s t u is push h = absurd (omega (arith, many))
added_words (k ∷ []) a b d x y z c old middle new result many p q r s t u is push h = absurd (grind (arith, common_steps))
added_words (k ∷ l ∷ []) a b d x y z c old middle new result many p q r s t u is push h = absurd (grind (arith, common_steps))
added_words (k ∷ l ∷ m ∷ words) a b d x y z c old middle new (Err e) many p q r s t u is push h = tt
added_words (k ∷ l ∷ m ∷ words) a b d x y z c old middle new (Ok v) many p q r s t u is push h =
    let first : x ≡ string_bytes k = s ∙ ap string_bytes p in
    let second : y ≡ string_bytes l = t ∙ ap string_bytes q in
    let third : z ≡ string_bytes m = u ∙ ap string_bytes r in
    let R : List (String Global) → Type 0 = λ more. IsSomeAnd (conditions_from (texts more)) (λ named. new ≡ middle ++ named) in
    added (condition_from (string_bytes k) (string_bytes l) (string_bytes m)) (conditions_from (texts words)) c old middle new (rw (first, second, third) at is) push
    (subst R (rest_is 3 (k ∷ l ∷ m ∷ words)) h)

pub ranges_added : {A E : Type 0} (c : ConditionWords) (old middle new : List ConditionWords) (result : Result A E) → IsConditionOfWords c → middle ≡ old ++ c ∷ []
    → OnOk result (All IsConditionOfWords middle → All IsConditionOfWords new) → OnOk result (All IsConditionOfWords old → All IsConditionOfWords new)
ranges_added c old middle new (Err e) range push h = tt
ranges_added c old middle new (Ok v) range push h = λ all. h (All-same IsConditionOfWords middle (old ++ c ∷ []) push (All-push IsConditionOfWords old c all range))

-- what was added to nothing is what was named
pub named_is : (found : Option (List ConditionWords)) (old new : List ConditionWords) → old ≡ [] → IsSomeAnd found (λ named. new ≡ old ++ named) → found ≡ Some new
named_is None old new none h = absurd h
named_is (Some named) old new none h = ap Some (sym (h ∙ ap (λ (o : List ConditionWords). o ++ named) none))

-- ---- how many there are

three_each : (one : Option ConditionWords) (found : Option (List ConditionWords)) (n : ℕ) → IfSome found (λ cs. n ≡ 3 * length cs)
    → IfSome (before one found) (λ cs. suc (suc (suc n)) ≡ 3 * length cs)
three_each None found n h = tt
three_each (Some c) None n h = tt
three_each (Some c) (Some cs) n h = omega (arith, h)

count_of : (words : List (List ℕ)) → IfSome (conditions_from words) (λ cs. length words ≡ 3 * length cs)
count_of [] = refl
count_of (a ∷ []) = tt
count_of (a ∷ b ∷ []) = tt
count_of (a ∷ b ∷ c ∷ words) = three_each (condition_from a b c) (conditions_from words) (length words) (count_of words)

few_is : (a b : Bool) (cs : List ConditionWords) → nat_le 2 (length cs) ≡ a → nat_le (length cs) 4 ≡ b → few_enough cs ≡ cond (a && b) (Some cs) None
few_is a b cs at_least at_most = ap₂ (λ (x y : Bool). cond (x && y) (Some cs) None) at_least at_most

pub too_few : (cs : List ConditionWords) → length cs < 2 → few_enough cs ≡ None
too_few cs h = elim (leb_tells 2 (length cs)) [
  | inl least ↦ absurd (omega (arith, least.1, h))
  | inr most ↦ few_is false (nat_le (length cs) 4) cs most.0 refl
]

too_many_of : (a : Bool) (cs : List ConditionWords) → nat_le 2 (length cs) ≡ a → nat_le (length cs) 4 ≡ false → few_enough cs ≡ None
too_many_of true cs at_least at_most = few_is true false cs at_least at_most
too_many_of false cs at_least at_most = few_is false false cs at_least at_most

pub beyond : (cs : List ConditionWords) → 4 < length cs → few_enough cs ≡ None
beyond cs h = elim (leb_tells (length cs) 4) [
  | inl least ↦ absurd (omega (arith, least.1, h))
  | inr most ↦ too_many_of (nat_le 2 (length cs)) cs refl most.0
]

pub enough : (cs : List ConditionWords) → 2 ≤ length cs → length cs ≤ 4 → few_enough cs ≡ Some cs
enough cs some few = few_is true true cs (le-leb 2 (length cs) some) (le-leb (length cs) 4 few)

many : (found : Option (List ConditionWords)) (n : ℕ) → IfSome found (λ cs. n ≡ 3 * length cs) → 12 < n → option_and_then few_enough found ≡ None
many None n h more = refl
many (Some cs) n h more = beyond cs (omega (arith, h, more))

pub too_many : (words : List (List ℕ)) → 12 < length words → conditions_of words ≡ None
too_many words more = many (conditions_from words) (length words) (count_of words) more

-- ---- all of them

pub named_few : (found : Option (List ConditionWords)) (cs : List ConditionWords) → found ≡ Some cs → few_enough cs ≡ Some cs → option_and_then few_enough found ≡ Some cs
named_few found cs is few = ap (option_and_then few_enough) is ∙ few

pub named_none : (found : Option (List ConditionWords)) (cs : List ConditionWords) → found ≡ Some cs → few_enough cs ≡ None → option_and_then few_enough found ≡ None
named_none found cs is none = ap (option_and_then few_enough) is ∙ none

pub unnamed : (found : Option (List ConditionWords)) → found ≡ None → option_and_then few_enough found ≡ None
unnamed found none = ap (option_and_then few_enough) none
