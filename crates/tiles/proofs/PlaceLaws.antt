-- Where each number of a list stands in it.
use Rattle.std.proofs.Common.{◌≡◌, ℕ, ◌<◌, List, Some, length, get_or, slice_get, sym, ap, ◌∙◌, arith}
use Rattle.std.proofs.lemmas.List.{get_or_default}
use Rattle.std.proofs.lemmas.Option.{slice_get-get_or}
use Rattle.tiles.specs.Places.{AreOneEach, AreSomewhere}

-- all numbers have theirs
pub places_all : (numbers places : List ℕ) → AreOneEach numbers → length places ≡ length numbers → AreSomewhere numbers (length numbers) places →
    (i : ℕ) → i < length places → slice_get numbers (get_or places i 0) ≡ Some i
places_all numbers places each size all i below =
    let has = each.complete i (omega (arith, size)) in
    let within : has.0 < length numbers = has.1 in
    let read : get_or numbers has.0 0 ≡ i = sym (get_or_default numbers has.0 i 0 within) ∙ has.2 in
    let at : get_or places i 0 ≡ has.0 = ap (λ j. get_or places j 0) (sym read) ∙ all has.0 within in
    ap (slice_get numbers) at ∙ slice_get-get_or numbers has.0 0 within ∙ ap Some read
