-- What two stretches of one direction can break.
use Rattle.std.specs.Prelude.{◌≡◌, ◌⊎◌, ℕ, ◌<◌, ℤ, pos, ◌+ℤ◌, ◌-ℤ◌, ◌≤ℤ◌, Bool, true, false, not, ◌&&◌, if◌then◌else◌, Option, Some, None, List, length, int_lt}
use Rattle.std.specs.Int.{int_min, int_max}
use Rattle.std.specs.Ordering.{int_eq}
use Rattle.outline_model.specs.declared.fragment.Fragment.{Fragment}
use Rattle.opc_base.specs.declared.plane.Rect.{Rect}
use Rattle.opc_base.specs.declared.plane.Pix.{Pix}
use Rattle.outline_model.specs.Outline.{next, previous}
use Rattle.mask_rules.specs.declared.clash.Clash.{Clash}
use Rattle.mask_rules.specs.declared.clash.Clash.TheVariants.{Meet, Narrow, Touch}
use Rattle.mask_rules.specs.declared.stretch.Stretch.{Stretch}
use Rattle.mask_rules.specs.First.{earlier}
use Rattle.mask_rules.specs.Stretches.{pixel_at, rect_at, stretch_at}

abbrev pub IsClash : Clash → Type 0
IsClash Meet = Unit {0}
IsClash (Narrow covered least) = (pos 0 ≤ℤ least) × (least ≤ℤ pos 1024)
IsClash Touch = Unit {0}

-- the test, or its opposite where the pixels that are looked at are not covered
abbrev pub of_colour : Bool → Bool → Bool
of_colour covered test = if covered then test else not test

abbrev pub overlap : Stretch → Stretch → Bool
overlap p q = int_lt (int_max p.low q.low) (int_min p.high q.high)

unfoldable pub is_meeting : Stretch → Stretch → Bool
is_meeting p q = ((p.opens && not q.opens) && int_eq p.at q.at) && overlap p q

unfoldable pub is_narrow : Bool → ℤ → Stretch → Stretch → Bool
is_narrow covered least p q =
    (((of_colour covered p.opens && not (of_colour covered q.opens)) && int_lt p.at q.at) && int_lt q.at (p.at +ℤ least)) && overlap p q

unfoldable pub is_touching : Bool → Stretch → Stretch → Bool
is_touching v p q =
    ((((not v && of_colour p.opens (not q.opens)) && int_eq p.at q.at) && int_eq p.high q.low) && int_lt p.low p.high) && int_lt q.low q.high

abbrev pub clash_test : Clash → Bool → Stretch → Stretch → Bool
clash_test Meet v p q = is_meeting p q
clash_test (Narrow covered least) v p q = is_narrow covered least p q
clash_test Touch v p q = is_touching v p q

abbrev pub clash_place : Clash → Bool → Stretch → Stretch → Pix
clash_place Meet v p q = pixel_at v p.at (int_max p.low q.low)
clash_place (Narrow covered least) v p q = pixel_at v p.at (int_max p.low q.low)
clash_place Touch v p q = pixel_at v (p.at -ℤ pos 1) (p.high -ℤ pos 1)

-- the first pixel of a clash
abbrev pub clash_pixel : Clash → Bool → Stretch → Stretch → Option Pix
clash_pixel clash v p q = if clash_test clash v p q then Some (clash_place clash v p q) else None

-- a rectangle that has the places beside a stretch at which others that are at most `reach` apart can clash with it
abbrev pub clash_area : ℤ → Bool → Stretch → Rect
clash_area reach v s = rect_at v (s.at -ℤ reach) (s.at +ℤ reach +ℤ pos 1) (s.low -ℤ pos 1) (s.high +ℤ pos 1)

-- the first pixel of the clashes of two stretches, whichever comes first
abbrev pub pair_pixel : Clash → Bool → Stretch → Stretch → Option Pix
pair_pixel clash v p q = earlier (clash_pixel clash v p q) (clash_pixel clash v q p)

-- fragment c's stretch of a direction clashes with another
abbrev pub ClashesOf : List Fragment → (ℕ → ℤ) → Clash → Bool → ℕ → Pix → Type 0
ClashesOf fs line clash v c p = (k : ℕ) × (k < length fs)
    × ((clash_pixel clash v (stretch_at fs line v c) (stretch_at fs line v k) ≡ Some p)
    ⊎ (clash_pixel clash v (stretch_at fs line v k) (stretch_at fs line v c) ≡ Some p))

abbrev pub ClashesBeside : List Fragment → (ℕ → ℤ) → Clash → ℕ → Pix → Type 0
ClashesBeside fs line clash c p = ClashesOf fs line clash true c p ⊎ ClashesOf fs line clash false c p

-- a stretch that the move of fragment i can have changed clashes with another
abbrev pub ClashesNow : List Fragment → (ℕ → ℤ) → Clash → ℕ → Pix → Type 0
ClashesNow fs line clash i p =
    (ClashesBeside fs line clash (previous fs i) p ⊎ ClashesBeside fs line clash i p) ⊎ ClashesBeside fs line clash (next fs i) p
