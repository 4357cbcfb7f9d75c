-- Where the printed contour lies beside an edge, in sixteenths of a pixel. Of the samples, half lie on each side of the
-- edge: sample t, from -E to E - 1, stands at the place t + E of the list.
use Rattle.std.specs.Prelude.{ℕ, ◌+◌, ◌-◌, ◌*◌, ◌/◌, ◌<◌, ◌≤◌, ℤ, pos, neg_ℤ, ◌+ℤ◌, ◌-ℤ◌, ◌*ℤ◌, ◌≤ℤ◌, ◌<ℤ◌, int_le, int_lt, unsigned_abs, Bool, if◌then◌else◌, List, length, take, drop, reverse, slice_index_or, Option, option_map}
use Rattle.std.specs.List.{position}
use Rattle.std.specs.Option.{option_map_or}

-- a sample is printed where its intensity is at least the threshold, and else dark
abbrev pub is_printed : ℤ → ℤ → Bool
is_printed threshold intensity = int_le threshold intensity

abbrev pub is_dark : ℤ → ℤ → Bool
is_dark threshold intensity = int_lt intensity threshold

-- E, the number of samples on each side of the edge
abbrev pub side : List ℤ → ℕ
side samples = length samples / 2

-- the samples outside the edge, the nearest first
abbrev pub outward : List ℤ → List ℤ
outward samples = drop (side samples) samples

-- the samples inside the edge, the nearest first
abbrev pub inward : List ℤ → List ℤ
inward samples = reverse (take (side samples) samples)

-- the sample at a place of the list
abbrev pub sample : List ℤ → ℕ → ℤ
sample samples place = slice_index_or samples place (pos 0)

-- the place of the nearest dark sample after a printed one: outward where the last sample inside is printed, else inward
abbrev pub contour : ℤ → List ℤ → Option ℕ
contour threshold samples =
    if is_printed threshold (sample samples (side samples - 1))
    then option_map (λ t. side samples + t) (position (is_dark threshold) (outward samples))
    else option_map (λ k. side samples - k) (position (is_printed threshold) (inward samples))

-- how far the threshold lies on the line from one intensity down to the next, in sixteenths, rounded down
abbrev pub crossing : ℤ → ℤ → ℤ → ℕ
crossing threshold before after = 16 * unsigned_abs (before -ℤ threshold) / unsigned_abs (before -ℤ after)

-- how far the centre of the sample at a place lies outside the edge, in sixteenths
abbrev pub centre : List ℤ → ℕ → ℤ
centre samples place = pos 16 *ℤ (pos place -ℤ pos (side samples)) +ℤ pos 8

-- the error where the contour comes before a place
abbrev pub error_at : ℤ → List ℤ → ℕ → ℤ
error_at threshold samples place =
    centre samples (place - 1) +ℤ pos (crossing threshold (sample samples (place - 1)) (sample samples place))

-- the error where no contour lies among the samples: all of a side
abbrev pub farthest : ℤ → List ℤ → ℤ
farthest threshold samples =
    if is_printed threshold (sample samples (side samples - 1))
    then pos (16 * side samples)
    else neg_ℤ (pos (16 * side samples))

-- the edge error: how far the contour lies outside the edge, in sixteenths of a pixel
abbrev pub error_of : ℤ → List ℤ → ℤ
error_of threshold samples = option_map_or (error_at threshold samples) (contour threshold samples) (farthest threshold samples)

-- the sample at a place is dark, and the one before it is printed
pub record IsContour (threshold : ℤ) (samples : List ℤ) (place : ℕ) : Type 0 where
  pub first : 1 ≤ place
  pub last : place < length samples
  pub printed : threshold ≤ℤ sample samples (place - 1)
  pub dark : sample samples place <ℤ threshold

-- the error lies between the centres of the printed and the dark sample at the contour
pub record LiesAtContour (threshold : ℤ) (samples : List ℤ) (error : ℤ) (place : ℕ) : Type 0 where
  pub contour : IsContour threshold samples place
  pub low : centre samples (place - 1) ≤ℤ error
  pub high : error <ℤ centre samples place
