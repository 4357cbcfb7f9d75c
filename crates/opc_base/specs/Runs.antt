-- Sets of pixels, each a test, and their runs in rows and columns.
use Rattle.std.specs.Prelude.{◌≡◌, ◌≢◌, ◌⊎◌, ℤ, pos, ◌+ℤ◌, ◌-ℤ◌, ◌≤ℤ◌, ◌<ℤ◌, Bool, true, false}

-- the numbers from `first` to below `past` are a maximal run of a line
pub record IsRun (inside : ℤ → Bool) (first past : ℤ) : Type 0 where
  pub some : first <ℤ past
  pub all : (t : ℤ) → first ≤ℤ t → t <ℤ past → inside t ≡ true
  pub before : inside (first -ℤ pos 1) ≡ false
  pub after : inside past ≡ false

-- t lies in a maximal run of fewer than `least` numbers
pub record LiesInShortRun (inside : ℤ → Bool) (least t : ℤ) : Type 0 where
  pub first : ℤ
  pub past : ℤ
  pub run : IsRun inside first past
  pub from : first ≤ℤ t
  pub to : t <ℤ past
  pub short : past <ℤ (first +ℤ least)

-- a pixel of a maximal run, of its row or its column, of fewer than `least` pixels
abbrev pub IsTooNarrow : (ℤ → ℤ → Bool) → ℤ → ℤ → ℤ → Type 0
IsTooNarrow inside least x y =
    LiesInShortRun (λ s. inside s y) least x ⊎ LiesInShortRun (λ s. inside x s) least y

-- the four pixels up and right of this one, itself among them: two that meet at a corner only are covered
pub record IsCornerTouch (inside : ℤ → ℤ → Bool) (x y : ℤ) : Type 0 where
  pub rising : inside x y ≡ inside (x +ℤ pos 1) (y +ℤ pos 1)
  pub falling : inside (x +ℤ pos 1) y ≡ inside x (y +ℤ pos 1)
  pub apart : inside x y ≢ inside (x +ℤ pos 1) y
