-- A list in which each number below its length stands once.
use Rattle.std.specs.Prelude.{◌≡◌, ◌≢◌, ℕ, ◌<◌, List, length, get_or, Contains}

pub record AreOneEach (numbers : List ℕ) : Type 0 where
  pub below : (q : ℕ) → q < length numbers → get_or numbers q 0 < length numbers
  pub distinct : (p q : ℕ) → p < q → q < length numbers → get_or numbers p 0 ≢ get_or numbers q 0
  pub complete : (i : ℕ) → i < length numbers → Contains numbers i

-- the first n numbers have their places
abbrev pub AreSomewhere : List ℕ → ℕ → List ℕ → Type 0
AreSomewhere numbers n places = (q : ℕ) → q < n → get_or places (get_or numbers q 0) 0 ≡ q
