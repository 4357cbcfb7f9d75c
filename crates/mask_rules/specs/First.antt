-- The first of the pixels of which something holds.
use Rattle.std.specs.Prelude.{◌≡◌, ◌⊎◌, ◌≤ℤ◌, ◌<ℤ◌, Bool, ◌&&◌, ◌||◌, if◌then◌else◌, Option, Some, None, int_lt}
use Rattle.std.specs.Ordering.{int_eq}
use Rattle.opc_base.specs.declared.plane.Pix.{Pix}

abbrev pub comes_before : Pix → Pix → Bool
comes_before p q = int_lt p.y q.y || (int_eq p.y q.y && int_lt p.x q.x)

-- the first of two pixels, where there are any
abbrev pub earlier : Option Pix → Option Pix → Option Pix
earlier None q = q
earlier (Some p) None = Some p
earlier (Some p) (Some q) = Some (if comes_before q p then q else p)

-- p is q or comes before it
abbrev pub IsUpTo : Pix → Pix → Type 0
IsUpTo p q = (p.y <ℤ q.y) ⊎ ((p.y ≡ q.y) × (p.x ≤ℤ q.x))

abbrev pub ReachesUpTo : Option Pix → Pix → Type 0
ReachesUpTo None q = ⊥
ReachesUpTo (Some p) q = IsUpTo p q

-- the first pixel of which the fact holds, or `None` where it holds of none
pub record IsFirst (holds : Pix → Type 0) (first : Option Pix) : Type 0 where
  pub is_one : (p : Pix) → first ≡ Some p → holds p
  pub before_all : (q : Pix) → holds q → ReachesUpTo first q
