-- Signed points, by lines.
use Rattle.std.specs.Prelude.{◌≡◌, ◌≢◌, ◌⊎◌, ℕ, ◌+◌, ◌<◌, ◌≤◌, ℤ, pos, neg_ℤ, ◌+ℤ◌, ◌≤ℤ◌, ◌<ℤ◌, Bool, if◌then◌else◌, List, [], ◌∷◌, ◌++◌, length, get_or, All, AllPairs}
use Rattle.opc_base.specs.Sums.{sum_each}
use Rattle.signed_points.specs.declared.points.Point.{Point}

abbrev pub point_at : List Point → ℕ → Point
point_at ps k = get_or ps k (record { line = pos 0; place = pos 0; sign = pos 0 })

-- the line that is met first, and on it the lower place
abbrev pub PointPrecedes : Point → Point → Type 0
PointPrecedes p q = (p.line <ℤ q.line) ⊎ ((p.line ≡ q.line) × (p.place <ℤ q.place))

abbrev pub IsAscending : List Point → Type 0
IsAscending ps = AllPairs PointPrecedes ps

abbrev pub IsSigned : List Point → Type 0
IsSigned ps = All (λ p. p.sign ≢ pos 0) ps

-- no sign is larger than this
abbrev pub SignsWithin : ℕ → List Point → Type 0
SignsWithin most ps = All (λ p. (neg_ℤ (pos most) ≤ℤ p.sign) × (p.sign ≤ℤ pos most)) ps

-- at the point, or before it
abbrev pub IsUpTo : Point → Point → Type 0
IsUpTo q p = (p.line <ℤ q.line) ⊎ ((p.line ≡ q.line) × (p.place ≤ℤ q.place))

abbrev pub AllUpTo : Point → List Point → Type 0
AllUpTo q ps = All (IsUpTo q) ps

abbrev pub IsInOrder : List Point → Type 0
IsInOrder ps = (j k : ℕ) (d : Point) → j ≤ k → k < length ps → IsUpTo (get_or ps k d) (get_or ps j d)

-- the point's sign, if it is at one of these places
abbrev pub sign_among : (ℤ → ℤ → Bool) → Point → ℤ
sign_among places p = if places p.line p.place then p.sign else pos 0

-- the sum of the signs at these places
abbrev pub signs_among : (ℤ → ℤ → Bool) → List Point → ℤ
signs_among places ps = sum_each (λ p. sign_among places p) ps

-- the same sum over each set of places
abbrev pub SameSums : List Point → List Point → Type 0
SameSums ps qs = (places : ℤ → ℤ → Bool) → signs_among places ps ≡ signs_among places qs

-- the last point was at the place and was taken away, or there was none there
abbrev pub IsTakenAt : Point → List Point → List Point → ℤ → Type 0
IsTakenAt point old new sign =
    ((new ≡ old) × (sign ≡ pos 0) × ((rest : List Point) (p : Point) → old ≡ rest ++ p ∷ [] → p.line ≡ point.line → p.place ≢ point.place))
    ⊎ ((p : Point) × (old ≡ new ++ p ∷ []) × (p.line ≡ point.line) × (p.place ≡ point.place) × (p.sign ≡ sign))

-- what adding a point to the merged ones does
pub record AddsPoint (point : Point) (old new : List Point) : Type 0 where
  pub ascending : IsAscending new
  pub signed : IsSigned new
  pub behind : AllUpTo point new
  pub signs : (most : ℕ) → SignsWithin most old → SignsWithin (most + 1) new
  pub sums : (places : ℤ → ℤ → Bool) → signs_among places new ≡ signs_among places old +ℤ sign_among places point

-- points that are merged up to a point
pub record AreMergedUpTo (point : Point) (ps : List Point) : Type 0 where
  pub ascending : IsAscending ps
  pub signed : IsSigned ps
  pub behind : AllUpTo point ps
