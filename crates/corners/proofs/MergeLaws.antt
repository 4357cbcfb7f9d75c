-- The quadrants of points that are merged.
use Rattle.std.proofs.Common.{◌≡◌, ℤ, pos, ◌+ℤ◌, int_le, Bool, ◌&&◌, List, [], ◌∷◌, ◌++◌, IsPermutation, refl, sym, ◌∙◌, ap, arith}
use Rattle.std.proofs.lemmas.Int.{ints}
use Rattle.opc_base.specs.Sums.{sum_each}
use Rattle.corners.specs.Points.{quadrants, share}
use Rattle.signed_points.specs.declared.points.Point.{Point}
use Rattle.signed_points.specs.Points.{SameSums, signs_among}
use Rattle.signed_points.proofs.MergeLaws.{sums-permutation}

pub quadrants-nil : (y x : ℤ) → quadrants [] y x ≡ pos 0
unfolding quadrants
quadrants-nil y x = refl

pub quadrants-cons : (c : Point) (cs : List Point) (y x : ℤ) → quadrants (c ∷ cs) y x ≡ share c y x +ℤ quadrants cs y x
unfolding quadrants
quadrants-cons c cs y x = refl

pub quadrants-push : (cs : List Point) (c : Point) (y x : ℤ) → quadrants (cs ++ c ∷ []) y x ≡ quadrants cs y x +ℤ share c y x
quadrants-push [] c y x =
    let a = quadrants-cons c [] y x in let b = quadrants-nil y x in omega (arith, ints)
quadrants-push (d ∷ cs) c y x =
    let a = quadrants-push cs c y x in let b = quadrants-cons d cs y x in let e = quadrants-cons d (cs ++ c ∷ []) y x in omega (arith, ints)

-- ---- merged points

-- the places at or below y and at or left of x
abbrev under : ℤ → ℤ → ℤ → ℤ → Bool
under y x line place = int_le line y && int_le place x

quadrants-among : (cs : List Point) (y x : ℤ) → quadrants cs y x ≡ signs_among (under y x) cs
unfolding quadrants sum_each
quadrants-among [] y x = refl
quadrants-among (c ∷ cs) y x = ap (λ z. share c y x +ℤ z) (quadrants-among cs y x)

pub quadrants-merged : (cs ds : List Point) (y x : ℤ) → SameSums cs ds → quadrants cs y x ≡ quadrants ds y x
quadrants-merged cs ds y x same = quadrants-among cs y x ∙ same (under y x) ∙ sym (quadrants-among ds y x)

pub quadrants-permutation : (cs ds : List Point) (y x : ℤ) → IsPermutation cs ds → quadrants ds y x ≡ quadrants cs y x
quadrants-permutation cs ds y x moved =
    quadrants-among ds y x ∙ sums-permutation (under y x) cs ds moved ∙ sym (quadrants-among cs y x)
