-- Outlines that the definitions are tried on.
use Rattle.std.proofs.Common.{◌≡◌, ℕ, zero, suc, ◌<◌, ℤ, pos, negsuc, true, false, List, [], ◌∷◌, length, refl, arith}
use Rattle.opc_base.specs.declared.plane.Side.TheVariants.{Left, Right, Down, Up}
use Rattle.outline_model.specs.declared.fragment.Join.TheVariants.{Cut, Corner}
use Rattle.outline_model.specs.declared.fragment.Fragment.{Fragment}
use Rattle.outline_model.specs.Outline.{IsOutline, fragment_at, finish_join, next, previous, lines, low_end, high_end, count, crossing, start, finish, mask, swept}
use Rattle.outline_model.proofs.Walk.{LeadsBy, outline_from}

-- The L with the corners (0,0), (20,0), (20,8), (8,8), (8,20), (0,20), each edge one fragment.
abbrev l_shape : List Fragment
l_shape =
    record { side = Left; edge = pos 0; lo = pos 0; hi = pos 20; low = Corner 3; high = Corner 5 }
    ∷ record { side = Right; edge = pos 8; lo = pos 8; hi = pos 20; low = Corner 4; high = Corner 5 }
    ∷ record { side = Right; edge = pos 20; lo = pos 0; hi = pos 8; low = Corner 3; high = Corner 4 }
    ∷ record { side = Down; edge = pos 0; lo = pos 0; hi = pos 20; low = Corner 0; high = Corner 2 }
    ∷ record { side = Up; edge = pos 8; lo = pos 8; hi = pos 20; low = Corner 1; high = Corner 2 }
    ∷ record { side = Up; edge = pos 20; lo = pos 0; hi = pos 8; low = Corner 0; high = Corner 1 }
    ∷ []

abbrev moved_once : List ℤ
moved_once = pos 0 ∷ pos 2 ∷ pos 0 ∷ pos 0 ∷ pos 0 ∷ pos 0 ∷ []

abbrev moved_twice : List ℤ
moved_twice = pos 0 ∷ pos 2 ∷ pos 0 ∷ pos 0 ∷ pos 3 ∷ pos 0 ∷ []

-- the second of two moves at an inner corner, from the first one's new line
inner_corner : swept l_shape (lines l_shape moved_once) 4 (pos 11) ≡ record { x0 = pos 10; y0 = pos 8; x1 = pos 20; y1 = pos 11 }
inner_corner = refl

shortened : low_end l_shape (lines l_shape moved_twice) 1 ≡ pos 11
shortened = refl

-- the mask is (0,0,20,11) and (0,11,10,20)
corner_pixel : mask l_shape (lines l_shape moved_twice) (pos 19) (pos 10) ≡ true
unfolding count crossing start finish
corner_pixel = refl

above_corner : mask l_shape (lines l_shape moved_twice) (pos 19) (pos 11) ≡ false
unfolding count crossing start finish
above_corner = refl

upper_pixel : mask l_shape (lines l_shape moved_twice) (pos 9) (pos 19) ≡ true
unfolding count crossing start finish
upper_pixel = refl

right_of_upper : mask l_shape (lines l_shape moved_twice) (pos 10) (pos 19) ≡ false
unfolding count crossing start finish
right_of_upper = refl

-- A bar from (0,0) to (15,10) with its left and lower edges cut in three and four, and its other edges whole.
abbrev cut_bar : List Fragment
cut_bar =
    record { side = Left; edge = pos 0; lo = pos 0; hi = pos 3; low = Corner 4; high = Cut 1 }
    ∷ record { side = Left; edge = pos 0; lo = pos 3; hi = pos 7; low = Cut 0; high = Cut 2 }
    ∷ record { side = Left; edge = pos 0; lo = pos 7; hi = pos 10; low = Cut 1; high = Corner 8 }
    ∷ record { side = Right; edge = pos 15; lo = pos 0; hi = pos 10; low = Corner 7; high = Corner 8 }
    ∷ record { side = Down; edge = pos 0; lo = pos 0; hi = pos 3; low = Corner 0; high = Cut 5 }
    ∷ record { side = Down; edge = pos 0; lo = pos 3; hi = pos 8; low = Cut 4; high = Cut 6 }
    ∷ record { side = Down; edge = pos 0; lo = pos 8; hi = pos 12; low = Cut 5; high = Cut 7 }
    ∷ record { side = Down; edge = pos 0; lo = pos 12; hi = pos 15; low = Cut 6; high = Corner 3 }
    ∷ record { side = Up; edge = pos 10; lo = pos 0; hi = pos 15; low = Corner 2; high = Corner 3 }
    ∷ []

-- The second fragment moves out by 2, and the first two of the lower edge in by 1: (8,0,15,1), (0,1,15,3),
-- (-2,3,15,7) and (0,7,15,10) are left.
abbrev cut_bar_moved : List ℤ
cut_bar_moved = pos 0 ∷ pos 2 ∷ pos 0 ∷ pos 0 ∷ negsuc 0 ∷ negsuc 0 ∷ pos 0 ∷ pos 0 ∷ pos 0 ∷ []

cut_end : high_end cut_bar (lines cut_bar cut_bar_moved) 0 ≡ pos 3
cut_end = refl

corner_end : low_end cut_bar (lines cut_bar cut_bar_moved) 0 ≡ pos 1
corner_end = refl

bump : mask cut_bar (lines cut_bar cut_bar_moved) (negsuc 1) (pos 3) ≡ true
unfolding count crossing start finish
bump = refl

below_bump : mask cut_bar (lines cut_bar cut_bar_moved) (negsuc 0) (pos 2) ≡ false
unfolding count crossing start finish
below_bump = refl

dent : mask cut_bar (lines cut_bar cut_bar_moved) (pos 7) (pos 0) ≡ false
unfolding count crossing start finish
dent = refl

right_of_dent : mask cut_bar (lines cut_bar cut_bar_moved) (pos 8) (pos 0) ≡ true
unfolding count crossing start finish
right_of_dent = refl

leads : (i : ℕ) → i < length cut_bar → LeadsBy cut_bar i (finish_join (fragment_at cut_bar i))
leads zero below = (refl, refl, refl, refl)
leads (suc zero) below = (refl, refl, refl, refl)
leads (suc (suc zero)) below = (refl, refl, refl, refl)
leads (suc (suc (suc zero))) below = (refl, refl, refl, refl)
leads (suc (suc (suc (suc zero)))) below = (refl, refl, refl, refl)
leads (suc (suc (suc (suc (suc zero))))) below = (refl, refl, refl, refl)
leads (suc (suc (suc (suc (suc (suc zero)))))) below = (refl, refl, refl, refl)
leads (suc (suc (suc (suc (suc (suc (suc zero))))))) below = (refl, refl, refl, refl)
leads (suc (suc (suc (suc (suc (suc (suc (suc zero)))))))) below = (refl, refl, refl, refl)
leads (suc (suc (suc (suc (suc (suc (suc (suc (suc k))))))))) below = absurd (omega arith)

next_in : (i : ℕ) → i < length cut_bar → next cut_bar i < length cut_bar
next_in zero below = omega arith
next_in (suc zero) below = omega arith
next_in (suc (suc zero)) below = omega arith
next_in (suc (suc (suc zero))) below = omega arith
next_in (suc (suc (suc (suc zero)))) below = omega arith
next_in (suc (suc (suc (suc (suc zero))))) below = omega arith
next_in (suc (suc (suc (suc (suc (suc zero)))))) below = omega arith
next_in (suc (suc (suc (suc (suc (suc (suc zero))))))) below = omega arith
next_in (suc (suc (suc (suc (suc (suc (suc (suc zero)))))))) below = omega arith
next_in (suc (suc (suc (suc (suc (suc (suc (suc (suc k))))))))) below = absurd (omega arith)

previous_in : (i : ℕ) → i < length cut_bar → previous cut_bar i < length cut_bar
previous_in zero below = omega arith
previous_in (suc zero) below = omega arith
previous_in (suc (suc zero)) below = omega arith
previous_in (suc (suc (suc zero))) below = omega arith
previous_in (suc (suc (suc (suc zero)))) below = omega arith
previous_in (suc (suc (suc (suc (suc zero))))) below = omega arith
previous_in (suc (suc (suc (suc (suc (suc zero)))))) below = omega arith
previous_in (suc (suc (suc (suc (suc (suc (suc zero))))))) below = omega arith
previous_in (suc (suc (suc (suc (suc (suc (suc (suc zero)))))))) below = omega arith
previous_in (suc (suc (suc (suc (suc (suc (suc (suc (suc k))))))))) below = absurd (omega arith)

next_of_previous : (i : ℕ) → i < length cut_bar → next cut_bar (previous cut_bar i) ≡ i
next_of_previous zero below = refl
next_of_previous (suc zero) below = refl
next_of_previous (suc (suc zero)) below = refl
next_of_previous (suc (suc (suc zero))) below = refl
next_of_previous (suc (suc (suc (suc zero)))) below = refl
next_of_previous (suc (suc (suc (suc (suc zero))))) below = refl
next_of_previous (suc (suc (suc (suc (suc (suc zero)))))) below = refl
next_of_previous (suc (suc (suc (suc (suc (suc (suc zero))))))) below = refl
next_of_previous (suc (suc (suc (suc (suc (suc (suc (suc zero)))))))) below = refl
next_of_previous (suc (suc (suc (suc (suc (suc (suc (suc (suc k))))))))) below = absurd (omega arith)

cut_bar_is_outline : IsOutline cut_bar
cut_bar_is_outline = outline_from cut_bar leads next_in previous_in next_of_previous
