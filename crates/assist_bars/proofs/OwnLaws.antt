-- Which fragments are the target's own.
use Rattle.std.proofs.Common.{◌≡◌, inl, inr, ℕ, ◌+◌, ◌<◌, ℤ, pos, ◌+ℤ◌, ◌≤ℤ◌, ◌<ℤ◌, Bool, true, false, List, [], ◌∷◌, ◌++◌, length, get_or, refl, sym, ◌∙◌, ap, subst, arith}
use Rattle.std.proofs.lemmas.Int.{ints}
use Rattle.std.proofs.lemmas.Bool.{cases_lt}
use Rattle.std.proofs.lemmas.List.{get_or_append_left}
use Rattle.std.proofs.lemmas.List.Folds.{list_any_at}
use Rattle.std.proofs.Math.Seq.{get_or-append_seam}
use Rattle.std.proofs.Common.{⊎_elim}
use Rattle.opc_base.specs.declared.plane.Rect.{Rect}
use Rattle.opc_base.specs.Plane.{cover, rect_cover}
use Rattle.assist_bars.specs.Boxes.{MeetsNone, MeetsSome, overlaps}
use Rattle.assist_bars.proofs.BoxLaws.{clear_if_none}

pixel_covered : (r s : Rect) (x y : ℤ) → s.x0 ≡ x → s.y0 ≡ y → s.x1 ≡ x +ℤ pos 1 → s.y1 ≡ y +ℤ pos 1 → overlaps r s ≡ true → rect_cover r x y ≡ true
pixel_covered r s x y a b p q is = grind (arith, ints)

pixel_has : (s : Rect) (x y : ℤ) → s.x0 ≡ x → s.y0 ≡ y → s.x1 ≡ x +ℤ pos 1 → s.y1 ≡ y +ℤ pos 1 → rect_cover s x y ≡ true
pixel_has s x y a b p q = grind (arith, ints)

-- what meets the rectangle of one pixel has the pixel
pub pixel_met : (rects : List Rect) (r : Rect) (x y : ℤ) (met : Bool) → (met ≡ true → MeetsSome rects r) → (met ≡ false → MeetsNone rects r)
    → r.x0 ≡ x → r.y0 ≡ y → r.x1 ≡ x +ℤ pos 1 → r.y1 ≡ y +ℤ pos 1 → met ≡ cover rects x y
pixel_met rects r x y true some none a b p q =
    let found = some refl in
    sym (list_any_at (λ s. rect_cover s x y) rects found.0 r found.1 (pixel_covered (get_or rects found.0 r) r x y a b p q (found.2 r)))
pixel_met rects r x y false some none a b p q = sym (clear_if_none rects r (none refl) x y (pixel_has r x y a b p q))

-- one flag more
pub flag_more : (flag : ℕ → Bool) (flags : List Bool) (i : ℕ) (v : Bool) → length flags ≡ i → v ≡ flag i → ((j : ℕ) → j < i → get_or flags j false ≡ flag j)
    → (j : ℕ) → j < i + 1 → get_or (flags ++ v ∷ []) j false ≡ flag j
flag_more flag flags i v size is earlier j below =
    ⊎_elim (λ less. get_or_append_left flags (v ∷ []) false j (omega (arith, less, size)) ∙ earlier j less)
    (λ most.
    let last : j ≡ length flags = omega (arith, most, size, below) in
    let here : i ≡ j = omega (arith, most, size, below) in
    ap (λ k. get_or (flags ++ v ∷ []) k false) last ∙ get_or-append_seam flags v [] false ∙ is ∙ ap flag here)
    (cases_lt j i)
