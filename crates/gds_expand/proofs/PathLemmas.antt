-- A step along the segments of a path.
use Rattle.std.proofs.Common.{◌≡◌, ℕ, ◌+◌, ◌<◌, ℤ, Bool, true, false, List, [], ◌∷◌, ◌++◌, drop, get_or, length, filter, All, if◌then◌else◌, refl, ap, sym, ◌∙◌, append_assoc}
use Rattle.std.proofs.lemmas.List.{at_drop_more}
use Rattle.std.proofs.lemmas.List.Elements.{All-cons, All-head, All-tail}
use Rattle.gds_model.specs.declared.position.Position.{Position}
use Rattle.gds_model.specs.declared.position.PathForm.{PathForm}
use Rattle.gds_model.specs.declared.position.DoubledRect.{DoubledRect}
use Rattle.gds_model.specs.PathRects.{is_repeated, is_straight, merged, straightened, turns_after, full_width, extension_before, segment_rect, rects_from, has_area}

kept : {A : Type 0} (p : A → Bool) (xs ys : List A) (x : A) → p x ≡ true → (xs ++ x ∷ []) ++ filter p ys ≡ xs ++ filter p (x ∷ ys)
kept p xs ys x e = rw e (append_assoc xs (x ∷ []) (filter p ys))

passed : {A : Type 0} (p : A → Bool) (xs ys : List A) (x : A) → p x ≡ false → xs ++ filter p ys ≡ xs ++ filter p (x ∷ ys)
passed p xs ys x e = rw e refl

-- the rectangles that are left at the segment to point i of the rest
abbrev pub left_at : PathForm → ℤ → Position → List Position → ℕ → List DoubledRect
left_at form before p rest i = filter has_area (rects_from form before p (drop i rest))

first_left : (form : PathForm) (before : ℤ) (p : Position) (rest : List Position) (i : ℕ) (d : Position) (r : DoubledRect) → i < length rest →
    r ≡ segment_rect (full_width form) p before (get_or rest i d) (extension_before form (drop (i + 1) rest)) →
    left_at form before p rest i ≡ filter has_area (r ∷ rects_from form (full_width form) (get_or rest i d) (drop (i + 1) rest))
first_left form before p rest i d r lt e =
    at_drop_more (λ s. filter has_area (rects_from form before p s)) rest i d lt
    ∙ ap (λ s. filter has_area (s ∷ rects_from form (full_width form) (get_or rest i d) (drop (i + 1) rest))) (sym e)

pub left_after_kept : (form : PathForm) (before : ℤ) (p : Position) (rest : List Position) (i : ℕ) (d : Position) (r : DoubledRect) (made all : List DoubledRect) →
    i < length rest → r ≡ segment_rect (full_width form) p before (get_or rest i d) (extension_before form (drop (i + 1) rest)) →
    has_area r ≡ true → made ++ left_at form before p rest i ≡ all →
    (made ++ r ∷ []) ++ left_at form (full_width form) (get_or rest i d) rest (i + 1) ≡ all
left_after_kept form before p rest i d r made all lt e area h =
    kept has_area made (rects_from form (full_width form) (get_or rest i d) (drop (i + 1) rest)) r area
    ∙ ap (λ s. made ++ s) (sym (first_left form before p rest i d r lt e)) ∙ h

pub left_after_passed : (form : PathForm) (before : ℤ) (p : Position) (rest : List Position) (i : ℕ) (d : Position) (r : DoubledRect) (made all : List DoubledRect) →
    i < length rest → r ≡ segment_rect (full_width form) p before (get_or rest i d) (extension_before form (drop (i + 1) rest)) →
    has_area r ≡ false → made ++ left_at form before p rest i ≡ all →
    made ++ left_at form (full_width form) (get_or rest i d) rest (i + 1) ≡ all
left_after_passed form before p rest i d r made all lt e area h =
    passed has_area made (rects_from form (full_width form) (get_or rest i d) (drop (i + 1) rest)) r area
    ∙ ap (λ s. made ++ s) (sym (first_left form before p rest i d r lt e)) ∙ h

-- ---- what is true of each point

pub All-merged : (P : Position → Type 0) (points : List Position) → All P points → All P (merged points)
All-merged P [] h = h
All-merged P (p ∷ rest) h = either (is_repeated p rest) (All-merged P rest (All-tail P p rest h))
  where
    either : (b : Bool) → All P (merged rest) → All P (if b then merged rest else p ∷ merged rest)
    either true left = left
    either false left = All-cons P p (merged rest) (All-head P p rest h) left

All-turns_after : (P : Position → Type 0) (p : Position) (points : List Position) → All P points → All P (turns_after p points)
All-turns_after P p [] h = h
All-turns_after P p (q ∷ rest) h = either (is_straight p q rest) (All-turns_after P q rest (All-tail P q rest h))
  where
    either : (b : Bool) → All P (turns_after q rest) → All P (if b then turns_after q rest else q ∷ turns_after q rest)
    either true left = left
    either false left = All-cons P q (turns_after q rest) (All-head P q rest h) left

pub All-straightened : (P : Position → Type 0) (points : List Position) → All P points → All P (straightened points)
All-straightened P [] h = h
All-straightened P (p ∷ rest) h = All-cons P p (turns_after p rest) (All-head P p rest h) (All-turns_after P p rest (All-tail P p rest h))
