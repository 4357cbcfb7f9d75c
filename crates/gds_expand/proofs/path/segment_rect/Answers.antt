use Rattle.std.proofs.Common.{◌≡◌, ℤ, ap, ◌∙◌, arith}
use Rattle.std.proofs.lemmas.Int.{ints}
use Rattle.gds_model.specs.PathRects.{rect_along}
use Rattle.gds_model.specs.declared.position.DoubledRect.{DoubledRect}
use Rattle.gds_expand.proofs.path.segment_rect.Goals as goal

abbrev rect : ℤ → ℤ → ℤ → ℤ → DoubledRect
rect x0 y0 x1 y1 = record { x0 = x0; y0 = y0; x1 = x1; y1 = y1 }

same_rect : (r s : DoubledRect) → r.x0 ≡ s.x0 → r.y0 ≡ s.y0 → r.x1 ≡ s.x1 → r.y1 ≡ s.y1 → r ≡ s
same_rect r s a b c d =
    ap (λ x. rect x r.y0 r.x1 r.y1) a ∙ ap (λ y. rect s.x0 y r.x1 r.y1) b
    ∙ ap (λ x. rect s.x0 s.y0 x r.y1) c ∙ ap (λ y. rect s.x0 s.y0 s.x1 y) d

pub returns-in-Right : goal.returns-in-Right
returns-in-Right c =
    same_rect _ _ (omega (arith, ints)) (omega (arith, ints)) (omega (arith, ints)) (omega (arith, ints))
    ∙ ap (λ d. rect_along d c.args.width c.args.from c.args.before c.args.to c.args.after) c.in-Right.ensures

pub returns-in-Left : goal.returns-in-Left
returns-in-Left c =
    same_rect _ _ (omega (arith, ints)) (omega (arith, ints)) (omega (arith, ints)) (omega (arith, ints))
    ∙ ap (λ d. rect_along d c.args.width c.args.from c.args.before c.args.to c.args.after) c.in-Left.ensures

pub returns-in-Up : goal.returns-in-Up
returns-in-Up c =
    same_rect _ _ (omega (arith, ints)) (omega (arith, ints)) (omega (arith, ints)) (omega (arith, ints))
    ∙ ap (λ d. rect_along d c.args.width c.args.from c.args.before c.args.to c.args.after) c.in-Up.ensures

pub returns-in-Down : goal.returns-in-Down
returns-in-Down c =
    same_rect _ _ (omega (arith, ints)) (omega (arith, ints)) (omega (arith, ints)) (omega (arith, ints))
    ∙ ap (λ d. rect_along d c.args.width c.args.from c.args.before c.args.to c.args.after) c.in-Down.ensures
