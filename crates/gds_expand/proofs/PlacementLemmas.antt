-- A placement in a placement is a placement.
use Rattle.std.proofs.Common.{◌≡◌, ℕ, zero, suc, ◌+◌, ◌-◌, ◌%◌, ◌<◌, ◌≤◌, ℤ, Bool, true, false, refl, ap, sym, ◌∙◌, arith, inl, inr, not}
use mathlib.Core.Bool.{beq}
use Rattle.std.proofs.Math.Nat.{mod-eq_of_lt}
use Rattle.std.proofs.lemmas.Int.{ints}
use Rattle.std.proofs.lemmas.Bool.{cases_lt}
use Rattle.gds_model.specs.declared.position.Position.{Position}
use Rattle.gds_model.specs.Placement.{reflected, quarter_turned, turned, shifted}

abbrev pub point : ℤ → ℤ → Position
point x y = record { x = x; y = y }

pub same_position : (p q : Position) → p.x ≡ q.x → p.y ≡ q.y → p ≡ q
same_position p q x y = ap (λ v. point v p.y) x ∙ ap (λ v. point q.x v) y

-- ---- maps of sums
reflected-shifted : (f : Bool) (s p : Position) → reflected f (shifted s p) ≡ shifted (reflected f s) (reflected f p)
reflected-shifted true s p = same_position _ _ refl (omega (arith, ints))
reflected-shifted false s p = refl

quarter_turned-shifted : (s p : Position) → quarter_turned (shifted s p) ≡ shifted (quarter_turned s) (quarter_turned p)
quarter_turned-shifted s p = same_position _ _ (omega (arith, ints)) refl

turned-shifted : (n : ℕ) (s p : Position) → turned n (shifted s p) ≡ shifted (turned n s) (turned n p)
turned-shifted zero s p = refl
turned-shifted (suc n) s p = ap quarter_turned (turned-shifted n s p) ∙ quarter_turned-shifted (turned n s) (turned n p)

shifted-shifted : (s t p : Position) → shifted t (shifted s p) ≡ shifted (shifted t s) p
shifted-shifted s t p = same_position _ _ (omega (arith, ints)) (omega (arith, ints))

-- ---- turns
turned-add : (a b : ℕ) (p : Position) → turned (a + b) p ≡ turned a (turned b p)
turned-add zero b p = let e : zero + b ≡ b = omega arith in ap (λ n. turned n p) e
turned-add (suc a) b p =
    let e : suc a + b ≡ suc (a + b) = omega arith in
    ap (λ n. turned n p) e ∙ ap quarter_turned (turned-add a b p)

once_round : (p : Position) → turned 4 p ≡ p
once_round p = same_position _ _ (omega (arith, ints)) (omega (arith, ints))

turned-mod : (n : ℕ) (p : Position) → n < 8 → turned (n % 4) p ≡ turned n p
turned-mod n p small = elim (cases_lt n 4) [ inl below ↦ ap (λ k. turned k p) (mod-eq_of_lt below) | inr above ↦ over n p above small ]
  where
    over : (n : ℕ) (p : Position) → 4 ≤ n → n < 8 → turned (n % 4) p ≡ turned n p
    over n p above small =
        let rest : n % 4 ≡ n - 4 = omega arith in
        let whole : 4 + (n - 4) ≡ n = omega arith in
        ap (λ k. turned k p) rest ∙ sym (once_round (turned (n - 4) p)) ∙ sym (turned-add 4 (n - 4) p) ∙ ap (λ k. turned k p) whole

-- a reflection turns the other way
reflected-turned : (n : ℕ) (p : Position) → n < 4 → reflected true (turned n p) ≡ turned (4 - n) (reflected true p)
reflected-turned zero p h = sym (once_round (reflected true p))
reflected-turned (suc zero) p h = same_position _ _ (omega (arith, ints)) (omega (arith, ints))
reflected-turned (suc (suc zero)) p h = same_position _ _ (omega (arith, ints)) (omega (arith, ints))
reflected-turned (suc (suc (suc zero))) p h = same_position _ _ (omega (arith, ints)) (omega (arith, ints))
reflected-turned (suc (suc (suc (suc n)))) p h = absurd (omega arith)

-- ---- both

-- the turns of a placement in a placement
abbrev pub turns_after : Bool → ℕ → ℕ → ℕ
turns_after true a b = a + 4 - b
turns_after false a b = a + b

-- it is reflected where one of the two is
abbrev pub flip_after : Bool → Bool → Bool
flip_after true true = false
flip_after true false = true
flip_after false g = g

reflected-reflected : (g : Bool) (p : Position) → reflected true (reflected g p) ≡ reflected (flip_after true g) p
reflected-reflected true p = same_position _ _ refl (omega (arith, ints))
reflected-reflected false p = refl

turned-reflected : (f g : Bool) (a b : ℕ) (p : Position) → a < 4 → b < 4 →
    turned (turns_after f a b % 4) (reflected (flip_after f g) p) ≡ turned a (reflected f (turned b (reflected g p)))
turned-reflected true g a b p low small =
    let sum : a + 4 - b ≡ a + (4 - b) = omega arith in
    turned-mod (a + 4 - b) (reflected (flip_after true g) p) (omega arith)
    ∙ ap (λ k. turned k (reflected (flip_after true g) p)) sum
    ∙ turned-add a (4 - b) (reflected (flip_after true g) p)
    ∙ ap (λ q. turned a (turned (4 - b) q)) (sym (reflected-reflected g p))
    ∙ ap (turned a) (sym (reflected-turned b (reflected g p) small))
turned-reflected false g a b p low small =
    turned-mod (a + b) (reflected g p) (omega arith) ∙ turned-add a b (reflected g p)

pub placed-placed : (f g : Bool) (a b : ℕ) (outer inner p : Position) → a < 4 → b < 4 →
    shifted (shifted outer (turned a (reflected f inner))) (turned (turns_after f a b % 4) (reflected (flip_after f g) p))
    ≡ shifted outer (turned a (reflected f (shifted inner (turned b (reflected g p)))))
placed-placed f g a b outer inner p low small =
    let far : Position = turned a (reflected f inner) in
    let near : Position = turned a (reflected f (turned b (reflected g p))) in
    ap (shifted (shifted outer far)) (turned-reflected f g a b p low small)
    ∙ sym (shifted-shifted far outer near)
    ∙ ap (shifted outer)
    (sym (ap (turned a) (reflected-shifted f inner (turned b (reflected g p)))
    ∙ turned-shifted a (reflected f inner) (reflected f (turned b (reflected g p)))))

pub flip_after_is : (f g : Bool) → not (beq f g) ≡ flip_after f g
flip_after_is true true = refl
flip_after_is true false = refl
flip_after_is false true = refl
flip_after_is false false = refl
