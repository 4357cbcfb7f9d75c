-- A name is found from the back: each zero byte at the end is left out, and what is left ends in another byte.
use Rattle.std.proofs.Common.{◌≡◌, ◌≢◌, ℕ, ◌+◌, ◌<◌, ◌==◌, ◌||◌, true, cond, refl, List, [], ◌∷◌, ◌++◌, length, take, get_or, ap, sym, ◌∙◌}
use Rattle.std.proofs.lemmas.List.{take_more}
use Rattle.std.specs.Prelude.{not}
use Rattle.std.proofs.lemmas.Bool.{ne_eqb}
use Rattle.std.proofs.Math.Bool.{or-true}
use Rattle.gds_model.specs.Names.{has_nonzero, name_of}

has_nonzero-zero : (bytes : List ℕ) → has_nonzero (bytes ++ 0 ∷ []) ≡ has_nonzero bytes
has_nonzero-zero [] = refl
has_nonzero-zero (byte ∷ bytes) = ap (λ b. not (byte == 0) || b) (has_nonzero-zero bytes)

has_nonzero-other : (bytes : List ℕ) (last : ℕ) → last ≢ 0 → has_nonzero (bytes ++ last ∷ []) ≡ true
has_nonzero-other [] last h = let test = ne_eqb last 0 h in rw test refl
has_nonzero-other (byte ∷ bytes) last h =
    ap (λ b. not (byte == 0) || b) (has_nonzero-other bytes last h) ∙ or-true (not (byte == 0))

-- a zero byte at the end is no part of the name
pub name_of-zero : (bytes : List ℕ) → name_of (bytes ++ 0 ∷ []) ≡ name_of bytes
name_of-zero [] = refl
name_of-zero (byte ∷ bytes) =
    ap (λ b. cond b (byte ∷ name_of (bytes ++ 0 ∷ [])) []) (has_nonzero-zero (byte ∷ bytes))
    ∙ ap (λ l. cond (has_nonzero (byte ∷ bytes)) (byte ∷ l) []) (name_of-zero bytes)

-- any other byte at the end is
pub name_of-other : (bytes : List ℕ) (last : ℕ) → last ≢ 0 → name_of (bytes ++ last ∷ []) ≡ bytes ++ last ∷ []
name_of-other [] last h = let test = ne_eqb last 0 h in rw test refl
name_of-other (byte ∷ bytes) last h =
    ap (λ b. cond b (byte ∷ name_of (bytes ++ last ∷ [])) []) (has_nonzero-other (byte ∷ bytes) last h)
    ∙ ap (λ l. byte ∷ l) (name_of-other bytes last h)

-- the same of the front of a body
pub name_of-take_zero : (body : List ℕ) (n : ℕ) → n < length body → get_or body n 0 ≡ 0 → name_of (take (n + 1) body) ≡ name_of (take n body)
name_of-take_zero body n within zero =
    ap name_of (take_more body n 0 within) ∙ ap (λ byte. name_of (take n body ++ byte ∷ [])) zero ∙ name_of-zero (take n body)

pub name_of-take_other : (body : List ℕ) (n : ℕ) → n < length body → get_or body n 0 ≢ 0 → name_of (take (n + 1) body) ≡ take (n + 1) body
name_of-take_other body n within other =
    ap name_of (take_more body n 0 within) ∙ name_of-other (take n body) (get_or body n 0) other ∙ sym (take_more body n 0 within)
