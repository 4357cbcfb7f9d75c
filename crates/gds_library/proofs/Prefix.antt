-- A front of a sentence, by what the grammar leaves after it.
use Rattle.std.proofs.Common.{◌≡◌, true, refl, None, inl, subst, List, [], ◌∷◌, ◌++◌, sym}
use Rattle.gds_records.specs.Records.{StreamRecord}
use Rattle.gds_model.specs.Grammar.{Grammar, never, empty, one, ◌⨾◌, ◌∣◌, optional, many, Content, Tree, records_of, Spells}
use Rattle.gds_model.specs.StreamFile.{library, IsPrefix}
use Rattle.gds_library.specs.Derivative.{after, left, is_possible}
use Rattle.gds_library.proofs.Language.{both_true, after-sound, after-complete}

pub left-append : (g : Grammar) (rs : List StreamRecord) (r : StreamRecord) → left g (rs ++ r ∷ []) ≡ after r.code (left g rs)
left-append g [] r = refl
left-append g (s ∷ rs) r = left-append (after s.code g) rs r

pub left-sound : (g : Grammar) (rs more : List StreamRecord) → Spells (left g rs) more → Spells g (rs ++ more)
left-sound g [] more s = s
left-sound g (r ∷ rs) more s =
    after-sound r.code (record { offset = r.offset; body = r.body }) g (rs ++ more) (left-sound (after r.code g) rs more s)

pub left-complete : (g : Grammar) (rs more : List StreamRecord) → Spells g (rs ++ more) → Spells (left g rs) more
left-complete g [] more s = s
left-complete g (r ∷ rs) more s =
    left-complete (after r.code g) rs more (after-complete g s.0 r (rs ++ more) s.1)

-- a grammar that is possible spells something
pub possible_spelled : (g : Grammar) → is_possible g ≡ true → (rs : List StreamRecord) × Spells g rs
possible_spelled never e = cc
possible_spelled empty e = ([], (tt, refl))
possible_spelled (one k) e =
    let t : Content = record { offset = 0; body = [] } in (records_of (one k) t, (t, refl))
possible_spelled (g ⨾ h) e =
    let parts = both_true (is_possible g) (is_possible h) e in
    let left = possible_spelled g parts.0 in
    let right = possible_spelled h parts.1 in
    let t : Tree (g ⨾ h) = (left.1.0, right.1.0) in
    (records_of (g ⨾ h) t, (t, refl))
possible_spelled (g ∣ h) e =
    let parts = both_true (is_possible g) (is_possible h) e in
    let s = possible_spelled g parts.0 in
    (s.0, (inl s.1.0, s.1.1))
possible_spelled (optional g) e = ([], (None, refl))
possible_spelled (many g) e = ([], ([], refl))

pub IsPrefix-possible : (rs : List StreamRecord) (g : Grammar) → left library rs ≡ g → is_possible g ≡ true → IsPrefix rs
IsPrefix-possible rs g e possible =
    let s = possible_spelled g possible in
    let P : Grammar → Type 0 = λ h. Spells h s.0 in
    record { more = s.0; sentence = left-sound library rs s.0 (subst P (sym e) s.1) }

pub IsPrefix-never : (rs : List StreamRecord) → left library rs ≡ never → IsPrefix rs → ⊥
IsPrefix-never rs e p =
    let s = left-complete library rs p.more p.sentence in
    let P : Grammar → Type 0 = λ h. Spells h p.more in
    let q : Spells never p.more = subst P e s in
    absurd q.0
