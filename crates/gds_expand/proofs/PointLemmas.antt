-- Counts of points that stop at a bound.
use Rattle.std.proofs.Common.{◌≡◌, ℕ, zero, suc, ◌+◌, ◌-◌, ◌*◌, ◌^◌, ◌<◌, ◌≤◌, inl, inr, List, [], ◌∷◌, length, take, set, get_or, slice_index, Contains, refl, ap, ap₂, sym, ◌∙◌, subst, arith, Vec}
use Rattle.std.specs.declared.alloc.Global.{Global}
use Rattle.std.proofs.Math.Nat.{mul-le-mul}
use Rattle.std.proofs.lemmas.Bool.{cases_lt, cases_eq}
use Rattle.std.proofs.lemmas.List.{take_more, get_or-set_same, get_or-set_other}
use Rattle.std.proofs.lemmas.List.Elements.{Contains-push_cases}
use Rattle.gds_expand.specs.declared.points.Part.{Part}
use Rattle.gds_expand.specs.declared.points.Part.TheVariants.{Points, Copies}
use Rattle.gds_expand.specs.Points.{Plan, parts_of, part_points, parts_points, points_in, targets_of, IsOrderOf}
use Rattle.gds_model.specs.PlaceFaults.{saturated}

pub saturated-add : (a b : ℕ) → saturated (saturated a + saturated b) ≡ saturated (a + b)
saturated-add a b = omega arith

-- a product of at least one copy is no smaller than what is copied
pub saturated-mul : (a b : ℕ) → saturated (a * saturated b) ≡ saturated (a * b)
saturated-mul zero b = let p : zero * saturated b ≡ 0 = omega arith in let q : zero * b ≡ 0 = omega arith in ap saturated (p ∙ sym q)
saturated-mul (suc a) b = elim (cases_lt b (2 ^ 64)) [
  | inl below ↦ let same : saturated b ≡ b = omega arith in ap (λ (n : ℕ). saturated (suc a * n)) same
  | inr above ↦
      let one : 1 ≤ suc a = omega arith in
      let most : saturated b ≡ 2 ^ 64 - 1 = omega arith in
      let same : b ≤ b = omega arith in
      let least : 1 * b ≤ suc a * b = mul-le-mul one same in
      let capped : suc a * saturated b ≡ suc a * (2 ^ 64 - 1) = ap (λ (n : ℕ). suc a * n) most in
      let bound : 2 ^ 64 - 1 ≤ 2 ^ 64 - 1 = omega arith in
      let least' : 1 * (2 ^ 64 - 1) ≤ suc a * (2 ^ 64 - 1) = mul-le-mul one bound in
      omega (arith, capped, least, least')
]

-- the points of a part, from the count of the structure that it copies
abbrev pub counted : List ℕ → Part → ℕ
counted counts (Points n) = n
counted counts (Copies copies s) = copies * slice_index counts s

-- a sum that stops at the bound at each step
abbrev pub running : List ℕ → ℕ → List Part → ℕ
running counts n [] = n
running counts n (part ∷ parts) = running counts (saturated (n + saturated (counted counts part))) parts

counted-saturated : (inner : ℕ → ℕ) (counts : List ℕ) (part : Part) (parts : List Part) →
    ((t : ℕ) → Contains (targets_of (part ∷ parts)) t → slice_index counts t ≡ saturated (inner t)) →
    saturated (counted counts part) ≡ saturated (part_points inner part)
counted-saturated inner counts (Points n) parts h = refl
counted-saturated inner counts (Copies copies s) parts h =
    ap (λ (n : ℕ). saturated (copies * n)) (h s (zero, omega arith, refl)) ∙ saturated-mul copies (inner s)

in_rest : (part : Part) (parts : List Part) (t : ℕ) → Contains (targets_of parts) t → Contains (targets_of (part ∷ parts)) t
in_rest (Points n) parts t h = h
in_rest (Copies copies s) parts t (k, there, e) = (suc k, omega arith, e)

pub running_is : (inner : ℕ → ℕ) (counts : List ℕ) (parts : List Part) (n m : ℕ) → n ≡ saturated m →
    ((t : ℕ) → Contains (targets_of parts) t → slice_index counts t ≡ saturated (inner t)) →
    running counts n parts ≡ saturated (m + parts_points inner parts)
running_is inner counts [] n m e h = let none : m + 0 ≡ m = omega arith in e ∙ ap saturated (sym none)
running_is inner counts (part ∷ parts) n m e h =
    let step : saturated (n + saturated (counted counts part)) ≡ saturated (m + part_points inner part) =
    ap₂ (λ (a b : ℕ). saturated (a + b)) e (counted-saturated inner counts part parts h) ∙ saturated-add m (part_points inner part) in
    running_is inner counts parts (saturated (n + saturated (counted counts part))) (m + part_points inner part) step (λ t k. h t (in_rest part parts t k))
    ∙ ap saturated (sum m (part_points inner part) (parts_points inner parts))
  where
    sum : (a b c : ℕ) → a + b + c ≡ a + (b + c)
    sum a b c = omega arith

-- ---- by the order

-- the counts of these structures are right at every depth from this on
abbrev pub AreCounted : Plan → List ℕ → ℕ → List ℕ → Type 0
AreCounted plan counts least structures = (s depth : ℕ) → Contains structures s → least ≤ depth → slice_index counts s ≡ saturated (points_in plan depth s)

pub parts_of-row : (plan : Plan) (s : ℕ) (row : Vec Part Global) → s < length plan → row ≡ get_or plan s row → parts_of plan s ≡ row.items
parts_of-row [] s row there e = absurd (omega arith)
parts_of-row (r ∷ rows) zero row there e = ap (λ x. x.items) (sym e)
parts_of-row (r ∷ rows) (suc s) row there e = let below : s < length rows = omega arith in parts_of-row rows s row below e

points_in-next : (plan : Plan) (depth s : ℕ) → points_in plan (suc depth) s ≡ parts_points (points_in plan depth) (parts_of plan s)
unfolding points_in
points_in-next plan depth s = refl

pub AreCounted-next : (plan : Plan) (counts order : List ℕ) (i v points : ℕ) → IsOrderOf plan order → i < length order → v ≡ slice_index order i →
    v < length counts →
    ((inner : ℕ → ℕ) → ((t : ℕ) → Contains (targets_of (parts_of plan v)) t → slice_index counts t ≡ saturated (inner t)) →
    points ≡ saturated (parts_points inner (parts_of plan v))) →
    AreCounted plan counts i (take i order) → AreCounted plan (set counts v points) (i + 1) (take (i + 1) order)
AreCounted-next plan counts order i v points ordered there is in_range made h = λ s depth listed deep.
    elim (cases_eq s v) [
      | inl same ↦ ap (slice_index (set counts v points)) same ∙ get_or-set_same counts v points 0 in_range ∙ at_v depth deep
          ∙ ap (λ (x : ℕ). saturated (points_in plan depth x)) (sym same)
      | inr other ↦ get_or-set_other counts v s points 0 other ∙ h s depth (before s listed other) (omega arith)
    ]
  where
    before : (s : ℕ) → Contains (take (i + 1) order) s → (s ≡ v → ⊥) → Contains (take i order) s
    before s listed other = elim (Contains-push_cases (take i order) (slice_index order i) s (subst (λ (xs : List ℕ). Contains xs s) (take_more order i 0 there) listed)) [
      | inl early ↦ early
      | inr last ↦ absurd (other (sym last ∙ sym is))
    ]

    at_v : (depth : ℕ) → i + 1 ≤ depth → points ≡ saturated (points_in plan depth v)
    at_v zero deep = absurd (omega arith)
    at_v (suc depth) deep =
        let enough : i ≤ depth = omega arith in
        made (points_in plan depth)
        (λ t k. h t depth (ordered i t there (subst (λ (x : ℕ). Contains (targets_of (parts_of plan x)) t) is k)) enough)
        ∙ ap saturated (sym (points_in-next plan depth v))
