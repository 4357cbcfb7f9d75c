-- Parts are what elements place, and their targets what these reference.
use Rattle.std.proofs.Common.{◌≡◌, ℕ, zero, suc, ◌+◌, ◌*◌, ◌<◌, inl, inr, Bool, true, false, Option, Some, None, List, [], ◌∷◌, ◌++◌, length, unsigned_abs, if◌then◌else◌, Contains, refl, ap, ap₂, sym, ◌∙◌, subst, arith}
use Rattle.std.proofs.lemmas.List.Elements.{Contains-append_left, Contains-append_right, Contains-append_cases}
use Rattle.gds_model.specs.declared.elements.Element.{Element}
use Rattle.gds_model.specs.declared.elements.Element.TheVariants.{Shape as shape, Reference as reference}
use Rattle.gds_model.specs.declared.elements.Structure.{Structure}
use Rattle.gds_model.specs.declared.reference.Reference.{Reference}
use Rattle.gds_model.specs.declared.shape.Shape.{Shape}
use Rattle.gds_model.specs.PlacedList.{columns_of, rows_of, element_points, elements_points, points_of_copies}
use Rattle.gds_model.specs.Reach.{number_of}
use Rattle.gds_expand.specs.declared.points.Part.{Part}
use Rattle.gds_expand.specs.declared.points.Part.TheVariants.{Points, Copies}
use Rattle.gds_expand.specs.Parts.{copies_part, parts_by, parts_in}
use Rattle.gds_expand.specs.Points.{parts_points, targets_of}

-- ---- points

parts_points-append : (inner : ℕ → ℕ) (xs ys : List Part) → parts_points inner (xs ++ ys) ≡ parts_points inner xs + parts_points inner ys
parts_points-append inner [] ys = omega arith
parts_points-append inner (x ∷ xs) ys = omega (arith, parts_points-append inner xs ys)

points_of_part : (inner : ℕ → ℕ) (copies : ℕ) (named : Option ℕ) → parts_points inner (copies_part copies named) ≡ points_of_copies inner copies named
points_of_part inner copies None = refl
points_of_part inner copies (Some s) = omega arith

points_by : (library : List Structure) (chosen : Shape → Bool) (inner : ℕ → ℕ) (e : Element) →
    parts_points inner (parts_by library chosen e) ≡ element_points library chosen inner e
points_by library chosen inner (shape s) = either (chosen s)
  where
    either : (b : Bool) → parts_points inner (if b then Points (length s.points) ∷ [] else []) ≡ (if b then length s.points else 0)
    either true = omega arith
    either false = refl
points_by library chosen inner (reference r) = points_of_part inner (unsigned_abs (rows_of r.array) * unsigned_abs (columns_of r.array)) (number_of library r.name)

-- the points of the parts are those of the elements
pub points_in_parts : (library : List Structure) (chosen : Shape → Bool) (inner : ℕ → ℕ) (elements : List Element) →
    parts_points inner (parts_in library chosen elements) ≡ elements_points library chosen inner elements
points_in_parts library chosen inner [] = refl
points_in_parts library chosen inner (e ∷ elements) =
    parts_points-append inner (parts_by library chosen e) (parts_in library chosen elements)
    ∙ ap₂ (λ (a b : ℕ). a + b) (points_by library chosen inner e) (points_in_parts library chosen inner elements)

-- ---- targets

pub targets_of-append : (xs ys : List Part) → targets_of (xs ++ ys) ≡ targets_of xs ++ targets_of ys
targets_of-append [] ys = refl
targets_of-append (Points n ∷ xs) ys = targets_of-append xs ys
targets_of-append (Copies copies s ∷ xs) ys = ap (λ (ts : List ℕ). s ∷ ts) (targets_of-append xs ys)

targets-cons : (library : List Structure) (chosen : Shape → Bool) (e : Element) (elements : List Element) →
    targets_of (parts_in library chosen (e ∷ elements)) ≡ targets_of (parts_by library chosen e) ++ targets_of (parts_in library chosen elements)
targets-cons library chosen e elements = targets_of-append (parts_by library chosen e) (parts_in library chosen elements)

own_target : (copies t : ℕ) (named : Option ℕ) → named ≡ Some t → Contains (targets_of (copies_part copies named)) t
own_target copies t None e = absurd (let no : ⊥ = cc in no)
own_target copies t (Some s) e = let same : s ≡ t = cc in (zero, omega arith, same)

only_target : (copies t : ℕ) (named : Option ℕ) → Contains (targets_of (copies_part copies named)) t → named ≡ Some t
only_target copies t None (k, below, e) = absurd (omega arith)
only_target copies t (Some s) (zero, below, e) = ap Some e
only_target copies t (Some s) (suc k, below, e) = absurd (omega arith)

no_target : (s : Shape) (t : ℕ) (b : Bool) → Contains (targets_of (if b then Points (length s.points) ∷ [] else [])) t → ⊥
no_target s t true (k, below, e) = omega arith
no_target s t false (k, below, e) = omega arith

-- what a reference names is a target
pub target_of_reference : (library : List Structure) (chosen : Shape → Bool) (elements : List Element) (r : Reference) (t : ℕ) →
    Contains elements (reference r) → number_of library r.name ≡ Some t → Contains (targets_of (parts_in library chosen elements)) t
target_of_reference library chosen [] r t (k, below, e) named = absurd (omega arith)
target_of_reference library chosen (x ∷ elements) r t (zero, below, e) named =
    subst (λ (ts : List ℕ). Contains ts t) (sym (targets-cons library chosen x elements))
    (Contains-append_left (targets_of (parts_by library chosen x)) (targets_of (parts_in library chosen elements)) t
    (subst (λ (y : Element). Contains (targets_of (parts_by library chosen y)) t) (sym e) (own_target _ t (number_of library r.name) named)))
target_of_reference library chosen (x ∷ elements) r t (suc k, below, e) named =
    let later : k < length elements = omega arith in
    subst (λ (ts : List ℕ). Contains ts t) (sym (targets-cons library chosen x elements))
    (Contains-append_right (targets_of (parts_by library chosen x)) (targets_of (parts_in library chosen elements)) t
    (target_of_reference library chosen elements r t (k, later, e) named))

-- a reference among elements that names this structure
abbrev pub Names : List Structure → List Element → ℕ → Type 0
Names library elements t = (r : Reference) × Contains elements (reference r) × (number_of library r.name ≡ Some t)

named_by : (library : List Structure) (chosen : Shape → Bool) (x : Element) (elements : List Element) (t : ℕ) →
    Contains (targets_of (parts_by library chosen x)) t → Names library (x ∷ elements) t
named_by library chosen (shape s) elements t there = absurd (no_target s t (chosen s) there)
named_by library chosen (reference r) elements t there = (r, (zero, omega arith, refl), only_target _ t (number_of library r.name) there)

named_later : (library : List Structure) (x : Element) (elements : List Element) (t : ℕ) → Names library elements t → Names library (x ∷ elements) t
named_later library x elements t (r, (k, below, e), named) = (r, (suc k, omega arith, e), named)

-- each target is named by a reference
pub reference_of_target : (library : List Structure) (chosen : Shape → Bool) (elements : List Element) (t : ℕ) →
    Contains (targets_of (parts_in library chosen elements)) t → Names library elements t
reference_of_target library chosen [] t (k, below, e) = absurd (omega arith)
reference_of_target library chosen (x ∷ elements) t there =
    elim (Contains-append_cases (targets_of (parts_by library chosen x)) (targets_of (parts_in library chosen elements)) t
    (subst (λ (ts : List ℕ). Contains ts t) (targets-cons library chosen x elements) there)) [
      | inl here ↦ named_by library chosen x elements t here
      | inr later ↦ named_later library x elements t (reference_of_target library chosen elements t later)
    ]
