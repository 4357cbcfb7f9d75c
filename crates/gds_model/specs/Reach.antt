-- Which structures of a library the references reach.
use Rattle.std.specs.Prelude.{◌≡◌, ℕ, zero, suc, Bool, Option, Some, position, List, [], ◌∷◌, Contains}
use Rattle.std.specs.Str.{bytes_eq}
use Rattle.gds_model.specs.declared.elements.Element.{Element}
use Rattle.gds_model.specs.declared.elements.Element.TheVariants.{Reference as reference}
use Rattle.gds_model.specs.declared.reference.Reference.{Reference}
use Rattle.gds_model.specs.declared.elements.Structure.{Structure}

-- names are compared byte by byte
abbrev pub is_same_name : List ℕ → List ℕ → Bool
is_same_name = bytes_eq

-- the number of the structure with this name
abbrev pub number_of : List Structure → List ℕ → Option ℕ
number_of library name = position (λ s. is_same_name s.name name) library

abbrev pub elements_at : List Structure → ℕ → List Element
elements_at [] s = []
elements_at (structure ∷ library) zero = structure.elements
elements_at (structure ∷ library) (suc s) = elements_at library s

-- a reference of structure s names structure t
abbrev pub References : List Structure → ℕ → ℕ → Type 0
References library s t = (r : Reference) × Contains (elements_at library s) (reference r) × (number_of library r.name ≡ Some t)

-- a chain of n references from s to t
abbrev pub Chain : List Structure → ℕ → ℕ → ℕ → Type 0
Chain library s t zero = s ≡ t
Chain library s t (suc n) = (u : ℕ) × Chain library s u n × References library u t

-- structure t is s, or references lead from s to t
abbrev pub Reaches : List Structure → ℕ → ℕ → Type 0
Reaches library s t = (n : ℕ) × Chain library s t n

-- it reaches itself by one reference or more
abbrev pub IsOnCycle : List Structure → ℕ → Type 0
IsOnCycle library s = (n : ℕ) × Chain library s s (suc n)
