-- Lists of rows, one for each structure.
use Rattle.std.proofs.Common.{◌≡◌, ℕ, zero, suc, ◌+◌, ◌<◌, Some, List, [], ◌∷◌, ◌++◌, length, take, map, get_or, refl, ap, ap₂, sym, ◌∙◌}
use Rattle.std.specs.Prelude.{slice_get}
use Rattle.std.proofs.lemmas.List.{map_push, take_more}
use Rattle.std.proofs.lemmas.Option.{slice_get_within, get_or_from_slice_get}
use Rattle.gds_model.specs.declared.elements.Element.{Element}
use Rattle.gds_model.specs.declared.elements.Structure.{Structure}
use Rattle.gds_model.specs.Reach.{elements_at}
use Rattle.gds_expand.specs.declared.points.Part.{Part}
use Rattle.gds_expand.specs.Points.{Plan, parts_of, targets_of}
use Rattle.gds_expand.proofs.PartLemmas.{targets_of-append}
use Rattle.structure_graph.specs.Graph.{Graph, references_of}

-- one more row
pub mapped_next : {A B C : Type 0} (u : A → C) (f : B → C) (rows : List A) (row : A) (xs : List B) (i : ℕ) (x : B) →
    map u rows ≡ map f (take i xs) → slice_get xs i ≡ Some x → u row ≡ f x → map u (rows ++ row ∷ []) ≡ map f (take (i + 1) xs)
mapped_next u f rows row xs i x before here same =
    let there : i < length xs = slice_get_within xs i x here in
    let read : get_or xs i x ≡ x = get_or_from_slice_get xs i x x here in
    map_push u rows row
    ∙ ap₂ (λ cs c. cs ++ c ∷ []) before (same ∙ ap f (sym read))
    ∙ sym (map_push f (take i xs) (get_or xs i x))
    ∙ ap (map f) (sym (take_more xs i x there))

pub targets_next : (parts : List Part) (i : ℕ) (part : Part) (made more : List ℕ) → i < length parts → made ≡ targets_of (take i parts) →
    more ≡ made ++ targets_of (get_or parts i part ∷ []) → more ≡ targets_of (take (i + 1) parts)
targets_next parts i part made more there before added =
    added ∙ ap (λ (ts : List ℕ). ts ++ targets_of (get_or parts i part ∷ [])) before
    ∙ sym (targets_of-append (take i parts) (get_or parts i part ∷ []))
    ∙ ap targets_of (sym (take_more parts i part there))

-- the row of a structure is that of its elements
pub parts_of_rows : (plan : Plan) (structures : List Structure) (f : List Element → List Part) → f [] ≡ [] →
    map (λ row. row.items) plan ≡ map (λ s. f s.elements) structures → (s : ℕ) → parts_of plan s ≡ f (elements_at structures s)
parts_of_rows [] [] f none same s = sym none
parts_of_rows [] (x ∷ structures) f none same s = absurd (let no : ⊥ = cc in no)
parts_of_rows (row ∷ rows) [] f none same s = absurd (let no : ⊥ = cc in no)
parts_of_rows (row ∷ rows) (x ∷ structures) f none same zero = let here : row.items ≡ f x.elements = cc in here
parts_of_rows (row ∷ rows) (x ∷ structures) f none same (suc s) =
    let later : map (λ row. row.items) rows ≡ map (λ s. f s.elements) structures = cc in parts_of_rows rows structures f none later s

-- a row of the graph has the targets of a row of the plan
pub references_of_rows : (graph : Graph) (plan : Plan) → map (λ row. row.items) graph ≡ map (λ row. targets_of row.items) plan →
    (s : ℕ) → references_of graph s ≡ targets_of (parts_of plan s)
references_of_rows [] [] same s = refl
references_of_rows [] (x ∷ plan) same s = absurd (let no : ⊥ = cc in no)
references_of_rows (row ∷ rows) [] same s = absurd (let no : ⊥ = cc in no)
references_of_rows (row ∷ rows) (x ∷ plan) same zero = let here : row.items ≡ targets_of x.items = cc in here
references_of_rows (row ∷ rows) (x ∷ plan) same (suc s) =
    let later : map (λ row. row.items) rows ≡ map (λ row. targets_of row.items) plan = cc in references_of_rows rows plan later s
