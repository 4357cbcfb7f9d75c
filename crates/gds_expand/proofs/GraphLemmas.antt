-- The graph of a library's references.
use Rattle.std.proofs.Common.{◌≡◌, ℕ, zero, suc, ◌<◌, inl, inr, ◌↔◌, Bool, true, false, List, length, set, get_or, slice_index, Contains, map, refl, ap, sym, ◌∙◌, subst, arith}
use Rattle.std.proofs.lemmas.Bool.{cases_eq}
use Rattle.std.proofs.lemmas.List.{get_or-set_same, get_or-set_other, length-map}
use Rattle.gds_model.specs.declared.elements.Structure.{Structure}
use Rattle.gds_model.specs.declared.shape.Shape.{Shape}
use Rattle.gds_model.specs.Reach as reach
use Rattle.gds_model.specs.Reach.{References, IsOnCycle, elements_at}
use Rattle.gds_model.proofs.Chains.{number_below}
use Rattle.gds_expand.specs.Orders.{IsGraphOf}
use Rattle.gds_expand.specs.Parts.{parts_in}
use Rattle.gds_expand.specs.Points.{Plan, targets_of, IsOrderOf}
use Rattle.gds_expand.proofs.PartLemmas.{reference_of_target, target_of_reference}
use Rattle.gds_expand.proofs.RowLemmas.{parts_of_rows, references_of_rows}
use Rattle.structure_graph.specs.Graph.{Graph, references_of, Chain, Reaches, ReachesByReference, IsClosed, IsBottomUp, IsMarked}

pub closed_graph : (library : List Structure) (graph : Graph) → IsGraphOf library graph → IsClosed graph
closed_graph library graph g s t there =
    let r = g.only s t there in
    let below : t < length library = number_below library _ t r.2 in
    let sized : length graph ≡ length library = g.sized in
    omega arith

pub chain_to : (library : List Structure) (graph : Graph) → IsGraphOf library graph → (n s t : ℕ) → reach.Chain library s t n → Chain graph s t n
chain_to library graph g zero s t e = e
chain_to library graph g (suc n) s t (u, chain, r) = (u, chain_to library graph g n s u chain, g.edge u t r)

pub chain_from : (library : List Structure) (graph : Graph) → IsGraphOf library graph → (n s t : ℕ) → Chain graph s t n → reach.Chain library s t n
chain_from library graph g zero s t e = e
chain_from library graph g (suc n) s t (u, chain, there) = (u, chain_from library graph g n s u chain, g.only u t there)

pub reaches_to : (library : List Structure) (graph : Graph) → IsGraphOf library graph → (s t : ℕ) → reach.Reaches library s t → Reaches graph s t
reaches_to library graph g s t (n, chain) = (n, chain_to library graph g n s t chain)

pub reaches_from : (library : List Structure) (graph : Graph) → IsGraphOf library graph → (s t : ℕ) → Reaches graph s t → reach.Reaches library s t
reaches_from library graph g s t (n, chain) = (n, chain_from library graph g n s t chain)

pub cycle_to : (library : List Structure) (graph : Graph) → IsGraphOf library graph → (s : ℕ) → IsOnCycle library s → ReachesByReference graph s s
cycle_to library graph g s (n, chain) = (n, chain_to library graph g (suc n) s s chain)

pub cycle_from : (library : List Structure) (graph : Graph) → IsGraphOf library graph → (s : ℕ) → ReachesByReference graph s s → IsOnCycle library s
cycle_from library graph g s (n, chain) = (n, chain_from library graph g (suc n) s s chain)

-- the rows of the plan and of the graph, as they are made
pub graph_of_rows : (library : List Structure) (chosen : Shape → Bool) (plan : Plan) (graph : Graph) →
    map (λ row. row.items) plan ≡ map (λ s. parts_in library chosen s.elements) library →
    map (λ row. row.items) graph ≡ map (λ row. targets_of row.items) plan → IsGraphOf library graph
graph_of_rows library chosen plan graph planned drawn = record {
  sized = sym (length-map graph (λ row. row.items)) ∙ ap length drawn ∙ length-map plan (λ row. targets_of row.items)
      ∙ sym (length-map plan (λ row. row.items)) ∙ ap length planned ∙ length-map library (λ s. parts_in library chosen s.elements);
  edge = λ s t r. subst (λ (ts : List ℕ). Contains ts t) (sym (row s)) (target_of_reference library chosen (elements_at library s) r.0 t r.1 r.2);
  only = λ s t there. reference_of_target library chosen (elements_at library s) t (subst (λ (ts : List ℕ). Contains ts t) (row s) there);
}
  where
    row : (s : ℕ) → references_of graph s ≡ targets_of (parts_in library chosen (elements_at library s))
    row s = references_of_rows graph plan drawn s ∙ ap targets_of (parts_of_rows plan library (parts_in library chosen) refl planned s)

-- a bottom-up order of the graph is one of the plan
pub order_of_plan : (plan : Plan) (graph : Graph) (order : List ℕ) → map (λ row. row.items) graph ≡ map (λ row. targets_of row.items) plan →
    IsBottomUp graph order → IsOrderOf plan order
order_of_plan plan graph order drawn up k t below there =
    up k t below (subst (λ (ts : List ℕ). Contains ts t) (sym (references_of_rows graph plan drawn (slice_index order k))) there)

-- the marks of what is reached by one reference or more, and that of the start
pub marked_too : (graph : Graph) (start : ℕ) (marks : List Bool) → start < length marks → ((s : ℕ) → IsMarked marks s ↔ ReachesByReference graph start s) →
    (s : ℕ) → IsMarked (set marks start true) s ↔ Reaches graph start s
marked_too graph start marks there right s = (to, from)
  where
    to : IsMarked (set marks start true) s → Reaches graph start s
    to marked = elim (cases_eq s start) [
      | inl same ↦ (zero, sym same)
      | inr other ↦ let by = (right s).0 (sym (get_or-set_other marks start s true false other) ∙ marked) in (suc by.0, by.1)
    ]

    kept : IsMarked marks s → IsMarked (set marks start true) s
    kept marked = elim (cases_eq s start) [
      | inl same ↦ ap (λ (x : ℕ). get_or (set marks start true) x false) same ∙ get_or-set_same marks start true false there
      | inr other ↦ get_or-set_other marks start s true false other ∙ marked
    ]

    from : Reaches graph start s → IsMarked (set marks start true) s
    from (zero, same) = ap (λ (x : ℕ). get_or (set marks start true) x false) (sym same) ∙ get_or-set_same marks start true false there
    from (suc n, chain) = kept ((right s).1 (n, chain))
