-- The stages of an expansion, said of the library.
use Rattle.std.proofs.Common.{◌≡◌, ℕ, zero, suc, ◌<◌, ◌≤◌, ◌↔◌, ◌⊎◌, inl, inr, Bool, Some, None, List, length, map, All, Contains, refl, ap, sym, ◌∙◌, subst, arith}
use Rattle.std.proofs.Math.Path.{fun_ext}
use Rattle.std.proofs.lemmas.List.{length-map}
use Rattle.std.proofs.lemmas.List.Elements.{All-contains_itself, All-weaker}
use Rattle.gds_model.specs.declared.elements.Element.{Element}
use Rattle.gds_model.specs.declared.elements.Element.TheVariants.{Shape as shape, Reference as reference}
use Rattle.gds_model.specs.declared.elements.Structure.{Structure}
use Rattle.gds_model.specs.declared.place_fault.PlaceFault.TheVariants.{Cycle, NoMemory, TooManyPoints}
use Rattle.gds_model.specs.declared.place_fault.PlaceFault.{PlaceFault}
use Rattle.opc_base.specs.declared.outline.Outline.{Outline}
use Rattle.opc_base.specs.declared.rules.Pick.{Pick}
use Rattle.gds_model.specs.Outlines.{outline_of}
use Rattle.gds_model.specs.declared.shape.Shape.{Shape}
use Rattle.gds_model.specs.PlacedList.{Mapped, elements_points, placed_list, products_in, total_points}
use Rattle.gds_model.specs.PlaceFaults.{AreReferencesRight, HasNoCycle, IsCycleFault, IsFaultFrom, IsPlacement, chosen_list, first_fault, point_count, saturated}
use Rattle.gds_model.specs.Reach.{elements_at, number_of}
use Rattle.gds_model.specs.Reach as reach
use Rattle.gds_model.proofs.Chains.{chain_below}
use Rattle.gds_model.proofs.PointLaws.{total_points-placed_in}
use Rattle.gds_expand.specs.Orders.{IsGraphOf, IsOrder, IsOrderFrom}
use Rattle.gds_expand.specs.Parts.{parts_in}
use Rattle.gds_expand.specs.Points.{Plan, parts_points, points_in, targets_of}
use Rattle.gds_expand.specs.Rows.{IsRight}
use Rattle.gds_expand.proofs.GraphLemmas.{graph_of_rows, cycle_from, cycle_to, reaches_from, reaches_to}
use Rattle.gds_expand.proofs.PartLemmas.{points_in_parts}
use Rattle.gds_expand.proofs.RankLemmas.{not_on_cycle}
use Rattle.gds_expand.proofs.RowLemmas.{parts_of_rows}
use Rattle.structure_graph.specs.Graph.{Graph, IsClosed, IsLowestOnCycle, IsMarked, Reaches}

-- ---- what is reached

pub marked_reached : (library : List Structure) (graph : Graph) (top : ℕ) (marks : List Bool) → IsGraphOf library graph →
    ((s : ℕ) → IsMarked marks s ↔ Reaches graph top s) → (s : ℕ) → IsMarked marks s ↔ reach.Reaches library top s
marked_reached library graph top marks g right s =
    ((λ marked. reaches_from library graph g top s ((right s).0 marked)), (λ reached. (right s).1 (reaches_to library graph g top s reached)))

pub rights : (library : List Structure) (top s : ℕ) → AreReferencesRight library top → reach.Reaches library top s → All (IsRight library) (elements_at library s)
rights library top s right reached =
    All-weaker (Contains (elements_at library s)) (IsRight library) each (elements_at library s) (All-contains_itself (elements_at library s))
  where
    each : (e : Element) → Contains (elements_at library s) e → IsRight library e
    each (shape x) there = tt
    each (reference r) there = right r (s, reached, there)

-- ---- orders

-- what a structure of a graph reaches is of the graph
pub reached_in : (graph : Graph) (start s : ℕ) → IsClosed graph → start < length graph → Reaches graph start s → s < length graph
reached_in graph start s closed inside (zero, same) = subst (λ (x : ℕ). x < length graph) same inside
reached_in graph start s closed inside (suc n, (u, chain, there)) = closed u s there

pub order_in : (library : List Structure) (graph : Graph) (top : ℕ) (order : List ℕ) → IsGraphOf library graph → top < length library →
    IsOrderFrom graph top order → IsOrder library order
order_in library graph top order g inside o = record {
  up = λ k t below named. o.up k t below (g.edge _ t named);
  in_range = All-weaker (Contains order) (λ s. s < length library) each order (All-contains_itself order);
  few = let few : length order ≤ length graph = o.few in let sized : length graph ≡ length library = g.sized in omega arith;
}
  where
    each : (s : ℕ) → Contains order s → s < length library
    each s there =
        let reached = reaches_from library graph g top s (o.only_reached s there) in
        chain_below library top s reached.0 inside reached.1

pub no_cycle : (library : List Structure) (graph : Graph) (top : ℕ) (order : List ℕ) → IsGraphOf library graph → top < length library →
    IsOrderFrom graph top order → HasNoCycle library top
no_cycle library graph top order g inside o s reached cycle =
    not_on_cycle library order s (order_in library graph top order g inside o) (o.reached s (reaches_to library graph g top s reached)) cycle

pub cycle_is_fault : (library : List Structure) (graph : Graph) (top s : ℕ) → IsGraphOf library graph → IsLowestOnCycle graph top s → IsCycleFault library top (Cycle s)
cycle_is_fault library graph top s g h = (
  s,
  refl,
  reaches_from library graph g top s h.reached,
  cycle_from library graph g s h.cycle,
  (λ t below reached cycle. h.lowest t below (reaches_to library graph g top t reached) (cycle_to library graph g t cycle)),
)

-- the graph that is made from the parts
pub made_graph : (library : List Structure) (chosen : Shape → Bool) (plan seen : Plan) (graph drawn : Graph) →
    map (λ row. row.items) plan ≡ map (λ s. parts_in library chosen s.elements) library → seen ≡ plan →
    map (λ row. row.items) graph ≡ map (λ row. targets_of row.items) seen → drawn ≡ graph → IsGraphOf library drawn
made_graph library chosen plan seen graph drawn planned same made is =
    subst (IsGraphOf library) (sym is)
    (graph_of_rows library chosen plan graph planned (made ∙ ap (map (λ row. targets_of row.items)) same))

-- what is known of the order once references and cycles are judged
pub record IsJudged (library : List Structure) (top : ℕ) (order : List ℕ) : Type 0 where
  pub ordered : IsOrder library order
  pub listed : Contains order top
  pub right : (s : ℕ) → Contains order s → All (IsRight library) (elements_at library s)
  pub no_cycle : HasNoCycle library top

pub judged : (library : List Structure) (graph : Graph) (top : ℕ) (made order : List ℕ) → IsGraphOf library graph → top < length library →
    AreReferencesRight library top → IsOrderFrom graph top made → order ≡ made → IsJudged library top order
judged library graph top made order g inside right o is = subst (IsJudged library top) (sym is) (record {
  ordered = order_in library graph top made g inside o;
  listed = o.reached top (zero, refl);
  right = λ s there. rights library top s right (reaches_from library graph g top s (o.only_reached s there));
  no_cycle = no_cycle library graph top made g inside o;
})

pub cycle_stage : (library : List Structure) (pick : Pick) (graph : Graph) (top : ℕ) (fault : PlaceFault) → IsGraphOf library graph → AreReferencesRight library top →
    (fault ≡ NoMemory) ⊎ ((s : ℕ) × (fault ≡ Cycle s) × IsLowestOnCycle graph top s) → (fault ≡ NoMemory) ⊎ IsFaultFrom library pick fault top
cycle_stage library pick graph top fault g right (inl none) = inl none
cycle_stage library pick graph top fault g right (inr (s, is, lowest)) =
    inr (inr (inl (right, subst (IsCycleFault library top) (sym is) (cycle_is_fault library graph top s g lowest))))

pub point_stage : (library : List Structure) (pick : Pick) (top n : ℕ) (fault : PlaceFault) → AreReferencesRight library top → HasNoCycle library top →
    n ≡ point_count library pick top → (fault ≡ NoMemory) ⊎ ((1048576 < n) × (fault ≡ TooManyPoints (saturated n))) →
    (fault ≡ NoMemory) ⊎ IsFaultFrom library pick fault top
point_stage library pick top n fault right acyclic count (inl none) = inl none
point_stage library pick top n fault right acyclic count (inr (many, is)) =
    let above : 1048576 < point_count library pick top = omega (arith, many, count) in
    inr (inr (inr (inl (right, acyclic, (above, is ∙ ap (λ (k : ℕ). TooManyPoints (saturated k)) count)))))

-- ---- shapes

pub shape_stage : (library : List Structure) (pick : Pick) (top : ℕ) (seen : List Mapped) (fault : PlaceFault) → AreReferencesRight library top → HasNoCycle library top →
    point_count library pick top ≤ 1048576 → seen ≡ chosen_list library pick top → (fault ≡ NoMemory) ⊎ (first_fault pick.grid seen ≡ Some fault) →
    (fault ≡ NoMemory) ⊎ IsFaultFrom library pick fault top
shape_stage library pick top seen fault right acyclic few is (inl none) = inl none
shape_stage library pick top seen fault right acyclic few is (inr wrong) =
    inr (inr (inr (inr (right, acyclic, few, sym (ap (first_fault pick.grid) is) ∙ wrong))))

pub no_stage : (library : List Structure) (pick : Pick) (top : ℕ) (seen : List Mapped) (outlines : List Outline) → number_of library pick.top ≡ Some top →
    AreReferencesRight library top → HasNoCycle library top → point_count library pick top ≤ 1048576 → seen ≡ chosen_list library pick top →
    first_fault pick.grid seen ≡ None → outlines ≡ map (outline_of pick.grid) seen → IsPlacement library pick outlines
no_stage library pick top seen outlines named right acyclic few is fine made =
    (top, named, right, acyclic, few, sym (ap (first_fault pick.grid) is) ∙ fine, made ∙ ap (map (outline_of pick.grid)) is)

-- ---- points

points_are_products : (library : List Structure) (chosen : Shape → Bool) (plan : Plan) →
    map (λ row. row.items) plan ≡ map (λ s. parts_in library chosen s.elements) library → (depth s : ℕ) → points_in plan depth s ≡ products_in library chosen depth s
unfolding points_in products_in
points_are_products library chosen plan planned zero s = refl
points_are_products library chosen plan planned (suc depth) s =
    ap (parts_points (points_in plan depth)) (parts_of_rows plan library (parts_in library chosen) refl planned s)
    ∙ points_in_parts library chosen (points_in plan depth) (elements_at library s)
    ∙ ap (λ (inner : ℕ → ℕ). elements_points library chosen inner (elements_at library s))
    (fun_ext (λ t. points_are_products library chosen plan planned depth t))

pub plan_sized : (library : List Structure) (chosen : Shape → Bool) (plan : Plan) →
    map (λ row. row.items) plan ≡ map (λ s. parts_in library chosen s.elements) library → length plan ≡ length library
plan_sized library chosen plan planned =
    sym (length-map plan (λ row. row.items)) ∙ ap length planned ∙ length-map library (λ s. parts_in library chosen s.elements)

-- the points that are counted are those of the placed list
pub points_are_placed : (library : List Structure) (chosen : Shape → Bool) (plan : Plan) (top : ℕ) →
    map (λ row. row.items) plan ≡ map (λ s. parts_in library chosen s.elements) library → points_in plan (length plan) top ≡ total_points (placed_list library chosen top)
points_are_placed library chosen plan top planned =
    ap (λ (n : ℕ). points_in plan n top) (plan_sized library chosen plan planned)
    ∙ points_are_products library chosen plan planned (length library) top
    ∙ sym (total_points-placed_in library chosen (length library) top)
