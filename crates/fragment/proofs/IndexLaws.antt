-- What an index finds, by number and by place.
use Rattle.std.proofs.Common.{◌≡◌, ℕ, ◌<◌, ℤ, pos, ◌+ℤ◌, true, ◌+◌, List, ◌∷◌, [], ◌++◌, map, length, refl, sym, ◌∙◌, ap, subst, arith}
use Rattle.std.specs.Prelude.{All, Contains}
use Rattle.std.specs.List.{range_with_len}
use Rattle.std.specs.List.Sorted.{IsPermutation}
use Rattle.std.proofs.lemmas.List.{length-map, map-id}
use Rattle.std.proofs.lemmas.List.FromFn.{map-range_with_len_more}
use Rattle.std.proofs.lemmas.List.Sorted.{IsPermutation-map}
use Rattle.opc_base.specs.declared.plane.Rect.{Rect}
use Rattle.opc_base.specs.Plane.{rect_cover}
use Rattle.outline_model.specs.declared.fragment.Fragment.{Fragment}
use Rattle.outline_model.specs.Near.{IsWithinReach}
use Rattle.outline_model.specs.Outline.{fragment_at}
use Rattle.fragment.specs.Index.{IsIndex, IsOrder, IsShrunk, area_at, areas_of, in_order, is_met, met_from, within_from}
use Rattle.fragment.proofs.AreaLaws.{is_met_near, is_met_within, length-areas}
use Rattle.fragment.proofs.MetLaws.{length-order, met-below, met-complete, within-below, within-complete}

length-number : (fs now : List Fragment) (areas placed : List Rect) (order : List ℕ) → fs ≡ now → IsIndex fs areas placed order → length areas ≡ length now
length-number fs now areas placed order same index = ap length index.number ∙ length-areas fs ∙ ap length same

length-placed : (fs : List Fragment) (areas placed : List Rect) (order : List ℕ) → IsIndex fs areas placed order → length placed ≡ length fs
length-placed fs areas placed order index =
    ap length index.place ∙ length-map order (area_at (areas_of fs)) ∙ length-order (length fs) order index.all

-- ---- by number

pub meets-few : (fs now : List Fragment) (areas placed : List Rect) (order : List ℕ) (r : Rect) → fs ≡ now → IsIndex fs areas placed order
    → All (λ k. k < length now) (met_from areas r 0)
meets-few fs now areas placed order r same index k d below =
    let inside = met-below areas r k d below in
    let size = length-number fs now areas placed order same index in
    omega arith

pub meets-near : (fs now : List Fragment) (areas placed : List Rect) (order : List ℕ) (r : Rect) (k : ℕ) (x y : ℤ) → fs ≡ now → IsIndex fs areas placed order
    → k < length now → rect_cover r x y ≡ true → IsWithinReach (fragment_at now k) (pos 128) x y → Contains (met_from areas r 0) k
meets-near fs now areas placed order r k x y same index below covered near =
    let size = length-number fs now areas placed order same index in
    let here : k < length fs = subst (λ (l : List Fragment). k < length l) (sym same) below in
    let close = subst (λ l. IsWithinReach (fragment_at l k) (pos 128) x y) (sym same) near in
    met-complete areas r k (omega arith) (subst (λ l. is_met l r k ≡ true) (sym index.number) (is_met_near fs r k x y here covered close))

-- ---- by place

pub within-few : (fs now : List Fragment) (areas placed : List Rect) (order : List ℕ) (r : Rect) → fs ≡ now → IsIndex fs areas placed order
    → All (λ k. k < length now) (within_from placed order r 0)
within-few fs now areas placed order r same index =
    subst (λ l. All (λ k. k < length l) (within_from placed order r 0)) same
    (within-below (length fs) placed order r index.all (length-placed fs areas placed order index))

pub within-near : (fs now : List Fragment) (areas placed : List Rect) (order : List ℕ) (r s : Rect) (reach margin : ℤ) (k : ℕ) (x y : ℤ)
    → fs ≡ now → IsIndex fs areas placed order → IsShrunk r margin s → (reach +ℤ margin) ≡ pos 128
    → k < length now → rect_cover r x y ≡ true → IsWithinReach (fragment_at now k) reach x y → Contains (within_from placed order s 0) k
within-near fs now areas placed order r s reach margin k x y same index shrunk whole below covered near =
    let here : k < length fs = subst (λ (l : List Fragment). k < length l) (sym same) below in
    let close = subst (λ l. IsWithinReach (fragment_at l k) reach x y) (sym same) near in
    subst (λ l. Contains (within_from l order s 0) k) (sym index.place)
    (within-complete (length fs) (areas_of fs) order s k index.all (length-areas fs) here (is_met_within fs r s reach margin k x y shrunk whole here covered close))

pub length-in_order : (fs : List Fragment) (areas placed : List Rect) (order : List ℕ) → IsIndex fs areas placed order → length order ≡ length placed
length-in_order fs areas placed order index =
    length-order (length fs) order index.all ∙ sym (length-placed fs areas placed order index)

-- ---- how the order is made

pub numbers_more : (places new : List (ℕ × ℕ)) (p : ℕ × ℕ) (k : ℕ) → map (λ q. q.1) places ≡ range_with_len 0 k → new ≡ places ++ p ∷ [] → p.1 ≡ k
    → map (λ q. q.1) new ≡ range_with_len 0 (k + 1)
numbers_more places new p k before is number =
    ap (map (λ q. q.1)) is ∙ mapped places ∙ ap (λ l. l ++ p.1 ∷ []) before ∙ ap (λ n. range_with_len 0 k ++ n ∷ []) number ∙ sym more
  where
    mapped : (l : List (ℕ × ℕ)) → map (λ (q : ℕ × ℕ). q.1) (l ++ p ∷ []) ≡ map (λ q. q.1) l ++ p.1 ∷ []
    mapped [] = refl
    mapped (q ∷ l) = ap (λ t. q.1 ∷ t) (mapped l)

    more : range_with_len 0 (k + 1) ≡ range_with_len 0 k ++ k ∷ []
    more = sym (map-id (range_with_len 0 (k + 1))) ∙ map-range_with_len_more (λ j. j) 0 k k (omega arith) ∙ ap (λ l. l ++ k ∷ []) (map-id (range_with_len 0 k))

pub order_of_places : (n : ℕ) (places sorted : List (ℕ × ℕ)) (order : List ℕ) → map (λ p. p.1) places ≡ range_with_len 0 n → IsPermutation places sorted
    → order ≡ map (λ p. p.1) sorted → IsOrder n order
order_of_places n places sorted order numbers moved is =
    subst (IsOrder n) (sym is) (subst (λ l. IsPermutation l (map (λ p. p.1) sorted)) numbers (IsPermutation-map (λ (p : ℕ × ℕ). p.1) places sorted moved))

pub placed-few : (n : ℕ) (areas placed : List Rect) (order : List ℕ) → IsOrder n order → placed ≡ in_order areas order → length placed ≡ n
placed-few n areas placed order all is = ap length is ∙ length-map order (area_at areas) ∙ length-order n order all
