-- Each step of a walk with seams goes along the grid.
use Rattle.std.proofs.Common.{◌≡◌, inl, inr, ℕ, zero, suc, ◌+◌, ◌<◌, ◌≤◌, ℤ, Bool, true, false, List, [], ◌∷◌, ◌++◌, length, get_or, map, All, refl, ap, sym, ◌∙◌, subst, arith, append_assoc}
use Rattle.std.proofs.lemmas.List.Elements.{All-head, All-tail, All-nil, All-cons}
use Rattle.opc_base.specs.declared.plane.Pix.{Pix}
use Rattle.opc_base.specs.Cover.{IsRectilinear, IsStraight, last_from}
use Rattle.opc_base.specs.Plane.{IsPixWithin}
use Rattle.outline_model.specs.MaskRange.{mask_limit}
use Rattle.outline_model.specs.declared.fragment.Fragment.{Fragment}
use Rattle.outline_model.specs.declared.fragment.Join.{Join}
use Rattle.outline_model.specs.declared.fragment.Join.TheVariants.{Cut, Corner as CornerJoin}
use Rattle.outline_model.specs.Outline.{finish_join, fragment_at, is_vertical, joined, next}
use Rattle.outline_model.specs.Target.{IsJoined, Names, start_point, finish_point}
use Rattle.mask_polygons.specs.declared.script.Stop.{Stop}
use Rattle.mask_polygons.specs.declared.script.Stop.TheVariants.{Corner, Seam}
use Rattle.mask_polygons.specs.Border.{AreNear, finish_pix, pix_of, start_pix}
use Rattle.mask_polygons.specs.Loops.{IsChain, IsLoop, loop_start}
use Rattle.mask_polygons.specs.Scripts.{AreHung, edge_stops, loop_stops, row_at, seams_where}
use Rattle.mask_polygons.specs.Walks.{IsForward, pix_at, spelled, walk_of}
use Rattle.mask_polygons.proofs.WalkLaws.{walk-unrolled}
use Rattle.mask_polygons.proofs.CountLaws.{AreJoinedPix, HasParts, IsLevel, chain_at, few-scripts, loop-at, script-is, start-is, stops-level, test-cases, upright-x, walk-back}

abbrev Near : Pix → Type 0
Near p = IsPixWithin mask_limit p

-- each step from p on is straight, and leads to a point that is near
abbrev pub IsFine : Pix → List Pix → Type 0
IsFine p [] = Unit {0}
IsFine p (q ∷ points) = IsStraight p q × Near q × IsFine q points

abbrev FineStops : Pix → List Stop → Type 0
FineStops p [] = Unit {0}
FineStops p (Corner q ∷ stops) = IsStraight p q × Near q × FineStops q stops
FineStops p (Seam e h ∷ stops) = IsStraight p e × Near e × FineStops e stops

fine-append : (p : Pix) (xs ys : List Pix) → IsFine p xs → IsFine (last_from p xs) ys → IsFine p (xs ++ ys)
fine-append p [] ys f g = g
fine-append p (q ∷ xs) ys f g = (f.0, f.1, fine-append q xs ys f.2 g)

spelled-fine : (w : ℕ → List Pix) (starts : List Pix) (count k : ℕ) (p : Pix) (stops : List Stop) → All (IsForward count k) stops → All (IsLevel starts) stops
    → ((h : ℕ) → k < h → h < count → IsFine (pix_at starts h) (w h)) → ((h : ℕ) → h < count → last_from (pix_at starts h) (w h) ≡ pix_at starts h)
    → ((h : ℕ) → Near (pix_at starts h)) → FineStops p stops → IsFine p (spelled w starts stops)
spelled-fine w starts count k p [] forward levels fine back near f = tt
spelled-fine w starts count k p (Corner q ∷ stops) forward levels fine back near f =
    (f.0, f.1, spelled-fine w starts count k q stops (All-tail (IsForward count k) (Corner q) stops forward) (All-tail (IsLevel starts) (Corner q) stops levels) fine back near f.2)
spelled-fine w starts count k p (Seam e h ∷ stops) forward levels fine back near f =
    let here = All-head (IsForward count k) (Seam e h) stops forward in
    let level = All-head (IsLevel starts) (Seam e h) stops levels in
    let rest = spelled-fine w starts count k e stops (All-tail (IsForward count k) (Seam e h) stops forward) (All-tail (IsLevel starts) (Seam e h) stops levels) fine back near f.2 in
    let home : IsFine (last_from (pix_at starts h) (w h)) (e ∷ spelled w starts stops) =
    subst (λ s. IsFine s (e ∷ spelled w starts stops)) (sym (back h here.1)) (inr (sym level), f.1, rest) in
    (f.0, f.1, (inr level, near h, fine-append (pix_at starts h) (w h) (e ∷ spelled w starts stops) (fine h here.0 here.1) home))

-- ---- the stops of an edge

before-fine : (starts : List Pix) (corner p : Pix) (holes : List ℕ) (rest : List Stop) → (0 < length holes → p.x ≡ corner.x) → IsStraight p corner
    → Near corner → ((h : ℕ) → Near (pix_at starts h)) → FineStops corner rest → FineStops p (seams_where false corner starts holes ++ (Corner corner ∷ rest))
before-fine starts corner p [] rest upright straight near all f = (straight, near, f)
before-fine starts corner p (h ∷ holes) rest upright straight near all f = elim (test-cases starts corner h) [
  | inl w ↦ rw w.0 (before-fine starts corner p holes rest (λ some. upright (omega arith)) straight near all f)
  | inr w ↦
      let e : Pix = record { x = corner.x; y = (pix_at starts h).y } in
      rw w (inl (upright (omega arith)), (near.0, (all h).1), before-fine starts corner e holes rest (λ some. refl) (inl refl) near all f)
]

behind-fine : (starts : List Pix) (corner : Pix) (holes : List ℕ) (rest : List Stop) → Near corner → FineStops corner rest
    → FineStops corner (seams_where true corner starts holes ++ rest)
behind-fine starts corner [] rest near f = f
behind-fine starts corner (h ∷ holes) rest near f = elim (test-cases starts corner h) [
  | inl w ↦
      let e : Pix = record { x = corner.x; y = (pix_at starts h).y } in
      let same : e ≡ corner = ap (λ (z : ℤ). let q : Pix = record { x = corner.x; y = z } in q) w.1 in
      let near_too : Near e = subst Near (sym same) near in
      let more = subst (λ q. FineStops q (seams_where true corner starts holes ++ rest)) (sym same) (behind-fine starts corner holes rest near f) in
      rw w.0 (inl refl, near_too, more)
  | inr w ↦ rw w (behind-fine starts corner holes rest near f)
]

edge-fine : (starts : List Pix) (corner p : Pix) (holes : List ℕ) (rest : List Stop) → (0 < length holes → p.x ≡ corner.x) → IsStraight p corner
    → Near corner → ((h : ℕ) → Near (pix_at starts h)) → FineStops corner rest → FineStops p (edge_stops starts corner holes ++ rest)
edge-fine starts corner p holes rest upright straight near all f =
    subst (FineStops p) (sym (append_assoc (seams_where false corner starts holes) (Corner corner ∷ seams_where true corner starts holes) rest))
    (before-fine starts corner p holes (seams_where true corner starts holes ++ rest) upright straight near all (behind-fine starts corner holes rest near f))

-- ---- the stops of a loop

pub level-y : (f : Fragment) → is_vertical f.side ≡ false → (start_pix f).y ≡ (finish_pix f).y
level-y f e = rw e refl

edge-straight : (f : Fragment) → IsStraight (start_pix f) (finish_pix f)
edge-straight f = by (is_vertical f.side) refl
  where
    by : (t : Bool) → is_vertical f.side ≡ t → IsStraight (start_pix f) (finish_pix f)
    by true e = inl (upright-x f e)
    by false e = inr (level-y f e)

loop-fine : (fs : List Fragment) (hung : List (List ℕ)) (starts : List Pix) (k : ℕ) (ks : List ℕ) (end : ℕ) → AreJoinedPix fs → AreHung fs starts hung → AreNear fs
    → ((h : ℕ) → Near (pix_at starts h)) → k < length fs → IsChain fs k ks end → FineStops (start_pix (fragment_at fs k)) (loop_stops fs hung starts (k ∷ ks))
loop-fine fs hung starts k [] end joins hangs near all below chain =
    let f = fragment_at fs k in
    edge-fine starts (finish_pix f) (start_pix f) (row_at hung k) [] (λ some. upright-x f (hangs.upright k some)) (edge-straight f) (near k below).1 all tt
loop-fine fs hung starts k (j ∷ ks) end joins hangs near all below chain =
    let f = fragment_at fs k in
    let rest = loop_stops fs hung starts (j ∷ ks) in
    let on : start_pix (fragment_at fs j) ≡ finish_pix f = ap (λ i. start_pix (fragment_at fs i)) (sym chain.0) ∙ joins k below in
    let next = subst (λ p. FineStops p rest) on (loop-fine fs hung starts j ks end joins hangs near all chain.1 chain.2) in
    edge-fine starts (finish_pix f) (start_pix f) (row_at hung k) rest (λ some. upright-x f (hangs.upright k some)) (edge-straight f) (near k below).1 all next

whole-fine : (fs : List Fragment) (hung : List (List ℕ)) (starts : List Pix) (chain : List ℕ) → AreJoinedPix fs → AreHung fs starts hung → AreNear fs
    → ((h : ℕ) → Near (pix_at starts h)) → IsLoop fs chain → FineStops (loop_start fs chain) (loop_stops fs hung starts chain)
whole-fine fs hung starts [] joins hangs near all is = absurd is
whole-fine fs hung starts (k ∷ ks) joins hangs near all is = loop-fine fs hung starts k ks k joins hangs near all is.0 is.1

-- ---- the walk

walk-fine : (fs : List Fragment) (loops hung : List (List ℕ)) (starts : List Pix) (scripts : List (List Stop)) (n l : ℕ) → HasParts fs loops hung starts scripts → AreNear fs
    → ((h : ℕ) → Near (pix_at starts h)) → l < length scripts → length scripts ≤ l + n → IsFine (pix_at starts l) (walk_of scripts starts l)
walk-fine fs loops hung starts scripts zero l parts near all below enough = absurd (omega arith)
walk-fine fs loops hung starts scripts (suc n) l parts near all below enough =
    let same = few-scripts fs loops hung starts scripts parts in
    let inside : l < length loops = omega arith in
    let script = script-is fs loops hung starts scripts l parts inside in
    let start = start-is fs loops hung starts scripts l parts inside in
    let stops = loop_stops fs hung starts (chain_at loops l) in
    let forward : All (IsForward (length scripts) l) stops = subst (All (IsForward (length scripts) l)) script (parts.forward l below) in
    let f : FineStops (pix_at starts l) stops = subst (λ p. FineStops p stops) (sym start) (whole-fine fs hung starts (chain_at loops l) parts.joined parts.hangs near all (loop-at fs loops hung starts scripts l parts inside)) in
    subst (IsFine (pix_at starts l)) (sym (walk-unrolled scripts starts l parts.forward below ∙ ap (spelled (walk_of scripts starts) starts) script))
    (spelled-fine (walk_of scripts starts) starts (length scripts) l (pix_at starts l) stops forward (stops-level fs hung starts (chain_at loops l))
    (λ h later h_below. walk-fine fs loops hung starts scripts n h parts near all h_below (omega arith))
    (λ h h_below. walk-back fs loops hung starts scripts h parts h_below) all f)

starts-near : (fs : List Fragment) (loops : List (List ℕ)) → AreNear fs → All (IsLoop fs) loops → All (IsPixWithin mask_limit) (map (loop_start fs) loops)
starts-near fs [] near all = All-nil (IsPixWithin mask_limit)
starts-near fs ([] ∷ loops) near all = absurd (All-head (IsLoop fs) [] loops all)
starts-near fs ((k ∷ ks) ∷ loops) near all =
    All-cons (IsPixWithin mask_limit) (start_pix (fragment_at fs k)) (map (loop_start fs) loops) (near k (All-head (IsLoop fs) (k ∷ ks) loops all).0).0
    (starts-near fs loops near (All-tail (IsLoop fs) (k ∷ ks) loops all))

pub are-starts-near : (fs : List Fragment) (loops : List (List ℕ)) (starts : List Pix) → AreNear fs → All (IsLoop fs) loops → starts ≡ map (loop_start fs) loops
    → All (IsPixWithin mask_limit) starts
are-starts-near fs loops starts near all is = subst (All (IsPixWithin mask_limit)) (sym is) (starts-near fs loops near all)

pix-near : (starts : List Pix) (h : ℕ) → All (IsPixWithin mask_limit) starts → Near (pix_at starts h)
pix-near [] h all = (omega arith, omega arith)
pix-near (p ∷ starts) zero all = All-head (IsPixWithin mask_limit) p starts all
pix-near (p ∷ starts) (suc h) all = pix-near starts h (All-tail (IsPixWithin mask_limit) p starts all)

pub walk-is-fine : (fs : List Fragment) (loops hung : List (List ℕ)) (starts : List Pix) (scripts : List (List Stop)) → HasParts fs loops hung starts scripts → AreNear fs
    → 0 < length scripts → Near (pix_at starts 0) × IsFine (pix_at starts 0) (walk_of scripts starts 0)
walk-is-fine fs loops hung starts scripts parts near some =
    let all = λ (h : ℕ). pix-near starts h (are-starts-near fs loops starts near parts.are_loops.each parts.starts_are) in
    (all 0, walk-fine fs loops hung starts scripts (length scripts) 0 parts near all some (omega arith))

pub fine-straight : (p : Pix) (points : List Pix) → IsFine p points → IsRectilinear (p ∷ points)
fine-straight p [] fine k d below = absurd (omega arith)
fine-straight p (q ∷ points) fine zero d below = fine.0
fine-straight p (q ∷ points) fine (suc k) d below =
    let next : suc k + 1 ≡ suc (k + 1) = omega arith in
    subst (λ n. IsStraight (get_or (q ∷ points) k d) (get_or (p ∷ q ∷ points) n d)) (sym next) (fine-straight q points fine.2 k d (omega arith))

pub fine-near : (p : Pix) (points : List Pix) → Near p → IsFine p points → All (IsPixWithin mask_limit) (p ∷ points)
fine-near p [] near fine = All-cons (IsPixWithin mask_limit) p [] near (All-nil (IsPixWithin mask_limit))
fine-near p (q ∷ points) near fine = All-cons (IsPixWithin mask_limit) p (q ∷ points) near (fine-near q points fine.1 fine.2)

-- ---- where an edge finishes, the next one starts

pub joined-pix : (fs : List Fragment) → IsJoined fs → AreJoinedPix fs
joined-pix fs joins k below = by (finish_join (fragment_at fs k)) refl (joins.finishes k below)
  where
    by : (t : Join) → finish_join (fragment_at fs k) ≡ t → Names start_point fs (fragment_at fs k) (finish_join (fragment_at fs k)) (finish_point (fragment_at fs k))
        → start_pix (fragment_at fs (next fs k)) ≡ finish_pix (fragment_at fs k)
    by (Cut j) e named =
        let is = subst (λ t. Names start_point fs (fragment_at fs k) t (finish_point (fragment_at fs k))) e named in
        ap (λ t. start_pix (fragment_at fs (joined t))) e ∙ ap pix_of is.1
    by (CornerJoin j) e named =
        let is = subst (λ t. Names start_point fs (fragment_at fs k) t (finish_point (fragment_at fs k))) e named in
        ap (λ t. start_pix (fragment_at fs (joined t))) e ∙ ap pix_of is.1
