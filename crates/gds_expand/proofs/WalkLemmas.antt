-- A walk over the chains of references, with a list of tasks.
use Rattle.std.proofs.Common.{◌≡◌, ℕ, zero, suc, ◌+◌, ◌-◌, ◌*◌, ◌^◌, ◌<◌, ◌≤◌, pos, false, List, [], ◌∷◌, ◌++◌, length, drop, map, get_or, Contains, All, Vec, Bor, refl, ap, ap₂, sym, ◌∙◌, subst, arith, append_assoc}
use Rattle.std.specs.List.{flat_map}
use Rattle.std.specs.declared.alloc.Global.{Global}
use Rattle.std.proofs.Math.Path.{fun_ext}
use Rattle.std.proofs.lemmas.Int.{ints}
use Rattle.std.proofs.lemmas.List.{append-nil, at_drop_more, drop_all, map-append, map_push, length-append}
use Rattle.std.proofs.lemmas.List.Elements.{All-nil, All-push, All-weaker, Contains-get_or}
use Rattle.gds_model.specs.declared.position.Position.{Position}
use Rattle.gds_model.specs.declared.shape.Shape.{Shape as ShapeRead}
use Rattle.gds_expand.specs.declared.placement.Placement.{Placement}
use Rattle.gds_expand.specs.declared.walk.Step.{Step}
use Rattle.gds_expand.specs.declared.walk.Step.TheVariants.{Shape, Copy}
use Rattle.gds_expand.specs.declared.walk.Task.{Task}
use Rattle.gds_expand.specs.declared.walk.PlacedShape.{PlacedShape}
use Rattle.gds_model.specs.Placement.{IsPositionWithin}
use Rattle.gds_model.specs.PlacedList.{Mapped, moved}
use Rattle.gds_expand.specs.Placement.{placed}
use Rattle.gds_expand.proofs.PlacementLemmas.{same_position}
use Rattle.gds_expand.specs.Steps.{Plan, steps_of, step_places, plan_places, IsRanked, mapped}

-- ---- depths

-- what a step gives rests on what its structure gives
pub record Respects {B : Type 0} (f : (ℕ → List B) → Step → List B) : Type 0 where
  pub shape : (inner inner' : ℕ → List B) (x : Bor ShapeRead) → f inner (Shape x) ≡ f inner' (Shape x)
  pub copy : (inner inner' : ℕ → List B) (t : ℕ) (m : Placement) → inner t ≡ inner' t → f inner (Copy t m) ≡ f inner' (Copy t m)

flat_map-same : {B : Type 0} (f h : Step → List B) (steps : List Step) → ((step : Step) → Contains steps step → f step ≡ h step) →
    flat_map f steps ≡ flat_map h steps
flat_map-same f h [] same = refl
flat_map-same f h (step ∷ steps) same =
    ap₂ (λ xs ys. xs ++ ys) (same step (zero, omega arith, refl)) (flat_map-same f h steps (λ s there. same s (in_rest s there)))
  where
    in_rest : (s : Step) → Contains steps s → Contains (step ∷ steps) s
    in_rest s (k, below, e) = (suc k, omega arith, e)

pub steps_same : {B : Type 0} (f : (ℕ → List B) → Step → List B) → Respects f → (inner inner' : ℕ → List B) (steps : List Step) →
    ((t : ℕ) (m : Placement) → Contains steps (Copy t m) → inner t ≡ inner' t) → flat_map (f inner) steps ≡ flat_map (f inner') steps
steps_same f r inner inner' steps same = flat_map-same (f inner) (f inner') steps each
  where
    each : (step : Step) → Contains steps step → f inner step ≡ f inner' step
    each (Shape x) there = r.shape inner inner' x
    each (Copy t m) there = r.copy inner inner' t m (same t m there)

-- beyond its rank a structure gives the same at every depth
depth_same : {B : Type 0} (f : (ℕ → List B) → Step → List B) → Respects f → (plan : Plan) (rank : ℕ → ℕ) → IsRanked plan rank →
    (F : ℕ → ℕ → List B) → ((depth s : ℕ) → F (suc depth) s ≡ flat_map (f (F depth)) (steps_of plan s)) →
    (d e s : ℕ) → rank s < d → rank s < e → F d s ≡ F e s
depth_same f r plan rank ranked F next zero e s below below' = absurd (omega arith)
depth_same f r plan rank ranked F next (suc d) zero s below below' = absurd (omega arith)
depth_same f r plan rank ranked F next (suc d) (suc e) s below below' =
    next d s
    ∙ steps_same f r (F d) (F e) (steps_of plan s) (λ t m there.
    let lower : rank t < rank s = ranked.lower s t m there in
    depth_same f r plan rank ranked F next d e t (omega arith) (omega arith))
    ∙ sym (next e s)

-- there a structure gives what its steps give at the same depth
fixed : {B : Type 0} (f : (ℕ → List B) → Step → List B) → Respects f → (plan : Plan) (rank : ℕ → ℕ) → IsRanked plan rank →
    (F : ℕ → ℕ → List B) → ((depth s : ℕ) → F (suc depth) s ≡ flat_map (f (F depth)) (steps_of plan s)) →
    (d s : ℕ) → rank s < suc d → F (suc d) s ≡ flat_map (f (F (suc d))) (steps_of plan s)
fixed f r plan rank ranked F next d s below =
    next d s
    ∙ steps_same f r (F d) (F (suc d)) (steps_of plan s) (λ t m there.
    let lower : rank t < rank s = ranked.lower s t m there in
    depth_same f r plan rank ranked F next d (suc d) t (omega arith) (omega arith))

pub step_places-respects : Respects step_places
step_places-respects = record { shape = λ inner inner' x. refl; copy = λ inner inner' t m e. ap (moved (placed m)) e }

pub plan_places-next : (plan : Plan) (depth s : ℕ) → plan_places plan (suc depth) s ≡ flat_map (step_places (plan_places plan depth)) (steps_of plan s)
unfolding plan_places
plan_places-next plan depth s = refl

-- the bound on the depth is never hit
pub plan_places-same : (plan : Plan) (rank : ℕ → ℕ) → IsRanked plan rank → (d e s : ℕ) → rank s < d → rank s < e → plan_places plan d s ≡ plan_places plan e s
plan_places-same plan rank ranked = depth_same step_places step_places-respects plan rank ranked (plan_places plan) (plan_places-next plan)

pub plan_places-fixed : (plan : Plan) (rank : ℕ → ℕ) → IsRanked plan rank → (d s : ℕ) → rank s < suc d →
    plan_places plan (suc d) s ≡ flat_map (step_places (plan_places plan (suc d))) (steps_of plan s)
plan_places-fixed plan rank ranked = fixed step_places step_places-respects plan rank ranked (plan_places plan) (plan_places-next plan)

-- ---- the measure

-- an entry for each turn of the walk
abbrev trace_by : (ℕ → List ℕ) → Step → List ℕ
trace_by inner (Shape x) = 0 ∷ []
trace_by inner (Copy t m) = 0 ∷ 0 ∷ inner t

unfoldable pub trace_in : Plan → ℕ → ℕ → List ℕ
trace_in plan zero s = []
trace_in plan (suc depth) s = flat_map (trace_by (trace_in plan depth)) (steps_of plan s)

trace_by-respects : Respects trace_by
trace_by-respects = record { shape = λ inner inner' x. refl; copy = λ inner inner' t m e. ap (λ (xs : List ℕ). 0 ∷ 0 ∷ xs) e }

trace_in-next : (plan : Plan) (depth s : ℕ) → trace_in plan (suc depth) s ≡ flat_map (trace_by (trace_in plan depth)) (steps_of plan s)
unfolding trace_in
trace_in-next plan depth s = refl

trace_in-fixed : (plan : Plan) (rank : ℕ → ℕ) → IsRanked plan rank → (d s : ℕ) → rank s < suc d →
    trace_in plan (suc d) s ≡ flat_map (trace_by (trace_in plan (suc d))) (steps_of plan s)
trace_in-fixed plan rank ranked = fixed trace_by trace_by-respects plan rank ranked (trace_in plan) (trace_in-next plan)

pub turns_of : Plan → ℕ → Task → ℕ
turns_of plan depth t = 1 + length (flat_map (trace_by (trace_in plan depth)) (drop t.next (steps_of plan t.structure)))

abbrev pub turns_left : Plan → ℕ → List Task → ℕ
turns_left plan depth [] = 0
turns_left plan depth (t ∷ later) = turns_of plan depth t + turns_left plan depth later

pub turns_left-push : (plan : Plan) (depth : ℕ) (ts : List Task) (t : Task) → turns_left plan depth (ts ++ t ∷ []) ≡ turns_of plan depth t + turns_left plan depth ts
turns_left-push plan depth [] t = refl
turns_left-push plan depth (x ∷ ts) t = omega (arith, turns_left-push plan depth ts t)

-- ---- what is left

abbrev pub rest_of : Plan → ℕ → Task → List Mapped
rest_of plan depth t = moved (placed t.placement) (flat_map (step_places (plan_places plan depth)) (drop t.next (steps_of plan t.structure)))

abbrev pub left_of : Plan → ℕ → List Task → List Mapped
left_of plan depth [] = []
left_of plan depth (t ∷ later) = left_of plan depth later ++ rest_of plan depth t

pub left_of-push : (plan : Plan) (depth : ℕ) (ts : List Task) (t : Task) → left_of plan depth (ts ++ t ∷ []) ≡ rest_of plan depth t ++ left_of plan depth ts
left_of-push plan depth [] t = sym (append-nil (rest_of plan depth t))
left_of-push plan depth (x ∷ ts) t =
    ap (λ xs. xs ++ rest_of plan depth x) (left_of-push plan depth ts t) ∙ append_assoc (rest_of plan depth t) (left_of plan depth ts) (rest_of plan depth x)

-- ---- maps

pub moved-moved : (f g h : Position → Position) (xs : List Mapped) → ((p : Position) → h p ≡ f (g p)) → moved h xs ≡ moved f (moved g xs)
moved-moved f g h [] e = refl
moved-moved f g h (x ∷ xs) e = ap₂ (λ y ys. y ∷ ys) (ap (λ k. let y : Mapped = (x.0, k) in y) (fun_ext (λ p. e (x.1 p)))) (moved-moved f g h xs e)

moved-same : (f : Position → Position) (xs : List Mapped) → ((p : Position) → f p ≡ p) → moved f xs ≡ xs
moved-same f [] e = refl
moved-same f (x ∷ xs) e = ap₂ (λ y ys. y ∷ ys) (ap (λ k. let y : Mapped = (x.0, k) in y) (fun_ext (λ p. e (x.1 p)))) (moved-same f xs e)

-- ---- tasks

-- the task's structure is one of the plan, and its shift grows with the chain
pub record IsPlacing (plan : Plan) (rank : ℕ → ℕ) (top : ℕ) (t : Task) : Type 0 where
  pub in_range : t.structure < length plan
  pub lower : rank t.structure ≤ rank top
  pub near : IsPositionWithin ((rank top - rank t.structure) * 2 ^ 34) t.placement.shift

abbrev pub ArePlacing : Plan → (ℕ → ℕ) → ℕ → List Task → Type 0
ArePlacing plan rank top [] = Unit {0}
ArePlacing plan rank top (t ∷ later) = IsPlacing plan rank top t × ArePlacing plan rank top later

pub ArePlacing-push : (plan : Plan) (rank : ℕ → ℕ) (top : ℕ) (ts : List Task) (t : Task) → ArePlacing plan rank top ts → IsPlacing plan rank top t → ArePlacing plan rank top (ts ++ t ∷ [])
ArePlacing-push plan rank top [] t h k = (k, tt)
ArePlacing-push plan rank top (x ∷ ts) t h k = (h.0, ArePlacing-push plan rank top ts t h.1 k)

pub ArePlacing-pop : (plan : Plan) (rank : ℕ → ℕ) (top : ℕ) (ts : List Task) (t : Task) → ArePlacing plan rank top (ts ++ t ∷ []) → ArePlacing plan rank top ts × IsPlacing plan rank top t
ArePlacing-pop plan rank top [] t h = (tt, h.0)
ArePlacing-pop plan rank top (x ∷ ts) t h = let both = ArePlacing-pop plan rank top ts t h.1 in ((h.0, both.0), both.1)

-- what holds between two turns
pub record IsWalking (plan : Plan) (rank : ℕ → ℕ) (top : ℕ) (out : List PlacedShape) (tasks : List Task) : Type 0 where
  pub made : map mapped out ++ left_of plan (suc (rank top)) tasks ≡ plan_places plan (suc (rank top)) top
  pub placing : ArePlacing plan rank top tasks
  pub near : All (λ x. IsPositionWithin (rank top * 2 ^ 34) x.placement.shift) out

-- a walk of a plan that is ranked somehow
pub record IsRankedWalk (plan : Plan) (top : ℕ) (out : List PlacedShape) (tasks : List Task) : Type 0 where
  pub rank : ℕ → ℕ
  pub ranked : IsRanked plan rank
  pub deep : rank top < 2 ^ 16
  pub walking : IsWalking plan rank top out tasks

pub walks_on : (plan : Plan) (top : ℕ) (out : List PlacedShape) (tasks : List Task) (rank : ℕ → ℕ) → IsRanked plan rank → rank top < 2 ^ 16 →
    IsWalking plan rank top out tasks → IsRankedWalk plan top out tasks
walks_on plan top out tasks rank ranked deep walking = record { rank = rank; ranked = ranked; deep = deep; walking = walking }

-- ---- the turns

abbrev pub task : ℕ → ℕ → Placement → Task
task structure next placement = record { structure = structure; next = next; placement = placement }

abbrev pub placed_shape : Bor ShapeRead → Placement → PlacedShape
placed_shape shape placement = record { shape = shape; placement = placement }

pub steps_of-row : (plan : Plan) (s : ℕ) (row : Vec Step Global) → s < length plan → row ≡ get_or plan s row → steps_of plan s ≡ row.items
steps_of-row [] s row there e = absurd (omega arith)
steps_of-row (r ∷ rows) zero row there e = ap (λ x. x.items) (sym e)
steps_of-row (r ∷ rows) (suc s) row there e = let below : s < length rows = omega arith in steps_of-row rows s row below e

-- the steps of a structure go on with this one
pub record GoesOn (plan : Plan) (s next : ℕ) (step : Step) : Type 0 where
  pub steps : drop next (steps_of plan s) ≡ step ∷ drop (next + 1) (steps_of plan s)
  pub there : Contains (steps_of plan s) step

pub goes_on : (plan : Plan) (s next : ℕ) (step d : Step) → next < length (steps_of plan s) → get_or (steps_of plan s) next d ≡ step → GoesOn plan s next step
goes_on plan s next step d below e = record {
  steps = at_drop_more (λ (xs : List Step). xs) (steps_of plan s) next d below ∙ ap (λ (x : Step). x ∷ drop (next + 1) (steps_of plan s)) e;
  there = subst (λ (x : Step). Contains (steps_of plan s) x) e (Contains-get_or (steps_of plan s) next d below);
}

rest_of-step : (plan : Plan) (depth s next : ℕ) (m : Placement) (step : Step) → GoesOn plan s next step →
    rest_of plan depth (task s next m) ≡ moved (placed m) (step_places (plan_places plan depth) step) ++ rest_of plan depth (task s (next + 1) m)
rest_of-step plan depth s next m step on =
    ap (λ (xs : List Step). moved (placed m) (flat_map (step_places (plan_places plan depth)) xs)) on.steps
    ∙ map-append _ (step_places (plan_places plan depth) step) (flat_map (step_places (plan_places plan depth)) (drop (next + 1) (steps_of plan s)))

turns_of-step : (plan : Plan) (depth s next : ℕ) (m : Placement) (step : Step) → GoesOn plan s next step →
    turns_of plan depth (task s next m) ≡ length (trace_by (trace_in plan depth) step) + turns_of plan depth (task s (next + 1) m)
unfolding turns_of
turns_of-step plan depth s next m step on =
    let all = ap (λ (xs : List Step). length (flat_map (trace_by (trace_in plan depth)) xs)) on.steps in
    let parts = length-append (trace_by (trace_in plan depth) step) (flat_map (trace_by (trace_in plan depth)) (drop (next + 1) (steps_of plan s))) in
    omega (arith, all, parts)

-- a task from its first step on gives all of its structure
rest_of-start : (plan : Plan) (rank : ℕ → ℕ) (depth s : ℕ) (m : Placement) → IsRanked plan rank → rank s < suc depth →
    rest_of plan (suc depth) (task s 0 m) ≡ moved (placed m) (plan_places plan (suc depth) s)
rest_of-start plan rank depth s m ranked below = ap (moved (placed m)) (sym (plan_places-fixed plan rank ranked depth s below))

turns_of-start : (plan : Plan) (rank : ℕ → ℕ) (depth s : ℕ) (m : Placement) → IsRanked plan rank → rank s < suc depth →
    turns_of plan (suc depth) (task s 0 m) ≡ 1 + length (trace_in plan (suc depth) s)
unfolding turns_of
turns_of-start plan rank depth s m ranked below = ap (λ (xs : List ℕ). 1 + length xs) (sym (trace_in-fixed plan rank ranked depth s below))

IsPlacing-next : (plan : Plan) (rank : ℕ → ℕ) (top s next : ℕ) (m : Placement) → IsPlacing plan rank top (task s next m) → IsPlacing plan rank top (task s (next + 1) m)
IsPlacing-next plan rank top s next m h = record { in_range = h.in_range; lower = h.lower; near = h.near }

pub IsPositionWithin-le : (a b : ℕ) (p : Position) → a ≤ b → IsPositionWithin a p → IsPositionWithin b p
IsPositionWithin-le a b p small h = record { x = omega (arith, h.x); y = omega (arith, h.y) }

-- a structure is done with
pub ends_task : (plan : Plan) (rank : ℕ → ℕ) (top s next : ℕ) (m : Placement) (out : List PlacedShape) (ts : List Task) → length (steps_of plan s) ≤ next →
    IsWalking plan rank top out (ts ++ task s next m ∷ []) → IsWalking plan rank top out ts
ends_task plan rank top s next m out ts past h =
    let depth : ℕ = suc (rank top) in
    let none : drop next (steps_of plan s) ≡ [] = drop_all next (steps_of plan s) past in
    let nothing : rest_of plan depth (task s next m) ≡ [] = ap (λ (xs : List Step). moved (placed m) (flat_map (step_places (plan_places plan depth)) xs)) none in
    record {
      made = ap (λ xs. map mapped out ++ xs) (sym (left_of-push plan depth ts (task s next m) ∙ ap (λ xs. xs ++ left_of plan depth ts) nothing)) ∙ h.made;
      placing = (ArePlacing-pop plan rank top ts (task s next m) h.placing).0;
      near = h.near;
    }

-- a shape is placed
pub places_shape : (plan : Plan) (rank : ℕ → ℕ) (top s next : ℕ) (x : Bor ShapeRead) (m : Placement) (out : List PlacedShape) (ts : List Task) → GoesOn plan s next (Shape x) →
    IsWalking plan rank top out (ts ++ task s next m ∷ []) →
    IsWalking plan rank top (out ++ placed_shape x m ∷ []) (ts ++ task s (next + 1) m ∷ [])
places_shape plan rank top s next x m out ts on h =
    let depth : ℕ = suc (rank top) in
    let rest : List Mapped = rest_of plan depth (task s (next + 1) m) in
    let left : List Mapped = left_of plan depth ts in
    let new : Mapped = (x.now, placed m) in
    let popped = ArePlacing-pop plan rank top ts (task s next m) h.placing in
    record {
      made =
          ap₂ (λ xs ys. xs ++ ys) (map_push mapped out (placed_shape x m)) (left_of-push plan depth ts (task s (next + 1) m))
          ∙ append_assoc (map mapped out) (new ∷ []) (rest ++ left)
          ∙ ap (λ xs. map mapped out ++ xs) (sym (left_of-push plan depth ts (task s next m) ∙ ap (λ xs. xs ++ left) (rest_of-step plan depth s next m (Shape x) on)))
          ∙ h.made;
      placing = ArePlacing-push plan rank top ts (task s (next + 1) m) popped.0 (IsPlacing-next plan rank top s next m popped.1);
      near = All-push (λ x. IsPositionWithin (rank top * 2 ^ 34) x.placement.shift) out (placed_shape x m) h.near
          (let small : (rank top - rank s) * 2 ^ 34 ≤ rank top * 2 ^ 34 = omega arith in IsPositionWithin-le _ _ m.shift small popped.1.near);
    }

-- a copy is entered
pub enters_copy : (plan : Plan) (rank : ℕ → ℕ) (top s next t : ℕ) (m inner both : Placement) (out : List PlacedShape) (ts : List Task) → IsRanked plan rank →
    GoesOn plan s next (Copy t inner) → ((p : Position) → placed both p ≡ placed m (placed inner p)) →
    ((n k : ℕ) → IsPositionWithin n m.shift → IsPositionWithin k inner.shift → IsPositionWithin (n + k) both.shift) →
    IsWalking plan rank top out (ts ++ task s next m ∷ []) →
    IsWalking plan rank top out ((ts ++ task s (next + 1) m ∷ []) ++ task t 0 both ∷ [])
enters_copy plan rank top s next t m inner both out ts ranked on composed bound h =
    let depth : ℕ = suc (rank top) in
    let rest : List Mapped = rest_of plan depth (task s (next + 1) m) in
    let left : List Mapped = left_of plan depth ts in
    let popped = ArePlacing-pop plan rank top ts (task s next m) h.placing in
    let lower : rank t < rank s = ranked.lower s t inner on.there in
    let below : rank s ≤ rank top = popped.1.lower in
    let low : rank t < suc (rank top) = omega arith in
    let low' : rank t ≤ rank top = omega arith in
    let grows : (rank top - rank s) * 2 ^ 34 + (rank s - rank t) * 2 ^ 34 ≤ (rank top - rank t) * 2 ^ 34 = omega arith in
    let child : rest_of plan depth (task t 0 both) ≡ moved (placed m) (moved (placed inner) (plan_places plan depth t)) =
    rest_of-start plan rank (rank top) t both ranked low ∙ moved-moved (placed m) (placed inner) (placed both) (plan_places plan depth t) composed in
    let step : List Mapped = moved (placed m) (moved (placed inner) (plan_places plan depth t)) in
    record {
      made =
          ap (λ xs. map mapped out ++ xs)
          (left_of-push plan depth (ts ++ task s (next + 1) m ∷ []) (task t 0 both)
          ∙ ap₂ (λ xs ys. xs ++ ys) child (left_of-push plan depth ts (task s (next + 1) m))
          ∙ sym (append_assoc step rest left)
          ∙ sym (left_of-push plan depth ts (task s next m) ∙ ap (λ xs. xs ++ left) (rest_of-step plan depth s next m (Copy t inner) on)))
          ∙ h.made;
      placing = ArePlacing-push plan rank top (ts ++ task s (next + 1) m ∷ []) (task t 0 both)
          (ArePlacing-push plan rank top ts (task s (next + 1) m) popped.0 (IsPlacing-next plan rank top s next m popped.1))
          (record {
            in_range = ranked.in_range s t inner on.there;
            lower = low';
            near = IsPositionWithin-le _ _ both.shift grows (bound _ _ popped.1.near (ranked.near s t inner on.there));
          });
      near = h.near;
    }

-- ---- the measure falls

pub fewer_at_end : (plan : Plan) (depth s next : ℕ) (m : Placement) (ts : List Task) → turns_left plan depth ts < turns_left plan depth (ts ++ task s next m ∷ [])
unfolding turns_of
fewer_at_end plan depth s next m ts = omega (arith, turns_left-push plan depth ts (task s next m))

pub fewer_at_shape : (plan : Plan) (depth s next : ℕ) (x : Bor ShapeRead) (m : Placement) (ts : List Task) → GoesOn plan s next (Shape x) →
    turns_left plan depth (ts ++ task s (next + 1) m ∷ []) < turns_left plan depth (ts ++ task s next m ∷ [])
fewer_at_shape plan depth s next x m ts on =
    omega (arith, turns_left-push plan depth ts (task s next m), turns_left-push plan depth ts (task s (next + 1) m), turns_of-step plan depth s next m (Shape x) on)

pub fewer_at_copy : (plan : Plan) (rank : ℕ → ℕ) (depth s next t : ℕ) (m inner both : Placement) (ts : List Task) → IsRanked plan rank → rank t < suc depth →
    GoesOn plan s next (Copy t inner) →
    turns_left plan (suc depth) ((ts ++ task s (next + 1) m ∷ []) ++ task t 0 both ∷ []) < turns_left plan (suc depth) (ts ++ task s next m ∷ [])
fewer_at_copy plan rank depth s next t m inner both ts ranked low on =
    omega (
      arith,
      turns_left-push plan (suc depth) ts (task s next m),
      turns_left-push plan (suc depth) ts (task s (next + 1) m),
      turns_left-push plan (suc depth) (ts ++ task s (next + 1) m ∷ []) (task t 0 both),
      turns_of-step plan (suc depth) s next m (Copy t inner) on,
      turns_of-start plan rank depth t both ranked low,
    )

-- ---- the first and the last turn

abbrev pub unmoved : Placement → Type 0
unmoved m = (m.flip ≡ false) × (m.turns ≡ 0) × (m.shift.x ≡ pos 0) × (m.shift.y ≡ pos 0)

pub placed-unmoved : (m : Placement) (p : Position) → unmoved m → placed m p ≡ p
placed-unmoved m p h = rw (h.0, h.1, h.2, h.3) (same_position _ _ (omega (arith, ints)) (omega (arith, ints)))

pub starts_walk : (plan : Plan) (rank : ℕ → ℕ) (top : ℕ) (m : Placement) → IsRanked plan rank → top < length plan → unmoved m →
    IsWalking plan rank top [] (task top 0 m ∷ [])
starts_walk plan rank top m ranked there still = record {
  made = rest_of-start plan rank (rank top) top m ranked (omega arith) ∙ moved-same (placed m) (plan_places plan (suc (rank top)) top) (λ p. placed-unmoved m p still);
  placing = (
    (record {
      in_range = there;
      lower = omega arith;
      near = record { x = rw still.2 (omega (arith, ints)); y = rw still.3 (omega (arith, ints)) };
    }),
    tt,
  );
  near = All-nil (λ x. IsPositionWithin (rank top * 2 ^ 34) x.placement.shift);
}

pub ends_walk : (plan : Plan) (rank : ℕ → ℕ) (top : ℕ) (out : List PlacedShape) (depth : ℕ) → IsRanked plan rank → rank top < depth →
    IsWalking plan rank top out [] → map mapped out ≡ plan_places plan depth top
ends_walk plan rank top out depth ranked deep h =
    sym (append-nil (map mapped out)) ∙ h.made ∙ plan_places-same plan rank ranked (suc (rank top)) depth top (omega arith) deep

-- ---- as the walk reads them

pub goes_on_at : (plan : Plan) (s next : ℕ) (steps : List Step) (read step : Step) → steps_of plan s ≡ steps → next < length steps →
    ((d : Step) → read ≡ get_or steps next d) → read ≡ step → GoesOn plan s next step
goes_on_at plan s next steps read step here below is e =
    let below' : next < length (steps_of plan s) = rw here below in
    goes_on plan s next step read below' (ap (λ (xs : List Step). get_or xs next read) here ∙ sym (is read) ∙ e)

pub with_last : (plan : Plan) (rank : ℕ → ℕ) (top : ℕ) (out : List PlacedShape) (tasks ts : List Task) (t : Task) → tasks ≡ ts ++ t ∷ [] →
    IsWalking plan rank top out tasks → IsWalking plan rank top out (ts ++ t ∷ [])
with_last plan rank top out tasks ts t e h = subst (λ (xs : List Task). IsWalking plan rank top out xs) e h

pub last_placing : (plan : Plan) (rank : ℕ → ℕ) (top : ℕ) (out : List PlacedShape) (tasks ts : List Task) (t : Task) → tasks ≡ ts ++ t ∷ [] →
    IsWalking plan rank top out tasks → IsPlacing plan rank top t
last_placing plan rank top out tasks ts t e h = (ArePlacing-pop plan rank top ts t (with_last plan rank top out tasks ts t e h).placing).1

-- the shift of a task leaves room for one more
pub near_task : (plan : Plan) (rank : ℕ → ℕ) (top : ℕ) (t : Task) → rank top < 2 ^ 16 → IsPlacing plan rank top t → IsPositionWithin (2 ^ 61) t.placement.shift
near_task plan rank top t deep h =
    let small : (rank top - rank t.structure) * 2 ^ 34 ≤ 2 ^ 61 = omega arith in
    IsPositionWithin-le ((rank top - rank t.structure) * 2 ^ 34) (2 ^ 61) t.placement.shift small h.near

pub starts_walk_from : (plan : Plan) (rank : ℕ → ℕ) (top : ℕ) (m : Placement) (out : List PlacedShape) (none tasks : List Task) → out ≡ [] → none ≡ [] →
    tasks ≡ none ++ task top 0 m ∷ [] → IsRanked plan rank → top < length plan → unmoved m → IsWalking plan rank top out tasks
starts_walk_from plan rank top m out none tasks no_shape no_task is ranked there still =
    rw (no_shape, is, no_task) (starts_walk plan rank top m ranked there still)

pub ends_near : (rank : ℕ → ℕ) (top : ℕ) (out : List PlacedShape) → rank top < 2 ^ 16 → All (λ x. IsPositionWithin (rank top * 2 ^ 34) x.placement.shift) out →
    All (λ x. IsPositionWithin (2 ^ 50) x.placement.shift) out
ends_near rank top out deep h =
    let small : rank top * 2 ^ 34 ≤ 2 ^ 50 = omega arith in
    All-weaker (λ x. IsPositionWithin (rank top * 2 ^ 34) x.placement.shift) (λ x. IsPositionWithin (2 ^ 50) x.placement.shift) (λ x near. IsPositionWithin-le _ _ x.placement.shift small near) out h
