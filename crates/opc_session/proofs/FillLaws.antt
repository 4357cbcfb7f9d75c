-- Sums that are filled rectangle by rectangle.
use Rattle.std.proofs.Common.{◌≡◌, ℕ, suc, ◌+◌, ◌-◌, ◌*◌, ◌<◌, ◌≤◌, ℤ, pos, ◌+ℤ◌, ◌≤ℤ◌, Bool, ◌||◌, IsFalse, to_z, of_z, w32, List, [], ◌∷◌, ◌++◌, All, AllPairs, map, length, get_or, refl, sym, ap, ◌∙◌, arith, ⊎_elim}
use Rattle.std.proofs.lemmas.Bool.{cases_lt}
use Rattle.std.proofs.lemmas.Int.{ints}
use Rattle.std.proofs.lemmas.Nat.{mul-le}
use Rattle.std.proofs.lemmas.List.{get_or-append_right, get_or_append_left}
use Rattle.std.proofs.lemmas.List.Elements.{All-map}
use Rattle.std.proofs.lemmas.Option.{slice_get_within}
use Rattle.std.proofs.Math.Path.{fun_ext}
use Rattle.opc_base.specs.Canonical.{AreCanonical}
use Rattle.opc_base.specs.Lanes.{LanesAre, amplitude_of_lane, ground_of_lane, lane_count, lane_entry}
use Rattle.opc_base.specs.Plane.{AreDisjoint, HaveNoOverlap, IsRectWithin, IsSweep, PixelSet, cover, rect_cover}
use Rattle.opc_base.specs.Runs.{IsCornerTouch}
use Rattle.opc_base.specs.Sums.{sum_each}
use Rattle.opc_base.specs.declared.broken.Place.TheVariants.{Pixel}
use Rattle.opc_base.specs.declared.broken.RuleName.TheVariants.{M3}
use Rattle.opc_base.specs.declared.kernels.KernelSet.{KernelSet}
use Rattle.opc_base.specs.declared.plane.Rect.{Rect}
use Rattle.opc_base.specs.declared.rules.MaskRules.{MaskRules}
use Rattle.opc_base.proofs.ClampLaws.{seen_sum-far}
use Rattle.opc_base.proofs.LaneLaws.{amplitude_of_lane-part, amplitude_of_lane-sweep}
use Rattle.opc_base.proofs.ListsInOrder.{pairs_tail}
use Rattle.mask_rules.specs.TargetRules.{KeepsTarget}
use Rattle.opc_parallel.specs.Conditions.{IsSweepable}
use Rattle.opc_parallel.specs.Stored.{Setting, sample_at, stride_of}
use Rattle.outline_model.specs.Outline.{lines, mask}
use Rattle.tiles.specs.Tiles.{by_place}
use Rattle.opc_session.specs.Fills.{gain}
use Rattle.opc_session.specs.Kept.{AreLegal, Parts, Stands, setting_of}
use Rattle.opc_session.specs.Stores.{HoldAmplitudes, LeadFrom}

-- ---- no pixel is covered
-- an amplitude is the ground
pub uncovered : (set : KernelSet) (x y : ℤ) (lane : ℕ) → amplitude_of_lane set (cover []) x y lane ≡ ground_of_lane set lane
uncovered set x y lane =
    amplitude_of_lane-part set (cover []) x y lane
    ∙ ap (λ t. ground_of_lane set lane +ℤ t) (seen_sum-far set.reach (lane_entry set lane) (cover []) x y (λ u v low_u high_u low_v high_v. refl))
    ∙ nothing (ground_of_lane set lane)
  where
    nothing : (z : ℤ) → z +ℤ pos 0 ≡ z
    nothing z = omega (arith, ints)

-- one sample more
pub more_ground : (set : KernelSet) (n : ℕ) (old ground : List ℤ) → length old ≡ n * lane_count set → LanesAre set (ground_of_lane set) ground →
    ((j lane : ℕ) → j < n → lane < lane_count set → get_or old (j * lane_count set + lane) (pos 0) ≡ ground_of_lane set lane) →
    (j lane : ℕ) → j < n + 1 → lane < lane_count set → get_or (old ++ ground) (j * lane_count set + lane) (pos 0) ≡ ground_of_lane set lane
more_ground set n old ground size are before j lane below in_lanes = ⊎_elim
    (λ earlier.
    let within = mul-le (j + 1) (lane_count set) n (lane_count set) (omega arith) (omega arith) in
    get_or_append_left old ground (pos 0) (j * lane_count set + lane) (omega (arith, within, size)) ∙ before j lane earlier in_lanes)
    (λ late.
    let same : j ≡ n = omega arith in
    rw same (get_or-append_right old ground (n * lane_count set) (n * lane_count set + lane) (pos 0) size (omega arith)
    ∙ ap (λ m. get_or ground m (pos 0)) (let place : n * lane_count set + lane - n * lane_count set ≡ lane = omega arith in place) ∙ are.each lane in_lanes))
    (cases_lt j n)

-- with the ground at each sample all amplitudes are stored
pub holds_ground : (s : Setting) (sums : List ℤ) (n : ℕ) → length (by_place s.tiling) ≡ length s.fragments → n ≡ 2 * s.samples * length s.fragments →
    ((j lane : ℕ) → j < n → lane < lane_count s.set → get_or sums (j * lane_count s.set + lane) (pos 0) ≡ ground_of_lane s.set lane) →
    HoldAmplitudes s (cover []) sums
holds_ground s sums n count n_is each q i k lane is in_samples in_lanes =
    let in_places = slice_get_within (by_place s.tiling) q i is in
    let room = mul-le (q + 1) (2 * s.samples) (length s.fragments) (2 * s.samples) (omega (arith, in_places, count)) (omega arith) in
    each (2 * s.samples * q + k) lane (omega (arith, room, n_is)) in_lanes
    ∙ sym (uncovered s.set (sample_at s i k).x (sample_at s i k).y lane)

pub ground_size : (samples count lanes n : ℕ) → n ≡ 2 * samples * count → n * lanes ≡ 2 * samples * lanes * count
ground_size samples count lanes n n_is = ap (λ m. m * lanes) n_is ∙ (let same : 2 * samples * count * lanes ≡ 2 * samples * lanes * count = omega arith in same)

-- ---- rectangles that share no pixel, one after the other
all_tail : {X : Type 0} (P : X → Type 0) (x : X) (xs : List X) → All P (x ∷ xs) → All P xs
all_tail P x xs all k d below = all (suc k) d (omega arith)

pairs_head : {X : Type 0} (R : X → X → Type 0) (x : X) (xs : List X) → AllPairs R (x ∷ xs) → All (R x) xs
pairs_head R x xs pairs k d below = pairs 0 (suc k) d (omega arith) (omega arith)

neither : (a b : Bool) → IsFalse a → IsFalse b → IsFalse (a || b)
neither a b not_a not_b = grind arith

-- a set without a pixel of any of them
apart_from_all : (pixels : PixelSet) (rects : List Rect) → All (λ r. AreDisjoint pixels (rect_cover r)) rects → AreDisjoint pixels (cover rects)
apart_from_all pixels [] apart x y here = refl
apart_from_all pixels (rect ∷ rects) apart x y here =
    neither (rect_cover rect x y) (cover rects x y) (apart 0 rect (omega arith) x y here)
    (apart_from_all pixels rects (all_tail (λ r. AreDisjoint pixels (rect_cover r)) rect rects apart) x y here)

or_comm : (a b : Bool) → (a || b) ≡ (b || a)
or_comm a b = grind arith

-- the first of them is added to what the others cover
first_added : (rect : Rect) (rects : List Rect) → AreDisjoint (rect_cover rect) (cover rects) → IsSweep (gain rect) (cover rects) (cover (rect ∷ rects))
first_added rect rects apart = record {
  free = λ plus x y here. apart x y here;
  adds = λ plus x y. or_comm (rect_cover rect x y) (cover rects x y);
  covered = λ minus. absurd (omega (arith, ints));
  takes = λ minus. absurd (omega (arith, ints));
}

-- all of them lead from no pixel to what they cover
pub lead_rects : (set : KernelSet) (rects : List Rect) → HaveNoOverlap rects → LeadFrom set (map gain rects) (cover []) (cover rects)
unfolding sum_each
lead_rects set [] apart = record { each = λ x y lane. omega (arith, ints) }
lead_rects set (rect ∷ rects) apart =
    let R : Rect → Rect → Type 0 = λ a b. AreDisjoint (rect_cover a) (rect_cover b) in
    let others = lead_rects set rects (pairs_tail R rect rects apart) in
    let first = first_added rect rects (apart_from_all (rect_cover rect) rects (pairs_head R rect rects apart)) in
    record {
      each = λ x y lane.
          omega (arith, ints, others.each x y lane, amplitude_of_lane-sweep set (gain rect) (cover rects) (cover (rect ∷ rects)) x y lane refl first);
    }

-- the rectangles of a region can be added
pub gains_sweepable : (rects : List Rect) → AreCanonical rects → All (IsRectWithin 1048000) rects → All IsSweepable (map gain rects)
gains_sweepable rects canonical within = All-map IsSweepable gain rects (λ k d below.
    let solid = canonical.solid k d below in
    let wide = solid.wide in
    let high = solid.high in
    let is = within k d below in
    let x0 = is.0 in let y0 = is.1 in let x1 = is.2 in let y1 = is.3 in
    record { sign = refl; ordered = (omega (arith, ints), omega (arith, ints)); near = (omega arith, omega arith, omega arith, omega arith) })

-- ---- a session that opens
-- the mask is the region
pub first_stands : (p : Parts) (region : List Rect) (offsets sums : List ℤ) → AreLegal p.rules.mask p.fragments offsets →
    ((x y : ℤ) → mask p.fragments (lines p.fragments offsets) x y ≡ cover region x y) → length sums ≡ stride_of (setting_of p) * length p.fragments →
    HoldAmplitudes (setting_of p) (cover region) sums → Stands p offsets sums
first_stands p region offsets sums legal unmoved size first = record {
  legal = legal;
  size = size;
  holds = λ q i k lane at in_samples in_lanes.
      first q i k lane at in_samples in_lanes
      ∙ ap (λ (pixels : PixelSet). amplitude_of_lane p.set pixels (sample_at (setting_of p) i k).x (sample_at (setting_of p) i k).y lane) (sym (fun_ext (λ x. fun_ext (unmoved x))));
}

-- no pixels of the region touch at a corner only
pub no_touch : (rules : MaskRules) (pixels : PixelSet) → KeepsTarget rules pixels → (x y : ℤ) → ¬ IsCornerTouch pixels x y
no_touch rules pixels keeps x y touch = keeps M3 (Pixel (record { x = x; y = y })) touch

pub halo_is : (reach : ℕ) (samples : ℤ) → reach ≤ 64 → pos 1 ≤ℤ samples → samples ≤ℤ pos 16 → to_z w32 (of_z w32 (to_z w32 (of_z w32 (pos reach)) +ℤ to_z w32 (of_z w32 samples))) ≡ pos reach +ℤ samples
halo_is reach samples near some few = omega (arith, ints)

pub stored_tile : (z : ℤ) → pos 16 ≤ℤ z → z ≤ℤ pos 4096 → to_z w32 (of_z w32 z) ≡ z
stored_tile z least most = omega (arith, ints)
