-- Why the chosen layer of a library can't be expanded, in five stages.
use Rattle.std.specs.Prelude.{◌≡◌, ℕ, ◌-◌, ◌^◌, ◌<◌, ◌≤◌, ℤ, pos, ◌*ℤ◌, unsigned_abs, int_le, Bool, true, false, not, ◌&&◌, ◌||◌, nat_lt, Option, Some, None, is_some, is_none, MatchOption, IsSome, ◌⊎◌, List, [], ◌∷◌, length, map, Contains, if◌then◌else◌}
use Prim.Native.Nat.{min}
use Rattle.std.specs.List.{list_any}
use Rattle.std.specs.Ordering.{int_eq}
use Rattle.std.specs.Int.RustNames.{int_div, int_rem}
use Rattle.opc_base.specs.declared.outline.Outline.{Outline}
use Rattle.opc_base.specs.declared.rules.Pick.{Pick}
use Rattle.gds_records.specs.Real.{is_one}
use Rattle.gds_model.specs.declared.elements.Element.TheVariants.{Reference as reference}
use Rattle.gds_model.specs.declared.reference.Grid.{Grid}
use Rattle.gds_model.specs.declared.reference.Reference.{Reference}
use Rattle.gds_model.specs.declared.shape.ShapeKind.{ShapeKind}
use Rattle.gds_model.specs.declared.shape.ShapeKind.TheVariants.{Boundary, Path, Box}
use Rattle.gds_model.specs.declared.elements.Structure.{Structure}
use Rattle.gds_model.specs.declared.place_fault.PlaceFault.{PlaceFault}
use Rattle.gds_model.specs.declared.place_fault.PlaceFault.TheVariants.{NoTop, Missing, BadMag, BadAngle, BadArray, Cycle, TooManyPoints, NotClosed, NotRectilinear, RoundPath, OffGrid, OutOfRange}
use Rattle.gds_model.specs.declared.position.DoubledRect.{DoubledRect}
use Rattle.gds_model.specs.declared.position.PathForm.{PathForm}
use Rattle.gds_model.specs.declared.position.Position.{Position}
use Rattle.gds_model.specs.Reach.{elements_at, number_of, Reaches, IsOnCycle}
use Rattle.gds_model.specs.PathRects.{is_same_point, path_rects}
use Rattle.gds_model.specs.PlacedList.{displacement, turns_of, is_on, Mapped, placed_in, placed_list, total_points}
use Rattle.gds_model.specs.Outlines.{form_of, outline_of, placed_points}

-- ---- references

abbrev pub is_unit : Option (List ℕ) → Bool
is_unit None = true
is_unit (Some mag) = is_one mag

-- a displacement is so many equal whole steps
abbrev pub are_steps : ℤ → Position → Bool
are_steps all d = int_eq (int_rem d.x all) (pos 0) && int_eq (int_rem d.y all) (pos 0)

-- there are columns and rows, and their steps are whole
abbrev pub is_regular : Reference → Option Grid → Bool
is_regular r None = true
is_regular r (Some grid) =
    int_le (pos 1) grid.columns && int_le (pos 1) grid.rows
    && are_steps grid.columns (displacement r 1) && are_steps grid.rows (displacement r 2)

-- what is wrong with a reference that names a structure
abbrev pub own_fault : Reference → Option PlaceFault
own_fault r =
    if not (is_unit r.mag) then Some (BadMag r.offset)
    else if is_none (turns_of r.angle) then Some (BadAngle r.offset)
    else if not (is_regular r r.array) then Some (BadArray r.offset)
    else None

-- what is wrong with a reference
abbrev pub reference_fault : List Structure → Reference → Option PlaceFault
reference_fault library r = if is_none (number_of library r.name) then Some (Missing r.offset) else own_fault r

-- a reference of a reached structure
abbrev pub IsReached : List Structure → ℕ → Reference → Type 0
IsReached library top r = (s : ℕ) × Reaches library top s × Contains (elements_at library s) (reference r)

-- the fault of the wrong reference of the lowest offset
abbrev pub IsReferenceFault : List Structure → ℕ → PlaceFault → Type 0
IsReferenceFault library top fault = (r : Reference) × IsReached library top r × (reference_fault library r ≡ Some fault)
    × ((q : Reference) → IsReached library top q → IsSome (reference_fault library q) → r.offset ≤ q.offset)

abbrev pub AreReferencesRight : List Structure → ℕ → Type 0
AreReferencesRight library top = (r : Reference) → IsReached library top r → reference_fault library r ≡ None

-- ---- cycles

-- the lowest number of a reached structure that reaches itself
abbrev pub IsCycleFault : List Structure → ℕ → PlaceFault → Type 0
IsCycleFault library top fault = (s : ℕ) × (fault ≡ Cycle s) × Reaches library top s × IsOnCycle library s
    × ((t : ℕ) → t < s → Reaches library top t → IsOnCycle library t → ⊥)

abbrev pub HasNoCycle : List Structure → ℕ → Type 0
HasNoCycle library top = (s : ℕ) → Reaches library top s → IsOnCycle library s → ⊥

-- ---- points

-- the chosen shapes that the top places
abbrev pub chosen_list : List Structure → Pick → ℕ → List Mapped
chosen_list library pick top = placed_list library (is_on pick.layer pick.datatype) top

-- their points
abbrev pub point_count : List Structure → Pick → ℕ → ℕ
point_count library pick top = total_points (chosen_list library pick top)

-- a count that stops at the greatest number of 64 bits
abbrev pub saturated : ℕ → ℕ
saturated n = min n (2 ^ 64 - 1)

abbrev pub IsPointFault : List Structure → Pick → ℕ → PlaceFault → Type 0
IsPointFault library pick top fault =
    (1048576 < point_count library pick top) × (fault ≡ TooManyPoints (saturated (point_count library pick top)))

-- ---- shapes

abbrev pub last_after : Position → List Position → Position
last_after p [] = p
last_after p (q ∷ rest) = last_after q rest

-- there is a last point, and it is the first
abbrev pub is_closed : List Position → Bool
is_closed [] = false
is_closed (p ∷ rest) = is_same_point p (last_after p rest)

-- no two consecutive points differ in x and in y
abbrev pub is_rectilinear_after : Position → List Position → Bool
is_rectilinear_after p [] = true
is_rectilinear_after p (q ∷ rest) = (int_eq p.x q.x || int_eq p.y q.y) && is_rectilinear_after q rest

abbrev pub is_rectilinear : List Position → Bool
is_rectilinear [] = true
is_rectilinear (p ∷ rest) = is_rectilinear_after p rest

-- the path type isn't 0, 2 or 4
abbrev pub is_round : PathForm → Bool
is_round form = not (int_eq form.ends (pos 0) || int_eq form.ends (pos 2) || int_eq form.ends (pos 4))

-- not a multiple of the unit
abbrev pub is_off : ℤ → ℤ → Bool
is_off unit n = not (int_eq (int_rem n unit) (pos 0))

-- further than 1,048,000 units from 0
abbrev pub is_far : ℤ → ℤ → Bool
is_far unit n = nat_lt 1048000 (unsigned_abs (int_div n unit))

-- one of a point's coordinates has the property
abbrev pub of_point : (ℤ → Bool) → Position → Bool
of_point test p = test p.x || test p.y

abbrev pub of_rect : (ℤ → Bool) → DoubledRect → Bool
of_rect test r = of_point test (record { x = r.x0; y = r.y0 }) || of_point test (record { x = r.x1; y = r.y1 })

-- what is wrong with a polygon through these points
abbrev pub polygon_fault : ℤ → ℕ → List Position → Option PlaceFault
polygon_fault grid offset points =
    if not (is_closed points) then Some (NotClosed offset)
    else if not (is_rectilinear points) then Some (NotRectilinear offset)
    else if list_any (of_point (is_off grid)) points then Some (OffGrid offset)
    else if list_any (of_point (is_far grid)) points then Some (OutOfRange offset)
    else None

-- what is wrong with the rectangles of a path
abbrev pub rects_fault : ℤ → ℕ → List DoubledRect → Option PlaceFault
rects_fault unit offset rects =
    if list_any (of_rect (is_off unit)) rects then Some (OffGrid offset)
    else if list_any (of_rect (is_far unit)) rects then Some (OutOfRange offset)
    else None

-- what is wrong with a path that has a width: its coordinates are those of its rectangles, in halves of units
abbrev pub wide_path_fault : ℤ → ℕ → PathForm → List Position → Option PlaceFault
wide_path_fault side offset form points =
    if not (is_rectilinear points) then Some (NotRectilinear offset)
    else if is_round form then Some (RoundPath offset)
    else rects_fault side offset (path_rects form points)

-- a path of no width covers nothing, and is passed over
abbrev pub path_fault : ℤ → ℕ → PathForm → List Position → Option PlaceFault
path_fault grid offset form points = if int_eq form.width (pos 0) then None else wide_path_fault (pos 2 *ℤ grid) offset form points

abbrev pub fault_through : ℤ → ℕ → ShapeKind → List Position → Option PlaceFault
fault_through grid offset Boundary points = polygon_fault grid offset points
fault_through grid offset Box points = polygon_fault grid offset points
fault_through grid offset (Path ends width begin end) points = path_fault grid offset (form_of ends width begin end) points

-- what is wrong with a placed shape
abbrev pub shape_fault : ℤ → Mapped → Option PlaceFault
shape_fault grid (s, f) = fault_through grid s.offset s.kind (placed_points f s.points)

-- of the first wrong shape
abbrev pub first_fault : ℤ → List Mapped → Option PlaceFault
first_fault grid [] = None
first_fault grid (x ∷ xs) = if is_some (shape_fault grid x) then shape_fault grid x else first_fault grid xs

-- ---- the first stage that has a fault

abbrev pub IsFaultFrom : List Structure → Pick → PlaceFault → ℕ → Type 0
IsFaultFrom library pick fault top =
    IsReferenceFault library top fault
    ⊎ (AreReferencesRight library top × IsCycleFault library top fault)
    ⊎ (AreReferencesRight library top × HasNoCycle library top × IsPointFault library pick top fault)
    ⊎ (AreReferencesRight library top × HasNoCycle library top × (point_count library pick top ≤ 1048576)
    × (first_fault pick.grid (chosen_list library pick top) ≡ Some fault))

-- the fault of the first stage that has one
abbrev pub IsPlaceFault : List Structure → Pick → PlaceFault → Type 0
IsPlaceFault library pick fault = MatchOption (number_of library pick.top) (fault ≡ NoTop) (IsFaultFrom library pick fault)

-- no stage has a fault, and these are the placed shapes in order
abbrev pub IsPlacement : List Structure → Pick → List Outline → Type 0
IsPlacement library pick outlines = (top : ℕ) × (number_of library pick.top ≡ Some top)
    × AreReferencesRight library top × HasNoCycle library top × (point_count library pick top ≤ 1048576)
    × (first_fault pick.grid (chosen_list library pick top) ≡ None)
    × (outlines ≡ map (outline_of pick.grid) (chosen_list library pick top))

-- nothing is left out: these are the placed shapes at every depth that is at least the number of structures
abbrev pub PlacesAll : List Structure → Pick → List Outline → Type 0
PlacesAll library pick outlines = (top depth : ℕ) → number_of library pick.top ≡ Some top → length library ≤ depth
    → outlines ≡ map (outline_of pick.grid) (placed_in library (is_on pick.layer pick.datatype) depth top)
