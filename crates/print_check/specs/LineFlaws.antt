-- Flaws that are found line by line, from the runs of the lines.
use Rattle.std.specs.Prelude.{◌≡◌, ℕ, ◌+◌, ◌≤◌, ℤ, pos, ◌-ℤ◌, int_le, int_lt, unsigned_abs, Bool, ◌&&◌, ◌||◌, if◌then◌else◌, List, [], ◌∷◌, ◌++◌, length, get_or, Contains, AllPairs}
use Rattle.std.proofs.Math.Dec.{ltb}
use Rattle.std.specs.List.{flat_map, prefix_len}
use Rattle.std.specs.Ordering.{int_eq}
use Rattle.opc_base.specs.Plane.{PixelSet}
use Rattle.opc_base.specs.Runs.{IsRun}
use Rattle.print_check.specs.Flaws.{ComesBefore, IsWrong}
use Rattle.print_check.specs.declared.flaw.Flaw.{Flaw}
use Rattle.print_check.specs.declared.flaw.FlawKind.{FlawKind}
use Rattle.print_check.specs.declared.flaw.FlawKind.TheVariants.{Pinch, Bridge}
use Rattle.print_check.specs.declared.flaw.Line.{Line}
use Rattle.print_check.specs.declared.line_runs.LineRun.{LineRun}

-- the first run ends before the second one begins
abbrev pub ends_before : LineRun → LineRun → Bool
ends_before t run = int_lt t.row run.row || (int_eq t.row run.row && int_le t.past run.first)

-- where the first run stands that does not end before this one begins
abbrev pub reach_place : List LineRun → LineRun → ℕ
reach_place targets run = prefix_len (λ t. ends_before t run) targets

-- the first run is in the row of the second one and begins before that ends
abbrev pub begins_in : LineRun → LineRun → Bool
begins_in t run = int_eq t.row run.row && int_lt t.first run.past

-- there is such a run at this place
abbrev pub has_run_at : List LineRun → ℕ → LineRun → Bool
has_run_at targets place run = ltb place (length targets) && begins_in (get_or targets place (record { row = pos 0; first = pos 0; past = pos 0 })) run

abbrev pub pinches : List LineRun → ℕ → ℤ → LineRun → Bool
pinches targets next width run = has_run_at targets next run && int_lt (run.past -ℤ run.first) width

abbrev pub bridges : List LineRun → ℕ → LineRun → Bool
bridges targets next run = has_run_at targets next run && has_run_at targets (next + 1) run

abbrev pub flaw_of : FlawKind → Line → LineRun → Flaw
flaw_of kind line run = record { kind = kind; line = line; place = run.row; from = run.first; to = run.past }

abbrev pub one_if : Bool → Flaw → List Flaw
one_if b f = if b then f ∷ [] else []

-- the flaws of a printed run, the first run of the target that does not end before it being at `next`
abbrev pub flaws_at : Line → List LineRun → ℕ → ℤ → LineRun → List Flaw
flaws_at line targets next width run =
    one_if (pinches targets next width run) (flaw_of Pinch line run) ++ one_if (bridges targets next run) (flaw_of Bridge line run)

abbrev pub run_flaws : Line → List LineRun → ℤ → LineRun → List Flaw
run_flaws line targets width run = flaws_at line targets (reach_place targets run) width run

-- the flaws of all printed runs
abbrev pub line_flaws : Line → List LineRun → ℤ → List LineRun → List Flaw
line_flaws line targets width printed = flat_map (run_flaws line targets width) printed

-- coordinates at most this far from 0
abbrev pub IsRunWithin : ℕ → LineRun → Type 0
IsRunWithin most r = (unsigned_abs r.first ≤ most) × (unsigned_abs r.past ≤ most)

-- a flaw of the rows of two sets
pub record IsLineFlaw (line : Line) (target pixels : PixelSet) (width : ℤ) (f : Flaw) : Type 0 where
  pub line_is : f.line ≡ line
  pub run : IsRun (λ s. pixels s f.place) f.from f.to
  pub wrong : IsWrong f.kind width (λ s. target s f.place) f.from f.to

-- the list of line flaws, in order
pub record AreLineFlaws (line : Line) (target pixels : PixelSet) (width : ℤ) (flaws : List Flaw) : Type 0 where
  pub sorted : AllPairs ComesBefore flaws
  pub each : (f : Flaw) → Contains flaws f → IsLineFlaw line target pixels width f
  pub complete : (f : Flaw) → IsLineFlaw line target pixels width f → Contains flaws f

-- they follow those that were found before
pub record AddsLineFlaws (line : Line) (target pixels : PixelSet) (width : ℤ) (old new : List Flaw) : Type 0 where
  pub added : List Flaw
  pub follow : new ≡ old ++ added
  pub are : AreLineFlaws line target pixels width added
