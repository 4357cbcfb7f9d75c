-- A rule file says one list of rules.
use Rattle.std.proofs.Common.{◌≡◌, ◌≤◌, ℕ, ℤ, pos, List, All, length, Option, Some, None, sym, ap, ◌∙◌}
use Rattle.std.specs.Prelude.{IsSomeAnd, IsTrue}
use Rattle.std.specs.Coded.{le_prop}
use Rattle.std.proofs.Math.Dec.{T_prop}
use mathlib.Core.HLevel.{is_prop→PathP}
use Rattle.std.proofs.Math.Path.{PathP}
use Rattle.std.proofs.Math.IntN.{ℤ_set}
use Rattle.std.proofs.Math.Bool.{Bool-set}
use Rattle.toml.specs.Data.{Members}
use Rattle.toml.specs.Parse.{parse_document}
use Rattle.opc_base.specs.Ranges.{IsBetween, is_name_byte}
use Rattle.opc_base.specs.declared.rules.Pick.{Pick}
use Rattle.opc_base.specs.declared.rules.SiteRules.{SiteRules}
use Rattle.opc_base.specs.declared.rules.CutRules.{CutRules}
use Rattle.opc_base.specs.declared.rules.MoveRules.{MoveRules}
use Rattle.opc_base.specs.declared.rules.MaskRules.{MaskRules}
use Rattle.opc_base.specs.declared.rules.RunRules.{RunRules}
use Rattle.opc_base.specs.declared.rules.OutPick.{OutPick}
use Rattle.opc_base.specs.declared.rules.Rules.{Rules}
use Rattle.rule_file.specs.RuleText.{HasCut, HasMask, HasMover, HasOut, HasPick, HasRules, HasRun, HasSite, SaysRules}

-- ---- what a range says is no choice
between_prop : (low high n : ℤ) → IsProp (IsBetween low high n)
between_prop low high n = hlevel T_prop

between : (low high : ℤ) {x y : ℤ} (p : x ≡ y) (a : IsBetween low high x) (b : IsBetween low high y) → PathP (λ j. IsBetween low high (p j)) a b
between low high p a b = is_prop→PathP (λ j. IsBetween low high (p j)) (λ j. between_prop low high (p j)) a b

abbrev HasLength : ℕ → ℕ → List ℕ → Type 0
HasLength low high text = (low ≤ length text) × (length text ≤ high)

has_length : (low high : ℕ) {x y : List ℕ} (p : x ≡ y) (a : HasLength low high x) (b : HasLength low high y) → PathP (λ j. HasLength low high (p j)) a b
has_length low high p a b = is_prop→PathP (λ j. HasLength low high (p j)) (λ j. hlevel le_prop) a b

same : {A : Type 0} (o : Option A) (x y : A) → o ≡ Some x → o ≡ Some y → x ≡ y
same o x y a b = cc

same_whole : (o : Option ℤ) (x y : ℕ) → o ≡ Some (pos x) → o ≡ Some (pos y) → x ≡ y
same_whole o x y a b = cc

-- ---- the parts
site_one : (a b : SiteRules) → a.threshold ≡ b.threshold → a.samples ≡ b.samples → a ≡ b
site_one a b p q = λ i. record {
  threshold = p i;
  samples = q i;
  threshold_in_range = between (pos 1) (pos 4800000000000000000) p a.threshold_in_range b.threshold_in_range i;
  samples_in_range = between (pos 1) (pos 16) q a.samples_in_range b.samples_in_range i;
}

cut_one : (a b : CutRules) → a.piece ≡ b.piece → a.corner_out ≡ b.corner_out → a.corner_in ≡ b.corner_in → a.line_end ≡ b.line_end → a ≡ b
cut_one a b p q r s = λ i. record {
  piece = p i;
  corner_out = q i;
  corner_in = r i;
  line_end = s i;
  piece_in_range = between (pos 1) (pos 4096) p a.piece_in_range b.piece_in_range i;
  corner_out_in_range = between (pos 1) (pos 4096) q a.corner_out_in_range b.corner_out_in_range i;
  corner_in_in_range = between (pos 1) (pos 4096) r a.corner_in_in_range b.corner_in_in_range i;
  line_end_in_range = between (pos 0) (pos 4096) s a.line_end_in_range b.line_end_in_range i;
}

mover_one : (a b : MoveRules) → a.gain_num ≡ b.gain_num → a.gain_den ≡ b.gain_den → a.max_step ≡ b.max_step → a.max_in ≡ b.max_in → a.max_out ≡ b.max_out → a ≡ b
mover_one a b p q r s t = λ i. record {
  gain_num = p i;
  gain_den = q i;
  max_step = r i;
  max_in = s i;
  max_out = t i;
  gain_num_in_range = between (pos 1) (pos 64) p a.gain_num_in_range b.gain_num_in_range i;
  gain_den_in_range = between (pos 1) (pos 64) q a.gain_den_in_range b.gain_den_in_range i;
  max_step_in_range = between (pos 1) (pos 32) r a.max_step_in_range b.max_step_in_range i;
  max_in_in_range = between (pos 0) (pos 128) s a.max_in_in_range b.max_in_in_range i;
  max_out_in_range = between (pos 0) (pos 128) t a.max_out_in_range b.max_out_in_range i;
}

mask_one : (a b : MaskRules) → a.width ≡ b.width → a.space ≡ b.space → a.max_in ≡ b.max_in → a.max_out ≡ b.max_out → a ≡ b
mask_one a b p q r s = λ i. record {
  width = p i;
  space = q i;
  max_in = r i;
  max_out = s i;
  width_in_range = between (pos 1) (pos 1024) p a.width_in_range b.width_in_range i;
  space_in_range = between (pos 1) (pos 1024) q a.space_in_range b.space_in_range i;
  max_in_in_range = between (pos 0) (pos 128) r a.max_in_in_range b.max_in_in_range i;
  max_out_in_range = between (pos 0) (pos 128) s a.max_out_in_range b.max_out_in_range i;
}

pick_one : (a b : Pick) → a.top ≡ b.top → a.layer ≡ b.layer → a.datatype ≡ b.datatype → a.grid ≡ b.grid → a ≡ b
pick_one a b p q r s = λ i. record {
  top = p i;
  layer = q i;
  datatype = r i;
  grid = s i;
  top_in_range = has_length 1 255 p a.top_in_range b.top_in_range i;
  grid_in_range = between (pos 1) (pos 1000) s a.grid_in_range b.grid_in_range i;
}

few_prop : (most n : ℕ) → IsProp (n ≤ most)
few_prop most n = le_prop

some_few_prop : (n : ℕ) → IsProp ((1 ≤ n) × (n ≤ 64))
some_few_prop n = hlevel le_prop

run_one : (a b : RunRules) → a.settle ≡ b.settle → a.rounds ≡ b.rounds → a.tile ≡ b.tile → a.workers ≡ b.workers → a ≡ b
run_one a b p q r s = λ i. record {
  settle = p i;
  rounds = q i;
  tile = r i;
  workers = s i;
  settle_in_range = between (pos 0) (pos 16) p a.settle_in_range b.settle_in_range i;
  rounds_in_range = is_prop→PathP (λ j. q j ≤ 64) (λ j. few_prop 64 (q j)) a.rounds_in_range b.rounds_in_range i;
  tile_in_range = between (pos 16) (pos 4096) r a.tile_in_range b.tile_in_range i;
  workers_in_range = is_prop→PathP (λ j. (1 ≤ s j) × (s j ≤ 64)) (λ j. some_few_prop (s j)) a.workers_in_range b.workers_in_range i;
}

plain_prop : (name : List ℕ) → IsProp (All (λ b. IsTrue (is_name_byte b)) name)
plain_prop name = hlevel Bool-set

out_one : (a b : OutPick) → a.layer ≡ b.layer → a.datatype ≡ b.datatype → a.name ≡ b.name → a ≡ b
out_one a b p q r = λ i. record {
  layer = p i;
  datatype = q i;
  name = r i;
  name_in_range = has_length 1 32 r a.name_in_range b.name_in_range i;
  name_is_plain = is_prop→PathP (λ j. All (λ b. IsTrue (is_name_byte b)) (r j)) (λ j. plain_prop (r j)) a.name_is_plain b.name_is_plain i;
}

-- ---- the whole
all_one : (a b : Rules) → a.pick ≡ b.pick → a.site ≡ b.site → a.cut ≡ b.cut → a.mover ≡ b.mover → a.mask ≡ b.mask → a.run ≡ b.run → a.out ≡ b.out → a ≡ b
all_one a b p q r s t u v = λ i. record {
  pick = p i;
  site = q i;
  cut = r i;
  mover = s i;
  mask = t i;
  run = u i;
  out = v i;
  same_max_in = is_prop→PathP (λ j. (s j).max_in ≡ (t j).max_in) (λ j. ℤ_set (s j).max_in (t j).max_in) a.same_max_in b.same_max_in i;
  same_max_out = is_prop→PathP (λ j. (s j).max_out ≡ (t j).max_out) (λ j. ℤ_set (s j).max_out (t j).max_out) a.same_max_out b.same_max_out i;
}

pick_said : (table : Members) (a b : Pick) → HasPick table a → HasPick table b → a ≡ b
pick_said table a b x y = pick_one a b (same _ _ _ x.top y.top) (same_whole _ _ _ x.layer y.layer) (same_whole _ _ _ x.datatype y.datatype) (same _ _ _ x.grid y.grid)

site_said : (table : Members) (a b : SiteRules) → HasSite table a → HasSite table b → a ≡ b
site_said table a b x y = site_one a b (same _ _ _ x.threshold y.threshold) (same _ _ _ x.samples y.samples)

cut_said : (table : Members) (a b : CutRules) → HasCut table a → HasCut table b → a ≡ b
cut_said table a b x y =
    cut_one a b (same _ _ _ x.piece y.piece) (same _ _ _ x.corner_out y.corner_out) (same _ _ _ x.corner_in y.corner_in) (same _ _ _ x.line_end y.line_end)

mover_said : (table : Members) (a b : MoveRules) → HasMover table a → HasMover table b → a ≡ b
mover_said table a b x y =
    mover_one a b (same _ _ _ x.gain_num y.gain_num) (same _ _ _ x.gain_den y.gain_den) (same _ _ _ x.max_step y.max_step)
    (same _ _ _ x.max_in y.max_in) (same _ _ _ x.max_out y.max_out)

mask_said : (table : Members) (a b : MaskRules) → HasMask table a → HasMask table b → a ≡ b
mask_said table a b x y =
    mask_one a b (same _ _ _ x.width y.width) (same _ _ _ x.space y.space) (same _ _ _ x.max_in y.max_in) (same _ _ _ x.max_out y.max_out)

run_said : (table : Members) (a b : RunRules) → HasRun table a → HasRun table b → a ≡ b
run_said table a b x y =
    run_one a b (same _ _ _ x.settle y.settle) (same_whole _ _ _ x.rounds y.rounds) (same _ _ _ x.tile y.tile) (same_whole _ _ _ x.workers y.workers)

out_said : (table : Members) (a b : OutPick) → HasOut table a → HasOut table b → a ≡ b
out_said table a b x y = out_one a b (same_whole _ _ _ x.layer y.layer) (same_whole _ _ _ x.datatype y.datatype) (same _ _ _ x.name y.name)

said : (table : Option Members) (a b : Rules) → IsSomeAnd table (λ t. HasRules t a) → IsSomeAnd table (λ t. HasRules t b) → a ≡ b
said None a b x y = absurd x
said (Some t) a b x y =
    all_one a b (pick_said t a.pick b.pick x.pick y.pick) (site_said t a.site b.site x.site y.site) (cut_said t a.cut b.cut x.cut y.cut)
    (mover_said t a.mover b.mover x.mover y.mover) (mask_said t a.mask b.mask x.mask y.mask) (run_said t a.run b.run x.run y.run)
    (out_said t a.out b.out x.out y.out)

pub rules_are_one : (bytes : List ℕ) (a b : Rules) → SaysRules bytes a → SaysRules bytes b → a ≡ b
rules_are_one bytes a b x y = said (parse_document bytes) a b x y
