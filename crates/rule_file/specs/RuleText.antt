-- What a rule file says, and what may be wrong with it.
use Rattle.std.specs.Prelude.{◌≡◌, ℕ, ℤ, pos, int_le, List, [], ◌∷◌, Bool, false, not, ◌&&◌, ◌||◌, if◌then◌else◌, Option, Some, None, IsSomeAnd}
use Rattle.std.specs.Option.{option_and_then, option_or}
use Rattle.std.specs.Str.{is_utf8}
use Rattle.toml.specs.Data.{Data, Members, no_members, member, as_integer, as_str, get_member}
use Rattle.toml.specs.Parse.{parse_document}
use Rattle.opc_base.specs.declared.rules.Pick.{Pick}
use Rattle.opc_base.specs.declared.rules.SiteRules.{SiteRules}
use Rattle.opc_base.specs.declared.rules.CutRules.{CutRules}
use Rattle.opc_base.specs.declared.rules.MoveRules.{MoveRules}
use Rattle.opc_base.specs.declared.rules.MaskRules.{MaskRules}
use Rattle.opc_base.specs.declared.rules.RunRules.{RunRules}
use Rattle.opc_base.specs.declared.rules.OutPick.{OutPick}
use Rattle.opc_base.specs.declared.rules.Rules.{Rules}
use Rattle.rule_file.specs.declared.key.Key.{Key}
use Rattle.rule_file.specs.declared.key.Key.TheVariants as key
use Rattle.rule_file.specs.declared.key.Kind.{Kind}
use Rattle.rule_file.specs.declared.key.Kind.TheVariants.{Whole, TopName, MaskName}
use Rattle.rule_file.specs.declared.fault.RuleFault.{RuleFault}
use Rattle.rule_file.specs.declared.fault.RuleFault.TheVariants.{NotToml, Unknown, MissingKey, WrongType, OutOfRange}
use Rattle.rule_file.specs.Keys.{keys, name_of, kind_of, is_top, is_mask_name, is_key}

-- the value at a key
abbrev pub value_at : Members → Key → Option Data
value_at table key = get_member (name_of key) table

-- the whole number or the text at a key
abbrev pub whole_at : Members → Key → Option ℤ
whole_at table key = option_and_then as_integer (value_at table key)

abbrev pub text_at : Members → Key → Option (List ℕ)
text_at table key = option_and_then as_str (value_at table key)

-- what is wrong with a value that has to be a whole number in a range, or a text that passes a test
abbrev pub whole_fault : Key → ℤ → ℤ → Option ℤ → Option RuleFault
whole_fault key low high None = Some (WrongType key)
whole_fault key low high (Some n) = if int_le low n && int_le n high then None else Some (OutOfRange key)

abbrev pub text_fault : Key → (List ℕ → Bool) → Option (List ℕ) → Option RuleFault
text_fault key passes None = Some (WrongType key)
text_fault key passes (Some text) = if passes text then None else Some (OutOfRange key)

abbrev pub kind_fault : Key → Kind → Data → Option RuleFault
kind_fault key (Whole low high) value = whole_fault key low high (as_integer value)
kind_fault key TopName value = text_fault key is_top (as_str value)
kind_fault key MaskName value = text_fault key is_mask_name (as_str value)

abbrev pub value_fault : Key → Kind → Option Data → Option RuleFault
value_fault key kind None = Some (MissingKey key)
value_fault key kind (Some value) = kind_fault key kind value

-- what is wrong with a key: it is missing, of the wrong type or out of its range
unfoldable pub key_fault : Members → Key → Option RuleFault
key_fault table key = value_fault key (kind_of key) (value_at table key)

-- the first fault among keys
abbrev pub first_fault : Members → List Key → Option RuleFault
first_fault table [] = None
first_fault table (key ∷ keys) = option_or (key_fault table key) (first_fault table keys)

-- the table has a key that is none of a rule file's
abbrev pub has_unknown : Members → Bool
has_unknown no_members = false
has_unknown (member name value table) = not (is_key name) || has_unknown table

abbrev pub table_fault : Members → Option RuleFault
table_fault table = if has_unknown table then Some Unknown else first_fault table keys

abbrev pub document_fault : Option Members → Option RuleFault
document_fault None = Some NotToml
document_fault (Some table) = table_fault table

-- what is wrong with a rule file
abbrev pub rule_fault : List ℕ → Option RuleFault
rule_fault bytes = if is_utf8 bytes then document_fault (parse_document bytes) else Some NotToml

-- no key is wrong
abbrev pub AllKeysPass : Members → Type 0
AllKeysPass table = (key : Key) → key_fault table key ≡ None

-- the parts of the rules are the values at their keys
pub record HasPick (table : Members) (pick : Pick) : Type 0 where
  pub top : text_at table key.Top ≡ Some pick.top
  pub layer : whole_at table key.Layer ≡ Some (pos pick.layer)
  pub datatype : whole_at table key.Datatype ≡ Some (pos pick.datatype)
  pub grid : whole_at table key.Grid ≡ Some pick.grid

pub record HasSite (table : Members) (site : SiteRules) : Type 0 where
  pub threshold : whole_at table key.Threshold ≡ Some site.threshold
  pub samples : whole_at table key.Samples ≡ Some site.samples

pub record HasCut (table : Members) (cut : CutRules) : Type 0 where
  pub piece : whole_at table key.Piece ≡ Some cut.piece
  pub corner_out : whole_at table key.CornerOut ≡ Some cut.corner_out
  pub corner_in : whole_at table key.CornerIn ≡ Some cut.corner_in
  pub line_end : whole_at table key.LineEnd ≡ Some cut.line_end

pub record HasMover (table : Members) (mover : MoveRules) : Type 0 where
  pub gain_num : whole_at table key.GainNum ≡ Some mover.gain_num
  pub gain_den : whole_at table key.GainDen ≡ Some mover.gain_den
  pub max_step : whole_at table key.MaxStep ≡ Some mover.max_step
  pub max_in : whole_at table key.MaxIn ≡ Some mover.max_in
  pub max_out : whole_at table key.MaxOut ≡ Some mover.max_out

pub record HasMask (table : Members) (mask : MaskRules) : Type 0 where
  pub width : whole_at table key.Width ≡ Some mask.width
  pub space : whole_at table key.Space ≡ Some mask.space
  pub max_in : whole_at table key.MaxIn ≡ Some mask.max_in
  pub max_out : whole_at table key.MaxOut ≡ Some mask.max_out

pub record HasRun (table : Members) (run : RunRules) : Type 0 where
  pub settle : whole_at table key.Settle ≡ Some run.settle
  pub rounds : whole_at table key.Rounds ≡ Some (pos run.rounds)
  pub tile : whole_at table key.Tile ≡ Some run.tile
  pub workers : whole_at table key.Workers ≡ Some (pos run.workers)

pub record HasOut (table : Members) (out : OutPick) : Type 0 where
  pub layer : whole_at table key.OutLayer ≡ Some (pos out.layer)
  pub datatype : whole_at table key.OutDatatype ≡ Some (pos out.datatype)
  pub name : text_at table key.OutName ≡ Some out.name

pub record HasRules (table : Members) (rules : Rules) : Type 0 where
  pub pick : HasPick table rules.pick
  pub site : HasSite table rules.site
  pub cut : HasCut table rules.cut
  pub mover : HasMover table rules.mover
  pub mask : HasMask table rules.mask
  pub run : HasRun table rules.run
  pub out : HasOut table rules.out

-- the rules are those of the file
abbrev pub SaysRules : List ℕ → Rules → Type 0
SaysRules bytes rules = IsSomeAnd (parse_document bytes) (λ table. HasRules table rules)
