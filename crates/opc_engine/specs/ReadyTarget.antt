-- What a layout gives that is ready, as the code has it.
use Rattle.std.specs.Prelude.{◌≤◌, All, length}
use Rattle.opc_base.specs.Plane.{IsRectWithin, cover}
use Rattle.opc_base.specs.declared.rules.Rules.{Rules}
use Rattle.outline_model.specs.Fragmentation.{AreFragments}
use Rattle.mask_rules.specs.TargetRules.{KeepsTarget}
use Rattle.opc_engine.specs.Heads.{IsHead}
use Rattle.opc_engine.specs.declared.ready_target.ReadyTarget.{ReadyTarget}
use Rattle.opc_engine.specs.Prepare.{Pattern}

abbrev pub pattern_of : ReadyTarget → Pattern
pattern_of t = record { head = t.head; target = cover t.region; fragments = t.fragments }

-- it keeps the rules of a target and is cut by these rules, and its head can be written
pub record IsReadyFor (rules : Rules) (t : ReadyTarget) : Type 0 where
  pub cut : AreFragments (cover t.region) rules.cut t.fragments
  pub placed : All (IsRectWithin 1048000) t.region
  pub keeps : KeepsTarget rules.mask (cover t.region)
  pub few : length t.region ≤ 65536
  pub head : IsHead t.head
