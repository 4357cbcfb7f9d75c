-- What is ready for a correction under several conditions, as the code has it.
use Rattle.std.specs.Prelude.{◌≤◌, All, length}
use Rattle.opc_base.specs.Optics.{KeepsBounds}
use Rattle.opc_base.specs.Plane.{IsRectWithin, cover}
use Rattle.outline_model.specs.Fragmentation.{AreFragments}
use Rattle.mask_rules.specs.TargetRules.{KeepsTarget}
use Rattle.opc_engine.specs.Heads.{IsHead}
use Rattle.opc_engine.specs.declared.prepared.Prepared.{Prepared}
use Rattle.opc_engine.specs.PrepareSets.{WindowSubject}

-- what is corrected
abbrev pub window_subject_of : Prepared → WindowSubject
window_subject_of p = record { head = p.head; target = cover p.region; fragments = p.fragments; rules = p.rules; sets = p.sets }

-- it can be corrected under conditions with these kernels, and its head can be written
pub record CanCorrect (p : Prepared) : Type 0 where
  pub cut : AreFragments (cover p.region) p.rules.cut p.fragments
  pub placed : All (IsRectWithin 1048000) p.region
  pub keeps : KeepsTarget p.rules.mask (cover p.region)
  pub few : length p.region ≤ 262144
  pub bounds : All KeepsBounds p.sets
  pub head : IsHead p.head
