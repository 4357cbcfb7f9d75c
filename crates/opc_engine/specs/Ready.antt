-- What is ready for a correction, as the code has it.
use Rattle.std.specs.Prelude.{◌≤◌, All, length}
use Rattle.opc_base.specs.Optics.{KeepsBounds}
use Rattle.opc_base.specs.Plane.{IsRectWithin, cover}
use Rattle.outline_model.specs.Fragmentation.{AreFragments}
use Rattle.mask_rules.specs.TargetRules.{KeepsTarget}
use Rattle.opc_engine.specs.Heads.{IsHead}
use Rattle.opc_engine.specs.declared.ready.Ready.{Ready}
use Rattle.opc_engine.specs.Prepare.{Subject}

-- what is corrected
abbrev pub subject_of : Ready → Subject
subject_of p = record { head = p.head; target = cover p.region; fragments = p.fragments; set = p.kernels; rules = p.rules }

-- a session can be opened over it
pub record CanOpen (p : Ready) : Type 0 where
  pub cut : AreFragments (cover p.region) p.rules.cut p.fragments
  pub placed : All (IsRectWithin 1048000) p.region
  pub keeps : KeepsTarget p.rules.mask (cover p.region)
  pub few : length p.region ≤ 262144
  pub bounds : KeepsBounds p.kernels
  pub head : IsHead p.head
