-- Rules that are equal but for a part.
use Rattle.std.specs.Prelude.{◌≡◌, ℤ}
use Rattle.opc_base.specs.declared.rules.Pick.{Pick}
use Rattle.opc_base.specs.declared.rules.OutPick.{OutPick}
use Rattle.opc_base.specs.declared.rules.Rules.{Rules}

-- the same shapes of the layout
pub record IsSamePick (old new : Pick) : Type 0 where
  pub top : new.top ≡ old.top
  pub layer : new.layer ≡ old.layer
  pub datatype : new.datatype ≡ old.datatype
  pub grid : new.grid ≡ old.grid

-- the same structure of the mask file
pub record IsSameOutPick (old new : OutPick) : Type 0 where
  pub layer : new.layer ≡ old.layer
  pub datatype : new.datatype ≡ old.datatype
  pub name : new.name ≡ old.name

-- the new rules have this threshold, and are the old ones in all else
pub record DiffersInThreshold (least : ℤ) (old new : Rules) : Type 0 where
  pub pick : IsSamePick old.pick new.pick
  pub threshold : new.site.threshold ≡ least
  pub samples : new.site.samples ≡ old.site.samples
  pub cut : new.cut ≡ old.cut
  pub mover : new.mover ≡ old.mover
  pub mask : new.mask ≡ old.mask
  pub run : new.run ≡ old.run
  pub out : IsSameOutPick old.out new.out
