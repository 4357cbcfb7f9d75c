-- The first pixel of each kind of clash.
use Rattle.std.specs.Prelude.{Bool, true, false, None}
use Rattle.opc_base.specs.declared.plane.Pix.{Pix}
use Rattle.opc_base.specs.declared.rules.MaskRules.{MaskRules}
use Rattle.mask_rules.specs.declared.clash.Clash.{Clash}
use Rattle.mask_rules.specs.declared.clash.Clash.TheVariants.{Meet, Narrow, Touch}
use Rattle.mask_rules.specs.declared.first.Found.{Found}
use Rattle.mask_rules.specs.declared.stretch.Stretch.{Stretch}
use Rattle.mask_rules.specs.Clashes.{pair_pixel}
use Rattle.mask_rules.specs.First.{IsFirst, earlier}

abbrev pub none_found : Found
none_found = record { meet = None; narrow = None; close = None; touch = None }

abbrev pub earlier_each : Found → Found → Found
earlier_each f g = record {
  meet = earlier f.meet g.meet;
  narrow = earlier f.narrow g.narrow;
  close = earlier f.close g.close;
  touch = earlier f.touch g.touch;
}

-- the first pixel of each kind of clash of two stretches
abbrev pub pair_found : MaskRules → Bool → Stretch → Stretch → Found
pair_found rules v p q = record {
  meet = pair_pixel Meet v p q;
  narrow = pair_pixel (Narrow true rules.width) v p q;
  close = pair_pixel (Narrow false rules.space) v p q;
  touch = pair_pixel Touch v p q;
}

-- the first of the pixels at which each kind of clash is
pub record IsFound (rules : MaskRules) (clashes : Clash → Pix → Type 0) (found : Found) : Type 0 where
  pub meet : IsFirst (clashes Meet) found.meet
  pub narrow : IsFirst (clashes (Narrow true rules.width)) found.narrow
  pub close : IsFirst (clashes (Narrow false rules.space)) found.close
  pub touch : IsFirst (clashes Touch) found.touch
