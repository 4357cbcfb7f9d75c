use Rattle.opc_engine.proofs.CheckLaws.{run_mask_is}
use Rattle.opc_engine.proofs.printing.run_mask.Goals as goal

pub returns : goal.returns
returns g c =
    run_mask_is c.args.given.now c.run.new.session _ _ c.mask.result c.run.ensures.over c.in_ok-run.ensures.run c.mask.ensures.pixels c.mask.ensures.few c.mask.ensures.within
