use Rattle.gds_expand.proofs.bases.base_of.Goals as goal

pub returns-in_default : goal.returns-in_default
returns-in_default c = c.own_base.ensures c.args.row.now
