use Rattle.opc_cli.proofs.LoadLaws.{later_kernels_stop}
use Rattle.opc_cli.proofs.loads.+load_kernels.Goals as goal

pub returns-clause-stop : goal.returns-clause-stop
returns-clause-stop g t c =
    let outside = g.H.Host.outside in
    later_kernels_stop c.args.conditions.now c.first-item.result c.in_ok-load_named.field-0 (outside c.args.host.now) (outside c.load_named.new.host) (outside c.load_kernels.new.host)
    c.load_kernels.result c.in-len1-up.len_at_least c.first-item.is c.in_ok-load_named.ensures.bytes c.load_named.ensures.rest c.load_kernels.ensures.stop
