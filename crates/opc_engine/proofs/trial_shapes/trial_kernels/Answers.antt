use Rattle.std.proofs.Common.{◌∙◌}
use Rattle.opc_engine.proofs.TrialInputLaws.{kernels-is}
use Rattle.opc_engine.proofs.trial_shapes.trial_kernels.Goals as goal

pub returns : goal.returns
returns c =
    kernels-is c.from_vec-file.result c.append.new.self c.append-2.new.self c.put_kernel.new.file c.put_kernel-2.new.file _ _
    (c.from_vec-file.ensures.list ∙ c.in_ok-to_vec.ensures.items_if_clones_equal (λ x y e. e)) c.in_ok-append.ensures.appended c.to_be_bytes.ensures
    c.in_ok-append-2.ensures.appended c.to_be_bytes-2.ensures c.in_ok-put_kernel.ensures c.in_ok-put_kernel-2.ensures
