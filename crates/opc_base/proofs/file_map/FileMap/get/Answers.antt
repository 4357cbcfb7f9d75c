use Rattle.std.proofs.Common.{true, false, ap, sym, ◌∙◌}
use Rattle.std.specs.Ordering.{nat_cmp}
use Rattle.std.specs.Cmp.Lexicographic.{slice_cmp, nat_list_cmp_total}
use Rattle.std.specs.FinMap.{get, find, get-from_entries}
use Rattle.opc_base.proofs.FileEntries.{find-drop}
use Rattle.opc_base.proofs.file_map.FileMap.get.Goals as goal

pub loop-file-init : goal.loop-file-init
loop-file-init c =
    ap (λ m. get m c.args.name.now) (sym c.self.view_is)
    ∙ get-from_entries nat_list_cmp_total _ _
    ∙ ap (find (slice_cmp nat_cmp) c.args.name.now) (sym c.deref-file-items.ensures.value)

pub returns-then-eq : goal.returns-then-eq
returns-then-eq c =
    record { file = sym (c.loop-file.invariant ∙ find-drop true _ _ _ _ c.loop-file-test.true c.loop-file-item.is (cc)) }

pub loop-file-preserved : goal.loop-file-preserved
loop-file-preserved c =
    c.loop-file.invariant ∙ find-drop false _ _ _ _ c.loop-file-test.true c.loop-file-item.is (cc)
