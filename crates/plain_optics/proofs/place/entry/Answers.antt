use Rattle.std.proofs.Common.{◌+◌, ◌*◌, ◌<◌, length}
use Rattle.std.proofs.lemmas.Nat.{mul-add-lt}
use Rattle.opc_base.proofs.OpticsLaws.{entry_at_place, rows_within}
use Rattle.plain_optics.proofs.place.entry.Goals as goal

pub bounds-as_slice-row : goal.bounds-as_slice-row
bounds-as_slice-row c =
    rw (c.as_slice.ensures.list, c.width.ensures, rows_within c.args.kernels.now c.args.kernel.now c.requires.bounds c.requires.kernel)
    (mul-add-lt c.args.row (2 * c.args.kernels.now.reach + 1) c.args.column (2 * c.args.kernels.now.reach + 1) c.requires.row c.requires.column)

pub returns : goal.returns
returns c =
    let within : c.args.row * (2 * c.args.kernels.now.reach + 1) + c.args.column < length c.args.kernel.now.entries =
    rw (rows_within c.args.kernels.now c.args.kernel.now c.requires.bounds c.requires.kernel)
    (mul-add-lt c.args.row (2 * c.args.kernels.now.reach + 1) c.args.column (2 * c.args.kernels.now.reach + 1) c.requires.row c.requires.column) in
    rw (c.as_slice.ensures.list, c.width.ensures)
    (entry_at_place c.args.kernels.now.reach c.args.kernel.now.entries c.args.column c.args.row within)
