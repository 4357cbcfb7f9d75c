use Rattle.std.proofs.Common.{◌≡◌, ◌≤◌, ℤ, ◌-ℤ◌, unsigned_abs, SFits, w16, to_z, of_z, ap₂, arith}
use Rattle.std.proofs.lemmas.Int.{ints}
use Rattle.opc_base.specs.declared.kernels.Entry.{Entry}
use Rattle.prefix_tables.proofs.TableLaws.{transmissions_within}
use Rattle.prefix_tables.proofs.entries.contrast_of.Goals as goal

abbrev entry_from : ℤ → ℤ → Entry
entry_from re im = record { re = re; im = im }

-- a difference of small parts, as the code computes it
difference : (a b : ℤ) → unsigned_abs a ≤ 8 → unsigned_abs b ≤ 8 → to_z w16 (of_z w16 (to_z w16 (of_z w16 a) -ℤ to_z w16 (of_z w16 b))) ≡ a -ℤ b
difference a b small_a small_b = omega (arith, ints)

pub returns : goal.returns
returns c =
    let set = c.args.kernels.now in
    let small = transmissions_within set c.requires in
    ap₂ entry_from (difference set.covered.re set.uncovered.re small.0.0 small.1.0) (difference set.covered.im set.uncovered.im small.0.1 small.1.1)
