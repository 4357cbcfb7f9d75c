use Rattle.std.proofs.Common.{◌≡◌, ℤ, ◌-ℤ◌, ap₂, ◌∙◌, arith}
use Rattle.std.proofs.lemmas.Int.{ints}
use Rattle.opc_base.specs.Blocks.{place_at}
use Rattle.opc_base.specs.Optics.{passes, product_im, product_re}
use Rattle.opc_base.specs.Plane.{PixelSet, cover}
use Rattle.opc_base.specs.declared.kernels.Entry.{Entry}
use Rattle.opc_base.specs.declared.kernels.KernelSet.{KernelSet}
use Rattle.opc_base.proofs.OpticsLaws.{product_within}
use Rattle.plain_optics.proofs.place.place_amplitude.Goals as goal

-- what the mask lets through at the pixel that a place sees
seen : (set : KernelSet) (pixels : PixelSet) (px py x y : ℤ) (passed : Entry) → passed ≡ passes set pixels px py → px ≡ x → py ≡ y →
    passed ≡ passes set pixels x y
seen set pixels px py x y passed is at_x at_y = is ∙ ap₂ (passes set pixels) at_x at_y

pub returns-clause-re : goal.returns-clause-re
returns-clause-re c =
    let set = c.args.kernels.now in
    c.product.ensures.re ∙ ap₂ product_re c.entry-entry.ensures
    (seen set (cover c.args.rects.now) _ _ (c.args.at.x -ℤ place_at set.reach c.args.column) (c.args.at.y -ℤ place_at set.reach c.args.row) _
    c.passed-passed.ensures (omega (arith, ints)) (omega (arith, ints)))

pub returns-clause-im : goal.returns-clause-im
returns-clause-im c =
    let set = c.args.kernels.now in
    c.product.ensures.im ∙ ap₂ product_im c.entry-entry.ensures
    (seen set (cover c.args.rects.now) _ _ (c.args.at.x -ℤ place_at set.reach c.args.column) (c.args.at.y -ℤ place_at set.reach c.args.row) _
    c.passed-passed.ensures (omega (arith, ints)) (omega (arith, ints)))

pub returns-clause-small : goal.returns-clause-small
returns-clause-small c =
    let set = c.args.kernels.now in
    rw (returns-clause-re c, returns-clause-im c)
    (product_within set c.args.kernel.now (cover c.args.rects.now) (place_at set.reach c.args.column) (place_at set.reach c.args.row) _ _ c.requires.bounds c.requires.kernel)
