use Rattle.std.proofs.Common.{◌≡◌, ◌∙◌, ◌+◌, length, length-append, sym, ap, arith}
use Rattle.opc_base.specs.Plane.{cover}
use Rattle.outline_model.specs.Outline.{fragment_at}
use Rattle.assist_bars.specs.Bars.{is_own}
use Rattle.assist_bars.proofs.OwnLaws.{flag_more}
use Rattle.assist_bars.proofs.own.own_fragments.Goals as goal

pub loop-i-preserved : goal.loop-i-preserved
loop-i-preserved c =
    let target = c.args.target.now in
    let here : c.has_pixel.result ≡ is_own (cover c.args.target.now) (fragment_at c.args.fragments.now c.loop-i.i) =
    rw (c.in_ok-list.ensures.rects, c.rects.ensures.list, c.site.ensures.site) at c.has_pixel.ensures in
    rw c.in_ok-push.ensures.items
    (record {
      size = simp length-append (omega (arith, c.loop-i.invariant.size));
      each = flag_more (λ j. is_own (cover target) (fragment_at c.args.fragments.now j)) c.loop-i.own.items c.loop-i.i c.has_pixel.result c.loop-i.invariant.size here c.loop-i.invariant.each;
    })
