use Rattle.std.proofs.Common.{◌<◌, length, rules}
use Rattle.std.proofs.lemmas.List.Elements.{All-push}
use Rattle.opc_base.specs.Canonical.{IsSolid}
use Rattle.opc_base.specs.Plane.{IsRectWithin, rect_cover}
use Rattle.rect_union.proofs.StackLaws.{list_any-set}
use Rattle.rect_union.proofs.beside.add_beside.Goals as goal

pub returns-in-Some-clause-pixels : goal.returns-in-Some-clause-pixels
returns-in-Some-clause-pixels c x y =
    let below : c.in-Some.place < length c.args.rects.now.items = search rules in
    list_any-set (λ s. rect_cover s x y) c.args.rects.now.items c.in-Some.place c.joined-wider.result c.index.result.now (rect_cover c.args.rect x y) below
    (rw (← c.index.ensures) (c.joined-wider.ensures.pixels x y))

pub returns-in_ok-push-in-None-clause-placed : goal.returns-in_ok-push-in-None-clause-placed
returns-in_ok-push-in-None-clause-placed c =
    rw c.in_ok-push-in-None.ensures.items
    (record {
      solid = All-push IsSolid c.args.rects.now.items c.args.rect c.requires.rects.solid c.requires.solid;
      within = All-push (IsRectWithin 1048000) c.args.rects.now.items c.args.rect c.requires.rects.within c.requires.within;
    })
