use Rattle.std.proofs.Common.{◌≤ℤ◌, SFits, w32, to_z-of_z, rules}
use Rattle.rect_union.proofs.StripLaws.{leaves_part, places_part, pushes_part}
use Rattle.rect_union.proofs.strips.push_part.Goals as goal

pub returns-in_ok-push-clause-placed : goal.returns-in_ok-push-clause-placed
returns-in_ok-push-clause-placed c =
    let left_fits : SFits w32 c.args.left = c.ranges.left in
    let right_fits : SFits w32 c.args.right = c.ranges.right in
    let left = simp to_z-of_z at c.part_of-part.ensures.left in
    let right = simp to_z-of_z at c.part_of-part.ensures.right in
    let part = c.part_of-part.ensures in
    rw c.in_ok-push.ensures.items
    (places_part c.args.seen.now.items c.args.rect.now c.part_of-part.result c.args.left c.args.right left right part.low part.high
    (search rules) c.requires.solid c.requires.within c.requires.seen)

pub returns-in_ok-push-clause-pixels : goal.returns-in_ok-push-clause-pixels
returns-in_ok-push-clause-pixels c x y =
    let left_fits : SFits w32 c.args.left = c.ranges.left in
    let right_fits : SFits w32 c.args.right = c.ranges.right in
    let left = simp to_z-of_z at c.part_of-part.ensures.left in
    let right = simp to_z-of_z at c.part_of-part.ensures.right in
    let part = c.part_of-part.ensures in
    rw c.in_ok-push.ensures.items
    (pushes_part c.args.seen.now.items c.args.rect.now c.part_of-part.result c.args.left c.args.right x y left right part.low part.high)

pub returns-else-part-clause-pixels : goal.returns-else-part-clause-pixels
returns-else-part-clause-pixels c x y =
    let left_fits : SFits w32 c.args.left = c.ranges.left in
    let right_fits : SFits w32 c.args.right = c.ranges.right in
    let left = simp to_z-of_z at c.part_of-part.ensures.left in
    let right = simp to_z-of_z at c.part_of-part.ensures.right in
    let part = c.part_of-part.ensures in
    let none : c.part_of-part.result.x1 ≤ℤ c.part_of-part.result.x0 = search rules in
    leaves_part c.args.seen.now.items c.args.rect.now c.part_of-part.result c.args.left c.args.right x y left right part.low part.high none
