use Rattle.corners.proofs.WindowLaws.{points_signs, points_sums}
use Rattle.corners.proofs.points.push_points.Goals as goal

pub returns-clause-signs : goal.returns-clause-signs
returns-clause-signs c =
    points_signs c.args.rect c.args.points.now.items c.push.new.self.items c.push-2.new.self.items c.push-3.new.self.items c.push-4.new.self.items
    c.requires.signs c.in_ok-push.ensures.items c.in_ok-push-2.ensures.items c.in_ok-push-3.ensures.items c.in_ok-push-4.ensures.items

pub returns-clause-sums : goal.returns-clause-sums
returns-clause-sums c y x =
    points_sums c.args.rect c.args.points.now.items c.push.new.self.items c.push-2.new.self.items c.push-3.new.self.items c.push-4.new.self.items y x
    c.requires.area c.requires.rect c.in_ok-push.ensures.items c.in_ok-push-2.ensures.items c.in_ok-push-3.ensures.items c.in_ok-push-4.ensures.items
