use Rattle.tiles.proofs.DivLaws.{quotient_near}
use Rattle.tiles.proofs.key.key_of.Goals as goal

pub returns-clause-near : goal.returns-clause-near
returns-clause-near c =
    let b = quotient_near c.site-site.result.y c.args.side c.div_euclid.result c.requires.least c.requires.most c.site-site.ensures.y_within c.div_euclid.ensures in
    let a = quotient_near c.site-site.result.x c.args.side c.div_euclid-2.result c.requires.least c.requires.most c.site-site.ensures.x_within c.div_euclid-2.ensures in
    record { a = a.0; b = b.0; x = a.1; y = b.1 }
