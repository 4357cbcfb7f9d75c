use Rattle.opc_engine.proofs.WindowLaws.{greatest_of, least_of}
use Rattle.opc_engine.proofs.window.least_of_both.Goals as goal

pub returns-clause-a : goal.returns-clause-a
returns-clause-a c =
    let a = c.requires.a in let b = c.requires.b in
    record {
      left = (least_of c.args.a.x0 c.args.b.x0 c.min.result a.0 b.0 c.min.ensures.value).first;
      right = (greatest_of c.args.a.x1 c.args.b.x1 c.max.result a.2 b.2 c.max.ensures.value).first;
      bottom = (least_of c.args.a.y0 c.args.b.y0 c.min-2.result a.1 b.1 c.min-2.ensures.value).first;
      top = (greatest_of c.args.a.y1 c.args.b.y1 c.max-2.result a.3 b.3 c.max-2.ensures.value).first;
    }

pub returns-clause-b : goal.returns-clause-b
returns-clause-b c =
    let a = c.requires.a in let b = c.requires.b in
    record {
      left = (least_of c.args.a.x0 c.args.b.x0 c.min.result a.0 b.0 c.min.ensures.value).second;
      right = (greatest_of c.args.a.x1 c.args.b.x1 c.max.result a.2 b.2 c.max.ensures.value).second;
      bottom = (least_of c.args.a.y0 c.args.b.y0 c.min-2.result a.1 b.1 c.min-2.ensures.value).second;
      top = (greatest_of c.args.a.y1 c.args.b.y1 c.max-2.result a.3 b.3 c.max-2.ensures.value).second;
    }

pub returns-clause-least : goal.returns-clause-least
returns-clause-least c other over_a over_b =
    let a = c.requires.a in let b = c.requires.b in
    record {
      left = (least_of c.args.a.x0 c.args.b.x0 c.min.result a.0 b.0 c.min.ensures.value).greatest other.x0 over_a.left over_b.left;
      right = (greatest_of c.args.a.x1 c.args.b.x1 c.max.result a.2 b.2 c.max.ensures.value).least other.x1 over_a.right over_b.right;
      bottom = (least_of c.args.a.y0 c.args.b.y0 c.min-2.result a.1 b.1 c.min-2.ensures.value).greatest other.y0 over_a.bottom over_b.bottom;
      top = (greatest_of c.args.a.y1 c.args.b.y1 c.max-2.result a.3 b.3 c.max-2.ensures.value).least other.y1 over_a.top over_b.top;
    }

pub returns-clause-within : goal.returns-clause-within
returns-clause-within c =
    let a = c.requires.a in let b = c.requires.b in (
      (least_of c.args.a.x0 c.args.b.x0 c.min.result a.0 b.0 c.min.ensures.value).within,
      (least_of c.args.a.y0 c.args.b.y0 c.min-2.result a.1 b.1 c.min-2.ensures.value).within,
      (greatest_of c.args.a.x1 c.args.b.x1 c.max.result a.2 b.2 c.max.ensures.value).within,
      (greatest_of c.args.a.y1 c.args.b.y1 c.max-2.result a.3 b.3 c.max-2.ensures.value).within,
    )
