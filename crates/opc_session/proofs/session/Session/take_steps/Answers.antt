use Rattle.std.proofs.Common.{◌≡◌, ℤ, pos, List, length, get_or, refl, sym, subst, ap, ◌∙◌, arith}
use Rattle.std.proofs.lemmas.List.{with_items_is}
use Rattle.opc_session.specs.Sessions.{MakesSteps, SessionValue}
use Rattle.opc_session.proofs.session.Session.take_steps.Goals as goal

pub returns : goal.returns
returns g c =
    let len : length c.make_steps.new.offsets ≡ c.self.inside.offsets.len = c.make_steps.auto.offsets ∙ ap length c.deref_mut.ensures.value ∙ sym c.self.inside.offsets.ok.0 in
    let new_is = with_items_is c.self.inside.offsets c.make_steps.new.offsets len in
    let made = rw c.deref_mut.ensures.value at c.make_steps.ensures.made in
    subst (λ (xs : List ℤ). MakesSteps c.args.self.now (record { fragments = c.self.inside.scene.fragments; set = c.self.inside.scene.set; rules = c.self.inside.scene.rules; offsets = xs })
    (λ i. get_or c.args.errors.now i (pos 0)) c.make_steps.result c.args.steps.now c.make_steps.new.steps) (sym new_is)
    (subst (λ (v : SessionValue). MakesSteps v (record { fragments = c.self.inside.scene.fragments; set = c.self.inside.scene.set; rules = c.self.inside.scene.rules; offsets = c.make_steps.new.offsets })
    (λ i. get_or c.args.errors.now i (pos 0)) c.make_steps.result c.args.steps.now c.make_steps.new.steps) c.self.view_is
    (record {
      same = record { fragments = refl; set = refl; rules = refl };
      sweeps = made.sweeps;
      tiling = c.self.inside.scene.tiling;
      taken = made.taken;
      count = made.count;
      tiles = c.know_tiles.ensures.tiles;
      cost = omega (arith, made.cost);
    }))
