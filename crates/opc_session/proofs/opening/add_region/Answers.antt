use Rattle.std.proofs.Common.{◌≡◌, List, [], All, map, length, sym, subst, ap, ◌∙◌, arith}
use Rattle.std.proofs.lemmas.List.{length-map}
use Rattle.opc_base.specs.Plane.{cover}
use Rattle.opc_base.specs.declared.moves.Swept.{Swept}
use Rattle.opc_parallel.specs.Conditions.{IsSweepable}
use Rattle.opc_session.specs.Fills.{gain}
use Rattle.opc_session.specs.Stores.{LeadFrom}
use Rattle.opc_session.proofs.FillLaws.{gains_sweepable, lead_rects}
use Rattle.corners.proofs.RegionLaws.{no_overlap}
use Rattle.opc_session.proofs.opening.add_region.Goals as goal

pub store_all-requires-clause-holds : goal.store_all-requires-clause-holds
store_all-requires-clause-holds g c κs within = record { pixels = cover []; holds = c.requires.holds }

pub store_all-requires-clause-swept : goal.store_all-requires-clause-swept
store_all-requires-clause-swept g c κs within =
    let list : c.deref.result.now ≡ map gain c.args.region.now = c.deref.ensures.value ∙ c.in_ok-gains.ensures ∙ ap (map gain) c.rects.ensures.list in
    subst (All IsSweepable) (sym list) (gains_sweepable c.args.region.now c.rects.ensures.canonical c.requires.placed)

pub store_all-requires-clause-few : goal.store_all-requires-clause-few
store_all-requires-clause-few g c κs within =
    let list : c.deref.result.now ≡ map gain c.args.region.now = c.deref.ensures.value ∙ c.in_ok-gains.ensures ∙ ap (map gain) c.rects.ensures.list in
    omega (arith, ap length list, length-map c.args.region.now gain, c.requires.few)

pub returns : goal.returns
returns g c =
    let list : c.deref.result.now ≡ map gain c.args.region.now = c.deref.ensures.value ∙ c.in_ok-gains.ensures ∙ ap (map gain) c.rects.ensures.list in
    record {
      holds = c.store_all.ensures.holds (cover []) (cover c.args.region.now) c.requires.holds
          (subst (λ (sweeps : List Swept). LeadFrom c.args.scene.now.set sweeps (cover []) (cover c.args.region.now)) (sym list)
          (lead_rects c.args.scene.now.set c.args.region.now (no_overlap c.args.region.now c.rects.ensures.canonical)));
    }
