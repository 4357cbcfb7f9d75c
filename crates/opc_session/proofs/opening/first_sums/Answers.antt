use Rattle.std.proofs.Common.{◌≡◌, ℤ, List, length, sym, subst, ap, ◌∙◌}
use Rattle.std.proofs.lemmas.List.{with_items_is}
use Rattle.opc_base.specs.Plane.{cover}
use Rattle.opc_session.specs.Kept.{setting_of}
use Rattle.opc_session.specs.Stores.{HoldAmplitudes}
use Rattle.opc_session.proofs.opening.first_sums.Goals as goal

pub returns : goal.returns
returns g c =
    let same : length c.add_region.new.sums ≡ length c.in_ok-sums.sums.items = c.add_region.auto.sums ∙ ap length c.deref_mut.ensures.value in
    let new_is = with_items_is c.in_ok-sums.sums c.add_region.new.sums (same ∙ sym c.in_ok-sums.sums.ok.0) in
    record {
      size = ap length new_is ∙ same ∙ c.in_ok-sums.ensures.size;
      holds = subst (λ (xs : List ℤ). HoldAmplitudes (setting_of c.args.scene.now) (cover c.args.region.now) xs) (sym new_is) c.in_ok-add_region.ensures.holds;
    }
