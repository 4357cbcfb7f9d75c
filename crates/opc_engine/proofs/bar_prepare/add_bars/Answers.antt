use Rattle.std.proofs.Common.{◌≡◌, ◌+◌, inr, length, refl, sym, subst, arith}
use Rattle.std.proofs.lemmas.Result.{err_from_is_err_and}
use Rattle.std.specs.Prelude.{Ok}
use Rattle.opc_base.specs.Plane.{PixelSet, cover}
use Rattle.opc_base.specs.declared.broken.Place.TheVariants.{Pixel}
use Rattle.opc_base.specs.declared.broken.RuleName.TheVariants.{M3}
use Rattle.mask_rules.specs.TargetRules.{KeepsTarget}
use Rattle.opc_engine.specs.BarStages.{with_bars}
use Rattle.opc_engine.specs.Prepare.{CutGives}
use Rattle.opc_engine.specs.Ready.{subject_of}
use Rattle.opc_engine.proofs.BarPrepareLaws.{whole_pixels, whole_refused}
use Rattle.opc_engine.proofs.bar_prepare.add_bars.Goals as goal

pub bars_of-requires-clause-cut : goal.bars_of-requires-clause-cut
bars_of-requires-clause-cut c = (c.args.given.rules.cut, c.requires.ready.cut)

pub with_bars-requires : goal.with_bars-requires
with_bars-requires c = record { bars = rw c.deref.ensures.value c.in_ok-bars.ensures.some }

pub fragments_of-requires-clause-no_touch : goal.fragments_of-requires-clause-no_touch
fragments_of-requires-clause-no_touch c = c.in_ok-both.ensures.no_touch (λ x y touch. c.requires.ready.keeps M3 (Pixel (record { x = x; y = y })) touch)

pub fragments_of-requires-clause-placed : goal.fragments_of-requires-clause-placed
fragments_of-requires-clause-placed c = c.in_ok-both.ensures.within c.requires.ready.placed

pub returns-in_err-fragments-clause-refusal : goal.returns-in_err-fragments-clause-refusal
returns-in_err-fragments-clause-refusal c =
    let p = err_from_is_err_and c.from_residual-in_err-fragments.result c.from_residual-in_err-fragments.ensures.1 in
    let same : cover c.in_ok-both.both ≡ with_bars (cover c.args.given.region) c.in_ok-bars.bars.items =
    whole_pixels c.args.given.region c.in_ok-both.both c.in_ok-bars.bars.items (rw c.deref.ensures.value at c.in_ok-both.ensures.pixels) in
    rw (p.1, p.2) (whole_refused (subject_of c.args.given) c.args.bars.now c.in_ok-bars.bars.items c.in_ok-both.both c.args.given.region _ refl c.in_ok-bars.ensures.bars same c.in_err-fragments.ensures.refusal)

pub returns-clause-bars : goal.returns-clause-bars
returns-clause-bars c =
    let same : cover c.in_ok-both.both ≡ with_bars (cover c.args.given.region) c.in_ok-bars.bars.items =
    whole_pixels c.args.given.region c.in_ok-both.both c.in_ok-bars.bars.items (rw c.deref.ensures.value at c.in_ok-both.ensures.pixels) in
    record {
      kept = c.in_ok-bars.ensures.bars;
      whole = inr (c.in_ok-fragments.fragments, (subst (λ (p : PixelSet). CutGives c.args.given.rules.cut p (Ok c.in_ok-fragments.fragments)) same c.in_ok-fragments.ensures.fragments, refl));
    }

pub returns-clause-ready : goal.returns-clause-ready
returns-clause-ready c =
    let same : cover c.in_ok-both.both ≡ with_bars (cover c.args.given.region) c.in_ok-bars.bars.items =
    whole_pixels c.args.given.region c.in_ok-both.both c.in_ok-bars.bars.items (rw c.deref.ensures.value at c.in_ok-both.ensures.pixels) in
    let keeps = c.in_ok-bars.ensures.kept c.requires.ready.keeps in
    let count : length c.in_ok-both.both ≡ length c.args.given.region + length c.in_ok-bars.bars.items = rw c.deref.ensures.value at c.in_ok-both.ensures.count in
    record {
      whole = record {
        cut = c.in_ok-fragments.ensures.cut;
        placed = c.in_ok-both.ensures.within c.requires.ready.placed;
        keeps = subst (KeepsTarget c.args.given.rules.mask) (sym same) keeps;
        few = omega (arith, count, c.requires.few, c.in_ok-bars.ensures.few, c.count.ensures.few, c.count.ensures.count);
        bounds = c.requires.ready.bounds;
        head = c.requires.ready.head;
      };
      keeps = keeps;
      bars = c.in_ok-bars.ensures.within;
      own_count = c.in_ok-own.ensures.count;
      own = c.in_ok-own.ensures.own;
    }

pub returns-in_err-fragments-clause-memory : goal.returns-in_err-fragments-clause-memory
returns-in_err-fragments-clause-memory c =
    let p = err_from_is_err_and c.from_residual-in_err-fragments.result c.from_residual-in_err-fragments.ensures.1 in
    rw (p.1, p.2) c.in_err-fragments.ensures.memory
