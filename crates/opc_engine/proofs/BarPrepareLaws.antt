-- What each stage of `prepare_bars` says of the whole.
use Rattle.std.proofs.Common.{◌≡◌, inl, inr, ℕ, ℤ, ◌||◌, List, refl, sym, subst}
use Rattle.std.proofs.Math.Path.{fun_ext}
use Rattle.std.specs.Prelude.{◌⊎◌, Ok, Err}
use Rattle.opc_base.specs.Plane.{PixelSet, cover}
use Rattle.opc_base.specs.declared.plane.Rect.{Rect}
use Rattle.opc_base.specs.declared.rules.Rules.{Rules}
use Rattle.assist_bars.specs.Bars.{AreBars, SuitMask}
use Rattle.assist_bars.specs.declared.bar_rules.BarRules.{BarRules}
use Rattle.opc_engine.specs.declared.bar_prepare.BarPrepared.{BarPrepared}
use Rattle.opc_engine.specs.declared.fault.EngineFault.{EngineFault}
use Rattle.opc_engine.specs.declared.fault.EngineFault.TheVariants as engine
use Rattle.opc_engine.specs.declared.ready.Ready.{Ready}
use Rattle.opc_engine.specs.BarReady.{HasBars, WholeFails, bar_subject_of}
use Rattle.opc_engine.specs.BarStages.{NumbersSuit, PreparesBars, with_bars}
use Rattle.opc_engine.specs.Prepare.{CutGives, PreparesBy, RulesGive, Subject}
use Rattle.opc_engine.specs.Ready.{subject_of}

abbrev Ends : List ℕ → List ℕ → List ℕ → BarRules → EngineFault → Type 0
Ends layout kernels rules bars f = (f ≡ engine.NoMemory) ⊎ PreparesBars layout kernels rules bars (Err f)

module _ (layout kernels rules : List ℕ) (bars : BarRules) where
  pub at_rule_file : (f : EngineFault) → (f ≡ engine.NoMemory) ⊎ RulesGive rules (Err f) → Ends layout kernels rules bars f
  at_rule_file f (inl none) = inl none
  at_rule_file f (inr is) = inr (inl (f, (is, refl)))

  module _ (r : Rules) (read : RulesGive rules (Ok r)) where
    pub at_numbers : (f : EngineFault) → NumbersSuit r.mask bars (Err f) → Ends layout kernels rules bars f
    at_numbers f is = inr (inr (r, (read, inl (f, (is, refl)))))

    module _ (suited : SuitMask r.mask bars) where
      pub at_files : (f : EngineFault) → (f ≡ engine.NoMemory) ⊎ PreparesBy layout kernels r (Err f) → Ends layout kernels rules bars f
      at_files f (inl none) = inl none
      at_files f (inr is) = inr (inr (r, (read, inr (bars, (inr (suited, refl), inl (f, (is, refl)))))))

      module _ (given : Ready) (ready : PreparesBy layout kernels r (Ok (subject_of given))) where
        pub at_whole : (f : EngineFault) → (f ≡ engine.NoMemory) ⊎ WholeFails (subject_of given) bars f → Ends layout kernels rules bars f
        at_whole f (inl none) = inl none
        at_whole f (inr w) =
            inr (inr (r, (read, inr (bars, (inr (suited, refl), inr (subject_of given, (ready, inr (w.bars_are, ((w.bars_are, (w.kept, refl)), w.fails)))))))))

        pub bars_accepted : (g : BarPrepared) → HasBars given bars g → PreparesBars layout kernels rules bars (Ok (bar_subject_of g))
        bars_accepted g has =
            inr (r, (read, inr (bars, (inr (suited, refl), inr (subject_of given, (ready, inr (g.bars.items, ((g.bars.items, (has.kept, refl)), has.whole))))))))

-- ---- a target with its bars

pub whole_pixels : (region both bars : List Rect) → ((x y : ℤ) → cover both x y ≡ (cover region x y || cover bars x y)) → cover both ≡ with_bars (cover region) bars
whole_pixels region both bars same = fun_ext (λ x. fun_ext (λ y. same x y))

pub whole_refused : (s : Subject) (numbers : BarRules) (bars both : List Rect) (region : List Rect) (f : EngineFault) → s.target ≡ cover region → AreBars s.rules.mask numbers s.target bars
    → cover both ≡ with_bars (cover region) bars → (f ≡ engine.NoMemory) ⊎ CutGives s.rules.cut (cover both) (Err f) → (f ≡ engine.NoMemory) ⊎ WholeFails s numbers f
whole_refused s numbers bars both region f target kept same (inl none) = inl none
whole_refused s numbers bars both region f target kept same (inr is) = inr (record {
  bars_are = bars;
  kept = kept;
  fails =
      let there : CutGives s.rules.cut (with_bars (cover region) bars) (Err f) = subst (λ (p : PixelSet). CutGives s.rules.cut p (Err f)) same is in
      inl (f, (subst (λ (p : PixelSet). CutGives s.rules.cut (with_bars p bars) (Err f)) (sym target) there, refl));
})
