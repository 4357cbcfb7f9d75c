-- No answer depends on the side of tiles or on the number of workers.
use Rattle.std.proofs.Common.{◌≡◌, inl, inr, ℕ, zero, suc, ℤ, pos, List, [], length, refl, sym, ap, ◌∙◌, subst}
use Rattle.std.specs.Prelude.{Option, Some, None, IsSomeAnd, Result, Ok, Err}
use Rattle.opc_base.specs.declared.moves.Move.{Move}
use Rattle.opc_base.specs.declared.moves.RoundSummary.{RoundSummary}
use Rattle.opc_base.specs.declared.plane.Rect.{Rect}
use Rattle.opc_base.specs.declared.rules.Rules.{Rules}
use Rattle.opc_base.specs.declared.rules.RunRules.{RunRules}
use Rattle.rule_file.specs.RuleText.{HasCut, HasMask, HasMover, HasOut, HasPick, HasRules, HasSite, SaysRules, rule_fault}
use Rattle.rule_file.specs.declared.fault.RuleFault.{RuleFault}
use Rattle.opc_engine.specs.declared.answer.Answer.{Answer}
use Rattle.opc_engine.specs.declared.ask.Which.TheVariants as which
use Rattle.opc_engine.specs.declared.fault.EngineFault.{EngineFault}
use Rattle.opc_engine.specs.declared.fault.EngineFault.TheVariants as fault
use Rattle.opc_engine.specs.Checks.{CheckGives, PreparesCheck}
use Rattle.opc_engine.specs.Corrections.{CorrectGives, IsTabled, IsWritten, MovesGives, PreparesMoves, SimulateGives}
use Rattle.opc_engine.specs.ErrorTable.{fragment_lines, head_lines, last_line, move_lines, round_lines, table_text}
use Rattle.opc_engine.specs.Prepare.{Prepares, PreparesBy, RulesGive, RulesOrFault, Subject}
use Rattle.opc_engine.specs.Runs.{AreRounds, IsRun, at_offsets, unmoved}
use Rattle.opc_engine.specs.Sharing.{AreSharedApart, DiffersInSharing}
use Rattle.opc_engine.proofs.CorrectionLaws.{rules_one}
use Rattle.opc_engine.proofs.StageLaws.{not_fault, same_value}

-- the first rules with the tiles and the workers of the second
abbrev shared_run : RunRules → RunRules → RunRules
shared_run a b = record {
  settle = a.settle;
  rounds = a.rounds;
  tile = b.tile;
  workers = b.workers;
  settle_in_range = a.settle_in_range;
  rounds_in_range = a.rounds_in_range;
  tile_in_range = b.tile_in_range;
  workers_in_range = b.workers_in_range;
}

abbrev shared : Rules → Rules → Rules
shared a b = record {
  pick = a.pick;
  site = a.site;
  cut = a.cut;
  mover = a.mover;
  mask = a.mask;
  run = shared_run a.run b.run;
  out = a.out;
  same_max_in = a.same_max_in;
  same_max_out = a.same_max_out;
}

some_map : {T : Type 0} {P Q : T → Type 0} (o : Option T) → ((t : T) → P t → Q t) → IsSomeAnd o P → IsSomeAnd o Q
some_map None f h = h
some_map (Some t) f h = f t h

-- the file of the second rules has them
module _ (a b : Rules) (d : DiffersInSharing a b) where
  says_shared : (bytes : List ℕ) → SaysRules bytes b → SaysRules bytes (shared a b)
  says_shared bytes says = some_map {P = λ table. HasRules table b} {Q = λ table. HasRules table (shared a b)} _ (λ table h. record {
    pick = subst (HasPick table) d.pick h.pick;
    site = subst (HasSite table) d.site h.site;
    cut = subst (HasCut table) d.cut h.cut;
    mover = subst (HasMover table) d.mover h.mover;
    mask = subst (HasMask table) d.mask h.mask;
    run = record {
      settle = h.run.settle ∙ ap Some d.settle;
      rounds = h.run.rounds ∙ ap (λ n. Some (pos n)) d.rounds;
      tile = h.run.tile;
      workers = h.run.workers;
    };
    out = subst (HasOut table) d.out h.out;
  }) says

  or_fault_shared : (bytes : List ℕ) (o : Option RuleFault) → RulesOrFault bytes o (Ok b) → RulesOrFault bytes o (Ok (shared a b))
  or_fault_shared bytes (Some wrong) h = absurd (not_fault (fault.Rules wrong) b (sym h))
  or_fault_shared bytes None h =
      (shared a b, (says_shared bytes (subst (SaysRules bytes) (sym (same_value b h.0 h.1.1)) h.1.0), refl))

  gives_shared : (bytes : List ℕ) → RulesGive bytes (Ok b) → RulesGive bytes (Ok (shared a b))
  gives_shared bytes (inl h) = absurd (not_fault (fault.TooLong which.Rules) b (sym h.1))
  gives_shared bytes (inr h) = inr (h.0, or_fault_shared bytes (rule_fault bytes) h.1)

abbrev with : Subject → Rules → Subject
with s b = record { head = s.head; target = s.target; fragments = s.fragments; set = s.set; rules = shared s.rules b }

-- ---- the stages after the rules

-- what is given, with other tiles and workers
abbrev result_with : Result Subject EngineFault → Rules → Result Subject EngineFault
result_with (Ok s) b = Ok (with s b)
result_with (Err f) b = Err f

after_shared : (layout kernels : List ℕ) (r b : Rules) (p : Result Subject EngineFault) → PreparesBy layout kernels r p → PreparesBy layout kernels (shared r b) (result_with p b)
after_shared layout kernels r b p (inl x) = inl (x.0, (x.1.0, ap (λ q. result_with q b) x.1.1))
after_shared layout kernels r b p (inr (set, (set_is, inl x))) = inr (set, (set_is, inl (x.0, (x.1.0, ap (λ q. result_with q b) x.1.1))))
after_shared layout kernels r b p (inr (set, (set_is, inr (pattern, (given, is))))) = inr (set, (set_is, inr (pattern, (given, ap (λ q. result_with q b) is))))

-- ---- runs
rounds_shared : (s : Subject) (b : Rules) (n : ℕ) (offsets : List ℤ) (rounds : List RoundSummary) → AreRounds s n offsets rounds → AreRounds (with s b) n offsets rounds
rounds_shared s b zero offsets rounds h = h
rounds_shared s b (suc n) offsets rounds (before, earlier, last, h, unsettled, round, is) =
    (before, earlier, last, rounds_shared s b n before earlier h, unsettled, record { sweeps = round.sweeps; taken = round.taken; summary_is = round.summary_is }, is)

run_shared : (s : Subject) (b : Rules) (offsets : List ℤ) (rounds : List RoundSummary) → IsRun s offsets rounds → IsRun (with s b) offsets rounds
run_shared s b offsets rounds run = record { made = run.made; rounds = rounds_shared s b run.made offsets rounds run.rounds; most = run.most; stopped = run.stopped }

-- ---- tables
table_shared : (s : Subject) (b : Rules) (offsets : List ℤ) (between : List ℕ) (n : ℕ) → table_text (at_offsets s offsets) between n ≡ table_text (at_offsets (with s b) offsets) between n
unfolding table_text head_lines fragment_lines last_line
table_shared s b offsets between n = refl

last_shared : (s : Subject) (b : Rules) (offsets : List ℤ) (n : ℕ) → last_line (at_offsets s offsets) n ≡ last_line (at_offsets (with s b) offsets) n
unfolding last_line
last_shared s b offsets n = refl

tabled_shared : (s : Subject) (b : Rules) (offsets : List ℤ) (between : List ℕ) (answer : Answer) (rects : List Rect) → IsTabled (at_offsets s offsets) between answer rects
    → IsTabled (at_offsets (with s b) offsets) between answer rects
tabled_shared s b offsets between answer rects t = record {
  canonical = t.canonical;
  table = t.table ∙ table_shared s b offsets between (length rects);
  line = t.line ∙ last_shared s b offsets (length rects);
}

written_shared : (s : Subject) (b : Rules) (offsets : List ℤ) (answer : Answer) (rects : List Rect) → IsWritten s offsets answer rects → IsWritten (with s b) offsets answer rects
written_shared s b offsets answer rects w = record { keeps = w.keeps; file = w.file; expands = w.expands }

-- ---- whole answers
module _ (layout kernels a b : List ℕ) (apart : AreSharedApart a b) where
  prepares_shared : (p : Result Subject EngineFault) → Prepares layout kernels a p → Prepares layout kernels b (result_with p apart.other)
  prepares_shared p (inl x) = absurd (not_fault x.0 apart.one (rules_one a (Err x.0) (Ok apart.one) x.1.0 apart.first))
  prepares_shared p (inr (t, (gives, rest))) =
      let same = same_value t apart.one (rules_one a (Ok t) (Ok apart.one) gives apart.first) in
      let there = after_shared layout kernels apart.one apart.other p (subst (λ (x : Rules). PreparesBy layout kernels x p) same rest) in
      inr (shared apart.one apart.other, (gives_shared apart.one apart.other apart.differs b apart.second, there))

  pub simulate_shared : (result : Result Answer EngineFault) → SimulateGives layout kernels a result → SimulateGives layout kernels b result
  simulate_shared (Err f) x = prepares_shared (Err f) x
  simulate_shared (Ok answer) x = record {
    subject = with x.subject apart.other;
    accepted = prepares_shared (Ok x.subject) x.accepted;
    rects = x.rects;
    tabled = tabled_shared x.subject apart.other (unmoved x.subject) [] answer x.rects x.tabled;
    no_mask = x.no_mask;
  }

  pub correct_shared : (result : Result Answer EngineFault) → CorrectGives layout kernels a result → CorrectGives layout kernels b result
  correct_shared (Err f) x = prepares_shared (Err f) x
  correct_shared (Ok answer) x = record {
    subject = with x.subject apart.other;
    accepted = prepares_shared (Ok x.subject) x.accepted;
    offsets = x.offsets;
    rounds = x.rounds;
    run = run_shared x.subject apart.other x.offsets x.rounds x.run;
    rects = x.rects;
    tabled = tabled_shared x.subject apart.other x.offsets (round_lines 1 x.rounds) answer x.rects x.tabled;
    written = written_shared x.subject apart.other x.offsets answer x.rects x.written;
  }

  -- with moves too
  abbrev moves_with : Result (Subject × List Move) EngineFault → Result (Subject × List Move) EngineFault
  moves_with (Ok s) = Ok (with s.0 apart.other, s.1)
  moves_with (Err f) = Err f

  prepares_moves_shared : (moves : List ℕ) (p : Result (Subject × List Move) EngineFault) → PreparesMoves layout kernels a moves p → PreparesMoves layout kernels b moves (moves_with p)
  prepares_moves_shared moves p (inl x) = inl (x.0, (prepares_shared (Err x.0) x.1.0, ap moves_with x.1.1))
  prepares_moves_shared moves p (inr (s, (gives, inl x))) = inr (with s apart.other, (prepares_shared (Ok s) gives, inl (x.0, (x.1.0, ap moves_with x.1.1))))
  prepares_moves_shared moves p (inr (s, (gives, inr (list, (listed, is))))) = inr (with s apart.other, (prepares_shared (Ok s) gives, inr (list, (listed, ap moves_with is))))

  pub moves_shared : (moves : List ℕ) (result : Result Answer EngineFault) → MovesGives layout kernels a moves result → MovesGives layout kernels b moves result
  moves_shared moves (Err f) x = prepares_moves_shared moves (Err f) x
  moves_shared moves (Ok answer) x = record {
    subject = with x.subject apart.other;
    list = x.list;
    accepted = prepares_moves_shared moves (Ok (x.subject, x.list)) x.accepted;
    offsets = x.offsets;
    answers = x.answers;
    run = record { one_each = x.run.one_each; sweeps = x.run.sweeps; moved = x.run.moved };
    rects = x.rects;
    tabled = tabled_shared x.subject apart.other x.offsets (move_lines x.list x.answers) answer x.rects x.tabled;
    written = written_shared x.subject apart.other x.offsets answer x.rects x.written;
  }

  -- with a window too
  abbrev check_with : Result (Subject × Rect) EngineFault → Result (Subject × Rect) EngineFault
  check_with (Ok s) = Ok (with s.0 apart.other, s.1)
  check_with (Err f) = Err f

  prepares_check_shared : (p : Result (Subject × Rect) EngineFault) → PreparesCheck layout kernels a p → PreparesCheck layout kernels b (check_with p)
  prepares_check_shared p (inl x) = inl (x.0, (prepares_shared (Err x.0) x.1.0, ap check_with x.1.1))
  prepares_check_shared p (inr (s, (gives, inl x))) = inr (with s apart.other, (prepares_shared (Ok s) gives, inl (x.0, (x.1.0, ap check_with x.1.1))))
  prepares_check_shared p (inr (s, (gives, inr (window, (small, is))))) =
      inr (with s apart.other, (prepares_shared (Ok s) gives, inr (window, (small, ap check_with is))))

  pub check_shared : (result : Result Answer EngineFault) → CheckGives layout kernels a result → CheckGives layout kernels b result
  check_shared (Err f) x = prepares_check_shared (Err f) x
  check_shared (Ok answer) x = record {
    subject = with x.subject apart.other;
    window = x.window;
    accepted = prepares_check_shared (Ok (x.subject, x.window)) x.accepted;
    offsets = x.offsets;
    rounds = x.rounds;
    run = run_shared x.subject apart.other x.offsets x.rounds x.run;
    rects = x.rects;
    printed = record { canonical = x.printed.canonical; file = x.printed.file; expands = x.printed.expands };
    listed = record { flaws = x.listed.flaws; flaws_are = x.listed.flaws_are; list = x.listed.list; line = x.listed.line };
  }
