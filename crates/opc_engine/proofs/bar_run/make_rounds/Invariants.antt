use Rattle.std.proofs.Common.{◌≡◌, length}
use Rattle.opc_engine.specs.BarReady.{HasBarRounds}
use Rattle.opc_engine.proofs.bar_run.make_rounds.Given as goal

abbrev pub invariant-loop-made : goal.invariant-loop-made
invariant-loop-made g l = record {
  rounds : HasBarRounds l.given l.made l.session l.lines;
  room : length l.errors ≡ length l.session.fragments;
}
