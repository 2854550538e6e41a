use Rattle.std.proofs.Common.{◌≡◌, length}
use Rattle.syn_covering.specs.Cuts.{AreLutCuts}
use Rattle.syn_area.specs.Kept.{cut_in}
use Rattle.syn_area.proofs.rounds.choose.Given as goal

abbrev pub invariant-loop-step : goal.invariant-loop-step
invariant-loop-step l = record {
  count : length l.chosen ≡ length l.graph.rows;
  fit : AreLutCuts l.k l.graph.rows (cut_in l.chosen);
}
