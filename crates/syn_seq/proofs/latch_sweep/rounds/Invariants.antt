use Rattle.std.proofs.Common.{length}
use Rattle.syn_seq.specs.Code.{IsPartOf}
use Rattle.syn_seq.proofs.latch_sweep.rounds.Given as goal

abbrev pub invariant-loop-next : goal.invariant-loop-next
invariant-loop-next l = IsPartOf l.fn.graph l.graph

abbrev pub decreases-loop-next : goal.decreases-loop-next
decreases-loop-next l = length l.graph.frame.latches
