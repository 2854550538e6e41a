use Rattle.std.proofs.Common.{◌<◌, ◌+◌, ◌-◌, ℕ, length, get_or}
use Rattle.syn_rows.specs.Values.{value_in}
use Rattle.syn_netlist.specs.declared.Latch.{Latch}
use Rattle.syn_seq.specs.Keys.{IsFateBy, key_by}
use Rattle.syn_seq.specs.Rounds.{fate_at}
use Rattle.syn_seq.proofs.checks.are_right.Given as goal

abbrev pub invariant-loop-j : goal.invariant-loop-j
invariant-loop-j l =
    (k : ℕ) → k < l.j → (d : Latch) → IsFateBy (λ j. value_in l.needed (l.graph.body.source_count + 1 - length l.graph.frame.latches + j)) (λ j. key_by l.lits.items (get_or l.graph.frame.latches j d)) l.fates k (fate_at l.fates k)
