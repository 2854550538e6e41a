use Rattle.std.proofs.Common.{◌≡◌, ℕ, ◌||◌, length, drop}
use Rattle.syn_rows.specs.Nodes.{has_node}
use Rattle.syn_rows.specs.Values.{value_in}
use Rattle.syn_absorb.proofs.reach.mark_all.Given as goal

abbrev pub invariant-loop-signal : goal.invariant-loop-signal
invariant-loop-signal l = record {
  count : length l.marks ≡ length l.initial.marks;
  marks : (m : ℕ) → (value_in l.marks m || has_node (drop l.signal-index l.signals) m) ≡ (value_in l.initial.marks m || has_node l.signals m);
}
