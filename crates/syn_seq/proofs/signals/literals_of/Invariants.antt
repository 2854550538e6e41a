use Rattle.std.proofs.Common.{◌≡◌, ◌<◌, ℕ, List, length, map, get_or}
use Rattle.syn_rows.specs.declared.Lit.{Lit}
use Rattle.syn_netlist.specs.Frames.{frame_in}
use Rattle.syn_netlist.specs.Lists.{observed}
use Rattle.syn_netlist.specs.Numbers.{word_at}
use Rattle.syn_seq.specs.Code.{lit_in}
use Rattle.syn_seq.proofs.signals.literals_of.Given as goal

abbrev pub invariant-loop-i : goal.invariant-loop-i
invariant-loop-i l = record {
  count : length l.found.items ≡ length l.graph.frame.names;
  lits : (lit : List ℕ → Lit) → l.lits ≡ map lit (observed (frame_in l.graph.frame)) → (k : ℕ) → k < l.i → lit_in l.found.items (get_or l.numbers k 0) ≡ lit (word_at l.graph.frame.names (get_or l.numbers k 0));
}
