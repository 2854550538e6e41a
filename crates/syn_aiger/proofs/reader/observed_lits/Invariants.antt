use Rattle.std.proofs.Common.{◌≡◌, ◌++◌, drop, map, length, true}
use Rattle.syn_netlist.specs.Numbers.{all_below, word_at}
use Rattle.syn_aiger.specs.Placing.{lit_in}
use Rattle.syn_aiger.specs.Naming.{literal_named}
use Rattle.syn_aiger.proofs.reader.observed_lits.Given as goal

abbrev pub invariant-loop-number : goal.invariant-loop-number
invariant-loop-number l = record {
  lits : l.lits.items ++ map (λ i. lit_in l.file.aig (literal_named l.file.aig (word_at l.framed.frame.names i))) (drop l.number-index l.number-items) ≡ map (λ i. lit_in l.file.aig (literal_named l.file.aig (word_at l.framed.frame.names i))) l.number-items;
  below : all_below (length l.framed.frame.names) (drop l.number-index l.number-items) ≡ true;
}
