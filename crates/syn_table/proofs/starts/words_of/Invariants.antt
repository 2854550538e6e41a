use Rattle.syn_table.specs.Laying.{AreWords}
use Rattle.syn_table.proofs.starts.words_of.Given as goal

abbrev pub invariant-loop-node : goal.invariant-loop-node
invariant-loop-node l = AreWords l.words.items l.node l.rows l.counts l.keys
