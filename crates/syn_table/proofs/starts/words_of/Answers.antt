use Rattle.syn_table.proofs.Beginning.{words_grow}
use Rattle.syn_table.proofs.starts.words_of.Goals as goal

pub loop-node-preserved : goal.loop-node-preserved
loop-node-preserved c = words_grow c.loop-node.words.items _ c.loop-node.node _ _ _ _ _ _ c.loop-node.invariant c.entry_or-row.ensures c.entry_or-count.ensures c.entry_or.ensures c.in_ok-push_node.ensures
