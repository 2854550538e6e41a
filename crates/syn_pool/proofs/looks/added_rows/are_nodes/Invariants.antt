use Rattle.std.proofs.Common.{◌<◌, All, take}
use Rattle.syn_rows.specs.declared.TheConstants.{NODE_LIMIT}
use Rattle.syn_pool.proofs.looks.added_rows.are_nodes.Given as goal

abbrev pub invariant-loop-node : goal.invariant-loop-node
invariant-loop-node l = All (λ n. n < NODE_LIMIT) (take l.node-index l.nodes)
