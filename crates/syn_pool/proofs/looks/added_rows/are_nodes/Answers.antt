use Rattle.std.proofs.Common.{◌<◌, All, List, ℕ, subst, arith}
use Rattle.std.proofs.lemmas.List.{take_all}
use Rattle.std.proofs.lemmas.List.Elements.{All-more}
use Rattle.syn_rows.specs.declared.TheConstants.{NODE_LIMIT}
use Rattle.syn_pool.proofs.looks.added_rows.are_nodes.Goals as goal

pub loop-node-preserved : goal.loop-node-preserved
loop-node-preserved c = All-more (λ n. n < NODE_LIMIT) c.args.nodes.now c.loop-node.node-index 0 c.loop-node-test.true c.loop-node.invariant (omega (arith, c.if-node-ge-FIRST_NEW.false))

pub returns : goal.returns
returns c = λ _. subst (λ (ns : List ℕ). All (λ n. n < NODE_LIMIT) ns) (take_all c.loop-node.node-index c.args.nodes.now (omega (arith, c.loop-node-test.false))) c.loop-node.invariant
