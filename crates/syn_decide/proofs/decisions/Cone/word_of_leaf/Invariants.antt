use Rattle.std.proofs.Common.{◌≡◌, drop}
use Rattle.syn_rows.specs.Nodes.{has_node}
use Rattle.syn_decide.specs.Functions.{leaf_value}
use Rattle.syn_decide.specs.Words.{AtChoices}
use Rattle.syn_decide.proofs.decisions.Cone.word_of_leaf.Given as goal

abbrev pub invariant-loop-place : goal.invariant-loop-place
invariant-loop-place l = record {
  has_rest : has_node (drop l.place l.self.leaves.now) l.node ≡ has_node l.self.leaves.now l.node;
  values : AtChoices l.self.last (λ xs. leaf_value (drop l.place l.self.leaves.now) (drop l.place xs) l.node ≡ leaf_value l.self.leaves.now xs l.node);
}
