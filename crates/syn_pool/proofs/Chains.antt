-- One graph in place of another, one after the other.
use Rattle.std.proofs.Common.{ℕ, ◌+◌, ◌≤◌, arith}
use Rattle.syn_graph.specs.declared.Graph.{Graph}
use Rattle.syn_graph.proofs.Graphing.{goes_on}
use Rattle.syn_proposals.specs.Following.{Follows}

pub chained : (a b c : Graph) (j k l : ℕ) → l ≤ j + k → Follows a j b → Follows b k c → Follows a l c
chained a b c j k l le first second = record {
  same = goes_on a b c first.same second.same;
  count = let x = first.count in let y = second.count in omega arith;
}
