use Rattle.std.proofs.Common.{◌≡◌, drop}
use Rattle.syn_growing.specs.Growing.{chosen_from, next_leaf}
use Rattle.syn_growing.proofs.grown_cone.Cone.next_leaf.Given as goal

abbrev pub invariant-loop-leaf : goal.invariant-loop-leaf
invariant-loop-leaf l = chosen_from l.rows l.self l.chosen l.most (drop l.leaf-index l.self.leaves) ≡ next_leaf l.rows l.self
