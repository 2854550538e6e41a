use Rattle.std.proofs.Common.{◌≡◌, ◌++◌, drop, map}
use Rattle.syn_hashed.specs.Compacting.{moved_lit}
use Rattle.syn_compare.specs.Renaming.{node_in}
use Rattle.syn_compare.proofs.renaming.renamed_lits.Given as goal

abbrev pub invariant-loop-lit : goal.invariant-loop-lit
invariant-loop-lit l = l.found.items ++ map (moved_lit (node_in l.nodes)) (drop l.lit-index l.lits) ≡ map (moved_lit (node_in l.nodes)) l.lits
