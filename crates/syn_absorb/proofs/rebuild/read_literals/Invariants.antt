use Rattle.std.proofs.Common.{◌≡◌, ◌++◌, map, drop}
use Rattle.syn_absorb.specs.Rebuilding.{read_lit}
use Rattle.syn_absorb.proofs.rebuild.read_literals.Given as goal

abbrev pub invariant-loop-lit : goal.invariant-loop-lit
invariant-loop-lit l = l.read.items ++ map (read_lit l.lits) (drop l.lit-index l.observed) ≡ map (read_lit l.lits) l.observed
