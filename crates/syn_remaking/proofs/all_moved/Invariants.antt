use Rattle.std.proofs.Common.{◌≡◌, ◌++◌, drop, map}
use Rattle.syn_remaking.specs.Remaking.{moved}
use Rattle.syn_remaking.proofs.all_moved.Given as goal

abbrev pub invariant-loop-lit : goal.invariant-loop-lit
invariant-loop-lit l = l.found.items ++ map (moved l.literals) (drop l.lit-index l.lits) ≡ map (moved l.literals) l.lits
