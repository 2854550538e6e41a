use Rattle.std.proofs.Common.{◌≡◌, ◌++◌, map, drop}
use Rattle.syn_covering.specs.Making.{numbered_lit}
use Rattle.syn_covering.proofs.luts.signal_literals.Given as goal

abbrev pub invariant-loop-lit : goal.invariant-loop-lit
invariant-loop-lit l = l.found.items ++ map (numbered_lit l.signals) (drop l.lit-index l.lits) ≡ map (numbered_lit l.signals) l.lits
