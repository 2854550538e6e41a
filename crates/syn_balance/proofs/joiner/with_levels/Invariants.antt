use Rattle.std.proofs.Common.{◌≡◌, map, take}
use Rattle.syn_balance.specs.Heaps.{leaf}
use Rattle.syn_balance.proofs.joiner.with_levels.Given as goal

abbrev pub invariant-loop-lit : goal.invariant-loop-lit
invariant-loop-lit l = l.entries.items ≡ map (leaf l.levels) (take l.lit-index l.leaves)
