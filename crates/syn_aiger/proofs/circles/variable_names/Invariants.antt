use Rattle.std.proofs.Common.{◌≡◌, map, take}
use Rattle.syn_aiger.specs.Values.{variable_word}
use Rattle.syn_aiger.proofs.circles.variable_names.Given as goal

abbrev pub invariant-loop-v : goal.invariant-loop-v
invariant-loop-v l = l.names ≡ map variable_word (take l.v-index l.v-items)
