use Rattle.std.proofs.Common.{◌≡◌, ◌+◌, ◌-◌, ◌++◌}
use Rattle.syn_aiger_files.specs.FirstNames.{as_outputs}
use Rattle.syn_aiger_files.proofs.first_names.push_as_outputs.Given as goal

abbrev pub invariant-loop-k : goal.invariant-loop-k
invariant-loop-k l = l.made.items ++ as_outputs l.symbols l.place l.k (l.output + l.k) (l.count - l.k) ≡ l.initial.made.items ++ as_outputs l.symbols l.place 0 l.output l.count
