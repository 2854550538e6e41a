use Rattle.std.proofs.Common.{◌≡◌, ◌++◌, drop}
use Rattle.syn_netlist.specs.Walk.{output_words}
use Rattle.syn_netlist.proofs.checks.output_names.Given as goal

abbrev pub invariant-loop-t : goal.invariant-loop-t
invariant-loop-t l = l.words.items ++ output_words l.names l.tables (drop l.t-index l.numbers) ≡ output_words l.names l.tables l.numbers
