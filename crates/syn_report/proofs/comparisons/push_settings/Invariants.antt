use Rattle.std.proofs.Common.{◌≡◌, ◌++◌, drop}
use Rattle.syn_netlist.specs.Numbers.{words_at}
use Rattle.syn_report.specs.Comparisons.{settings}
use Rattle.syn_report.proofs.comparisons.push_settings.Given as goal

abbrev pub invariant-loop-place : goal.invariant-loop-place
invariant-loop-place l = l.text.items ++ settings (words_at l.names (drop l.place l.sources)) (drop l.place l.values) ≡ l.initial.text.items ++ settings (words_at l.names l.sources) l.values
