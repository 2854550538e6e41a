use Rattle.std.proofs.Common.{◌≡◌, drop}
use Rattle.syn_netlist.specs.Numbers.{words_at}
use Rattle.syn_compare.specs.Matching.{lacked}
use Rattle.syn_compare.proofs.places.Index.lacked.Given as goal

abbrev pub invariant-loop-number : goal.invariant-loop-number
invariant-loop-number l =
    lacked (words_at l.self.names.now l.self.numbers.now) (words_at l.names (drop l.number-index l.numbers)) ≡ lacked (words_at l.self.names.now l.self.numbers.now) (words_at l.names l.numbers)
