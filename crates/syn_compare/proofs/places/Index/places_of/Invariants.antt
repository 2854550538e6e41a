use Rattle.std.proofs.Common.{◌≡◌, ◌++◌, drop}
use Rattle.syn_netlist.specs.Numbers.{words_at}
use Rattle.syn_compare.specs.Places.{places_in}
use Rattle.syn_compare.proofs.places.Index.places_of.Given as goal

abbrev pub invariant-loop-number : goal.invariant-loop-number
invariant-loop-number l =
    l.found.items ++ places_in (words_at l.self.names.now l.self.numbers.now) (words_at l.names (drop l.number-index l.numbers))
    ≡ places_in (words_at l.self.names.now l.self.numbers.now) (words_at l.names l.numbers)
