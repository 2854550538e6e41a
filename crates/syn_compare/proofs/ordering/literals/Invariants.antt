use Rattle.std.proofs.Common.{◌≡◌, ◌++◌, drop, map}
use Rattle.syn_netlist.specs.Frames.{frame_in}
use Rattle.syn_netlist.specs.Lists.{observed}
use Rattle.syn_netlist.specs.Numbers.{words_at}
use Rattle.syn_compare.specs.Ordering.{lit_of}
use Rattle.syn_compare.proofs.ordering.literals.Given as goal

abbrev pub invariant-loop-number : goal.invariant-loop-number
invariant-loop-number l =
    l.found.items ++ map (lit_of (observed (frame_in l.network.frame)) l.network.body.observed) (words_at l.network.frame.names (drop l.number-index l.numbers))
    ≡ map (lit_of (observed (frame_in l.network.frame)) l.network.body.observed) (words_at l.network.frame.names l.numbers)
