use Rattle.std.proofs.Common.{take}
use Rattle.syn_netlist.specs.Numbers.{words_at}
use Rattle.syn_compare.specs.Places.{HavePlaces}
use Rattle.syn_compare.proofs.places.fill.Given as goal

abbrev pub invariant-loop-place : goal.invariant-loop-place
invariant-loop-place l = HavePlaces l.names (words_at l.names (take l.place l.numbers)) l.places
