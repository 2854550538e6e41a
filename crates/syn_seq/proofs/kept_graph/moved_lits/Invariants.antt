use Rattle.std.proofs.Common.{◌≡◌, ◌++◌, map, drop}
use Rattle.syn_seq.specs.Code.{lit_in, moved}
use Rattle.syn_seq.proofs.kept_graph.moved_lits.Given as goal

abbrev pub invariant-loop-number : goal.invariant-loop-number
invariant-loop-number l = l.found.items ++ map (λ i. moved l.places (lit_in l.lits i)) (drop l.number-index l.numbers) ≡ map (λ i. moved l.places (lit_in l.lits i)) l.numbers
