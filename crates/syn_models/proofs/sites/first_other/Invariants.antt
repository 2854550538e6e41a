use Rattle.std.proofs.Common.{◌≡◌, not, drop, find}
use Rattle.syn_netlist.specs.Numbers.{words_at}
use Rattle.syn_netlist.specs.Words.{has_word}
use Rattle.syn_models.proofs.sites.first_other.Given as goal

abbrev pub invariant-loop-n : goal.invariant-loop-n
invariant-loop-n l = find (λ word. not (has_word l.others word)) (words_at l.names (drop l.n-index l.numbers)) ≡ find (λ word. not (has_word l.others word)) (words_at l.names l.numbers)
