use Rattle.std.proofs.Common.{◌≡◌, ℕ, ◌<◌, ◌≤◌, ◌^◌, ◌++◌, nat_lt, true, All, length, drop}
use Rattle.std.specs.List.{list_all}
use Rattle.syn_covering.specs.Making.{number_at}
use Rattle.syn_covering.specs.Mappings.{HasSignal, signal_of}
use Rattle.syn_covering.specs.Needs.{marked_from}
use Rattle.syn_covering.proofs.signals.number.Given as goal

abbrev pub invariant-loop-n : goal.invariant-loop-n
invariant-loop-n l = record {
  nodes : l.nodes.items ++ marked_from l.n (drop l.n l.marks) ≡ marked_from 0 l.marks;
  few : length l.nodes.items ≤ l.n;
  count : length l.signals.items ≡ l.n;
  below : list_all (λ m. nat_lt m l.n) l.nodes.items ≡ true;
  low : All (λ s. s < 2 ^ 31) l.signals.items;
  signals : (m : ℕ) → m < l.n → HasSignal l.source_count (marked_from 0 l.marks) m → number_at l.signals.items m ≡ signal_of l.source_count (marked_from 0 l.marks) m;
}
