use Rattle.std.proofs.Common.{◌≡◌, ◌+◌, ◌≤◌, ◌<◌, ℕ, length, drop, All}
use Rattle.syn_seq.specs.Code.{place_list, places_from, up_to}
use Rattle.syn_seq.proofs.kept_graph.places.Given as goal

abbrev pub invariant-loop-node : goal.invariant-loop-node
invariant-loop-node l = record {
  items : l.places.items ≡ up_to l.node;
  count : length l.places.items ≡ l.node;
  low : All (λ (p : ℕ). p < 536870912) l.places.items;
}

abbrev pub invariant-loop-fate : goal.invariant-loop-fate
invariant-loop-fate l = record {
  items : places_from l.first l.next l.places.items (drop l.fate-index l.fates) ≡ place_list l.first l.fates;
  count : length l.places.items ≡ l.first + l.fate-index;
  next : l.next ≤ l.first + l.fate-index;
  low : All (λ (p : ℕ). p < 536870912) l.places.items;
}
