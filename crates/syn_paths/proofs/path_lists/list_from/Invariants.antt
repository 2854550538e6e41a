use Rattle.std.proofs.Common.{◌≢◌, ◌++◌, ◌-◌, ℕ, List, length}
use Rattle.syn_paths.specs.declared.places.Next.TheVariants.{Off}
use Rattle.syn_paths.specs.Listing.{HasListFrom, IsListFrom}
use Rattle.syn_paths.specs.Searching.{next_at}
use Rattle.syn_paths.proofs.path_lists.list_from.Given as goal

abbrev pub invariant-loop-other : goal.invariant-loop-other
invariant-loop-other l = record {
  on : next_at l.next l.node ≢ Off;
  listed : (rest : List ℕ) → IsListFrom l.next l.node rest → HasListFrom l.next l.source (l.list.items ++ rest);
}

abbrev pub decreases-loop-other : goal.decreases-loop-other
decreases-loop-other l = length l.next - l.node
