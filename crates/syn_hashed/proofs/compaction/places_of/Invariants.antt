use Rattle.std.proofs.Common.{◌≡◌, ◌<◌, ◌≤◌, ◌^◌, All, length}
use Rattle.syn_rows.specs.Values.{value_in}
use Rattle.syn_hashed.specs.Compacting.{is_kept, kept_below, IsPlaces}
use Rattle.syn_hashed.proofs.compaction.places_of.Given as goal

abbrev pub invariant-loop-n : goal.invariant-loop-n
invariant-loop-n l = record {
  count : length l.places.items ≡ l.n;
  next : l.next ≡ kept_below (is_kept l.count (value_in l.marks)) l.n;
  low : l.next ≤ l.n;
  small : All (λ place. place < 2 ^ 31) l.places.items;
  placed : IsPlaces l.places.items (kept_below (is_kept l.count (value_in l.marks)));
}
