use Rattle.std.proofs.Common.{◌≡◌, ◌<◌, ℕ, map}
use Rattle.std.specs.BinaryHeap.{IsHeap, heap_items, heap_len}
use Rattle.syn_rows.specs.Levels.{levels_of}
use Rattle.syn_balance.specs.Heaps.{AreLeaves, leaf_order, literal_in}
use Rattle.syn_balance.specs.Joining.{IsJoining}
use Rattle.syn_balance.specs.Rule.{AreJoined}
use Rattle.syn_balance.proofs.joiner.join.Given as goal

abbrev pub invariant-loop-hashed : goal.invariant-loop-hashed
invariant-loop-hashed l = record {
  sources : l.hashed.source_count ≡ l.initial.hashed.source_count;
  levels : l.levels.items ≡ levels_of l.hashed.rows.items;
  entries : AreLeaves l.hashed.rows.items (heap_items l.heap);
  order : IsHeap leaf_order (heap_items l.heap);
  some : 0 < heap_len l.heap;
  joined : (times : ℕ) × AreJoined times l.initial.hashed.rows.items l.leaves l.hashed.rows.items (map literal_in (heap_items l.heap));
  joining : IsJoining l.initial.hashed.rows.items l.leaves l.hashed.rows.items (map literal_in (heap_items l.heap));
}

abbrev pub decreases-loop-hashed : goal.decreases-loop-hashed
decreases-loop-hashed l = heap_len l.heap
