-- How often a node waits.
use Rattle.std.specs.Prelude.{ℕ}
use Rattle.std.specs.BinaryHeap.{heap_items}
use Rattle.syn_fanout_free.specs.declared.worklist.Waiting.{Waiting}
use Rattle.syn_fanout_free.specs.Nodes.{waits}

abbrev pub waits_in : Waiting → ℕ → ℕ
waits_in w m = waits w.near.items (heap_items w.far) m
