-- The counts of a commit: what the loads tell, and which rows the decision counts as dying.
use Rattle.std.specs.Prelude.{ℕ, ◌+◌, Bool}
use Rattle.std.specs.List.{AllByRecursion}
use Rattle.syn_rows.specs.Nodes.{has_node}
use Rattle.syn_core_laws.specs.declared.View.{View}
use Rattle.syn_core_laws.specs.Views.{own_pins}
use Rattle.syn_decide.specs.Walk.{nodes_of}
use Rattle.syn_decide.specs.Dying.{counted_of, dying_of}
use Rattle.syn_decide.specs.Fold.{State}
use Rattle.syn_commit_laws.specs.Counted.{dead_of}
use Rattle.syn_commit_laws.specs.Dying.{IsLoaded}

-- The counts so far are loaded: of each counted row's node that of its other references and of the seat's own pins.
abbrev pub CountsAreLoaded : ℕ → View → State → Type 0
CountsAreLoaded nodes v s = AllByRecursion (λ r. IsLoaded nodes v r.node (r.others + own_pins v r.node)) (counted_of s.inner s.counts)

-- the nodes that the decision counts as dying, beside the root: none before the counts
abbrev pub dying_by : State → ℕ → Bool
dying_by s n = has_node (dead_of (dying_of (nodes_of s.hits) (counted_of s.inner s.counts))) n
