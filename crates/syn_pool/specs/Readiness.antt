-- What the workers of a round go by.
use Rattle.std.specs.Prelude.{◌≡◌, ◌≤◌, false, List, length}
use Rattle.syn_rows.specs.declared.Row.{Row}
use Rattle.syn_gain.specs.Uses.{IsUsesOf}
use Rattle.syn_table.specs.Seating.{nodes_of}
use Rattle.syn_pool.specs.declared.rounds.contexts.WorkerContext.{WorkerContext}

-- The uses are those of the graph, whose nodes the table has; so are the lists, but where workers look at the table's cuts alone.
pub record IsReady {P L H : Type 0} (is_lists_of : P → L → List Row → Type 0) (context : WorkerContext P L H) : Type 0 where
  pub uses : IsUsesOf context.uses.now context.graph.now
  pub lists : context.shared_state.now.looks ≡ false → is_lists_of context.proposer.now context.lists.now context.graph.now.rows
  pub nodes : length context.graph.now.rows ≤ nodes_of context.tools.shared.now
