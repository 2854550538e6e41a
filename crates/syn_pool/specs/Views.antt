-- A graph with what is known of it.
use Rattle.std.specs.Prelude.{◌≡◌, true, List}
use Rattle.syn_rows.specs.declared.Row.{Row}
use Rattle.syn_gain.specs.Uses.{IsUsesOf}
use Rattle.syn_pool.specs.declared.rounds.views.Viewed.{Viewed}

-- The uses are those of the graph, and so are a proposer's lists where they are said to be.
pub record IsViewed {P L : Type 0} (is_lists_of : P → L → List Row → Type 0) (proposer : P) (viewed : Viewed L) : Type 0 where
  pub uses : IsUsesOf viewed.uses viewed.graph.now
  pub lists : viewed.listed ≡ true → is_lists_of proposer viewed.lists viewed.graph.now.rows
