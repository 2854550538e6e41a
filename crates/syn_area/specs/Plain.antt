-- How many LUTs the mapping by chosen cuts has, and which nets are no worse.
use Rattle.std.specs.Prelude.{◌≡◌, ◌⊎◌, ℕ, ◌+◌, true, ◌≤◌, List, length, map}
use Rattle.syn_rows.specs.declared.Lit.{Lit}
use Rattle.syn_rows.specs.declared.Row.{Row}
use Rattle.syn_rows.specs.Rows.{node_of}
use Rattle.syn_hashed.specs.Hashed.{IsHashed}
use Rattle.syn_graph.specs.declared.Graph.{Graph}
use Rattle.syn_lutnet.specs.LutData.{greatest, net_depth, none_exceeds}
use Rattle.syn_lutnet.specs.declared.nets.LutNet.{LutNet}
use Rattle.syn_lutnet.specs.Data.{luts_data}
use Rattle.syn_lutnet.specs.Nets.{HasFunctionOf}
use Rattle.syn_covering.specs.Mappings as needed
use Rattle.syn_map.specs.Labels.{chosen, label_of}
use Rattle.syn_area.specs.Areas.{CostAlike, luts_cost, nodes_cost}

-- the nodes that need LUTs over the chosen cuts, each once, in order: those of which `map` makes LUTs, one of each
abbrev pub AreNeeded : ℕ → List Row → List Lit → List ℕ → Type 0
AreNeeded k rows lits nodes = needed.AreNeeded (chosen k rows) rows lits nodes

-- In hashed rows there are such nodes.
abbrev pub NeededExist : Type 0
NeededExist = (k count : ℕ) (rows : List Row) (lits : List Lit) → 2 ≤ k → IsHashed count rows → (nodes : List ℕ) × AreNeeded k rows lits nodes

-- no LUT that is observed lies deeper than the greatest label of an observed node
abbrev pub NoDeeperThanPlain : ℕ → Graph → LutNet → Type 0
NoDeeperThanPlain k graph net = net_depth graph.source_count (luts_data net.luts) ≤ greatest (label_of k graph.rows) (map node_of graph.observed)

-- the LUTs cost no more than those of the nodes that need one over the chosen cuts
abbrev pub NoDearerThanPlain : ℕ → List ℕ → Graph → LutNet → Type 0
NoDearerThanPlain k areas graph net = (nodes : List ℕ) → AreNeeded k graph.rows graph.observed nodes → luts_cost areas (luts_data net.luts) ≤ nodes_cost k graph.rows areas nodes

-- and are no more than such nodes
abbrev pub NoMoreThanPlain : ℕ → Graph → LutNet → Type 0
NoMoreThanPlain k graph net = (nodes : List ℕ) → AreNeeded k graph.rows graph.observed nodes → length net.luts ≤ length nodes

-- The LUTs of a net cost no more than those of another, and are no more of them where they cost the same.
pub record IsNoDearer (areas : List ℕ) (net plain : LutNet) : Type 0 where
  pub cost : luts_cost areas (luts_data net.luts) ≤ luts_cost areas (luts_data plain.luts)
  pub fewer : luts_cost areas (luts_data net.luts) ≡ luts_cost areas (luts_data plain.luts) → length net.luts ≤ length plain.luts

-- One of two nets: the second; or the first, which is at most so deep.
abbrev pub IsEither : ℕ → LutNet → LutNet → LutNet → Type 0
IsEither most net plain kept = (kept ≡ plain) ⊎ ((kept ≡ net) × (net_depth net.source_count (luts_data net.luts) ≤ most))

-- LUTs of a graph: of its function, of at most k inputs, and no more of them than it has rows behind its sources.
pub record AreLutsOf (k : ℕ) (graph : Graph) (net : LutNet) : Type 0 where
  pub function : HasFunctionOf graph net
  pub inputs : none_exceeds k (luts_data net.luts) ≡ true
  pub count : length net.luts + (graph.source_count + 1) ≤ length graph.rows

-- The LUTs of a net cost no more than those of another, are no more of them where LUTs of at most k inputs all cost the same, and lie no deeper.
pub record IsNoWorse (k : ℕ) (areas : List ℕ) (net plain : LutNet) : Type 0 where
  pub cost : luts_cost areas (luts_data net.luts) ≤ luts_cost areas (luts_data plain.luts)
  pub fewer : CostAlike k areas → length net.luts ≤ length plain.luts
  pub depth : net_depth net.source_count (luts_data net.luts) ≤ net_depth plain.source_count (luts_data plain.luts)
