-- Graphs of netlists with the sources and the signals in the order of another frame.
use Rattle.std.specs.Prelude.{◌≡◌, ℕ, Bool, true, List, length, map}
use Rattle.std.specs.List.{list_all}
use Rattle.syn_rows.specs.declared.Lit.{Lit}
use Rattle.syn_rows.specs.Values.{rows_function}
use Rattle.syn_hashed.specs.Hashed.{lit_at}
use Rattle.syn_graph.specs.declared.Graph.{Graph}
use Rattle.syn_netlist.specs.Lists.{Frame, Netlist, sources}
use Rattle.syn_netlist.specs.Values.{Consistent}
use Rattle.syn_netlist.specs.Words.{has_word}
use Rattle.syn_network.specs.GraphShape.{place}
use Rattle.syn_compare.specs.Comparing.{compared, signals}
use Rattle.syn_compare.specs.Matching.{latch_names}

-- The frame has no source that the other lacks and as many, and it has the other's outputs and latches.
pub record Suits (order frame : Frame) : Type 0 where
  pub sources_are : list_all (has_word (sources order)) (sources frame) ≡ true
  pub count : length (sources frame) ≡ length (sources order)
  pub outputs_are : list_all (has_word frame.outputs) order.outputs ≡ true
  pub latches_are : list_all (has_word (latch_names frame)) (latch_names order) ≡ true

-- the literal of an observed word
abbrev pub lit_of : List (List ℕ) → List Lit → List ℕ → Lit
lit_of observed lits word = lit_at lits (place word observed)

-- The graph has a source for each of the frame's, and gives the netlist's signals by the names that the frame compares.
pub record IsOrderedBy (order : Frame) (n : Netlist) (g : Graph) : Type 0 where
  pub sources_are : g.source_count ≡ length (sources order)
  pub count : length g.observed ≡ length (compared order)
  pub values : (v : List ℕ → Bool) → Consistent n v → map v (signals order n.frame) ≡ rows_function g.rows g.observed (map v (sources order))
