-- The ANDs of a graph, and the tables of their functions over leaves.
use Rattle.std.proofs.Common.{◌≡◌, ℕ, ◌<◌, true, List, length, sym, ap, subst, arith}
use Rattle.syn_rows.specs.declared.Lit.{Lit}
use Rattle.syn_rows.specs.declared.Row.TheVariants.{And}
use Rattle.syn_rows.specs.Reach.{is_and}
use Rattle.syn_rows.specs.Rows.{InOrder, node_of, row_at}
use Rattle.syn_hashed.specs.Hashed.{IsHashed, is_gate}
use Rattle.syn_hashed.proofs.Dropped.{gate_parts}
use Rattle.syn_hashed.proofs.Orders.{and_inside, hashed_in_order}
use Rattle.syn_graph.specs.declared.Graph.{Graph}
use Rattle.syn_truth.specs.declared.Truth.{Truth}
use Rattle.syn_truth.specs.Truth.{AtEach, value_of}
use Rattle.syn_cones.specs.Cones.{IsTruthOver}
use Rattle.syn_cones.specs.Values.{value_over}
use Rattle.syn_cones.proofs.Valued.{truth_is_value_over}
use Rattle.syn_growing.specs.Cones.{AreFanIns, AreLeaves, HaveFanIns}
use Rattle.syn_growing.proofs.Sorted.{below_from, rise_from}

gate_fan_ins : (n : ℕ) (a b : Lit) → is_gate n (And a b) ≡ true → AreFanIns n (node_of a) (node_of b)
gate_fan_ins n a b g =
    let gate = gate_parts n a b g in
    let above = gate.above in
    let rising = gate.rising in
    let below = gate.below in
    record { first_low = omega arith; first = omega arith; second_low = omega arith; second = below; differ = gate.apart }

-- in hashed rows each AND has two different fan-ins
pub have_fan_ins : (graph : Graph) → HaveFanIns graph.rows
have_fan_ins graph n a b is =
    let hashed : IsHashed graph.source_count graph.rows = graph.graph.hashed in
    let inside = and_inside graph.source_count graph.rows hashed n (ap is_and is) in
    gate_fan_ins n a b (subst (λ row. is_gate n row ≡ true) is (hashed.gates n inside.0 inside.1))

pub in_order : (graph : Graph) → InOrder graph.rows
in_order graph = hashed_in_order graph.source_count graph.rows graph.graph.hashed

pub and_there : (graph : Graph) (node : ℕ) → is_and (row_at graph.rows node) ≡ true → node < length graph.rows
and_there graph node gate = (and_inside graph.source_count graph.rows graph.graph.hashed node gate).1

pub and_above : (graph : Graph) (node : ℕ) → is_and (row_at graph.rows node) ≡ true → 0 < node
and_above graph node gate = let at = and_inside graph.source_count graph.rows graph.graph.hashed node gate in omega (arith, at.0)

-- the table has the values of the node
pub table_values : (graph : Graph) (node : ℕ) (leaves : List ℕ) (t : Truth) → is_and (row_at graph.rows node) ≡ true → AreLeaves graph.rows node leaves → IsTruthOver graph.rows leaves node t
    → AtEach (length leaves) (λ xs. value_of t xs ≡ value_over graph.rows leaves node xs)
table_values graph node leaves t gate are truth xs long =
    sym (truth_is_value_over graph.rows leaves node t (in_order graph) (and_there graph node gate)
    (rise_from 0 leaves are.rise (λ n h. (are.within n h).0)) (below_from node leaves (λ n h. (are.within n h).1)) truth xs long)
