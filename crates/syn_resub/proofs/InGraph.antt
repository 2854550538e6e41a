-- The rows of a graph as divisors want them.
use Rattle.std.proofs.Common.{◌≡◌, ℕ, ◌<◌, true, length, get_or, refl, sym, ap, subst, arith}
use Rattle.syn_rows.specs.declared.Lit.{Lit}
use Rattle.syn_rows.specs.declared.Row.TheVariants.{And}
use Rattle.syn_rows.specs.Reach.{is_and}
use Rattle.syn_rows.specs.Rows.{row_at}
use Rattle.syn_rows.proofs.Nodes.{has_at}
use Rattle.syn_hashed.specs.Hashed.{IsHashed, is_gate}
use Rattle.syn_hashed.proofs.Dropped.{gate_parts}
use Rattle.syn_graph.specs.declared.Graph.{Graph}
use Rattle.syn_hashed.proofs.Orders.{and_inside}
use Rattle.syn_growing.proofs.InGraphs.{and_there, in_order}
use Rattle.syn_resub.specs.declared.divided.Divided.{Divided}
use Rattle.syn_resub.specs.Divided.{AreDivided}
use Rattle.syn_resub.specs.Laws.{AreDivisors}
use Rattle.syn_resub.proofs.Dividing.{divisors_are}
use Rattle.syn_resub.proofs.Scanned.{FirstIsSmaller}

pub is_gate_at : (graph : Graph) (n : ℕ) (a b : Lit) → row_at graph.rows n ≡ And a b → is_gate n (And a b) ≡ true
is_gate_at graph n a b is =
    let hashed : IsHashed graph.source_count graph.rows = graph.graph.hashed in
    let inside = and_inside graph.source_count graph.rows hashed n (ap is_and is) in
    subst (λ row. is_gate n row ≡ true) is (hashed.gates n inside.0 inside.1)

pub first_is_smaller : (graph : Graph) → FirstIsSmaller graph.rows
first_is_smaller graph n a b is = let rising = (gate_parts n a b (is_gate_at graph n a b is)).rising in omega (arith, rising)

pub are_divisors : (graph : Graph) (node : ℕ) (d : Divided) → AreDivided graph.rows node d → AreDivisors graph.rows d.leaves.items node d.nodes.items
are_divisors graph node d divided = subst (AreDivisors graph.rows d.leaves.items node) (sym divided.nodes) (divisors_are graph.rows d.leaves.items node (in_order graph))

pub divisor_low : (graph : Graph) (node : ℕ) (d : Divided) (place : ℕ) → AreDivided graph.rows node d → place < length d.nodes.items → get_or d.nodes.items place 0 < 2147483648
divisor_low graph node d place divided lt =
    let below = (are_divisors graph node d divided).below (get_or d.nodes.items place 0) (has_at d.nodes.items place (get_or d.nodes.items place 0) lt refl) in
    let there = and_there graph node divided.gate in
    let few = graph.few in
    omega (arith, below, there, few)
