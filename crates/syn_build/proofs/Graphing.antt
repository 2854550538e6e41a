-- From built rows to a graph: what is kept of them is a graph, and the netlist that it is written as means the same.
use Rattle.std.proofs.Common.{◌≡◌, ◌+◌, ◌≤◌, Bool, true, List, length, refl, sym, ap₂, ◌∙◌, arith}
use Rattle.std.proofs.lemmas.List.{length-drop}
use Rattle.syn_rows.specs.declared.Lit.{Lit}
use Rattle.syn_rows.specs.declared.Row.{Row}
use Rattle.syn_rows.specs.Values.{rows_function}
use Rattle.syn_netlist.specs.Words.{distinct}
use Rattle.syn_netlist.specs.Lists.{Netlist, sources}
use Rattle.syn_netlist.specs.Costs.{cost_of}
use Rattle.syn_netlist.specs.Values.{HasFunction}
use Rattle.syn_netlist.specs.Meaning.{SameFromFunction}
use Rattle.syn_network.specs.GraphShape.{GraphHasFunction, rows_of, observed_of}
use Rattle.syn_network.specs.NamedGraphs.{IsNamedGraph}
use Rattle.syn_network.specs.Spelling.{NetworkOfGraph, NetworkSpells, network}
use Rattle.syn_network.proofs.Meaning.{has_same_function}
use Rattle.syn_build.specs.Building.{IsGraphOf}

-- the network of a graph with the function of the rows that were built, and no more rows, is the graph of the netlist
pub graph_of_netlist : NetworkOfGraph → GraphHasFunction → SameFromFunction → (n : Netlist) (rows new_rows : List Row) (lits new_lits : List Lit) → distinct n.frame.clocks ≡ true → distinct (sources n.frame) ≡ true
    → HasFunction n (rows_function rows lits) → length rows ≤ length (sources n.frame) + 1 + cost_of n → IsNamedGraph n.frame new_rows new_lits → ((bits : List Bool) → rows_function new_rows new_lits bits ≡ rows_function rows lits bits)
    → length new_rows ≤ length rows → IsGraphOf n (network n.frame new_rows new_lits)
graph_of_netlist spells has_function same_meaning n rows new_rows lits new_lits clocks once function few graph same fewer = record {
  same = same_meaning n m (rows_function rows lits) refl function (has_same_function m (rows_function rows lits) (rows_function (rows_of m) (observed_of m)) equal (has_function m s.shape s.ordered).1);
  ordered = s.ordered;
  shape = s.shape;
  fewer = omega (arith, s.ands, length-drop (length (sources n.frame) + 1) new_rows, fewer);
}
  where
    m : Netlist
    m = network n.frame new_rows new_lits

    s : NetworkSpells n.frame new_rows new_lits
    s = spells n.frame new_rows new_lits clocks once graph

    equal : (bits : List Bool) → rows_function (rows_of m) (observed_of m) bits ≡ rows_function rows lits bits
    equal bits = ap₂ (λ (rs : List Row) (ls : List Lit). rows_function rs ls bits) s.same_rows s.same_lits ∙ same bits

-- so is its function, by its rows
pub graph_function : (n : Netlist) (rows new_rows : List Row) (lits new_lits : List Lit) → HasFunction n (rows_function rows lits) → ((bits : List Bool) → rows_function new_rows new_lits bits ≡ rows_function rows lits bits)
    → HasFunction n (rows_function new_rows new_lits)
graph_function n rows new_rows lits new_lits function same = has_same_function n (rows_function new_rows new_lits) (rows_function rows lits) (λ bits. sym (same bits)) function
