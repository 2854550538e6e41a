-- Netlists of graphs of one function mean the same.
use Rattle.std.proofs.Common.{◌≡◌, Bool, true, List, map, refl, ap₂, ◌∙◌}
use Rattle.syn_rows.specs.declared.Lit.{Lit}
use Rattle.syn_rows.specs.declared.Row.{Row}
use Rattle.syn_rows.specs.Values.{rows_function}
use Rattle.syn_graph.specs.declared.Graph.{Graph}
use Rattle.syn_netlist.specs.Lists.{Frame, Netlist, sources}
use Rattle.syn_netlist.specs.Meaning.{SameFromFunction}
use Rattle.syn_netlist.specs.Values.{HasFunction}
use Rattle.syn_netlist.specs.Words.{distinct}
use Rattle.syn_network.specs.GraphShape.{GraphHasFunction, rows_of, observed_of}
use Rattle.syn_network.specs.Spelling.{NetworkOfGraph, NetworkSpells, network}
use Rattle.syn_network.specs.Networks.{IsNamed}
use Rattle.syn_network.specs.Laws.{SameFunctionKeepsMeaning}
use Rattle.syn_network.proofs.Naming.{named_graph, names_stay}

pub has_same_function : (m : Netlist) (F G : List Bool → List Bool) → ((bits : List Bool) → G bits ≡ F bits) → HasFunction m G → HasFunction m F
has_same_function m F G same h = record { total = h.total; value = λ v c. h.value v c ∙ same (map v (sources m.frame)) }

-- the netlist of a graph has the graph's function
pub network_has_function : NetworkOfGraph → GraphHasFunction → (frame : Frame) (g : Graph) → distinct frame.clocks ≡ true → distinct (sources frame) ≡ true → IsNamed frame g.source_count g.observed
    → (F : List Bool → List Bool) → ((bits : List Bool) → rows_function g.rows g.observed bits ≡ F bits) → HasFunction (network frame g.rows g.observed) F
network_has_function spells has_function frame g clocks once named F same =
    has_same_function n F (rows_function (rows_of n) (observed_of n)) (λ bits. ap₂ (λ (rs : List Row) (ls : List Lit). rows_function rs ls bits) s.same_rows s.same_lits ∙ same bits) (has_function n s.shape s.ordered).1
  where
    n : Netlist
    n = network frame g.rows g.observed

    s : NetworkSpells frame g.rows g.observed
    s = spells frame g.rows g.observed clocks once (named_graph frame g named)

pub keeps_meaning : NetworkOfGraph → GraphHasFunction → SameFromFunction → SameFunctionKeepsMeaning
keeps_meaning spells has_function same_meaning frame was now clocks once named same =
    same_meaning (network frame was.rows was.observed) (network frame now.rows now.observed) (rows_function was.rows was.observed) refl
    (network_has_function spells has_function frame was clocks once named (rows_function was.rows was.observed) (λ bits. refl))
    (network_has_function spells has_function frame now clocks once (names_stay frame was now same named) (rows_function was.rows was.observed) same.values)
