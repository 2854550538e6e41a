-- Netlists of LUT nets: their function, and that a net of a graph's function means the same as the graph.
use Rattle.std.proofs.Common.{◌≡◌, ℕ, Bool, true, List, map, length, refl, sym, ◌∙◌, subst}
use Rattle.std.proofs.lemmas.List.{length-map}
use Rattle.syn_rows.specs.declared.Lit.{Lit}
use Rattle.syn_rows.specs.Values.{rows_function}
use Rattle.syn_netlist.specs.Lists.{Frame, Netlist, sources}
use Rattle.syn_netlist.specs.Meaning.{SameFromFunction}
use Rattle.syn_netlist.specs.Values.{HasFunction}
use Rattle.syn_netlist.specs.Words.{distinct}
use Rattle.syn_lutnet.specs.LutData.{Lut, luts_function, none_exceeds}
use Rattle.syn_lutnet.specs.Data.{luts_data}
use Rattle.syn_lutnet.proofs.LutParts.{eight_exceeded_by_none}
use Rattle.syn_network.specs.GraphShape.{GraphHasFunction}
use Rattle.syn_network.specs.Laws.{MappedKeepsMeaning}
use Rattle.syn_network.specs.LutShape.{LutsHaveFunction, observed_of}
use Rattle.syn_network.specs.LutSpelling.{NetworkOfLuts, NetworkSpellsLuts, lut_network}
use Rattle.syn_network.specs.NamedLutNets.{IsNamedLutNet}
use Rattle.syn_network.specs.Spelling.{NetworkOfGraph, network}
use Rattle.syn_network.proofs.LutNaming.{named_net, names_fit}
use Rattle.syn_network.proofs.Meaning.{network_has_function}

-- the netlist of a LUT net has the net's function
pub lut_network_has_function : NetworkOfLuts → LutsHaveFunction → (frame : Frame) (luts : List Lut) (lits : List Lit) → distinct frame.clocks ≡ true → distinct (sources frame) ≡ true → IsNamedLutNet frame luts lits
    → (k : ℕ) → none_exceeds k luts ≡ true → HasFunction (lut_network frame luts lits) (luts_function luts lits)
lut_network_has_function of_luts luts_have frame luts lits clocks once net k small =
    subst (λ (ls : List Lit). HasFunction n (luts_function luts ls)) s.same_lits (subst (λ (xs : List Lut). HasFunction n (luts_function xs (observed_of n))) s.same_luts (luts_have n k (s.shape k small) s.ordered))
  where
    n : Netlist
    n = lut_network frame luts lits

    s : NetworkSpellsLuts frame luts lits
    s = of_luts frame luts lits clocks once net

-- functions that agree on values of the sources
pub has_equal_function : (m : Netlist) (F G : List Bool → List Bool) → ((bits : List Bool) → length bits ≡ length (sources m.frame) → G bits ≡ F bits) → HasFunction m G → HasFunction m F
has_equal_function m F G same h = record { total = h.total; value = λ v c. h.value v c ∙ same (map v (sources m.frame)) (length-map (sources m.frame) v) }

pub mapped_keeps_meaning_is : NetworkOfGraph → GraphHasFunction → NetworkOfLuts → LutsHaveFunction → SameFromFunction → MappedKeepsMeaning
mapped_keeps_meaning_is of_graph graph_has of_luts luts_have same_meaning frame graph net clocks once named same =
    same_meaning (network frame graph.rows graph.observed) n (rows_function graph.rows graph.observed) refl
    (network_has_function of_graph graph_has frame graph clocks once named (rows_function graph.rows graph.observed) (λ bits. refl))
    (has_equal_function n (rows_function graph.rows graph.observed) (luts_function (luts_data net.luts) net.observed) (λ bits long. same.values bits (long ∙ counted))
    (lut_network_has_function of_luts luts_have frame (luts_data net.luts) net.observed clocks once (named_net frame net (names_fit frame graph net same named)) 8 (eight_exceeded_by_none net.luts)))
  where
    n : Netlist
    n = lut_network frame (luts_data net.luts) net.observed

    counted : length (sources frame) ≡ graph.source_count
    counted = sym named.sources_are
