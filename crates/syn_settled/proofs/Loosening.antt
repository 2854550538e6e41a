-- The cheaper of few LUTs and of those that are found where there is room for them.
use Rattle.std.proofs.Common.{◌≡◌, ℕ, ◌+◌, ◌≤◌, List, Option, None, Some, IfSome, sym, ap, subst, inl, inr, arith}
use Rattle.syn_graph.specs.declared.Graph.{Graph}
use Rattle.syn_lutnet.specs.LutData.{net_depth}
use Rattle.syn_lutnet.specs.declared.nets.LutNet.{LutNet}
use Rattle.syn_lutnet.specs.Data.{luts_data}
use Rattle.syn_lutnet.specs.Nets.{HasFunctionOf}
use Rattle.syn_area.specs.Plain.{IsEither, IsNoDearer}
use Rattle.syn_area.proofs.Counting.{fewer_alike}
use Rattle.syn_settled.specs.Fewest.{AreFewLutsOf, AreFewestLutsOf, AreWrittenLutsOf, IsRoom}

few_written : (k : ℕ) (areas : List ℕ) (graph : Graph) (few : LutNet) → AreFewLutsOf k areas graph few → AreWrittenLutsOf k graph few
few_written k areas graph few are = record { luts = record { function = are.function; inputs = are.inputs; count = are.count }; depend = are.depend; most = are.most; shown = are.shown }

-- what holds of both holds of either
pub either_written : (k room : ℕ) (areas : List ℕ) (graph : Graph) (net few kept : LutNet) → AreWrittenLutsOf k graph net → AreFewLutsOf k areas graph few → IsEither room net few kept → AreWrittenLutsOf k graph kept
either_written k room areas graph net few kept own are (inl e) = subst (AreWrittenLutsOf k graph) (sym e) (few_written k areas graph few are)
either_written k room areas graph net few kept own are (inr p) = subst (AreWrittenLutsOf k graph) (sym p.0) own

-- how deep a net is, by the sources of the graph
abbrev depth_in : Graph → LutNet → ℕ
depth_in graph net = net_depth graph.source_count (luts_data net.luts)

own_depth : (graph : Graph) (net : LutNet) → HasFunctionOf graph net → net_depth net.source_count (luts_data net.luts) ≡ depth_in graph net
own_depth graph net function = ap (λ (n : ℕ). net_depth n (luts_data net.luts)) function.sources

room_kept : (slack : Option ℕ) (room : ℕ) (graph : Graph) (net few kept : LutNet) → HasFunctionOf graph net → HasFunctionOf graph few → IsRoom slack few room → IsEither room net few kept
    → IfSome slack (λ levels. depth_in graph kept ≤ depth_in graph few + levels)
room_kept None room graph net few kept own other is either = tt
room_kept (Some levels) room graph net few kept own other is (inl e) = omega (arith, ap (depth_in graph) e)
room_kept (Some levels) room graph net few kept own other is (inr p) = omega (arith, ap (depth_in graph) p.0, p.1, own_depth graph net own, own_depth graph few other, is)

pub fewest : (k room : ℕ) (areas : List ℕ) (slack : Option ℕ) (graph : Graph) (net few kept : LutNet) → AreWrittenLutsOf k graph net → AreFewLutsOf k areas graph few → IsRoom slack few room → IsEither room net few kept
    → IsNoDearer areas kept few → AreFewestLutsOf k areas slack graph kept
fewest k room areas slack graph net few kept own are is either no_dearer = record {
  few = few;
  are_few = are;
  cost = no_dearer.cost;
  fewer = no_dearer.fewer;
  alike = λ alike. fewer_alike k areas kept few alike (either_written k room areas graph net few kept own are either).luts.inputs are.inputs no_dearer;
  depth = room_kept slack room graph net few kept own.luts.function are.function is either;
}
