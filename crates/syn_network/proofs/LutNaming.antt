-- Names that fit a LUT net.
use Rattle.std.proofs.Common.{ℕ, ◌∙◌, subst}
use Rattle.syn_graph.specs.declared.Graph.{Graph}
use Rattle.syn_netlist.specs.Lists.{Frame}
use Rattle.syn_lutnet.specs.declared.nets.LutNet.{LutNet}
use Rattle.syn_lutnet.specs.LutData.{IsLutNet}
use Rattle.syn_lutnet.specs.Data.{luts_data}
use Rattle.syn_lutnet.specs.Nets.{HasFunctionOf}
use Rattle.syn_network.specs.NamedLutNets.{IsNamedLutNet}
use Rattle.syn_network.specs.Networks.{IsNamed}
use Rattle.syn_network.proofs.Naming.{own_stays}

-- the names of a graph fit a LUT net of its function
pub names_fit : (frame : Frame) (graph : Graph) (net : LutNet) → HasFunctionOf graph net → IsNamed frame graph.source_count graph.observed → IsNamed frame net.source_count net.observed
names_fit frame graph net same n = record {
  sources_are = same.sources ∙ n.sources_are;
  observed_are = same.count ∙ n.observed_are;
  own = own_stays frame graph.source_count graph.observed net.observed n.sources_are same.count same.stay n.own;
}

pub named_net : (frame : Frame) (net : LutNet) → IsNamed frame net.source_count net.observed → IsNamedLutNet frame (luts_data net.luts) net.observed
named_net frame net n =
    let framed = subst (λ (k : ℕ). IsLutNet k (luts_data net.luts) net.observed) n.sources_are net.net in
    record {
      luts_fit = framed.luts_fit;
      count = n.observed_are;
      within = framed.within;
      own = n.own;
      reached = framed.reached;
    }
