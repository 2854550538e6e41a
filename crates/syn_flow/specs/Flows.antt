-- What a flow gives, and which certificates are accepted.
use Rattle.std.specs.Prelude.{◌≡◌, ℕ, true, List, length, map}
use Rattle.syn_rows.specs.declared.Row.{Row}
use Rattle.syn_rows.specs.Rows.{row_at}
use Rattle.syn_rows.specs.Reach.{is_and}
use Rattle.syn_graph.specs.declared.Graph.{Graph}
use Rattle.syn_lutnet.specs.LutData.{net_depth}
use Rattle.syn_lutnet.specs.declared.nets.LutNet.{LutNet}
use Rattle.syn_lutnet.specs.Data.{luts_data}
use Rattle.syn_covering.specs.Making.{IsMappedBy}
use Rattle.syn_flow.specs.declared.witness.FlowProof.{FlowProof}
use Rattle.syn_flow.specs.declared.witness.Paths.{Paths}
use Rattle.syn_paths.specs.Tops.{label_in}
use Rattle.syn_flow.specs.Coverings.{IsCovering, IsLeastDepth}
use Rattle.syn_flow.specs.Witness.{AreBorneOut, Shown}
use Rattle.syn_flow.specs.Labels.{AreFlowLabels, IsChosenCut}

-- what is shown for a node, as data
abbrev pub shown_of : Paths → Shown
shown_of p = record { node = p.node; lists = p.lists }

-- A certificate that is accepted: a label for each row, borne out by the paths.
pub record IsWitness (k : ℕ) (rows : List Row) (proof : FlowProof) : Type 0 where
  pub count : length proof.labels ≡ length rows
  pub borne_out : AreBorneOut k rows (label_in proof.labels) (map shown_of proof.paths)

-- The LUT net of a graph's labels by flow: that of the cuts that are chosen for its ANDs.
pub record IsFlowMapping (k : ℕ) (graph : Graph) (net : LutNet) (proof : FlowProof) : Type 0 where
  pub labels : AreFlowLabels k graph.rows (label_in proof.labels)
  pub cut : ℕ → List ℕ
  pub chosen : (n : ℕ) → is_and (row_at graph.rows n) ≡ true → IsChosenCut graph.rows (label_in proof.labels) n (cut n)
  pub mapped : IsMappedBy cut graph net

-- no covering of the graph by LUTs of at most k inputs is shallower than the net
abbrev pub HasLeastDepth : ℕ → Graph → LutNet → Type 0
HasLeastDepth k graph net = IsLeastDepth k graph.source_count graph.rows graph.observed (net_depth graph.source_count (luts_data net.luts))

-- The net is a covering of the graph by LUTs of at most k inputs, with some choice of the nodes that they stand for.
pub record IsCoveredBy (k : ℕ) (graph : Graph) (net : LutNet) : Type 0 where
  pub nodes : List ℕ
  pub covering : IsCovering k graph.source_count graph.rows graph.observed nodes (luts_data net.luts) net.observed
