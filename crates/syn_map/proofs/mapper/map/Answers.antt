use Rattle.std.proofs.Common.{◌≡◌, ℕ, true, map}
use Rattle.std.proofs.lemmas.Result.{IfOk-weaker}
use Rattle.syn_rows.specs.Rows.{node_of}
use Rattle.syn_truth.specs.declared.TheConstants.{MAX_VARS}
use Rattle.syn_lutnet.specs.LutData.{greatest, net_depth, none_exceeds}
use Rattle.syn_lutnet.specs.Data.{luts_data}
use Rattle.syn_covering.specs.Cuts.{AreDepths, AreLutCuts}
use Rattle.syn_covering.specs.Making.{HasDepthOver}
use Rattle.syn_covering.proofs.Assembled.{more_leaves}
use Rattle.syn_map.specs.Labels.{chosen, label_of}
use Rattle.syn_map.proofs.Fitted.{graph_deep, graph_fit, known}
use Rattle.syn_map.proofs.mapper.map.Goals as goal

pub net_of-requires-clause-cuts : goal.net_of-requires-clause-cuts
net_of-requires-clause-cuts g c =
    let gr = c.args.graph.now in
    let l = c.in_ok-labelled.labelled in
    known (AreLutCuts MAX_VARS gr.rows) c.args.k l.k gr.rows l.rows.now c.in_ok-labelled.ensures.k c.in_ok-labelled.ensures.rows
    (more_leaves c.args.k MAX_VARS (chosen c.args.k gr.rows) gr.rows c.requires.few (graph_fit gr c.args.k c.requires.many))

pub returns-clause-depth : goal.returns-clause-depth
returns-clause-depth g c =
    let gr = c.args.graph.now in
    let l = c.in_ok-labelled.labelled in
    IfOk-weaker c.net_of.result (HasDepthOver (chosen l.k l.rows.now) gr) (λ net. net_depth gr.source_count (luts_data net.luts) ≡ greatest (label_of c.args.k gr.rows) (map node_of gr.observed))
    (λ net is. is (label_of c.args.k gr.rows) (known (AreDepths gr.rows (label_of c.args.k gr.rows)) c.args.k l.k gr.rows l.rows.now c.in_ok-labelled.ensures.k c.in_ok-labelled.ensures.rows (graph_deep gr c.args.k)))
    c.net_of.ensures.depth

pub returns-clause-inputs : goal.returns-clause-inputs
returns-clause-inputs g c =
    let gr = c.args.graph.now in
    let l = c.in_ok-labelled.labelled in
    IfOk-weaker c.net_of.result (λ net. (k : ℕ) → AreLutCuts k gr.rows (chosen l.k l.rows.now) → none_exceeds k (luts_data net.luts) ≡ true) (λ net. none_exceeds c.args.k (luts_data net.luts) ≡ true)
    (λ net is. is c.args.k (known (AreLutCuts c.args.k gr.rows) c.args.k l.k gr.rows l.rows.now c.in_ok-labelled.ensures.k c.in_ok-labelled.ensures.rows (graph_fit gr c.args.k c.requires.many)))
    c.net_of.ensures.inputs
