use Rattle.std.proofs.Common.{◌≤◌, map, sym, ◌∙◌, subst, arith}
use Rattle.std.proofs.lemmas.List.{length-map}
use Rattle.syn_truth.specs.declared.TheConstants.{MAX_VARS}
use Rattle.syn_paths.specs.Tops.{label_in}
use Rattle.syn_flow.specs.Coverings.{IsLeastDepth}
use Rattle.syn_flow.specs.Flows.{shown_of}
use Rattle.syn_flow.specs.Labelling.{cut_at, leaves_of}
use Rattle.syn_flow.proofs.Attained.{mapped_covers}
use Rattle.syn_flow.proofs.Covered.{labels_least}
use Rattle.syn_flow.proofs.Labelled.{borne_out, chosen_cuts, depths, flow_labels, lut_cuts}
use Rattle.syn_flow.proofs.mapper.flow.Goals as goal

pub label_all-requires-clause-hashed : goal.label_all-requires-clause-hashed
label_all-requires-clause-hashed c = rw c.as_slice.ensures (c.args.graph.now.source_count, c.args.graph.now.graph.hashed)

pub label_all-requires-clause-few_nodes : goal.label_all-requires-clause-few_nodes
label_all-requires-clause-few_nodes c = rw c.as_slice.ensures c.args.graph.now.few

pub net_of-requires-clause-count : goal.net_of-requires-clause-count
net_of-requires-clause-count c =
    let a = rw c.as_slice.ensures at c.in_ok-labelling.ensures in
    let l = c.in_ok-labelling.labelling in
    sym (length-map l.cuts.items (λ cut. cut.items)) ∙ a.cuts_count

pub net_of-requires-clause-cuts : goal.net_of-requires-clause-cuts
net_of-requires-clause-cuts c =
    let gr = c.args.graph.now in
    let l = c.in_ok-labelling.labelling in
    let a = rw c.as_slice.ensures at c.in_ok-labelling.ensures in
    lut_cuts c.args.k gr.source_count gr.rows l.labels.items (leaves_of l.cuts.items) (map shown_of l.paths.items) gr.graph.hashed a MAX_VARS c.requires.few

pub returns-clause-mapping : goal.returns-clause-mapping
returns-clause-mapping c =
    let gr = c.args.graph.now in
    let l = c.in_ok-labelling.labelling in
    let a = rw c.as_slice.ensures at c.in_ok-labelling.ensures in
    rw c.of.ensures (record {
      labels = flow_labels c.args.k gr.source_count gr.rows l.labels.items (leaves_of l.cuts.items) (map shown_of l.paths.items) gr.graph.hashed a;
      cut = cut_at (leaves_of l.cuts.items);
      chosen = chosen_cuts c.args.k gr.source_count gr.rows l.labels.items (leaves_of l.cuts.items) (map shown_of l.paths.items) gr.graph.hashed a;
      mapped = c.in_ok-net.ensures.mapping;
    })

pub returns-clause-depth : goal.returns-clause-depth
returns-clause-depth c =
    let gr = c.args.graph.now in
    let l = c.in_ok-labelling.labelling in
    let a = rw c.as_slice.ensures at c.in_ok-labelling.ensures in
    rw c.of.ensures (c.in_ok-net.ensures.depth (label_in l.labels.items) (depths c.args.k gr.source_count gr.rows l.labels.items (leaves_of l.cuts.items) (map shown_of l.paths.items) gr.graph.hashed a))

pub returns-clause-covering : goal.returns-clause-covering
returns-clause-covering c =
    let gr = c.args.graph.now in
    let l = c.in_ok-labelling.labelling in
    let a = rw c.as_slice.ensures at c.in_ok-labelling.ensures in
    let le : c.args.k ≤ c.args.k = omega arith in
    mapped_covers c.args.k (cut_at (leaves_of l.cuts.items)) gr c.in_ok-net.net (lut_cuts c.args.k gr.source_count gr.rows l.labels.items (leaves_of l.cuts.items) (map shown_of l.paths.items) gr.graph.hashed a c.args.k le) c.in_ok-net.ensures.mapping

pub returns-clause-least : goal.returns-clause-least
returns-clause-least c =
    let gr = c.args.graph.now in
    let l = c.in_ok-labelling.labelling in
    let a = rw c.as_slice.ensures at c.in_ok-labelling.ensures in
    let deep = c.in_ok-net.ensures.depth (label_in l.labels.items) (depths c.args.k gr.source_count gr.rows l.labels.items (leaves_of l.cuts.items) (map shown_of l.paths.items) gr.graph.hashed a) in
    subst (IsLeastDepth c.args.k gr.source_count gr.rows gr.observed) (sym deep)
    (labels_least c.args.k gr.source_count gr.rows gr.observed (label_in l.labels.items) (map shown_of l.paths.items) gr.graph.hashed
    (borne_out c.args.k gr.source_count gr.rows l.labels.items (leaves_of l.cuts.items) (map shown_of l.paths.items) gr.graph.hashed a))

pub returns-clause-witness : goal.returns-clause-witness
returns-clause-witness c =
    let gr = c.args.graph.now in
    let l = c.in_ok-labelling.labelling in
    let a = rw c.as_slice.ensures at c.in_ok-labelling.ensures in
    rw (c.of.ensures, c.of-2.ensures) (record {
      count = a.count;
      borne_out = borne_out c.args.k gr.source_count gr.rows l.labels.items (leaves_of l.cuts.items) (map shown_of l.paths.items) gr.graph.hashed a;
    })

pub returns-clause-inputs : goal.returns-clause-inputs
returns-clause-inputs c =
    let gr = c.args.graph.now in
    let l = c.in_ok-labelling.labelling in
    let a = rw c.as_slice.ensures at c.in_ok-labelling.ensures in
    let le : c.args.k ≤ c.args.k = omega arith in
    c.in_ok-net.ensures.inputs c.args.k (lut_cuts c.args.k gr.source_count gr.rows l.labels.items (leaves_of l.cuts.items) (map shown_of l.paths.items) gr.graph.hashed a c.args.k le)
