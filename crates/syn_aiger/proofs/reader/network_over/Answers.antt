use Rattle.std.proofs.Common.{sym, ap, ◌∙◌, subst}
use Rattle.syn_graph.specs.declared.Graph.{Graph}
use Rattle.syn_netlist.specs.Frames.{frame_in}
use Rattle.syn_aiger.specs.Framing.{IsBodyOf}
use Rattle.syn_aiger.proofs.Graphed.{few_nodes, few_outputs, is_graph, named_with}
use Rattle.syn_aiger.proofs.reader.network_over.Goals as goal

pub of-requires-clause-named : goal.of-requires-clause-named
of-requires-clause-named c =
    let g = c.args.file.now.aig in
    named_with g c.args.file.now.sound c.requires.defined c.requires.rank c.requires.observed (frame_in c.args.framed.frame) c.args.body c.requires.frame c.requires.sources c.requires.body

pub returns-clause-graph : goal.returns-clause-graph
returns-clause-graph c =
    let g = c.args.file.now.aig in
    is_graph g c.args.file.now.sound c.requires.defined c.requires.rank c.requires.observed c.network_of_graph.ensures c.graph_has_function.ensures c.of.result
    (ap frame_in c.of.ensures.frame ∙ c.requires.frame) (subst (λ (b : Graph). IsBodyOf g b.rows b.observed) (sym c.of.ensures.body) c.requires.body)

pub returns-clause-few : goal.returns-clause-few
returns-clause-few c =
    let g = c.args.file.now.aig in
    few_nodes g c.args.file.now.sound c.requires.defined c.requires.rank c.requires.observed c.network_of_graph.ensures c.graph_has_function.ensures c.of.result
    (ap frame_in c.of.ensures.frame ∙ c.requires.frame) (subst (λ (b : Graph). IsBodyOf g b.rows b.observed) (sym c.of.ensures.body) c.requires.body) c.requires.within

pub returns-clause-outputs : goal.returns-clause-outputs
returns-clause-outputs c =
    let g = c.args.file.now.aig in
    few_outputs g c.args.file.now.sound c.requires.defined c.requires.rank c.requires.observed c.network_of_graph.ensures c.graph_has_function.ensures c.of.result
    (ap frame_in c.of.ensures.frame ∙ c.requires.frame) (subst (λ (b : Graph). IsBodyOf g b.rows b.observed) (sym c.of.ensures.body) c.requires.body)
