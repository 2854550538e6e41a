use Rattle.std.proofs.Common.{◌≡◌, List, sym, ap, ◌∙◌, subst}
use Rattle.syn_rows.specs.declared.Lit.{Lit}
use Rattle.syn_rows.specs.Values.{rows_function}
use Rattle.syn_netlist.specs.Lists as lists
use Rattle.syn_netlist.specs.Frames.{frame_in}
use Rattle.syn_netlist.specs.Views.{netlist_in}
use Rattle.syn_network.specs.NamedGraphs.{IsNamedGraph}
use Rattle.syn_network.specs.Spelling.{network}
use Rattle.syn_build.specs.Building.{IsGraphOf}
use Rattle.syn_build.proofs.Graphing.{graph_of_netlist, graph_function}
use Rattle.syn_build.proofs.network.build_in_order.Goals as goal

pub returns-clause-network : goal.returns-clause-network
returns-clause-network c =
    let n = netlist_in c.args.netlist.now in
    let g = c.in_ok-graph.graph in
    let rows = c.in_ok-built.built.hashed.rows.items in
    let framed : frame_in g.frame ≡ n.frame = ap frame_in c.in_ok-graph.ensures.frame ∙ c.in_ok-frame.ensures.same in
    subst (λ (f : lists.Frame). IsGraphOf n (network f g.body.rows g.body.observed)) (sym framed)
    (graph_of_netlist c.network_of_graph.ensures c.graph_has_function.ensures c.same_from_function.ensures n rows g.body.rows c.in_ok-built.built.observed.items g.body.observed
    c.args.netlist.now.frame.clocks_once c.args.netlist.now.frame.sources_once c.in_ok-built.ensures.function c.in_ok-built.ensures.few
    (subst (λ (f : lists.Frame). IsNamedGraph f g.body.rows g.body.observed) framed g.graph)
    (λ bits. c.in_ok-graph.ensures.values bits ∙ ap (λ (ls : List Lit). rows_function rows ls bits) c.as_slice.ensures.value) c.in_ok-graph.ensures.fewer)

pub returns-clause-function : goal.returns-clause-function
returns-clause-function c =
    let g = c.in_ok-graph.graph in
    let rows = c.in_ok-built.built.hashed.rows.items in
    graph_function (netlist_in c.args.netlist.now) rows g.body.rows c.in_ok-built.built.observed.items g.body.observed c.in_ok-built.ensures.function
    (λ bits. c.in_ok-graph.ensures.values bits ∙ ap (λ (ls : List Lit). rows_function rows ls bits) c.as_slice.ensures.value)
