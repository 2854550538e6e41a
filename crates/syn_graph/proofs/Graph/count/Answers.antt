use Rattle.std.proofs.Common.{length, ap, arith}
use Rattle.syn_graph.proofs.Counting.{graph_ands}
use Rattle.syn_graph.proofs.Graph.count.Goals as goal

pub returns-clause-ands : goal.returns-clause-ands
returns-clause-ands c =
    let g = c.args.self.now in
    graph_ands g.source_count g.rows g.observed _ c.has_ands.ensures g.graph (omega (arith, ap length c.as_slice.ensures, g.graph.hashed.there))
