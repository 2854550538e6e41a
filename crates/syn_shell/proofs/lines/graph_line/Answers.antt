use Rattle.std.proofs.Common.{◌≡◌, ℕ, ◌-◌, length, ap, ◌∙◌}
use Rattle.syn_netlist.specs.Lists.{sources}
use Rattle.syn_netlist.specs.Frames.{frame_in}
use Rattle.syn_shell.proofs.Numbers.{graph_line_is}
use Rattle.syn_shell.proofs.lines.graph_line.Goals as goal

pub returns : goal.returns
returns c =
    let network = c.args.network.now in
    let graph = network.body in
    let count : length c.as_slice.result.now - graph.source_count - 1 ≡ length graph.rows - length (sources (frame_in network.frame)) - 1 =
    ap (λ (n : ℕ). n - graph.source_count - 1) (ap length c.as_slice.ensures) ∙ ap (λ (n : ℕ). length graph.rows - n - 1) network.named.sources_are in
    graph_line_is c.network_of_graph.ensures c.graph_counts_ands.ensures (frame_in network.frame) graph.rows graph.observed (length c.as_slice.result.now - graph.source_count - 1) c.in_ok-depth.depth c.in_ok-line.line.items
    network.frame.clocks_once network.frame.sources_once network.graph count c.in_ok-depth.ensures c.in_ok-line.ensures
