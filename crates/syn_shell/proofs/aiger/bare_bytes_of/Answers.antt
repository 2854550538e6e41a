use Rattle.std.proofs.Common.{◌+◌, ◌≤◌, length, arith}
use Rattle.std.proofs.lemmas.List.{length-drop}
use Rattle.syn_netlist.specs.Frames.{frame_in}
use Rattle.syn_netlist.specs.Lists.{sources}
use Rattle.syn_reader.specs.Limits.{most_sources}
use Rattle.syn_network.specs.GraphShape.{and_tables}
use Rattle.syn_network.specs.Spelling.{NetworkSpells, network}
use Rattle.syn_build.specs.BuildFaults.{most_gates}
use Rattle.syn_shell.proofs.aiger.bare_bytes_of.Goals as goal

pub write_untyped_aig-requires-clause-rows : goal.write_untyped_aig-requires-clause-rows
write_untyped_aig-requires-clause-rows c =
    let graph = c.args.graph.now in
    let s : NetworkSpells (frame_in graph.frame) graph.body.rows graph.body.observed = c.network_of_graph.ensures (frame_in graph.frame) graph.body.rows graph.body.observed graph.frame.clocks_once graph.frame.sources_once graph.graph in
    let ands : length (and_tables (network (frame_in graph.frame) graph.body.rows graph.body.observed)) ≤ most_gates = c.requires.ands in
    let few : length (sources (frame_in graph.frame)) ≤ most_sources = c.requires.sources in
    omega (arith, s.ands, length-drop (length (sources (frame_in graph.frame)) + 1) graph.body.rows, ands, few)
