use Rattle.std.proofs.Common.{◌<◌, ◌^◌, length, arith}
use Rattle.std.proofs.lemmas.List.{length-map}
use Rattle.syn_network.specs.Written.{network_of}
use Rattle.syn_netlist.specs.Frames.{frame_in}
use Rattle.syn_netlist.specs.Numbers.{word_at}
use Rattle.syn_shell.proofs.AigerFiles.{aiger_small}
use Rattle.syn_shell.proofs.aiger.parse.Goals as goal

pub returns-in-Ok-clause-small : goal.returns-in-Ok-clause-small
returns-in-Ok-clause-small c =
    let graph = c.in-Ok.graph in
    let h = c.in-Ok.ensures.graph in
    let few : length (frame_in graph.frame).outputs < 2 ^ 28 = omega (arith, length-map graph.frame.outputs (word_at graph.frame.names), c.in-Ok.ensures.outputs) in
    aiger_small h.0 (network_of graph) h.3 h.2 few
