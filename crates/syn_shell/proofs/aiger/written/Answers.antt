use Rattle.std.proofs.Common.{ap}
use Rattle.syn_network.specs.Written as graphs
use Rattle.syn_network.specs.WrittenLuts as luts
use Rattle.syn_shell.specs.Networks.{network_of}
use Rattle.syn_shell.proofs.AigerFiles.{aiger_of_network}
use Rattle.syn_shell.proofs.aiger.written.Goals as goal

pub returns-in_ok-graph-in-Luts-clause-bytes : goal.returns-in_ok-graph-in-Luts-clause-bytes
returns-in_ok-graph-in-Luts-clause-bytes c =
    aiger_of_network c.args.ascii c.args.bare (network_of c.args.network.now) (luts.network_of c.in-Luts.net) (graphs.network_of c.in_ok-graph-in-Luts.graph) c.bytes_of-in-Luts.result
    (ap network_of c.in-Luts.is) c.in_ok-graph-in-Luts.ensures.graph c.in_ok-graph-in-Luts.ensures.gates c.bytes_of-in-Luts.ensures.bytes
