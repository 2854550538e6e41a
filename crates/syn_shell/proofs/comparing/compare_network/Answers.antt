use Rattle.std.proofs.Common.{None, Some}
use Rattle.syn_shell.specs.Networks.{network_of}
use Rattle.syn_shell.proofs.Matched.{first_of_graph, first_of_luts, unchanged}
use Rattle.syn_shell.proofs.comparing.compare_network.Goals as goal

pub returns-in-Graph-clause-put : goal.returns-in-Graph-clause-put
returns-in-Graph-clause-put g c =
    let disk = g.F.Files.disk c.args.files.now in
    c.compare_with.ensures.put None (Some (network_of c.args.network.now)) disk (first_of_graph c.args.network.now c.in-Graph.graph disk c.in-Graph.is) (unchanged disk)

pub returns-in-Graph-clause-refused : goal.returns-in-Graph-clause-refused
returns-in-Graph-clause-refused g c =
    let disk = g.F.Files.disk c.args.files.now in
    c.compare_with.ensures.refused None (Some (network_of c.args.network.now)) disk (first_of_graph c.args.network.now c.in-Graph.graph disk c.in-Graph.is) (unchanged disk)

pub returns-in_ok-graph-in-Luts-clause-put : goal.returns-in_ok-graph-in-Luts-clause-put
returns-in_ok-graph-in-Luts-clause-put g c =
    let disk = g.F.Files.disk c.args.files.now in
    let h = c.in_ok-graph-in-Luts.ensures in
    c.compare_with-in-Luts.ensures.put None (Some (network_of c.args.network.now)) disk (first_of_luts c.args.network.now c.in-Luts.net c.in_ok-graph-in-Luts.graph disk c.in-Luts.is h.graph h.gates) (unchanged disk)

pub returns-in_ok-graph-in-Luts-clause-refused : goal.returns-in_ok-graph-in-Luts-clause-refused
returns-in_ok-graph-in-Luts-clause-refused g c =
    let disk = g.F.Files.disk c.args.files.now in
    let h = c.in_ok-graph-in-Luts.ensures in
    c.compare_with-in-Luts.ensures.refused None (Some (network_of c.args.network.now)) disk (first_of_luts c.args.network.now c.in-Luts.net c.in_ok-graph-in-Luts.graph disk c.in-Luts.is h.graph h.gates) (unchanged disk)
