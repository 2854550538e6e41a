use Rattle.std.proofs.Common.{refl, sym, ◌∙◌, subst, arith}
use Rattle.syn_netlist.specs.Frames.{frame_in}
use Rattle.syn_network.specs.LutSpelling.{NetworkSpellsLuts}
use Rattle.syn_network.specs.Written as graphs
use Rattle.syn_network.specs.WrittenLuts as luts
use Rattle.syn_lutnet.specs.LutData.{net_gates}
use Rattle.syn_lutnet.specs.Data.{luts_data}
use Rattle.syn_build.specs.declared.luts.BuildFault.TheVariants.{TooManyGates}
use Rattle.syn_build.specs.BuildFaults.{TellsFault}
use Rattle.syn_shell.specs.Networks.{graph_network, mapped_network}
use Rattle.syn_shell.proofs.Recipes.{remade_small}
use Rattle.syn_shell.proofs.commands.graph_of.Goals as goal

pub returns-in-Ok-clause-gates : goal.returns-in-Ok-clause-gates
returns-in-Ok-clause-gates c =
    let net = c.args.net.now in
    let l : NetworkSpellsLuts (frame_in net.frame) (luts_data net.body.luts) net.body.observed = c.network_of_luts.ensures (frame_in net.frame) (luts_data net.body.luts) net.body.observed net.frame.clocks_once net.frame.sources_once net.net in
    omega (arith, l.gates, c.in-Ok.ensures.within)

pub returns-in-Ok-clause-small : goal.returns-in-Ok-clause-small
returns-in-Ok-clause-small c =
    let h = c.in-Ok.ensures.network in
    remade_small (mapped_network (luts.network_of c.args.net.now)) (graph_network (graphs.network_of c.in-Ok.graph))
    (record { same = h.same; ordered = h.ordered; graph = refl; shape = h.shape; fewer = h.fewer }) (returns-in-Ok-clause-gates c) c.requires

pub returns-in-Err-TooManyGates-clause-refused : goal.returns-in-Err-TooManyGates-clause-refused
returns-in-Err-TooManyGates-clause-refused c =
    let net = c.args.net.now in
    let l : NetworkSpellsLuts (frame_in net.frame) (luts_data net.body.luts) net.body.observed = c.network_of_luts.ensures (frame_in net.frame) (luts_data net.body.luts) net.body.observed net.frame.clocks_once net.frame.sources_once net.net in
    let told : TellsFault (net_gates (luts_data net.body.luts)) c.in-Err-TooManyGates.field-0 = c.in-Err-TooManyGates.ensures.fault in
    let fault : TellsFault (net_gates (luts_data net.body.luts)) (TooManyGates c.in-Err-TooManyGates.gates) = subst (TellsFault (net_gates (luts_data net.body.luts))) c.in-Err-TooManyGates.field-0-is told in
    (fault.0 ∙ sym l.gates, omega (arith, fault.0, fault.1))
