use Rattle.std.proofs.Common.{◌≡◌, ◌≤◌, ◌<◌, ◌^◌, length, sym, ap, subst, arith}
use Rattle.syn_netlist.specs.Costs.{cost_of}
use Rattle.syn_netlist.specs.Faults.{IsChecked}
use Rattle.syn_netlist.specs.Frames.{frame_in}
use Rattle.syn_netlist.specs.Lists.{Frame, Netlist, sources}
use Rattle.syn_netlist.specs.Views.{netlist_in}
use Rattle.syn_build.specs.Building.{IsGraphOf}
use Rattle.syn_network.specs.Written.{network_of}
use Rattle.syn_gen.specs.Generated.{generated}
use Rattle.syn_reader.specs.Limits.{most_sources}
use Rattle.syn_shell.proofs.session.generated.Goals as goal

pub build-requires-clause-checked : goal.build-requires-clause-checked
build-requires-clause-checked c = subst IsChecked (sym c.in_ok-netlist.ensures.generated) (c.generated_is_checked.ensures c.args.seed c.args.size (omega (arith, c.ranges.size.fits))).1

pub build-requires-clause-room : goal.build-requires-clause-room
build-requires-clause-room c =
    let n = c.in_ok-netlist.netlist in
    let made : Netlist = generated c.args.seed c.args.size in
    let same = c.in_ok-netlist.ensures.generated in
    let costs = c.generated_costs.ensures c.args.seed c.args.size in
    let few : length (sources (frame_in n.frame)) ≡ length (sources made.frame) = ap (λ (m : Netlist). length (sources m.frame)) same in
    let cheap : cost_of (netlist_in n) ≡ cost_of made = ap cost_of same in
    omega (arith, few, cheap, costs.0, costs.1, c.ranges.size.fits)

pub build-requires-clause-names : goal.build-requires-clause-names
build-requires-clause-names c = omega (arith, c.in_ok-netlist.ensures.names, c.ranges.size.fits)

pub returns-clause-generated : goal.returns-clause-generated
returns-clause-generated c = subst (λ (m : Netlist). IsGraphOf m (network_of c.in_ok-graph.graph)) c.in_ok-netlist.ensures.generated c.in_ok-graph.ensures.network

pub returns-clause-small : goal.returns-clause-small
returns-clause-small c =
    let n : Netlist = netlist_in c.in_ok-netlist.netlist in
    let made : Netlist = generated c.args.seed c.args.size in
    let same = c.in_ok-netlist.ensures.generated in
    let costs = c.generated_costs.ensures c.args.seed c.args.size in
    let few : length (sources n.frame) ≤ most_sources = omega (arith, ap (λ (m : Netlist). length (sources m.frame)) same, costs.0) in
    let outs : length n.frame.outputs < 2 ^ 28 = omega (arith, ap (λ (m : Netlist). length m.frame.outputs) same, c.generated_outputs.ensures c.args.seed c.args.size, c.ranges.size.fits) in
    let graph = c.in_ok-graph.ensures.network in
    record {
      sources = subst (λ (f : Frame). length (sources f) ≤ most_sources) graph.same.frame few;
      outputs = subst (λ (f : Frame). length f.outputs < 2 ^ 28) graph.same.frame outs;
      ands = omega (arith, graph.fewer, ap cost_of same, costs.1, c.ranges.size.fits);
    }
