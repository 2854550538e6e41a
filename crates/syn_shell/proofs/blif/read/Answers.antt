use Rattle.std.proofs.Common.{◌≤◌, ◌<◌, ◌^◌, length, subst, arith}
use Rattle.syn_netlist.specs.Lists.{Frame, sources}
use Rattle.syn_netlist.specs.Views.{netlist_in}
use Rattle.syn_reader.specs.Limits.{most_sources}
use Rattle.syn_shell.proofs.blif.read.Goals as goal

pub returns-clause-small : goal.returns-clause-small
returns-clause-small g c =
    let n = netlist_in c.in_ok-checked.checked.netlist in
    let graph = c.in_ok-graph.ensures.network in
    let within = c.in_ok-checked.ensures.within in
    let few : length n.frame.outputs < 2 ^ 28 = omega (arith, c.few_outputs.ensures _ n c.in_ok-checked.ensures.reads within) in
    record {
      sources = subst (λ (f : Frame). length (sources f) ≤ most_sources) graph.same.frame within.netlist.sources;
      outputs = subst (λ (f : Frame). length f.outputs < 2 ^ 28) graph.same.frame few;
      ands = omega (arith, graph.fewer, within.netlist.cost);
    }
