use Rattle.std.proofs.Common.{◌≡◌, ◌≤◌, length, sym, ap, subst, arith}
use Rattle.syn_netlist.specs.Costs.{cost_of}
use Rattle.syn_netlist.specs.Faults.{IsChecked}
use Rattle.syn_netlist.specs.Frames.{frame_in}
use Rattle.syn_netlist.specs.Lists.{Netlist, sources}
use Rattle.syn_netlist.specs.Views.{netlist_in}
use Rattle.syn_gen.specs.Generated.{generated}
use Rattle.test_threads.proofs.worker_hooks.generated.Goals as goal

pub build-requires-clause-checked : goal.build-requires-clause-checked
build-requires-clause-checked c = subst IsChecked (sym c.in_ok-netlist.ensures.generated) (c.generated_is_checked.ensures c.args.seed c.args.size (omega (arith, c.ranges.size.fits))).1

pub build-requires-clause-room : goal.build-requires-clause-room
build-requires-clause-room c =
    let n = c.in_ok-netlist.netlist in
    let made : Netlist = generated c.args.seed c.args.size in
    let same = c.in_ok-netlist.ensures.generated in
    let costs = c.generated_costs.ensures c.args.seed c.args.size in
    let few : length (sources (frame_in n.frame)) ≡ length (sources made.frame) = ap (λ (m : Netlist). length (sources m.frame)) same in
    let cheap : cost_of (netlist_in n) ≡ cost_of made = ap cost_of same in
    omega (arith, few, cheap, costs.0, costs.1, c.ranges.size.fits)
