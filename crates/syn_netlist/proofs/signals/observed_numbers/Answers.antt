use Rattle.std.proofs.Common.{◌≡◌, ℕ, ◌++◌, List, flat_map, rules}
use Rattle.syn_netlist.specs.Marks.{read_numbers}
use Rattle.syn_netlist.proofs.Places.{all_below-append, reads_below}
use Rattle.syn_netlist.proofs.signals.observed_numbers.Goals as goal

pub firsts-requires : goal.firsts-requires
firsts-requires c =
    let outputs : List ℕ = c.args.outputs.now in
    let items : c.deref-2.result.now ≡ outputs ++ flat_map read_numbers c.args.latches.now = search rules in
    rw items (all_below-append c.args.count outputs (flat_map read_numbers c.args.latches.now) c.requires.outputs (reads_below c.args.count c.args.latches.now c.requires.latches))
