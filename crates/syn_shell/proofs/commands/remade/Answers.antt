use Rattle.std.proofs.Common.{ap}
use Rattle.syn_netlist.specs.Frames.{frame_in}
use Rattle.syn_shell.proofs.RemadeGraphs.{passed_already, put_balanced, put_merged, put_passed}
use Rattle.syn_shell.proofs.commands.remade.Goals as goal

pub returns-in-Some-clause-balanced : goal.returns-in-Some-clause-balanced
returns-in-Some-clause-balanced c =
    put_balanced (record { spells = c.network_of_graph.ensures; means = c.same_function_keeps_meaning.ensures }) c.args.network.now c.put.new.self c.args.new c.in-Some.body
    c.in-Some.is (ap frame_in c.put.ensures.frame) c.put.ensures.body

pub returns-in-Some-clause-merged : goal.returns-in-Some-clause-merged
returns-in-Some-clause-merged c = λ levels.
    put_merged (record { spells = c.network_of_graph.ensures; means = c.same_function_keeps_meaning.ensures }) levels c.args.network.now c.put.new.self c.args.new c.in-Some.body
    c.in-Some.is (ap frame_in c.put.ensures.frame) c.put.ensures.body

pub returns-in-Some-clause-passed : goal.returns-in-Some-clause-passed
returns-in-Some-clause-passed c = λ proposals levels left.
    put_passed (record { spells = c.network_of_graph.ensures; means = c.same_function_keeps_meaning.ensures }) proposals levels c.args.network.now c.put.new.self c.args.new c.in-Some.body
    c.in-Some.is (ap frame_in c.put.ensures.frame) c.put.ensures.body left

pub returns-in-None-clause-passed : goal.returns-in-None-clause-passed
returns-in-None-clause-passed c = λ proposals levels left.
    passed_already (record { spells = c.network_of_graph.ensures; means = c.same_function_keeps_meaning.ensures }) proposals levels c.args.network.now c.args.new c.in-None.is left
