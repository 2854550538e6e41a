use Rattle.syn_shell.proofs.RemadeGraphs.{hashed_already}
use Rattle.syn_shell.proofs.commands.hashed.Goals as goal

pub returns : goal.returns
returns c = hashed_already (record { spells = c.network_of_graph.ensures; means = c.same_function_keeps_meaning.ensures }) c.args.network.now
