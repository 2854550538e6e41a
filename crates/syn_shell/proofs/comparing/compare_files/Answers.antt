use Rattle.std.proofs.Common.{Some}
use Rattle.syn_shell.proofs.comparing.compare_files.Goals as goal

pub returns-clause-refused : goal.returns-clause-refused
returns-clause-refused g c = λ network. c.compare_with.ensures.refused (Some c.args.first.now) network (g.F.Files.disk c.args.files.now) c.in_ok-graph.ensures.read c.in_ok-graph.ensures.unchanged
