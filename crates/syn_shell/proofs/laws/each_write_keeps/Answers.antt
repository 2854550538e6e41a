use Rattle.syn_shell.proofs.Keeping.{each_write}
use Rattle.syn_shell.proofs.laws.each_write_keeps.Goals as goal

pub returns : goal.returns
returns c = each_write c.same_is_transitive.ensures c.sequential_is_transitive.ensures c.same_meaning_is_sequential.ensures c.graph_has_function.ensures c.same_from_function.ensures
