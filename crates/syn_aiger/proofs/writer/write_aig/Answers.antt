use Rattle.syn_aiger.proofs.WrittenFiles.{graph_is_kept}
use Rattle.syn_aiger.proofs.writer.write_aig.Goals as goal

pub returns-clause-written : goal.returns-clause-written
returns-clause-written c = graph_is_kept c.args.graph.now c.in_ok-refuse_types.ensures.untyped c.are_words.ensures
