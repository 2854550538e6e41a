use Rattle.syn_aiger_files.proofs.Saying.{output_says}
use Rattle.syn_aiger_files.proofs.bodies.said_by.Goals as goal

pub returns-in-OutputLine : goal.returns-in-OutputLine
returns-in-OutputLine c ls seen = output_says c.args.most ls c.args.wanted c.args.numbers c.args.defined.now c.said_output.result c.in-OutputLine.is (c.said_output.ensures ls) seen
