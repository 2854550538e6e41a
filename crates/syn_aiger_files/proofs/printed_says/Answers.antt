use Rattle.syn_aiger_files.proofs.Written.{written_says}
use Rattle.syn_aiger_files.proofs.printed_says.Goals as goal

pub returns : goal.returns
returns c = written_says
