use Rattle.syn_aiger.proofs.ByPlace.{written_reads_back as law}
use Rattle.syn_aiger.proofs.laws.written_reads_back.Goals as goal

pub returns : goal.returns
returns c = law
