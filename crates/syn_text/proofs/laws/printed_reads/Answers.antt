use Rattle.syn_text.proofs.WrittenReads.{printed_reads as law}
use Rattle.syn_text.proofs.laws.printed_reads.Goals as goal

pub returns : goal.returns
returns c = law
