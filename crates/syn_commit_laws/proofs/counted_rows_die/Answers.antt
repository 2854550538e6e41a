use Rattle.syn_commit_laws.proofs.Bridging.{counted_rows_die}
use Rattle.syn_commit_laws.proofs.counted_rows_die.Goals as goal

pub returns : goal.returns
returns c = counted_rows_die
