use Rattle.syn_rows.proofs.Ends.{ands_are_there}
use Rattle.syn_rows.proofs.ands_are_there.Goals as goal

pub returns : goal.returns
returns c = ands_are_there
