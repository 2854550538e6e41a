use Rattle.syn_proposals.proofs.Savings.{closed_saves_nothing}
use Rattle.syn_proposals.proofs.laws.closed_saves_nothing.Goals as goal

pub returns : goal.returns
returns c = closed_saves_nothing
