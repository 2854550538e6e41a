use Rattle.syn_proposals.proofs.Savings.{first_of_parts}
use Rattle.syn_proposals.proofs.laws.first_of_parts.Goals as goal

pub returns : goal.returns
returns c = first_of_parts
