use Rattle.syn_commit_laws.proofs.Giving as Giving
use Rattle.syn_commit_laws.proofs.gates_fall.Goals as goal

pub returns : goal.returns
returns c = Giving.gates_fall
