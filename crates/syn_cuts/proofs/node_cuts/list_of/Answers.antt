use Rattle.syn_cuts.proofs.Naming.{found_of}
use Rattle.syn_cuts.proofs.node_cuts.list_of.Goals as goal

pub returns : goal.returns
returns c = λ k rows name. c.in_ok-cuts.ensures k rows (found_of k rows c.args.known.now.tag.numbers _ name c.in_ok-found.ensures)
