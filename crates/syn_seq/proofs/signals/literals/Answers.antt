use Rattle.std.proofs.Common.{sym, ◌∙◌}
use Rattle.syn_network.specs.Written.{network_of}
use Rattle.syn_network.specs.GraphShape.{lit_of}
use Rattle.syn_seq.proofs.Sweeps.{spells}
use Rattle.syn_seq.proofs.signals.literals.Goals as goal

pub returns-clause-lits : goal.returns-clause-lits
returns-clause-lits c = c.in_ok-found.ensures.lits (lit_of (network_of c.args.graph.now)) (c.as_slice.ensures ∙ sym (spells c.network_of_graph.ensures c.args.graph.now).same_lits)
