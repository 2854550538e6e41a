use Rattle.syn_commit_laws.proofs.Cored.{events_turn, others_stay, nodes_stay, runs_turn}
use Rattle.syn_commit_laws.proofs.sound_views.Goals as goal

pub returns-clause-events : goal.returns-clause-events
returns-clause-events c = events_turn

pub returns-clause-others : goal.returns-clause-others
returns-clause-others c = others_stay

pub returns-clause-nodes : goal.returns-clause-nodes
returns-clause-nodes c = nodes_stay

pub returns-clause-runs : goal.returns-clause-runs
returns-clause-runs c = runs_turn
