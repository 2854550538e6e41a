use Rattle.std.proofs.Common.{◌≡◌}
use Rattle.std.specs.List.{filter}
use Rattle.syn_gain.specs.Proposals.{replacement}
use Rattle.syn_levels.specs.Levels.{keeps_level}
use Rattle.syn_proposals.proofs.kept_levels.kept.Given as goal

abbrev pub invariant-loop-proposal : goal.invariant-loop-proposal
invariant-loop-proposal l = l.kept.items ≡ filter (λ p. keeps_level l.graph.rows (replacement p)) l.yielded
