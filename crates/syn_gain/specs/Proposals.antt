-- Proposals, owned and borrowed, as data.
use Rattle.syn_gain.specs.declared.proposals.Candidate.{Candidate}
use Rattle.syn_gain.specs.declared.proposals.Proposal.{Proposal}
use Rattle.syn_gain.specs.Replacements.{Replacement}

-- a proposal as data
abbrev pub replacement : Proposal → Replacement
replacement p = record { root = p.root; leaves = p.leaves.items; count = p.plan.leaves; gates = p.plan.gates.items; out = p.plan.out }

-- a borrowed proposal as data
abbrev pub replacement_of : Candidate → Replacement
replacement_of c = record { root = c.root; leaves = c.leaves.now; count = c.plan.now.leaves; gates = c.plan.now.gates.items; out = c.plan.now.out }
