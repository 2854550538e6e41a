-- What a commit is asked.
use Rattle.std.specs.Prelude.{ℕ, Bool}
use Rattle.syn_gain.specs.Replacements.{Replacement}
use Rattle.syn_gain.specs.declared.proposals.Proposal.{Proposal}
use Rattle.syn_gain.specs.Proposals.{replacement, replacement_of}
use Rattle.syn_decide.specs.declared.decisions.Attempt.{Attempt}

-- A proposal as data, whether a gain of 0 is enough, and how many nodes the pool has.
pub record Task : Type 0 where
  pub proposal : Replacement
  pub zero_gain : Bool
  pub pool : ℕ

-- an attempt as data
abbrev pub task_of : Attempt → Task
task_of a = record { proposal = replacement_of a.candidate; zero_gain = a.zero_gain; pool = a.pool }

-- the same of an owned proposal
abbrev pub asked : Proposal → Bool → ℕ → Task
asked p zero_gain pool = record { proposal = replacement p; zero_gain = zero_gain; pool = pool }
