-- What a pass makes of a graph, turn after turn, and what it reports.
use Rattle.std.specs.Prelude.{◌≡◌, ◌⊎◌, ℕ, ◌+◌, ◌≤◌, All, Bool, true, false, List, [], ◌∷◌}
use Rattle.syn_graph.specs.declared.Graph.{Graph}
use Rattle.syn_gain.specs.declared.proposals.Proposal.{Proposal}
use Rattle.syn_proposals.specs.declared.gains.Report.{Report}
use Rattle.syn_proposals.specs.Following.{Follows}
use Rattle.syn_proposals.specs.Sound.{AppliesSome, IsSoundSaving}
use Rattle.syn_pool.specs.Reports.{told}
use Rattle.syn_pool.specs.Working.{IsRound}

-- One turn: the graph that it leaves, and what it reports.
pub record Turn : Type 0 where
  pub now : Graph
  pub report : Report

-- Workers did something on a table of the graph, which leaves the next one, and the turn reports just that: at least so many ANDs fewer. Where only what saves is done, no gain of 0 was let through.
pub record HasCommitted (strict : Bool) (was : Graph) (t : Turn) : Type 0 where
  pub zero_gain : Bool
  pub saving : strict ≡ true → zero_gain ≡ false
  pub round : IsRound was zero_gain t.report t.now
  pub done : 1 ≤ t.report.done
  pub follows : Follows was t.report.gained t.now

-- Proposals that save were applied without workers, and nothing is reported: the graph is exactly what the first of them makes alone, or those with a mark together, and has fewer ANDs.
pub record HasApplied (was : Graph) (t : Turn) : Type 0 where
  pub done : t.report.done ≡ 0
  pub gained : t.report.gained ≡ 0
  pub follows : Follows was 1 t.now
  pub found : List Proposal
  pub saving : All (IsSoundSaving was) found
  pub applied : AppliesSome was found t.now

-- the turns lead from one graph to another
abbrev pub LeadTo : Bool → Graph → List Turn → Graph → Type 0
LeadTo strict was [] now = now ≡ was
LeadTo strict was (t ∷ ts) now = (HasCommitted strict was t ⊎ HasApplied was t) × LeadTo strict t.now ts now

-- what they report together
abbrev pub all_done : List Turn → ℕ
all_done [] = 0
all_done (t ∷ ts) = t.report.done + all_done ts

abbrev pub all_gained : List Turn → ℕ
all_gained [] = 0
all_gained (t ∷ ts) = t.report.gained + all_gained ts

-- Turns lead from one graph to the other, and the report sums what they report. It may be that only what saves is done.
pub record IsPassReport (strict : Bool) (was now : Graph) (report : Report) : Type 0 where
  pub turns : List Turn
  pub lead : LeadTo strict was turns now
  pub done : report.done ≡ told (all_done turns)
  pub gained : report.gained ≡ told (all_gained turns)
