use Rattle.std.proofs.Common.{ℕ, All, List, length, map, Result, Ok, Err, IfOk}
use Rattle.syn_rows.specs.declared.Lit.{Lit}
use Rattle.syn_rows.specs.declared.Row.{Row}
use Rattle.std.specs.Global.{Vec}
use Rattle.syn_gain.specs.declared.proposals.Proposal.{Proposal}
use Rattle.syn_gain.specs.Proposals.{replacement}
use Rattle.syn_gain.specs.Replacements.{Replacement}
use Rattle.syn_proposals.specs.Leftovers.{AreLeftovers, listed}
use Rattle.syn_proposals.specs.Sound.{IsLeftover, IsSound}
use Rattle.syn_proposals.proofs.Gathered.{each_left}
use Rattle.syn_proposals.proofs.remaining.leftovers_among.Goals as goal

-- all of them, each sound, are left over
all_left : {E : Type 0} (rows : List Row) (observed : List Lit) (proposals : ℕ → List Replacement) (at : ℕ → ℕ) (n : ℕ) (result : Result (Vec Proposal) E)
    → IfOk result (λ v. AreLeftovers rows observed proposals at 0 n (map replacement v.items)) → IfOk result (λ v. All (IsSound rows) v.items)
    → IfOk result (λ v. All (IsLeftover rows observed proposals) v.items)
all_left rows observed proposals at n (Ok v) all sound = each_left rows observed proposals at 0 n v.items all sound
all_left rows observed proposals at n (Err e) all sound = all

pub returns-clause-each : goal.returns-clause-each
returns-clause-each g c =
    let graph = c.args.graph.now in
    let nodes = c.args.nodes.now in
    all_left graph.rows graph.observed (g.P.Proposer.proposals c.args.proposer.now graph.rows) (listed nodes) (length nodes) c.found_in_parts.result c.found_in_parts.ensures.all c.found_in_parts.ensures.sound
