use Rattle.std.proofs.Common.{ℕ, ◌≡◌, List, length, map, ap, ◌∙◌, subst, Result, Ok, Err, IfOk, arith, rules}
use Rattle.std.proofs.lemmas.List.{length-map}
use Rattle.std.specs.Global.{Vec}
use Rattle.syn_rows.specs.declared.Lit.{Lit}
use Rattle.syn_rows.specs.declared.Row.{Row}
use Rattle.syn_gain.specs.declared.proposals.Proposal.{Proposal}
use Rattle.syn_gain.specs.Proposals.{replacement}
use Rattle.syn_gain.specs.Replacements.{Replacement}
use Rattle.syn_gain.proofs.Owning.{root_there}
use Rattle.syn_proposals.specs.Leftovers.{AreFirst, AreLeftovers, listed}
use Rattle.syn_proposals.proofs.Gathered.{at_same, none_left}
use Rattle.syn_proposals.proofs.Maps.{IfOk-map}
use Rattle.syn_proposals.proofs.remaining.leftovers.Goals as goal

-- what the list of all nodes leaves over is what all nodes do
of_all : {E : Type 0} (rows : List Row) (observed : List Lit) (proposals : ℕ → List Replacement) (count : ℕ) (items nodes : List ℕ) (result : Result (Vec Proposal) E) → AreFirst count items → count ≡ length rows
    → nodes ≡ items → IfOk result (λ v. AreLeftovers rows observed proposals (listed nodes) 0 (length nodes) (map replacement v.items))
    → IfOk result (λ v. AreLeftovers rows observed proposals (λ k. k) 0 (length rows) (map replacement v.items))
of_all rows observed proposals count items nodes (Ok v) is long same all =
    at_same rows observed proposals (listed nodes) (λ k. k) 0 (length rows) (map replacement v.items) (λ k lt. ap (λ (xs : List ℕ). listed xs k) same ∙ is.1 k (omega (arith, lt, long)))
    (subst (λ n. AreLeftovers rows observed proposals (listed nodes) 0 n (map replacement v.items)) (ap length same ∙ is.0 ∙ long) all)
of_all rows observed proposals count items nodes (Err e) is long same all = all

pub returns-clause-all : goal.returns-clause-all
returns-clause-all g c =
    let graph = c.args.graph.now in
    of_all graph.rows graph.observed (g.P.Proposer.proposals c.args.proposer.now graph.rows) _ c.in_ok-nodes.nodes.items c.as_slice-nodes.result.now c.leftovers_among.result c.in_ok-nodes.ensures (search rules) (search rules)
    c.leftovers_among.ensures.all

pub returns-clause-none : goal.returns-clause-none
returns-clause-none g c =
    let graph = c.args.graph.now in
    IfOk-map c.leftovers_among.result
    (λ v all empty node gate.
    none_left graph.rows graph.observed (g.P.Proposer.proposals c.args.proposer.now graph.rows) 0 (length graph.rows) (map replacement v.items) (length-map v.items replacement ∙ empty) all
    node (omega arith) (let there = root_there graph node gate in omega (arith, there)) gate)
    (returns-clause-all g c)
