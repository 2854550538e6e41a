use Rattle.std.proofs.Common.{◌≡◌, ◌-◌, ◌≤◌, map, rules, subst}
use Rattle.syn_gain.specs.Proposals.{replacement}
use Rattle.syn_proposals.specs.Leftovers.{AreLeftovers, listed}
use Rattle.syn_proposals.specs.Sound.{IsSound}
use Rattle.syn_proposals.proofs.Gathered.{with_span}
use Rattle.syn_proposals.proofs.Maps.{both_found}
use Rattle.syn_proposals.proofs.remaining.take_part.Goals as goal

pub returns-clause-all : goal.returns-clause-all
returns-clause-all g c =
    let graph = c.args.graph.now in
    let proposals = g.P.Proposer.proposals c.args.proposer.now graph.rows in
    let at = listed c.args.nodes.now in
    let start : c.args.part.from ≡ c.args.reached = search rules in
    with_span graph.rows graph.observed proposals at c.args.reached c.args.part.to c.args.found.now.items c.args.part.found.items c.append.new.self.items
    (subst (λ k. k ≤ c.args.part.to) start c.requires.part.order) c.requires.all
    (subst (λ k. AreLeftovers graph.rows graph.observed proposals at k (c.args.part.to - k) (map replacement c.args.part.found.items)) start c.requires.part.all)
    c.in_ok-append.ensures.items

pub returns-clause-sound : goal.returns-clause-sound
returns-clause-sound g c =
    both_found (IsSound c.args.graph.now.rows) c.args.found.now.items c.args.part.found.items c.append.new.self.items c.in_ok-append.ensures.items c.requires.sound c.requires.part.sound
