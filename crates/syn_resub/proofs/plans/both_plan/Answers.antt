use Rattle.std.proofs.Common.{◌≡◌, [], ◌∷◌, true, subst}
use Rattle.syn_rows.proofs.Nodes.{has_here, has_there}
use Rattle.syn_resub.specs.Needed.{is_there}
use Rattle.syn_resub.proofs.Needing.{both_listed}
use Rattle.syn_resub.proofs.Planned.{divisors_of, inner_of, there_of}
use Rattle.syn_resub.proofs.plans.both_plan.Goals as goal

pub needed-inner-requires-clause-divisors : goal.needed-inner-requires-clause-divisors
needed-inner-requires-clause-divisors c = divisors_of c.args.graph.now c.args.node c.args.divided.now c.requires.divided c.as_slice-leaves.result.now c.as_slice.result.now c.as_slice-leaves.ensures.value c.as_slice.ensures.value

pub gates-plan-requires-clause-inner : goal.gates-plan-requires-clause-inner
gates-plan-requires-clause-inner c =
    inner_of c.args.graph.now c.args.node c.args.divided.now c.requires.divided c.as_slice-leaves.result.now (c.node.result ∷ c.node-2.result ∷ []) c.as_slice-2.result.now c.needed-inner.result.items c.as_slice-leaves.ensures.value c.as_slice-2.ensures.value
    c.needed-inner.ensures (both_listed c.args.divided.now.nodes.items c.node.result c.node-2.result c.args.first c.args.second c.node.ensures c.node-2.ensures c.requires.made)

pub lit_in-first-requires-clause-there : goal.lit_in-first-requires-clause-there
lit_in-first-requires-clause-there c =
    subst (λ k. is_there c.as_slice-leaves.result.now c.as_slice-3.result.now k ≡ true) c.node.ensures
    (there_of c.args.graph.now c.args.node c.args.divided.now c.requires.divided c.as_slice-leaves.result.now (c.node.result ∷ c.node-2.result ∷ []) c.as_slice-3.result.now c.needed-inner.result.items c.node.result c.as_slice-leaves.ensures.value
    c.as_slice-3.ensures.value c.needed-inner.ensures (both_listed c.args.divided.now.nodes.items c.node.result c.node-2.result c.args.first c.args.second c.node.ensures c.node-2.ensures c.requires.made) (has_here c.node.result (c.node-2.result ∷ [])))

pub lit_in-second-requires-clause-there : goal.lit_in-second-requires-clause-there
lit_in-second-requires-clause-there c =
    subst (λ k. is_there c.as_slice-leaves.result.now c.as_slice-4.result.now k ≡ true) c.node-2.ensures
    (there_of c.args.graph.now c.args.node c.args.divided.now c.requires.divided c.as_slice-leaves.result.now (c.node.result ∷ c.node-2.result ∷ []) c.as_slice-4.result.now c.needed-inner.result.items c.node-2.result c.as_slice-leaves.ensures.value
    c.as_slice-4.ensures.value c.needed-inner.ensures (both_listed c.args.divided.now.nodes.items c.node.result c.node-2.result c.args.first c.args.second c.node.ensures c.node-2.ensures c.requires.made)
    (has_there c.node.result c.node-2.result (c.node-2.result ∷ []) (has_here c.node-2.result [])))
