use Rattle.std.proofs.Common.{◌≡◌, true, length, sym, subst}
use Rattle.syn_gain.specs.Leaves.{gates_within, names_within}
use Rattle.syn_rewrite.proofs.Candidates.{and_above, within_leaves}
use Rattle.syn_rewrite.proofs.proposer.candidate.Goals as goal

pub invariant_of-result : goal.invariant_of-result
invariant_of-result c =
    let graph = c.args.graph.now in
    let cut = c.args.cut in
    let leaves = cut.leaves.now in
    let plan = c.args.plan.now in
    let within = within_leaves graph.rows leaves cut.root cut.function plan c.requires.rooted.function c.requires.names in
    record {
      root_is_no_constant = and_above graph cut.root c.requires.rooted.gate;
      rising = c.requires.rooted.cut.rise;
      below_root = c.requires.rooted.cut.below;
      gates_name_leaves = subst (λ k. gates_within (length leaves) k plan.gates.items ≡ true) (sym c.requires.count) within.gates;
      out_names_leaf = subst (λ k. names_within (length leaves) k plan.out ≡ true) (sym c.requires.count) within.out;
    }
