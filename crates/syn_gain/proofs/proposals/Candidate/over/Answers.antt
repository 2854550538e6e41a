use Rattle.std.proofs.Common.{length}
use Rattle.syn_gain.proofs.Naming.{all_named, all_gates_named}
use Rattle.syn_gain.proofs.proposals.Candidate.over.Goals as goal

pub invariant_of-result : goal.invariant_of-result
invariant_of-result c = record {
  root_is_no_constant = c.requires.root;
  rising = c.requires.rising;
  below_root = c.requires.below;
  gates_name_leaves = all_gates_named (length c.args.leaves.now) c.args.plan.now.leaves c.requires.few c.args.plan.now.gates.items;
  out_names_leaf = all_named (length c.args.leaves.now) c.args.plan.now.leaves c.requires.few c.args.plan.now.out;
}
