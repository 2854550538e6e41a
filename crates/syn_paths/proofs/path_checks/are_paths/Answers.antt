use Rattle.std.proofs.Common.{◌≡◌, ◌∙◌, sym, subst, true}
use Rattle.syn_paths.specs.Checking.{all_within, is_list}
use Rattle.syn_paths.proofs.Checked.{list_within}
use Rattle.syn_paths.proofs.path_checks.are_paths.Goals as goal

pub meet-requires-clause-within : goal.meet-requires-clause-within
meet-requires-clause-within c =
    let ok : is_list c.args.rows.now c.args.labels.now c.args.level c.args.marks.now c.args.stamp c.as_slice-nodes.result.now ≡ true = sym c.is_path.ensures ∙ c.if-not-is_path.false in
    subst (λ k. all_within k c.as_slice-nodes.result.now ≡ true) (c.requires.marks ∙ sym c.loop-list.invariant.long)
    (list_within c.args.rows.now c.args.labels.now c.args.level c.args.marks.now c.args.stamp c.as_slice-nodes.result.now c.requires.order c.requires.stamp ok)
