use Rattle.std.proofs.Common.{ap, ◌∙◌}
use Rattle.syn_cuts.specs.Lists.{nontrivial}
use Rattle.syn_cut_functions.proofs.Listed.{within_lists}
use Rattle.syn_rewrite.proofs.Candidates.{and_there, same_root}
use Rattle.syn_rewrite.proofs.proposer.CutPlansProposer.commit_candidates.Goals as goal

pub nontrivial-cuts-requires : goal.nontrivial-cuts-requires
nontrivial-cuts-requires c = within_lists c.args.lists.now.cuts c.args.graph.now.rows c.args.node c.requires.lists.cuts (and_there c.args.graph.now c.args.node c.requires.node)

pub rooted_at-cut-requires-clause-cuts : goal.rooted_at-cut-requires-clause-cuts
rooted_at-cut-requires-clause-cuts c = c.nontrivial-cuts.ensures ∙ ap (λ lists. nontrivial lists c.args.node) c.requires.lists.cuts

pub loop-i-preserved : goal.loop-i-preserved
loop-i-preserved c =
    same_root c.loop-i.proposals.items c.push_candidates.new.proposals.items c.rooted_at-cut.result.root c.args.node c.rooted_at-cut.ensures.root c.in_ok-push_candidates.ensures c.loop-i.invariant
