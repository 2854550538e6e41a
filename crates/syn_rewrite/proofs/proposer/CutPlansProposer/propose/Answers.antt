use Rattle.std.proofs.Common.{ℕ, ◌++◌, List, flat_map, take, ap, ◌∙◌}
use Rattle.syn_cuts.specs.Leaves.{leaves_of}
use Rattle.syn_cuts.specs.Lists.{nontrivial}
use Rattle.syn_gain.specs.Replacements.{Replacement}
use Rattle.syn_cut_functions.proofs.Listed.{within_lists}
use Rattle.syn_rewrite.specs.Rewriting.{cut_proposals}
use Rattle.syn_rewrite.proofs.Candidates.{and_there, more_cuts, same_root}
use Rattle.syn_rewrite.proofs.proposer.CutPlansProposer.propose.Goals as goal

pub nontrivial-cuts-requires : goal.nontrivial-cuts-requires
nontrivial-cuts-requires c = within_lists c.args.lists.now.cuts c.args.graph.now.rows c.args.node c.requires.lists.cuts (and_there c.args.graph.now c.args.node c.requires.node)

pub rooted_at-cut-requires-clause-cuts : goal.rooted_at-cut-requires-clause-cuts
rooted_at-cut-requires-clause-cuts c = c.nontrivial-cuts.ensures ∙ ap (λ lists. nontrivial lists c.args.node) c.requires.lists.cuts

pub loop-i-preserved : goal.loop-i-preserved
loop-i-preserved c =
    let rows = c.args.graph.now.rows in
    let node = c.args.node in
    let cuts = c.nontrivial-cuts.result.now in
    let cut = c.rooted_at-cut.result in
    let leaves = cut.leaves.now in
    let keeps = c.loop-i.invariant in
    record {
      proposals =
          c.in_ok-push_plans.ensures.proposals
          ∙ ap (λ (rs : List Replacement). rs ++ cut_proposals rows cut.root leaves) keeps.proposals
          ∙ ap (λ (n : ℕ). flat_map (cut_proposals rows node) (take c.loop-i.i (leaves_of cuts)) ++ cut_proposals rows n leaves) c.rooted_at-cut.ensures.root
          ∙ more_cuts rows node cuts c.loop-i.i leaves c.loop-i-test.true c.rooted_at-cut.ensures.leaves;
      roots = same_root c.loop-i.proposals.items c.push_plans.new.proposals.items cut.root node c.rooted_at-cut.ensures.root c.in_ok-push_plans.ensures.roots keeps.roots;
      sound = c.in_ok-push_plans.ensures.sound keeps.sound;
    }
