use Rattle.std.proofs.Common.{rules, ℕ, ◌≤◌, [], All, List, flat_map, length, ap, sym, subst, ◌∙◌, arith}
use Rattle.std.proofs.lemmas.List.{take_all}
use Rattle.syn_cuts.specs.Leaves.{leaves_of}
use Rattle.syn_cuts.specs.Lists.{nontrivial}
use Rattle.syn_cuts.proofs.Putting.{leaves_length}
use Rattle.syn_fanout_free.specs.Bounding.{IsMostLost}
use Rattle.syn_fanout_free.specs.Saved.{count_in}
use Rattle.syn_gain.specs.Proposals.{replacement}
use Rattle.syn_gain.specs.Replacements.{Replacement}
use Rattle.syn_proposals.specs.Closing.{IsFirst, SavesNothing}
use Rattle.syn_cut_functions.proofs.Listed.{within_lists}
use Rattle.syn_rewrite.specs.Rewriting.{cut_proposals}
use Rattle.syn_rewrite.proofs.Candidates.{and_there, first_of_all, nothing_more}
use Rattle.syn_rewrite.proofs.proposer.CutPlansProposer.first_saving.Goals as goal

pub nontrivial-cuts-requires : goal.nontrivial-cuts-requires
nontrivial-cuts-requires c = within_lists c.args.lists.now.cuts c.args.graph.now.rows c.args.node c.requires.lists.cuts (and_there c.args.graph.now c.args.node c.requires.node)

pub rooted_at-cut-requires-clause-cuts : goal.rooted_at-cut-requires-clause-cuts
rooted_at-cut-requires-clause-cuts c = c.nontrivial-cuts.ensures ∙ ap (λ lists. nontrivial lists c.args.node) c.requires.lists.cuts

pub some_of_function_saves-requires-clause-most : goal.some_of_function_saves-requires-clause-most
some_of_function_saves-requires-clause-most c =
    subst (λ (n : ℕ). IsMostLost c.args.graph.now.rows (count_in c.args.uses.now.counts.items) n [] c.in_ok-most.most) (sym c.rooted_at-cut.ensures.root) c.in_ok-most.ensures.most

pub returns-in-Some-clause-first : goal.returns-in-Some-clause-first
returns-in-Some-clause-first c =
    let graph = c.args.graph.now in
    let node = c.args.node in
    let cut = c.rooted_at-cut.result in
    let first : IsFirst graph.rows graph.observed (cut_proposals graph.rows cut.root cut.leaves.now) (replacement c.in-Some.found) = search rules in
    first_of_all graph.rows graph.observed node c.nontrivial-cuts.result.now c.loop-i.i cut.leaves.now (replacement c.in-Some.found)
    (c.nontrivial-cuts.ensures ∙ ap (λ lists. nontrivial lists node) c.requires.lists.cuts) c.loop-i-test.true c.rooted_at-cut.ensures.leaves c.loop-i.invariant
    (subst (λ (n : ℕ). IsFirst graph.rows graph.observed (cut_proposals graph.rows n cut.leaves.now) (replacement c.in-Some.found)) c.rooted_at-cut.ensures.root first)

pub loop-i-preserved : goal.loop-i-preserved
loop-i-preserved c =
    let graph = c.args.graph.now in
    let node = c.args.node in
    let cuts = c.nontrivial-cuts.result.now in
    let cut = c.rooted_at-cut.result in
    let none : All (SavesNothing graph.rows graph.observed) (cut_proposals graph.rows cut.root cut.leaves.now) = search rules in
    nothing_more graph.rows graph.observed node cuts c.loop-i.i cut.leaves.now cut.root c.loop-i-test.true c.rooted_at-cut.ensures.root c.rooted_at-cut.ensures.leaves c.loop-i.invariant none

pub returns-clause-none : goal.returns-clause-none
returns-clause-none c =
    let graph = c.args.graph.now in
    let node = c.args.node in
    let cuts = c.nontrivial-cuts.result.now in
    let end : length cuts ≤ c.loop-i.i = c.loop-i-test.false in
    subst (λ (l : List Replacement). All (SavesNothing graph.rows graph.observed) l)
    (ap (flat_map (cut_proposals graph.rows node)) (take_all c.loop-i.i (leaves_of cuts) (omega (arith, end, leaves_length cuts)) ∙ c.nontrivial-cuts.ensures ∙ ap (λ lists. nontrivial lists node) c.requires.lists.cuts))
    c.loop-i.invariant

pub loop-i-preserved-then-not-branch : goal.loop-i-preserved-then-not-branch
loop-i-preserved-then-not-branch c =
    let graph = c.args.graph.now in
    let node = c.args.node in
    let cuts = c.nontrivial-cuts.result.now in
    let cut = c.rooted_at-cut.result in
    let none : All (SavesNothing graph.rows graph.observed) (cut_proposals graph.rows cut.root cut.leaves.now) = search rules in
    nothing_more graph.rows graph.observed node cuts c.loop-i.i cut.leaves.now cut.root c.loop-i-test.true c.rooted_at-cut.ensures.root c.rooted_at-cut.ensures.leaves c.loop-i.invariant none
