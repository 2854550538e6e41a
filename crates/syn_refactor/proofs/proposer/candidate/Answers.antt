use Rattle.std.proofs.Common.{◌≡◌, ◌≤◌, List, Bool, length, sym, ◌∙◌, subst}
use Rattle.syn_gain.specs.Replacements.{leaf_values}
use Rattle.syn_refactor.proofs.Factored.{candidate_is, candidate_sound}
use Rattle.syn_refactor.proofs.proposer.candidate.Goals as goal

pub returns-clause-few : goal.returns-clause-few
returns-clause-few c = subst (λ ls. length ls ≤ 8) (sym (c.over.ensures.leaves ∙ c.as_slice.ensures.value)) c.requires.cone.cut.few

pub returns-clause-is : goal.returns-clause-is
returns-clause-is c =
    let cone = c.args.cone.now in
    candidate_is c.args.graph.now c.args.node cone.leaves.items cone.function c.args.plan.now c.over.result c.requires.gate c.requires.cone c.requires.plan
    c.over.ensures.root (c.over.ensures.leaves ∙ c.as_slice.ensures.value) c.over.ensures.plan

pub returns-clause-sound : goal.returns-clause-sound
returns-clause-sound c =
    let cone = c.args.cone.now in
    let all : (values : List Bool) → leaf_values (length values) values ≡ values = c.all_leaf_values.ensures in
    candidate_sound c.args.graph.now.rows c.args.node cone.leaves.items cone.function c.args.plan.now c.over.result c.requires.cone c.requires.plan all
    c.over.ensures.root (c.over.ensures.leaves ∙ c.as_slice.ensures.value) c.over.ensures.plan
