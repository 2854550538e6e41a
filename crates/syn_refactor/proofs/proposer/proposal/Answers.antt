use Rattle.std.proofs.Common.{◌∷◌, [], sym, ap, ◌∙◌, subst}
use Rattle.syn_apply.specs.Sound.{IsSoundBy}
use Rattle.syn_gain.specs.Replacements.{Replacement}
use Rattle.syn_refactor.proofs.proposer.proposal.Goals as goal

pub returns-clause-proposal : goal.returns-clause-proposal
returns-clause-proposal c = ap (λ (r : Replacement). r ∷ []) c.owned.ensures ∙ c.candidate.ensures.is

pub returns-clause-root : goal.returns-clause-root
returns-clause-root c = ap (λ (r : Replacement). r.root) c.owned.ensures ∙ c.candidate.ensures.root

pub returns-clause-sound : goal.returns-clause-sound
returns-clause-sound c = subst (IsSoundBy c.args.graph.now.rows) (sym c.owned.ensures) c.candidate.ensures.sound
