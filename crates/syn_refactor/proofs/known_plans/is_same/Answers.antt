use Rattle.std.proofs.Common.{sym, ◌∙◌}
use Rattle.syn_refactor.proofs.Known.{same_words}
use Rattle.syn_refactor.proofs.known_plans.is_same.Goals as goal

pub returns : goal.returns
returns c = λ h. same_words c.args.table c.args.other (sym c.eq.ensures ∙ h)
