use Rattle.syn_plan.proofs.Named.{factored_needed}
use Rattle.syn_plan.proofs.laws.factored_names.Goals as goal

pub returns : goal.returns
returns c = λ n order f h. factored_needed n order f
