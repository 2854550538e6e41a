use Rattle.syn_decide.proofs.Fitting.{always_fitting, hits_always_inside}
use Rattle.syn_decide.proofs.laws.always_fitting.Goals as goal

pub returns-clause-fitting : goal.returns-clause-fitting
returns-clause-fitting c = always_fitting

pub returns-clause-hits : goal.returns-clause-hits
returns-clause-hits c = hits_always_inside
