use Rattle.syn_function_plans.proofs.Classes.{class_of_function as law}
use Rattle.syn_function_plans.proofs.laws.class_of_function.Goals as goal

pub returns : goal.returns
returns c = law
