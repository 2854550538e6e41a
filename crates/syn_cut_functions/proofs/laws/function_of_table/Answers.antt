use Rattle.syn_cut_functions.proofs.Numbers.{function_of_table as law}
use Rattle.syn_cut_functions.proofs.laws.function_of_table.Goals as goal

pub returns : goal.returns
returns c = law
