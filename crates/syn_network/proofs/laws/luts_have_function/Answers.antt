use Rattle.syn_network.proofs.LutValues.{luts_have_function_is}
use Rattle.syn_network.proofs.laws.luts_have_function.Goals as goal

pub returns : goal.returns
returns c = luts_have_function_is c.ordered_has_one.ensures
