use Rattle.syn_aiger.proofs.Undriven.{next_first, output_first, side_first}
use Rattle.syn_aiger.proofs.undefined.first_undefined.Goals as goal

pub returns-in-Some : goal.returns-in-Some
returns-in-Some c = next_first c.args.file.now.aig _ c.in-Some.ensures

pub returns-in-Some-undefined_output : goal.returns-in-Some-undefined_output
returns-in-Some-undefined_output c = output_first c.args.file.now.aig _ c.in_default.ensures c.in-Some-undefined_output.ensures

pub returns : goal.returns
returns c = side_first c.args.file.now.aig _ c.in_default.ensures c.in_default-undefined_output.ensures c.undefined_side.ensures
