use Rattle.std.proofs.Common.{◌≡◌, drop}
use Rattle.std.specs.List.{list_all}
use Rattle.syn_lutnet.specs.LutData.{is_input}
use Rattle.syn_mfs.proofs.checks.are_inputs.Given as goal

abbrev pub invariant-loop-input : goal.invariant-loop-input
invariant-loop-input l = list_all (is_input l.signal) (drop l.input-index l.inputs) ≡ list_all (is_input l.signal) l.inputs
