use Rattle.std.proofs.Common.{◌≡◌, ◌-◌, ◌^◌, ◌++◌, filter, length, map}
use Rattle.syn_lists.specs.Numbers.{numbers_from}
use Rattle.syn_truth.specs.Truth.{value_at}
use Rattle.syn_lutnet.specs.LutData.{ones_of}
use Rattle.syn_network.specs.LutSpelling.{minterm_row}
use Rattle.syn_text.proofs.lut_netlist.lut_rows.Given as goal

abbrev pub invariant-loop-minterm : goal.invariant-loop-minterm
invariant-loop-minterm l = l.rows.items ++ map (minterm_row (length l.lut.inputs.items)) (filter (value_at l.lut.truth) (numbers_from l.minterm (2 ^ l.lut.truth.vars - l.minterm))) ≡ map (minterm_row (length l.lut.inputs.items)) (ones_of l.lut.truth)
