use Rattle.std.proofs.Common.{◌≡◌, ◌+◌, ◌*◌, ◌≤◌, drop}
use Rattle.syn_lutnet.specs.LutData.{net_gates}
use Rattle.syn_lutnet.specs.Data.{luts_data}
use Rattle.syn_lutnet.proofs.nets.gates_of.Given as goal

abbrev pub invariant-loop-lut : goal.invariant-loop-lut
invariant-loop-lut l = record {
  left : l.gates + net_gates (luts_data (drop l.lut-index l.luts)) ≡ net_gates (luts_data l.luts);
  few : l.gates ≤ 381 * l.lut-index;
}
