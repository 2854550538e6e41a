use Rattle.std.proofs.Common.{◌≡◌, ◌++◌, drop}
use Rattle.syn_lutnet.specs.Data.{luts_data}
use Rattle.syn_mfs.proofs.passes.all_copied.Given as goal

abbrev pub invariant-loop-lut : goal.invariant-loop-lut
invariant-loop-lut l = luts_data l.copies.items ++ luts_data (drop l.lut-index l.luts) ≡ luts_data l.luts
