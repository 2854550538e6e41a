use Rattle.std.proofs.Common.{length}
use Rattle.syn_lutnet.specs.Data.{lut_data}
use Rattle.syn_absorb.specs.Needed.{IsNarrower}
use Rattle.syn_absorb.proofs.narrow.reduced.Given as goal

abbrev pub invariant-loop-next : goal.invariant-loop-next
invariant-loop-next l = IsNarrower (lut_data l.fn.lut) (lut_data l.narrow)

abbrev pub decreases-loop-next : goal.decreases-loop-next
decreases-loop-next l = length l.narrow.inputs.items
