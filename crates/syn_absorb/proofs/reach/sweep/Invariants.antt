use Rattle.std.proofs.Common.{◌+◌}
use Rattle.syn_lutnet.specs.Data.{luts_data}
use Rattle.syn_absorb.specs.Reaching.{IsSwept}
use Rattle.syn_absorb.proofs.reach.sweep.Given as goal

abbrev pub invariant-loop-j : goal.invariant-loop-j
invariant-loop-j l = IsSwept (l.source_count + 1) (luts_data l.luts) l.observed l.marks l.j
