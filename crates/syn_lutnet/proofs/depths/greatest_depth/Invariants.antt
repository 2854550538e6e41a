use Rattle.std.proofs.Common.{◌≡◌, max, drop}
use Rattle.syn_lutnet.specs.LutData.{depth_in, greatest}
use Rattle.syn_lutnet.proofs.depths.greatest_depth.Given as goal

abbrev pub invariant-loop-signal : goal.invariant-loop-signal
invariant-loop-signal l = max l.most (greatest (depth_in l.depths) (drop l.signal-index l.signals)) ≡ greatest (depth_in l.depths) l.signals
