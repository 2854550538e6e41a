use Rattle.std.proofs.Common.{◌≡◌, max, drop}
use Rattle.syn_lutnet.specs.LutData.{greatest}
use Rattle.syn_lutnet.proofs.depths.deepest.Given as goal

abbrev pub invariant-loop-depth : goal.invariant-loop-depth
invariant-loop-depth l = max l.most (greatest (λ d. d) (drop l.depth-index l.depths)) ≡ greatest (λ d. d) l.depths
