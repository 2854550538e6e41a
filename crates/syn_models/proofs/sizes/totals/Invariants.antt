use Rattle.std.proofs.Common.{take, drop}
use Rattle.syn_models.proofs.Sums.{IsCounted}
use Rattle.syn_models.proofs.sizes.totals.Given as goal

abbrev pub invariant-loop-m : goal.invariant-loop-m
invariant-loop-m l = IsCounted l.words l.inner l.totals.items (take l.m-index l.order) (drop l.m-index l.order)
