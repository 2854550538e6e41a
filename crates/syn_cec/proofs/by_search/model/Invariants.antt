use Rattle.std.proofs.Common.{◌≡◌, length}
use Rattle.syn_cec.proofs.by_search.model.Given as goal

abbrev pub invariant-loop-source : goal.invariant-loop-source
invariant-loop-source l = length l.values.items ≡ l.source
