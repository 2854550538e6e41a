use Rattle.std.proofs.Common.{◌≡◌, [], replicate}
use Rattle.syn_balance.proofs.balancer.nothing_waiting.Given as goal

abbrev pub invariant-loop : goal.invariant-loop
invariant-loop l = l.waiting.items ≡ replicate l.counter []
