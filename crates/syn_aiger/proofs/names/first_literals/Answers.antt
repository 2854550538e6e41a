use Rattle.syn_aiger.proofs.Counting.{literals_on}
use Rattle.syn_aiger.proofs.names.first_literals.Goals as goal

pub loop-k-preserved : goal.loop-k-preserved
loop-k-preserved c = literals_on c.loop-k.literals.items c.push.new.self.items _ c.loop-k.k c.args.count c.loop-k-test.true c.in_ok-push.ensures.items c.loop-k.invariant
