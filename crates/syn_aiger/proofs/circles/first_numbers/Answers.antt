use Rattle.syn_aiger.proofs.Counting.{numbers_on}
use Rattle.syn_aiger.proofs.circles.first_numbers.Goals as goal

pub loop-k-preserved : goal.loop-k-preserved
loop-k-preserved c = numbers_on c.loop-k.numbers.items c.push.new.self.items _ c.loop-k.k c.args.count c.loop-k-test.true c.in_ok-push.ensures.items c.loop-k.invariant
