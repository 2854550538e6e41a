use Rattle.std.proofs.Math.ListN.{drop_of_length-le}
use Rattle.std.proofs.Common.{drop}
use Rattle.syn_decide.specs.Dying.{counted_of}
use Rattle.syn_decide.proofs.Counting.{all_counted}
use Rattle.syn_decide.proofs.mffc.counted_of.Goals as goal

pub returns : goal.returns
returns c =
    all_counted c.loop-i.rows.items (counted_of c.args.inner.now c.args.counts.now) (drop c.loop-i.i c.args.inner.now) (drop c.loop-i.i c.args.counts.now)
    (drop_of_length-le c.args.counts.now c.loop-i-test.false) c.loop-i.invariant.rest
