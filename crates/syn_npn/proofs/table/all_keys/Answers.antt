use Rattle.std.proofs.Common.{arith}
use Rattle.syn_npn.proofs.Noting.{all_seen}
use Rattle.syn_npn.proofs.table.all_keys.Goals as goal

pub returns-clause-keyed : goal.returns-clause-keyed
returns-clause-keyed c = λ f l.
    all_seen c.loop-number.number c.loop-number.keys.items (omega (arith, c.loop-number-test.false, c.requires)) c.loop-number.invariant.seen f (omega (arith, l, c.loop-number.invariant.count))
