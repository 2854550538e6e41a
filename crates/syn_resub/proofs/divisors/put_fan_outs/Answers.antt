use Rattle.std.proofs.Common.{arith}
use Rattle.syn_resub.proofs.Scanned.{putting_ends, putting_there}
use Rattle.syn_resub.proofs.divisors.put_fan_outs.Goals as goal

pub loop-m-init : goal.loop-m-init
loop-m-init c = (0, c.first_over-m.ensures, c.requires.put)

pub put_fan_out-requires-clause-there : goal.put_fan_out-requires-clause-there
put_fan_out-requires-clause-there c =
    (putting_there c.args.graph.now.rows c.args.leaves.now c.args.node c.args.d c.loop-m.m c.loop-m.nodes.items c.loop-m-test.true (let l = c.requires.node in omega (arith, l)) c.loop-m.invariant).0

pub put_fan_out-requires-clause-over : goal.put_fan_out-requires-clause-over
put_fan_out-requires-clause-over c =
    (putting_there c.args.graph.now.rows c.args.leaves.now c.args.node c.args.d c.loop-m.m c.loop-m.nodes.items c.loop-m-test.true (let l = c.requires.node in omega (arith, l)) c.loop-m.invariant).1

pub put_fan_out-requires-clause-put : goal.put_fan_out-requires-clause-put
put_fan_out-requires-clause-put c =
    (putting_there c.args.graph.now.rows c.args.leaves.now c.args.node c.args.d c.loop-m.m c.loop-m.nodes.items c.loop-m-test.true (let l = c.requires.node in omega (arith, l)) c.loop-m.invariant).2

pub returns : goal.returns
returns c = record {
  put = putting_ends c.args.graph.now.rows c.args.leaves.now c.args.node c.args.d c.loop-m.m c.loop-m.nodes.items (let l = c.requires.node in omega (arith, l)) (let past = c.loop-m-test.false in omega (arith, past)) c.loop-m.invariant;
}
