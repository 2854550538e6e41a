use Rattle.std.proofs.Common.{arith}
use Rattle.syn_hashed.proofs.Looking.{found_above, found_below, found_nowhere}
use Rattle.syn_gain.proofs.lookup.literal_below.Goals as goal

pub returns-in-Some-clause-literal : goal.returns-in-Some-clause-literal
returns-in-Some-clause-literal c = found_below c.args.rows.now c.requires.pairs c.args.root c.args.x c.args.y c.in-Some.node c.in-Some.ensures.some.1 c.if-node-root.true c.of.result (omega (arith, c.of.ensures))

pub returns-in_default-clause-literal : goal.returns-in_default-clause-literal
returns-in_default-clause-literal c = found_above c.args.rows.now c.requires.pairs c.args.root c.args.x c.args.y c.in-Some.node c.in-Some.ensures.some.1 c.if-node-root.false

pub returns-in_default-2-clause-literal : goal.returns-in_default-2-clause-literal
returns-in_default-2-clause-literal c = found_nowhere c.args.rows.now c.requires.pairs c.args.root c.args.x c.args.y c.in_default.ensures.none
