use Rattle.std.proofs.Common.{[], refl, arith, rules}
use Rattle.syn_commit.proofs.Trying.{none_ahead, tried_none, tried_one}
use Rattle.syn_commit.proofs.spare.Spare.fill.Goals as goal

pub loop-node-init : goal.loop-node-init
loop-node-init c = record {
  table = c.requires.table;
  pool = c.requires.pool;
  tried = ([], tried_none _ _ _, omega arith);
  known = refl;
}

pub try_node-requires-clause-none : goal.try_node-requires-clause-none
try_node-requires-clause-none c =
    let t = c.loop-node.invariant.tried in
    none_ahead c.args.from c.args.count _ _ _ _ t.0 c.requires.none t.1 c.loop-node.node t.2 (search rules)

pub loop-node-preserved : goal.loop-node-preserved
loop-node-preserved c =
    let t = c.loop-node.invariant.tried in
    record {
      table = search rules;
      pool = c.try_node.ensures.pool;
      tried = tried_one c.args.from c.loop-node.node _ _ _ _ _ _ t.0 t.1 t.2 c.try_node.ensures.tried;
      known = search rules;
    }
