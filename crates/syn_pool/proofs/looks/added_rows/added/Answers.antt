use Rattle.std.proofs.Common.{List, length, sym, ap, subst, arith}
use Rattle.syn_rows.specs.declared.Row.{Row}
use Rattle.syn_rows.specs.declared.TheConstants.{NODE_LIMIT}
use Rattle.syn_gain.specs.Lookups.{ArePlaced}
use Rattle.syn_gain.proofs.NodesThere.{begun_placed}
use Rattle.syn_pool.proofs.looks.added_rows.added.Goals as goal

pub loop-gate-init : goal.loop-gate-init
loop-gate-init c = record {
  placed = subst (λ (extra : List Row). ArePlaced NODE_LIMIT c.begin.new.self.literals.items extra) (sym c.begin.ensures.none)
      (begun_placed NODE_LIMIT c.args.plan.now.leaves c.args.leaves.now c.begin.new.self.literals.items c.begin.ensures.literals (omega arith) (omega arith) (λ i lt. c.are_nodes.ensures c.if-not-are_nodes.false i 0 lt));
  count = omega (arith, c.begin.ensures.count);
  few = omega (arith, ap length c.begin.ensures.none);
  again = omega arith;
}
