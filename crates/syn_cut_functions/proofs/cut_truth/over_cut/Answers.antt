use Rattle.std.proofs.Common.{List, subst, sym, arith}
use Rattle.syn_rows.specs.declared.Row.{Row}
use Rattle.syn_rows.specs.Rows.{InOrder}
use Rattle.syn_cut_functions.proofs.CutTruth.{not_below}
use Rattle.syn_cut_functions.proofs.Listed.{in_order, refs, within_lists}
use Rattle.syn_cut_functions.proofs.cut_truth.over_cut.Goals as goal

pub from_fan_ins-requires-clause-few : goal.from_fan_ins-requires-clause-few
from_fan_ins-requires-clause-few c = c.requires.leaves.few

pub from_fan_ins-requires-clause-first : goal.from_fan_ins-requires-clause-first
from_fan_ins-requires-clause-first c =
    let graph = c.args.graph.now in
    let low = (refs graph c.args.node c.args.known.first c.args.known.second c.requires.row).0 in
    within_lists c.args.cuts.now graph.rows _ c.requires.cuts (omega (arith, low, c.requires.node))

pub from_fan_ins-requires-clause-second : goal.from_fan_ins-requires-clause-second
from_fan_ins-requires-clause-second c =
    let graph = c.args.graph.now in
    let low = (refs graph c.args.node c.args.known.first c.args.known.second c.requires.row).1 in
    within_lists c.args.cuts.now graph.rows _ c.requires.cuts (omega (arith, low, c.requires.node))

pub returns-in-Some : goal.returns-in-Some
returns-in-Some c =
    c.in-Some.ensures c.args.graph.now.rows (in_order c.args.graph.now) c.requires.row (not_below c.args.node c.args.leaves.now c.requires.leaves.below) c.requires.cuts c.requires.left c.requires.right

pub of_cone-requires-clause-order : goal.of_cone-requires-clause-order
of_cone-requires-clause-order c = subst (λ (rows : List Row). InOrder rows) (sym c.as_slice.ensures) (in_order c.args.graph.now)
