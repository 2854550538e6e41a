use Rattle.std.proofs.Common.{◌≡◌, suc, true, false, rules, sym, ◌∙◌, subst}
use Rattle.syn_rows.specs.declared.Row.TheVariants.{And}
use Rattle.syn_rows.specs.Rows.{node_of, row_at}
use Rattle.syn_rows.specs.Nodes.{has_node}
use Rattle.syn_growing.proofs.InGraphs.{in_order}
use Rattle.syn_resub.specs.Scanning.{IsPutUpTo}
use Rattle.syn_resub.proofs.InGraph.{first_is_smaller}
use Rattle.syn_resub.proofs.Scanned.{joins_is, over_above, put_few, put_none, put_one}
use Rattle.syn_resub.proofs.divisors.put_fan_out.Goals as goal

pub put-requires : goal.put-requires
put-requires c = put_few c.args.graph.now.rows c.args.leaves.now c.args.node c.args.d c.args.m c.args.nodes.now.items c.requires.put

pub returns-then-has_node : goal.returns-then-has_node
returns-then-has_node c =
    let rows = c.args.graph.now.rows in
    let is : row_at rows c.args.m ≡ And c.in-And.a c.in-And._b = search rules in
    let here : has_node c.args.nodes.now.items (node_of c.in-And.a) ≡ true = search rules in
    let same = joins_is rows c.args.leaves.now c.args.node c.args.d c.args.m c.args.nodes.now.items c.in-And.a c.in-And._b (first_is_smaller c.args.graph.now) is c.requires.over c.requires.put in
    record {
      put = subst (IsPutUpTo rows c.args.leaves.now c.args.node c.args.d (suc c.args.m)) (sym c.put.ensures)
          (put_one rows c.args.leaves.now c.args.node c.args.d c.args.m c.args.nodes.now.items (over_above rows c.args.d c.args.m (in_order c.args.graph.now) c.requires.over) c.requires.below c.requires.over (same ∙ here) c.requires.put);
    }

pub returns-else-has_node : goal.returns-else-has_node
returns-else-has_node c =
    let rows = c.args.graph.now.rows in
    let is : row_at rows c.args.m ≡ And c.in-And.a c.in-And._b = search rules in
    let here : has_node c.args.nodes.now.items (node_of c.in-And.a) ≡ false = search rules in
    let same = joins_is rows c.args.leaves.now c.args.node c.args.d c.args.m c.args.nodes.now.items c.in-And.a c.in-And._b (first_is_smaller c.args.graph.now) is c.requires.over c.requires.put in
    record { put = put_none rows c.args.leaves.now c.args.node c.args.d c.args.m c.args.nodes.now.items (same ∙ here) c.requires.put }
