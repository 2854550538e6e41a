use Rattle.std.proofs.Common.{◌≡◌, ◌++◌, length, reverse, true, ap, ◌∙◌, subst, arith}
use Rattle.syn_cones.specs.Walk.{IsConeWalk, inner_refs, has_all, rises}
use Rattle.syn_cones.proofs.Walking.{closed_found, found_on, last_led, led_below, rises_first, rises_found}
use Rattle.syn_cones.proofs.Tabling.{function_from, functions_on, vars_on}
use Rattle.syn_cones.proofs.cones.cone_table.Goals as goal

pub node_table-table-requires-clause-node : goal.node_table-table-requires-clause-node
node_table-table-requires-clause-node c =
    let rows = c.args.rows.now in
    let leaves = c.args.leaves.now in
    let nodes = c.loop-node.nodes.items in
    let walk = subst (λ l. IsConeWalk rows leaves c.args.root l nodes) c.in-Some.ensures.items c.loop-node.invariant.walk in
    let led = last_led rows leaves c.args.root c.pop.new.self.items nodes c.in-Some.node walk in
    let low = led_below rows leaves c.args.root led.0 c.in-Some.node c.requires.order led.1 in
    omega (arith, low, c.requires.root)

pub node_table-table-requires-clause-there : goal.node_table-table-requires-clause-there
node_table-table-requires-clause-there c =
    let rows = c.args.rows.now in
    let leaves = c.args.leaves.now in
    let nodes = c.loop-node.nodes.items in
    let walk = subst (λ l. IsConeWalk rows leaves c.args.root l nodes) c.in-Some.ensures.items c.loop-node.invariant.walk in
    ap (λ l. has_all l (inner_refs rows leaves c.in-Some.node)) c.as_slice.ensures
    ∙ (closed_found rows leaves c.pop.new.self.items nodes c.in-Some.node walk.closed).1

pub node_table-table-requires-clause-rising : goal.node_table-table-requires-clause-rising
node_table-table-requires-clause-rising c = rw c.as_slice.ensures (rises_first c.loop-node.nodes.items (reverse c.loop-node.cone.items) c.loop-node.invariant.rising)

pub loop-node-preserved : goal.loop-node-preserved
loop-node-preserved c =
    let rows = c.args.rows.now in
    let leaves = c.args.leaves.now in
    let root = c.args.root in
    let n = c.in-Some.node in
    let front = c.pop.new.self.items in
    let nodes = c.loop-node.nodes.items in
    let tables = c.loop-node.tables.items in
    let t = c.node_table-table.result in
    let walk = subst (λ l. IsConeWalk rows leaves root l nodes) c.in-Some.ensures.items c.loop-node.invariant.walk in
    let led = last_led rows leaves root front nodes n walk in
    let values = rw (c.as_slice.ensures, c.as_slice-in-Some.ensures) at c.node_table-table.ensures.values in
    let new = function_from rows leaves root nodes tables n t led.0 c.loop-node.invariant.functions c.requires.cut led.1 c.node_table-table.ensures.vars values in
    record {
      walk = rw c.in_ok-push.ensures.ok (found_on rows leaves root front nodes n walk);
      functions = rw (c.in_ok-push.ensures.ok, c.in_ok-push-2.ensures.ok) (functions_on rows leaves root nodes tables n t c.loop-node.invariant.functions new);
      rising = rw c.in_ok-push.ensures.ok (rises_found nodes front n (subst (λ l. rises (nodes ++ reverse l) ≡ true) c.in-Some.ensures.items c.loop-node.invariant.rising));
      vars = rw c.in_ok-push-2.ensures.ok (vars_on (length leaves) tables t c.loop-node.invariant.vars c.node_table-table.ensures.vars);
    }
