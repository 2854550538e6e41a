use Rattle.std.proofs.Common.{◌≡◌, ◌<◌, ◌+◌, length, sym, ap, ◌∙◌, subst, arith, get_or}
use Rattle.std.proofs.lemmas.List.{take_all}
use Rattle.syn_resub.specs.Scanning.{IsScannedAt}
use Rattle.syn_resub.proofs.InGraph.{first_is_smaller}
use Rattle.syn_resub.proofs.Scanned.{put_below, scan_all, scan_begins, scan_done, scan_next}
use Rattle.syn_resub.proofs.divisors.divisors.Goals as goal

pub loop-i-init : goal.loop-i-init
loop-i-init c =
    let leaves = c.args.leaves.now in
    let same : c.loop-leaf.nodes.items ≡ leaves = c.loop-leaf.invariant.rest ∙ take_all c.loop-leaf.leaf-index leaves (omega (arith, c.loop-leaf-test.false)) in
    subst (IsScannedAt c.args.graph.now.rows leaves c.args.node 0) (sym same) (scan_begins c.args.graph.now.rows leaves c.args.node c.requires.leaves.rise (let few = c.requires.leaves.few in omega (arith, few)) (λ m h. (c.requires.leaves.within m h).1))

pub put_fan_outs-requires-clause-below : goal.put_fan_outs-requires-clause-below
put_fan_outs-requires-clause-below c =
    let rows = c.args.graph.now.rows in
    let leaves = c.args.leaves.now in
    let nodes = c.loop-i.nodes.items in
    let lt : c.loop-i.i < length nodes = omega (arith, c.loop-i-test.true, c.len.ensures.value) in
    let at = c.node_at-d.ensures ∙ ap (λ l. get_or l c.loop-i.i 0) c.as_slice.ensures.value in
    put_below rows leaves c.args.node c.node_at-d.result 0 nodes (scan_next rows leaves c.args.node c.loop-i.i nodes c.node_at-d.result lt at c.loop-i.invariant).0

pub put_fan_outs-requires-clause-put : goal.put_fan_outs-requires-clause-put
put_fan_outs-requires-clause-put c =
    let rows = c.args.graph.now.rows in
    let leaves = c.args.leaves.now in
    let nodes = c.loop-i.nodes.items in
    let lt : c.loop-i.i < length nodes = omega (arith, c.loop-i-test.true, c.len.ensures.value) in
    let at = c.node_at-d.ensures ∙ ap (λ l. get_or l c.loop-i.i 0) c.as_slice.ensures.value in
    (scan_next rows leaves c.args.node c.loop-i.i nodes c.node_at-d.result lt at c.loop-i.invariant).0

pub loop-i-preserved : goal.loop-i-preserved
loop-i-preserved c =
    let rows = c.args.graph.now.rows in
    let leaves = c.args.leaves.now in
    let nodes = c.loop-i.nodes.items in
    let lt : c.loop-i.i < length nodes = omega (arith, c.loop-i-test.true, c.len.ensures.value) in
    let at = c.node_at-d.ensures ∙ ap (λ l. get_or l c.loop-i.i 0) c.as_slice.ensures.value in
    let counted = (scan_next rows leaves c.args.node c.loop-i.i nodes c.node_at-d.result lt at c.loop-i.invariant).1 in
    scan_done rows leaves (first_is_smaller c.args.graph.now) c.args.node (c.loop-i.i + 1) c.node_at-d.result c.put_fan_outs.new.nodes.items (omega (arith, counted)) c.put_fan_outs.ensures.put

pub returns : goal.returns
returns c = record {
  divisors = scan_all c.args.graph.now.rows c.args.leaves.now c.args.node c.loop-i.i c.loop-i.nodes.items (omega (arith, c.loop-i-test.false, c.len.ensures.value)) c.loop-i.invariant;
}
