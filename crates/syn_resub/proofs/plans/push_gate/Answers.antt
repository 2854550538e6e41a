use Rattle.std.proofs.Common.{◌≡◌, ◌<◌, List, true, length, rules, sym, ap, ◌∙◌, subst, arith, get_or}
use Rattle.arrayvec.specs.ArrayVec.{array_vec_len}
use Rattle.syn_rows.specs.declared.Row.{Row}
use Rattle.syn_rows.specs.declared.Row.TheVariants.{And}
use Rattle.syn_rows.specs.Rows.{node_of, row_at}
use Rattle.syn_rows.specs.Nodes.{has_node}
use Rattle.syn_rows.proofs.Nodes.{has_at}
use Rattle.syn_growing.proofs.InGraphs.{and_there, in_order}
use Rattle.syn_resub.proofs.Gated.{index_before}
use Rattle.syn_resub.proofs.Needing.{fan_ins_below, inner_is_and, join_of}
use Rattle.syn_resub.proofs.plans.push_gate.Goals as goal

pub bounds : goal.bounds
bounds c =
    let inner = c.args.inner.now in
    let n = c.node_at-node.result in
    let at : n ≡ get_or inner (array_vec_len c.args.plan.now.gates) 0 = c.node_at-node.ensures ∙ ap (λ k. get_or inner k 0) c.len.ensures.value in
    let here : has_node inner n ≡ true = has_at inner (array_vec_len c.args.plan.now.gates) n c.requires.next (sym at) in
    let lt = and_there c.args.graph.now n (inner_is_and c.args.graph.now.rows c.args.leaves.now inner n c.requires.inner here) in
    subst (λ (l : List Row). n < length l) (sym c.as_slice.ensures) lt

pub lit_in-first-requires-clause-there : goal.lit_in-first-requires-clause-there
lit_in-first-requires-clause-there c =
    let inner = c.args.inner.now in
    let n = c.node_at-node.result in
    let at : n ≡ get_or inner (array_vec_len c.args.plan.now.gates) 0 = c.node_at-node.ensures ∙ ap (λ k. get_or inner k 0) c.len.ensures.value in
    let here : has_node inner n ≡ true = has_at inner (array_vec_len c.args.plan.now.gates) n c.requires.next (sym at) in
    let is : row_at c.args.graph.now.rows n ≡ And c.in-And.a c.in-And.b = search rules in
    (join_of c.args.graph.now.rows c.args.leaves.now inner n c.in-And.a c.in-And.b c.requires.inner here is).0

pub lit_in-second-requires-clause-there : goal.lit_in-second-requires-clause-there
lit_in-second-requires-clause-there c =
    let inner = c.args.inner.now in
    let n = c.node_at-node.result in
    let at : n ≡ get_or inner (array_vec_len c.args.plan.now.gates) 0 = c.node_at-node.ensures ∙ ap (λ k. get_or inner k 0) c.len.ensures.value in
    let here : has_node inner n ≡ true = has_at inner (array_vec_len c.args.plan.now.gates) n c.requires.next (sym at) in
    let is : row_at c.args.graph.now.rows n ≡ And c.in-And.a c.in-And.b = search rules in
    (join_of c.args.graph.now.rows c.args.leaves.now inner n c.in-And.a c.in-And.b c.requires.inner here is).1

pub and-requires-clause-first : goal.and-requires-clause-first
and-requires-clause-first c =
    let inner = c.args.inner.now in
    let j = array_vec_len c.args.plan.now.gates in
    let n = c.node_at-node.result in
    let at : n ≡ get_or inner j 0 = c.node_at-node.ensures ∙ ap (λ k. get_or inner k 0) c.len.ensures.value in
    let here : has_node inner n ≡ true = has_at inner j n c.requires.next (sym at) in
    let is : row_at c.args.graph.now.rows n ≡ And c.in-And.a c.in-And.b = search rules in
    let there = (join_of c.args.graph.now.rows c.args.leaves.now inner n c.in-And.a c.in-And.b c.requires.inner here is).0 in
    let less = (fan_ins_below c.args.graph.now.rows n c.in-And.a c.in-And.b (in_order c.args.graph.now) is).0 in
    let lt = index_before c.args.leaves.now inner (node_of c.in-And.a) j c.requires.inner.rise there (subst (λ k. node_of c.in-And.a < k) at less) in
    omega (arith, lt, c.lit_in-first.ensures.index, c.requires.count)

pub and-requires-clause-second : goal.and-requires-clause-second
and-requires-clause-second c =
    let inner = c.args.inner.now in
    let j = array_vec_len c.args.plan.now.gates in
    let n = c.node_at-node.result in
    let at : n ≡ get_or inner j 0 = c.node_at-node.ensures ∙ ap (λ k. get_or inner k 0) c.len.ensures.value in
    let here : has_node inner n ≡ true = has_at inner j n c.requires.next (sym at) in
    let is : row_at c.args.graph.now.rows n ≡ And c.in-And.a c.in-And.b = search rules in
    let there = (join_of c.args.graph.now.rows c.args.leaves.now inner n c.in-And.a c.in-And.b c.requires.inner here is).1 in
    let less = (fan_ins_below c.args.graph.now.rows n c.in-And.a c.in-And.b (in_order c.args.graph.now) is).1 in
    let lt = index_before c.args.leaves.now inner (node_of c.in-And.b) j c.requires.inner.rise there (subst (λ k. node_of c.in-And.b < k) at less) in
    omega (arith, lt, c.lit_in-second.ensures.index, c.requires.count)

pub returns-in_default : goal.returns-in_default
returns-in_default c =
    let inner = c.args.inner.now in
    let n = c.node_at-node.result in
    let at : n ≡ get_or inner (array_vec_len c.args.plan.now.gates) 0 = c.node_at-node.ensures ∙ ap (λ k. get_or inner k 0) c.len.ensures.value in
    let here : has_node inner n ≡ true = has_at inner (array_vec_len c.args.plan.now.gates) n c.requires.next (sym at) in
    let (a, b, is, first, second) = c.requires.inner.join n here in
    let row : c.as_slice.result.now ≡ c.args.graph.now.rows = c.as_slice.ensures in
    absurd (c.in_default.not-And a b (ap (λ (l : List Row). row_at l n) row ∙ is))
