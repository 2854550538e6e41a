use Rattle.std.proofs.Common.{◌≡◌, ◌+◌, ◌++◌, ◌∷◌, [], ℕ, List, ◌&&◌, not, true, false, rules, sym, ap, ap₂, ◌∙◌, subst, arith, get_or}
use Rattle.syn_rows.specs.Nodes.{has_node}
use Rattle.syn_rows.specs.declared.Row.TheVariants.{And}
use Rattle.syn_rows.specs.Rows.{row_at}
use Rattle.syn_growing.proofs.InGraphs.{in_order}
use Rattle.syn_resub.specs.Needed.{Needs}
use Rattle.syn_resub.proofs.Needing.{goes_past, takes_one}
use Rattle.syn_resub.proofs.plans.need.Goals as goal

pub returns-then-not-is_needed : goal.returns-then-not-is_needed
returns-then-not-is_needed c = let fails : c.is_needed.result ≡ false = search rules in record {
  needs = goes_past c.args.graph.now.rows c.args.leaves.now c.args.node c.args.nodes.now c.args.roots.now c.requires.divisors c.args.i (c.args.i + 1) c.args.gathered.now.wanted.items c.args.gathered.now.inner.items (omega arith) c.requires.place
      (ap (λ d. has_node c.args.gathered.now.wanted.items d && not (has_node c.args.leaves.now d)) (sym c.node_at-divisor.ensures)
      ∙ sym (c.is_needed.ensures ∙ ap (λ l. has_node l c.node_at-divisor.result && not (has_node c.args.leaves.now c.node_at-divisor.result)) c.as_slice.ensures.value)
      ∙ fails)
      c.requires.needs;
}

pub returns-in-And : goal.returns-in-And
returns-in-And c =
    let rows = c.args.graph.now.rows in
    let n = c.node_at-divisor.result in
    let passes : c.is_needed.result ≡ true = search rules in
    let is : row_at rows n ≡ And c.in-And.a c.in-And.b = search rules in
    let at : n ≡ get_or c.args.nodes.now c.args.i 0 = c.node_at-divisor.ensures in
    record {
      needs = subst (λ (ws : List ℕ × List ℕ). Needs rows c.args.leaves.now c.args.nodes.now c.args.node c.args.roots.now c.args.i ws.0 ws.1)
          (ap₂ (λ ws ns. (ws, ns)) (sym (c.push-in-And.ensures.items ∙ ap₂ (λ ws d. ws ++ d ∷ []) (c.push.ensures.items ∙ ap (λ d. c.args.gathered.now.wanted.items ++ d ∷ []) c.node.ensures) c.node-in-And.ensures)) (sym (c.insert.ensures.items ∙ ap (λ d. d ∷ c.args.gathered.now.inner.items) at)))
          (takes_one rows c.args.leaves.now c.args.node c.args.nodes.now c.args.roots.now c.requires.divisors c.args.i (c.args.i + 1) c.args.gathered.now.wanted.items c.args.gathered.now.inner.items c.in-And.a c.in-And.b (omega arith) c.requires.place (in_order c.args.graph.now)
          (ap (λ d. has_node c.args.gathered.now.wanted.items d && not (has_node c.args.leaves.now d)) (sym at)
          ∙ sym (c.is_needed.ensures ∙ ap (λ l. has_node l n && not (has_node c.args.leaves.now n)) c.as_slice.ensures.value)
          ∙ passes)
          (subst (λ d. row_at rows d ≡ And c.in-And.a c.in-And.b) at is) c.requires.needs);
    }
