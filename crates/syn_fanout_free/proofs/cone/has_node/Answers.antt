use Rattle.std.proofs.Common.{◌≡◌, ◌<◌, ◌≤◌, ℕ, length, get_or, sym, arith, inl, inr}
use Rattle.std.proofs.lemmas.Bool.{cases_lt}
use Rattle.std.proofs.lemmas.List.Sorted.{searched}
use Rattle.std.proofs.lemmas.Result.{MatchResult-at_err}
use Rattle.syn_rows.proofs.Nodes.{has_none}
use Rattle.syn_fanout_free.proofs.cone.has_node.Goals as goal

pub returns-in-Err : goal.returns-in-Err
returns-in-Err c =
    let parts = MatchResult-at_err (λ i. (i < length c.args.nodes.now) × (get_or c.args.nodes.now i 0 ≡ c.args.node))
    (λ i. (i ≤ length c.args.nodes.now) × ((k : ℕ) → k < i → get_or c.args.nodes.now k 0 < c.args.node) × ((k : ℕ) → i ≤ k → k < length c.args.nodes.now → c.args.node < get_or c.args.nodes.now k 0))
    c.in-Err.field-0 c.in-Err.is
    (searched c.args.nodes.now c.args.node c.binary_search.result c.binary_search.ensures.position (λ i j le lt. c.requires i j 0 le lt)) in
    sym (has_none c.args.nodes.now c.args.node (λ i lt e. elim (cases_lt i c.in-Err.field-0) [
      | inl under ↦ omega (arith, e, parts.1 i under)
      | inr over ↦ omega (arith, e, parts.2 i over lt)
    ]))
