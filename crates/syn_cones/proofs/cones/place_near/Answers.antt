use Rattle.std.proofs.Common.{◌≡◌, ◌<◌, ◌≤◌, ℕ, length, get_or, arith, inl, inr}
use Rattle.std.proofs.lemmas.Bool.{cases_lt}
use Rattle.std.proofs.lemmas.List.Sorted.{searched}
use Rattle.std.proofs.lemmas.Result.{MatchResult-at_err}
use Rattle.syn_rows.proofs.Nodes.{has_none}
use Rattle.syn_cones.proofs.Walking.{rises_at}
use Rattle.syn_cones.proofs.cones.place_near.Goals as goal

pub returns-in-Err-clause-none : goal.returns-in-Err-clause-none
returns-in-Err-clause-none c =
    let parts = MatchResult-at_err (λ i. (i < length c.args.nodes.now) × (get_or c.args.nodes.now i 0 ≡ c.args.node))
    (λ i. (i ≤ length c.args.nodes.now) × ((k : ℕ) → k < i → get_or c.args.nodes.now k 0 < c.args.node) × ((k : ℕ) → i ≤ k → k < length c.args.nodes.now → c.args.node < get_or c.args.nodes.now k 0))
    c.in-Err.field-0 c.in-Err.is
    (searched c.args.nodes.now c.args.node c.binary_search.result c.binary_search.ensures.position (rises_at c.args.nodes.now c.requires)) in
    has_none c.args.nodes.now c.args.node (λ i lt e. elim (cases_lt i c.in-Err.field-0) [
      | inl under ↦ omega (arith, e, parts.1 i under)
      | inr over ↦ omega (arith, e, parts.2 i over lt)
    ])
