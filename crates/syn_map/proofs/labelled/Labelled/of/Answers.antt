use Rattle.std.proofs.Common.{length, List, ℕ, ap, arith}
use Rattle.syn_rows.specs.declared.Row.{Row}
use Rattle.syn_map.proofs.Leastness.{length-listed}
use Rattle.syn_map.proofs.labelled.Labelled.of.Goals as goal

pub labels-requires-clause-count : goal.labels-requires-clause-count
labels-requires-clause-count g c =
    let same = ap (λ (l : List (List (List ℕ))). length l) c.in_ok-lists.ensures.lists in
    omega (arith, same, length-listed c.args.k c.args.graph.now.rows, ap (λ (rs : List Row). length rs) c.as_slice-rows.ensures)
