use Rattle.std.proofs.Common.{◌≡◌, ◌≤◌, ℕ, List, length, sym, ap, ◌∙◌, subst}
use Rattle.syn_cones.specs.Cones.{IsTruthOver}
use Rattle.syn_growing.proofs.InGraphs.{in_order, table_values}
use Rattle.syn_resub.specs.Divided.{AreTablesOf}
use Rattle.syn_resub.specs.Divisors.{divisors}
use Rattle.syn_resub.specs.Laws.{AreDivisors}
use Rattle.syn_resub.proofs.Dividing.{divisors_are}
use Rattle.syn_resub.proofs.divided.divide.Goals as goal

pub divisor_tables-tables-requires-clause-divisors : goal.divisor_tables-tables-requires-clause-divisors
divisor_tables-tables-requires-clause-divisors c =
    let rows = c.args.graph.now.rows in
    let leaves = c.cone_leaves-leaves.result.items in
    let node = c.args.node in
    let nodes : c.as_slice-5.result.now ≡ divisors rows leaves node = c.as_slice-5.ensures.value ∙ c.divisors-nodes.ensures.divisors ∙ ap (λ l. divisors rows l node) c.as_slice-3.ensures.value in
    subst (λ l. AreDivisors rows l node c.as_slice-5.result.now) (sym c.as_slice-4.ensures.value) (subst (AreDivisors rows leaves node) (sym nodes) (divisors_are rows leaves node (in_order c.args.graph.now)))

pub returns : goal.returns
returns c =
    let graph = c.args.graph.now in
    let leaves = c.cone_leaves-leaves.result.items in
    let node = c.args.node in
    let t = c.in_ok-table.table in
    let truth : IsTruthOver graph.rows leaves node t = subst (λ rs. IsTruthOver rs leaves node t) c.as_slice.ensures (subst (λ ls. IsTruthOver c.as_slice.result.now ls node t) c.as_slice-2.ensures.value c.in_ok-table.ensures) in
    let nodes : c.divisors-nodes.result.items ≡ divisors graph.rows leaves node = c.divisors-nodes.ensures.divisors ∙ ap (λ l. divisors graph.rows l node) c.as_slice-3.ensures.value in
    record {
      gate = c.requires.gate;
      leaves = c.cone_leaves-leaves.ensures.leaves;
      are = c.cone_leaves-leaves.ensures.are;
      truth = truth;
      table = record { vars = truth.vars; each = table_values graph node leaves t c.requires.gate c.cone_leaves-leaves.ensures.are truth };
      nodes = nodes;
      few = subst (λ (l : List ℕ). length l ≤ 64) (sym nodes) (divisors_are graph.rows leaves node (in_order graph)).few;
      count = c.divisor_tables-tables.ensures.count ∙ ap (λ (l : List ℕ). length l) c.as_slice-5.ensures.value;
      tables = subst (λ l. AreTablesOf graph.rows l c.divisors-nodes.result.items c.divisor_tables-tables.result.items) c.as_slice-4.ensures.value
          (subst (λ l. AreTablesOf graph.rows c.as_slice-4.result.now l c.divisor_tables-tables.result.items) c.as_slice-5.ensures.value c.divisor_tables-tables.ensures.tables);
    }
