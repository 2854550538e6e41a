use Rattle.std.proofs.Common.{◌≡◌, ◌≤◌, List, length, sym, ap, subst₂, arith}
use Rattle.syn_rows.specs.declared.Lit.{Lit}
use Rattle.syn_rows.specs.declared.Row.{Row}
use Rattle.syn_hashed.specs.Hashed.{lit_at}
use Rattle.syn_hashed.specs.Growing.{level_by}
use Rattle.syn_hashed.specs.Compacting.{IsCompaction}
use Rattle.syn_graph.proofs.Graphing.{compaction_graph, compaction_same}
use Rattle.syn_balance.specs.Balanced.{FollowsRule}
use Rattle.syn_balance.proofs.balance.Goals as goal

pub over-requires-clause-graph : goal.over-requires-clause-graph
over-requires-clause-graph c =
    let g = c.args.graph.now in
    compaction_graph g.source_count g.rows c.in_ok-kept.kept.rows.items g.observed c.in_ok-kept.kept.observed.items c.in_ok-kept.ensures.compact

pub over-requires-clause-few : goal.over-requires-clause-few
over-requires-clause-few c = let g = c.args.graph.now in omega (arith, c.in_ok-kept.ensures.compact.fewer, g.few)

pub over-requires-clause-observed : goal.over-requires-clause-observed
over-requires-clause-observed c = let g = c.args.graph.now in omega (arith, c.in_ok-kept.ensures.compact.same_count, g.few_observed)

pub returns-clause-balanced : goal.returns-clause-balanced
returns-clause-balanced c =
    let g = c.args.graph.now in
    let e = c.over.ensures in
    let kept = c.in_ok-kept.ensures.compact in
    record {
      same = compaction_same g c.over.result (subst₂ (λ (rs : List Row) (ls : List Lit). IsCompaction g.source_count g.rows g.observed rs ls) (sym e.rows) (sym e.observed) kept) e.sources;
      count = omega (arith, ap length e.rows, kept.fewer);
      levels = λ i lt. subst₂ (λ (rs : List Row) (ls : List Lit). level_by rs (lit_at ls i) ≤ level_by g.rows (lit_at g.observed i)) (sym e.rows) (sym e.observed) (kept.levels i lt);
    }

pub returns-clause-rule : goal.returns-clause-rule
returns-clause-rule c =
    let g = c.args.graph.now in
    let e = c.over.ensures in
    subst₂ (λ (rs : List Row) (ls : List Lit). FollowsRule g.source_count g.rows g.observed rs ls) (sym e.rows) (sym e.observed) c.in_ok-kept.ensures.rule
