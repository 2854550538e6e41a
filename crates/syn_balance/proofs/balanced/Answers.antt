use Rattle.std.proofs.Common.{◌≡◌, List, true, sym, subst, subst₂}
use Rattle.syn_rows.specs.declared.Lit.{Lit}
use Rattle.syn_rows.specs.declared.Row.{Row}
use Rattle.syn_rows.specs.Rows.{in_order_from}
use Rattle.syn_hashed.specs.Compacting.{IsCompaction}
use Rattle.syn_hashed.specs.HashedAgain.{IsHashedAgain}
use Rattle.syn_hashed.specs.Visiting.{IsRebuilt}
use Rattle.syn_hashed.proofs.Dropped.{hashed_order}
use Rattle.syn_balance.specs.Rule.{AreByRule}
use Rattle.syn_balance.proofs.NewGraphs.{remade_compaction}
use Rattle.syn_balance.proofs.balanced.Goals as goal

pub made_again-requires-clause-order : goal.made_again-requires-clause-order
made_again-requires-clause-order c =
    let g = c.args.graph.now in
    subst (λ (rs : List Row). in_order_from 0 rs ≡ true) (sym c.as_slice.ensures) (hashed_order g.source_count g.rows g.graph.hashed)

pub returns-clause-compact : goal.returns-clause-compact
returns-clause-compact c =
    let g = c.args.graph.now in
    let made = c.in_ok-made.made in
    let kept = c.in_ok-kept.kept in
    let again : IsRebuilt g.source_count g.rows g.observed made.rows.items made.observed.items =
    subst₂ (λ (rs : List Row) (ls : List Lit). IsRebuilt g.source_count rs ls made.rows.items made.observed.items) c.as_slice.ensures c.as_slice-2.ensures c.in_ok-made.ensures.rebuilt in
    let compacted : IsCompaction g.source_count made.rows.items made.observed.items kept.rows.items kept.observed.items =
    subst₂ (λ (rs : List Row) (ls : List Lit). IsCompaction g.source_count rs ls kept.rows.items kept.observed.items) c.as_slice-3.ensures.value c.as_slice-4.ensures.value c.in_ok-kept.ensures.compact in
    remade_compaction g.source_count g.rows made.rows.items kept.rows.items g.observed made.observed.items kept.observed.items again compacted

pub returns-clause-rule : goal.returns-clause-rule
returns-clause-rule c =
    let g = c.args.graph.now in
    let made = c.in_ok-made.made in
    let kept = c.in_ok-kept.kept in
    record {
      mid_rows = made.rows.items;
      mid_lits = made.observed.items;
      made = subst₂ (λ (rs : List Row) (ls : List Lit). AreByRule g.source_count rs ls made.rows.items made.observed.items) c.as_slice.ensures c.as_slice-2.ensures c.in_ok-made.ensures.rule;
      compact = subst₂ (λ (rs : List Row) (ls : List Lit). IsHashedAgain g.source_count rs ls kept.rows.items kept.observed.items) c.as_slice-3.ensures.value c.as_slice-4.ensures.value c.in_ok-kept.ensures.exact;
    }
