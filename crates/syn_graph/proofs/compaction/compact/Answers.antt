use Rattle.std.proofs.Common.{List, length, sym, subst₂, arith}
use Rattle.syn_rows.specs.declared.Lit.{Lit}
use Rattle.syn_rows.specs.declared.Row.{Row}
use Rattle.syn_hashed.specs.Compacting.{IsCompacted}
use Rattle.syn_hashed.specs.HashedAgain.{IsExactCompaction}
use Rattle.syn_graph.proofs.Graphing.{compacted_graph}
use Rattle.syn_graph.proofs.compaction.compact.Goals as goal

pub over-requires-clause-graph : goal.over-requires-clause-graph
over-requires-clause-graph c =
    let kept = c.in_ok-kept.kept in
    compacted_graph c.args.source_count c.args.rows.now kept.rows.items c.args.lits.now kept.observed.items c.in_ok-kept.ensures.compacted

pub over-requires-clause-few : goal.over-requires-clause-few
over-requires-clause-few c = omega (arith, c.in_ok-kept.ensures.compacted.fewer, c.requires.few)

pub over-requires-clause-observed : goal.over-requires-clause-observed
over-requires-clause-observed c = omega (arith, c.in_ok-kept.ensures.compacted.same_count, c.requires.lits)

pub returns-clause-compacted : goal.returns-clause-compacted
returns-clause-compacted c =
    subst₂ (λ (rs : List Row) (ls : List Lit). IsCompacted c.args.source_count c.args.rows.now c.args.lits.now rs ls) (sym c.over.ensures.rows) (sym c.over.ensures.observed) c.in_ok-kept.ensures.compacted

pub returns-clause-exact : goal.returns-clause-exact
returns-clause-exact c =
    subst₂ (λ (rs : List Row) (ls : List Lit). IsExactCompaction c.args.source_count c.args.rows.now c.args.lits.now rs ls) (sym c.over.ensures.rows) (sym c.over.ensures.observed) c.in_ok-kept.ensures.exact
