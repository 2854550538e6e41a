use Rattle.std.proofs.Common.{List, length, ap, sym, subst, subst₂, arith}
use Rattle.syn_rows.specs.declared.Lit.{Lit}
use Rattle.syn_rows.specs.declared.Row.{Row}
use Rattle.syn_rows.specs.Reach.{Ands}
use Rattle.syn_hashed.specs.Compacting.{IsCompaction}
use Rattle.syn_hashed.specs.HashedAgain.{IsHashedAgain}
use Rattle.syn_graph.proofs.Graphing.{compaction_graph}
use Rattle.syn_graph.proofs.compaction.finish.Goals as goal

pub over-requires-clause-graph : goal.over-requires-clause-graph
over-requires-clause-graph c =
    let kept = c.in_ok-kept.kept in
    compaction_graph c.args.hashed.source_count c.as_slice.result.now kept.rows.items c.args.lits.now kept.observed.items c.in_ok-kept.ensures.compact

pub over-requires-clause-few : goal.over-requires-clause-few
over-requires-clause-few c = omega (arith, c.in_ok-kept.ensures.compact.fewer, ap length c.as_slice.ensures.value, c.requires.few)

pub over-requires-clause-observed : goal.over-requires-clause-observed
over-requires-clause-observed c = omega (arith, c.in_ok-kept.ensures.compact.same_count, c.requires.lits)

pub returns-clause-compact : goal.returns-clause-compact
returns-clause-compact c =
    subst₂ (λ (rs : List Row) (ls : List Lit). IsCompaction c.args.hashed.source_count c.args.hashed.rows.items c.args.lits.now rs ls) (sym c.over.ensures.rows) (sym c.over.ensures.observed)
    (subst (λ (rs : List Row). IsCompaction c.args.hashed.source_count rs c.args.lits.now c.in_ok-kept.kept.rows.items c.in_ok-kept.kept.observed.items) c.as_slice.ensures.value c.in_ok-kept.ensures.compact)

pub returns-clause-exact : goal.returns-clause-exact
returns-clause-exact c =
    subst₂ (λ (rs : List Row) (ls : List Lit). IsHashedAgain c.args.hashed.source_count c.args.hashed.rows.items c.args.lits.now rs ls) (sym c.over.ensures.rows) (sym c.over.ensures.observed)
    (subst (λ (rs : List Row). IsHashedAgain c.args.hashed.source_count rs c.args.lits.now c.in_ok-kept.kept.rows.items c.in_ok-kept.kept.observed.items) c.as_slice.ensures.value c.in_ok-kept.ensures.exact)

pub returns-clause-ands : goal.returns-clause-ands
returns-clause-ands c = λ k counted.
    omega (arith, ap length c.over.ensures.rows, c.in_ok-kept.ensures.ands k (subst (λ (rows : List Row). Ands rows c.args.lits.now k) (sym c.as_slice.ensures.value) counted))
