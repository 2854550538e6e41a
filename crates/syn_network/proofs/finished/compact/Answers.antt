use Rattle.std.proofs.Common.{◌≤◌, ℕ, length, sym, ap, subst, arith}
use Rattle.syn_rows.specs.Rows.{node_of}
use Rattle.syn_hashed.specs.Hashed.{lit_at}
use Rattle.syn_hashed.specs.Growing.{level_by}
use Rattle.syn_hashed.specs.Compacting.{SameValues}
use Rattle.syn_netlist.specs.Frames.{frame_in}
use Rattle.syn_netlist.specs.Lists.{Frame, sources}
use Rattle.syn_graph.specs.declared.Graph.{Graph}
use Rattle.syn_network.specs.Networks.{IsNamed}
use Rattle.syn_network.proofs.Naming.{named_compaction}
use Rattle.syn_network.proofs.finished.compact.Goals as goal

pub of-requires-clause-named : goal.of-requires-clause-named
of-requires-clause-named c =
    let body : Graph = c.in_ok-body.body in
    let kept = c.in_ok-body.ensures.compacted in
    subst (λ (f : Frame). IsNamed f body.source_count body.observed) (sym c.in_ok-copied.ensures.same)
    (named_compaction (frame_in c.args.frame.now) c.in_ok-source_count.source_count c.args.lits.now body c.in_ok-source_count.ensures c.requires.count c.requires.own c.in_ok-body.ensures.sources kept.same_count kept.sources_stay)

pub returns-clause-values : goal.returns-clause-values
returns-clause-values c =
    let count : ℕ = length (sources (frame_in c.args.frame.now)) in
    let body : Graph = c.in_ok-body.body in
    subst (λ (b : Graph). SameValues count c.args.rows.now c.args.lits.now b.rows b.observed) (sym c.of.ensures.body)
    (subst (λ (k : ℕ). SameValues k c.args.rows.now c.args.lits.now body.rows body.observed) c.in_ok-source_count.ensures c.in_ok-body.ensures.compacted.same_values)

pub returns-clause-fewer : goal.returns-clause-fewer
returns-clause-fewer c = λ k counted. omega (arith, ap (λ (b : Graph). length b.rows) c.of.ensures.body, c.in_ok-body.ensures.compacted.ands k counted, c.in_ok-source_count.ensures)

pub returns-clause-levels : goal.returns-clause-levels
returns-clause-levels c = λ level h i lt.
    subst (λ (b : Graph). level_by b.rows (lit_at b.observed i) ≤ level (node_of (lit_at c.args.lits.now i))) (sym c.of.ensures.body) (c.in_ok-body.ensures.compacted.levels level h i lt)
