use Rattle.std.proofs.Common.{length, ap, ◌∙◌, arith}
use Rattle.syn_rows.specs.Values.{rows_function}
use Rattle.syn_graph.specs.declared.Graph.{Graph}
use Rattle.syn_netlist.specs.Frames.{frame_in}
use Rattle.syn_network.proofs.Naming.{named_compaction}
use Rattle.syn_network.proofs.finished.finish.Goals as goal

pub of-requires-clause-named : goal.of-requires-clause-named
of-requires-clause-named c =
    named_compaction (frame_in c.args.frame) c.args.hashed.source_count c.args.lits.now c.in_ok-body.body c.requires.sources c.requires.count c.requires.own c.in_ok-body.ensures.sources c.in_ok-body.ensures.compact.same_count
    c.in_ok-body.ensures.compact.sources_stay

pub finish-requires-clause-lits : goal.finish-requires-clause-lits
finish-requires-clause-lits c = omega (arith, c.few_observed.ensures, c.requires.count, c.requires.names)

pub returns-clause-values : goal.returns-clause-values
returns-clause-values c = λ bits. ap (λ (b : Graph). rows_function b.rows b.observed bits) c.of.ensures.body ∙ c.in_ok-body.ensures.compact.same_function bits

pub returns-clause-ands : goal.returns-clause-ands
returns-clause-ands c = λ k counted. omega (arith, ap (λ (b : Graph). length b.rows) c.of.ensures.body, c.in_ok-body.ensures.ands k counted)
