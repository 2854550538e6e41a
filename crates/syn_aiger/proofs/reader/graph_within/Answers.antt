use Rattle.std.proofs.Common.{◌<◌, ◌≤◌, List, length, sym, ap, arith}
use Rattle.syn_reader.specs.Limits.{most_sources}
use Rattle.syn_network.specs.Written.{network_of}
use Rattle.syn_aiger_files.specs.declared.files.AigAnd.{AigAnd}
use Rattle.syn_aiger.specs.Faults.{most_ands}
use Rattle.syn_aiger.specs.Values.{source_literals}
use Rattle.syn_aiger.proofs.Judging.{gates_fault, graph_result, rank_by, sources_fault, within_of}
use Rattle.syn_aiger.proofs.Undriven.{reads_defined}
use Rattle.syn_aiger.proofs.reader.graph_within.Goals as goal

pub circle-requires : goal.circle-requires
circle-requires c = reads_defined c.args.file.now.aig (sym c.in_default.ensures)

pub returns-then-sources-gt-MAX_SOURCES-clause-fault : goal.returns-then-sources-gt-MAX_SOURCES-clause-fault
returns-then-sources-gt-MAX_SOURCES-clause-fault c =
    let g = c.args.file.now.aig in
    let many : most_sources < c.source_count-sources.result = omega arith in
    sources_fault c.args.properties c.args.bytes.now g c.requires c.in_default.ensures (rank_by g c.in_ok-variables.field-0 c.in_ok-variables.ensures.none c.in_default-2.is)
    c.source_count-sources.result c.source_count-sources.ensures many

pub returns-then-ands-gt-MAX_GATES-clause-fault : goal.returns-then-ands-gt-MAX_GATES-clause-fault
returns-then-ands-gt-MAX_GATES-clause-fault c =
    let g = c.args.file.now.aig in
    let few : length (source_literals g) ≤ most_sources = omega (arith, c.source_count-sources.ensures) in
    let many : most_ands < length c.as_slice.result.now = omega arith in
    gates_fault c.args.properties c.args.bytes.now g c.requires c.in_default.ensures (rank_by g c.in_ok-variables.field-0 c.in_ok-variables.ensures.none c.in_default-2.is)
    (length c.as_slice.result.now) few (ap (λ (es : List AigAnd). length es) c.as_slice.ensures) many

pub graph_of-requires-clause-defined : goal.graph_of-requires-clause-defined
graph_of-requires-clause-defined c = reads_defined c.args.file.now.aig (sym c.in_default.ensures)

pub returns-clause-graph : goal.returns-clause-graph
returns-clause-graph c =
    let g = c.args.file.now.aig in
    let few : length (source_literals g) ≤ most_sources = omega (arith, c.source_count-sources.ensures) in
    let gates : length g.ands ≤ most_ands = omega (arith, ap (λ (es : List AigAnd). length es) c.as_slice.ensures) in
    graph_result c.args.properties c.args.bytes.now g c.requires c.in_default.ensures (rank_by g c.in_ok-variables.field-0 c.in_ok-variables.ensures.none c.in_default-2.is)
    (within_of g few gates) (network_of c.in_ok-graph.graph) c.in_ok-graph.ensures.graph
